-- A line leads to one outcome, and to no other.
use Rattle.std.proofs.Common.{◌≡◌, ◌≢◌, ℕ, ◌⊎◌, inl, inr, List, [], refl, sym, subst, ◌∙◌}
use Rattle.fs_gluing.specs.declared.faults.Fault.{Fault}
use Rattle.fs_gluing.specs.declared.faults.Fault.TheVariants as faults
use Rattle.fs_job.specs.Pieces.{words_of, IsText}
use Rattle.fs_job.specs.Statement.{Statement, SpellsStatement}
use Rattle.fs_job.specs.Draft.{Draft, Progress, nothing, headed, drafted, ended, Outcome, to_progress, to_fault, draft_of, IsAllowed, HasRoom, IsSenseless, Adds, StatementLeads, too_many, bad_number, senseless, accepted}
use Rattle.fs_job.specs.Draft as statements
use Rattle.fs_job.specs.Grammar.{header, Leads, not_ascii, skipped, header_line, bad_header, bad_line, statement}
use Rattle.fs_job.proofs.Choices.{Unique, Choice, choice_unique, Is, is_unique}
use Rattle.fs_lists.proofs.Equal.{nil_not_around}
use Rattle.fs_job.proofs.StatementOutcomes.{statement_leads_unique, statement_leads_exists}
use Rattle.fs_job.proofs.StatementWords.{statement_unique, nil_spells_none}

-- ---- outcomes

-- outcomes that are equal progress
pub to_progress_injective : (a b : Progress) → to_progress a ≡ to_progress b → a ≡ b
to_progress_injective a b e = cc

-- outcomes that are equal faults
pub to_fault_injective : (f g : Fault) → to_fault f ≡ to_fault g → f ≡ g
to_fault_injective f g e = cc

-- progress is no fault
pub progress_not_fault : (a : Progress) (f : Fault) → to_progress a ≡ to_fault f → ⊥
progress_not_fault a f e = cc

module _ (n : ℕ) (before : Progress) (line : List ℕ) where
  -- ---- the choices that lead to an outcome, one after the other

  -- the last choice: whether the line spells a statement
  abbrev States : Type 0
  States = (s : Statement) × SpellsStatement (words_of line) s

  abbrev StatesNothing : Type 0
  StatesNothing = (s : Statement) → ¬ SpellsStatement (words_of line) s

  abbrev Stated : Outcome → Type 0
  Stated o = (s : Statement) × SpellsStatement (words_of line) s × StatementLeads n before s o

  abbrev Later : Outcome → Type 0
  Later = Choice StatesNothing (Is (to_fault (faults.BadLine n))) States Stated

  stated_unique : Unique Stated
  stated_unique o o' p q =
      statement_leads_unique n before q.0 o o' (subst (λ (s : Statement). StatementLeads n before s o) (statement_unique (words_of line) p.0 q.0 p.1 q.1) p.2) q.2

  later_unique : Unique Later
  later_unique = choice_unique StatesNothing States (Is (to_fault (faults.BadLine n))) Stated (λ a b. a b.0 b.1) (is_unique (to_fault (faults.BadLine n))) stated_unique

  -- before it: the header
  abbrev Header : Outcome → Type 0
  Header = Choice (words_of line ≡ header) (Is (to_progress headed)) (words_of line ≢ header) (Is (to_fault faults.BadHeader))

  header_unique : Unique Header
  header_unique = choice_unique (words_of line ≡ header) (words_of line ≢ header) (Is (to_progress headed)) (Is (to_fault faults.BadHeader)) (λ a b. b a) (is_unique (to_progress headed)) (is_unique (to_fault faults.BadHeader))

  abbrev Order : Outcome → Type 0
  Order = Choice (before ≡ nothing) Header (before ≢ nothing) Later

  order_unique : Unique Order
  order_unique = choice_unique (before ≡ nothing) (before ≢ nothing) Header Later (λ a b. b a) header_unique later_unique

  -- before it: whether the line is blank, and whether it is text
  abbrev Words : Outcome → Type 0
  Words = Choice (words_of line ≡ []) (Is (to_progress before)) (words_of line ≢ []) Order

  words_unique : Unique Words
  words_unique = choice_unique (words_of line ≡ []) (words_of line ≢ []) (Is (to_progress before)) Order (λ a b. b a) (is_unique (to_progress before)) order_unique

  abbrev Line : Outcome → Type 0
  Line = Choice (¬ IsText line) (Is (to_fault (faults.NotAscii n))) (IsText line) Words

  line_unique : Unique Line
  line_unique = choice_unique (¬ IsText line) (IsText line) (Is (to_fault (faults.NotAscii n))) Words (λ a b. a b) (is_unique (to_fault (faults.NotAscii n))) words_unique

  -- each way to an outcome makes these choices
  header_not_nil : words_of line ≡ header → words_of line ≢ []
  header_not_nil e f = nil_not_around _ [] _ (sym f ∙ e)

  choices : (o : Outcome) → Leads n before line o → Line o
  choices o (not_ascii no_text is) = inl (no_text, is)
  choices o (skipped text none is) = inr (text, inl (none, is))
  choices o (header_line text start is_header is) = inr (text, inr (header_not_nil is_header, inl (start, inl (is_header, is))))
  choices o (bad_header text start some other is) = inr (text, inr (some, inl (start, inr (other, is))))
  choices o (bad_line text later some none is) = inr (text, inr (some, inr (later, inl (none, is))))
  choices o (statement s text later spells leads) = inr (text, inr ((λ e. nil_spells_none (words_of line) e s spells), inr (later, inr ((s, spells), (s, spells, leads)))))

  -- a line leads to one outcome at most
  pub leads_unique : (o o' : Outcome) → Leads n before line o → Leads n before line o' → o ≡ o'
  leads_unique o o' p q = line_unique o o' (choices o p) (choices o' q)

  -- ---- there is an outcome

  abbrev Nowhere : Type 0
  Nowhere = (o : Outcome) → ¬ Leads n before line o

  not_blank : Nowhere → IsText line → words_of line ≢ [] → (before ≡ nothing) ⊎ (before ≢ nothing) → ⊥
  not_blank none text some start = elim start [
    | inl e ↦ none _ (bad_header text e some (λ h. none _ (header_line text e h refl)) refl)
    | inr e ↦ none _ (bad_line text e some (λ s spells. statement_leads_exists n before s (λ o leads. none o (statement s text e spells leads))) refl)
  ]

  -- a line leads to an outcome
  pub leads_exists : (before ≡ nothing) ⊎ (before ≢ nothing) → Nowhere → ⊥
  leads_exists start none = none _ (not_ascii (λ text. none _ (skipped text (by_words text) refl)) refl)
    where
      by_words : IsText line → words_of line ≡ []
      by_words text = absurd (not_blank none text (λ e. none _ (skipped text e refl)) start)

  -- what each statement that is added keeps, a line keeps
  pub line_keeps : (P : Progress → Type 0) → P headed
      → ((s : Statement) (after : Progress) → IsAllowed before s → HasRoom (draft_of before) s → ((fault : Fault) → ¬ IsSenseless n s fault) → Adds n (draft_of before) s after → P after)
      → P before → (after : Progress) → Leads n before line (to_progress after) → P after
  line_keeps P head each p after (not_ascii not e) = absurd (progress_not_fault after _ e)
  line_keeps P head each p after (skipped text none e) = subst P (sym (to_progress_injective after _ e)) p
  line_keeps P head each p after (header_line text start is_header e) = subst P (sym (to_progress_injective after _ e)) head
  line_keeps P head each p after (bad_header text start some other e) = absurd (progress_not_fault after _ e)
  line_keeps P head each p after (bad_line text later some none e) = absurd (progress_not_fault after _ e)
  line_keeps P head each p after (statement s text later spells (statements.bad_line none e)) = absurd (progress_not_fault after _ e)
  line_keeps P head each p after (statement s text later spells (too_many may full e)) = absurd (progress_not_fault after _ e)
  line_keeps P head each p after (statement s text later spells (bad_number fault may room first e)) = absurd (progress_not_fault after _ e)
  line_keeps P head each p after (statement s text later spells (senseless fault may room all no_sense e)) = absurd (progress_not_fault after _ e)
  line_keeps P head each p after (statement s text later spells (accepted next may room sense adds e)) =
      subst P (sym (to_progress_injective after next e)) (each s next may room sense adds)

-- whether a line came that isn't blank
pub nothing_or_not : (before : Progress) → (before ≡ nothing) ⊎ (before ≢ nothing)
nothing_or_not nothing = inl refl
nothing_or_not headed = inr (λ e. apart e)
  where
    apart : headed ≡ nothing → ⊥
    apart e = cc
nothing_or_not (drafted draft) = inr (λ e. apart e)
  where
    apart : drafted draft ≡ nothing → ⊥
    apart e = cc
nothing_or_not (ended draft) = inr (λ e. apart e)
  where
    apart : ended draft ≡ nothing → ⊥
    apart e = cc
