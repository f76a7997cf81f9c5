-- The lines of a text lead to one job or to one first fault.
use Rattle.std.proofs.Common.{◌≡◌, ◌≢◌, ℕ, ◌+◌, ◌⊎◌, inl, inr, List, [], ◌∷◌, ◌++◌, length, refl, sym, ap, ◌∙◌, subst, arith, append_assoc, append-nil, length-append, add-zero}
use Rattle.fs_gluing.specs.declared.faults.Fault.{Fault}
use Rattle.fs_gluing.specs.declared.faults.Fault.TheVariants as faults
use Rattle.fs_job.specs.Pieces.{lines_of}
use Rattle.fs_job.specs.Statement.{Statement, field_line, polygon_line, table_line, glue_line, command_line, end_line}
use Rattle.fs_job.specs.Draft.{Draft, Progress, nothing, headed, drafted, ended, Outcome, to_progress, to_fault, draft_of, DescribesSurface, IsAllowed, Adds}
use Rattle.fs_job.specs.Grammar.{Leads, LinesLead, IsJob, IsFirstFault, at_line, no_header, no_end}
use Rattle.fs_job.proofs.Leads.{to_progress_injective, to_fault_injective, progress_not_fault, leads_unique, leads_exists, line_keeps, nothing_or_not}

ended_injective : (a b : Draft) → ended a ≡ ended b → a ≡ b
ended_injective a b e = cc

-- a line with an equal number
leads_at : (m n : ℕ) (before : Progress) (line : List ℕ) (o : Outcome) → m ≡ n → Leads m before line o → Leads n before line o
leads_at m n before line o e p = subst (λ (k : ℕ). Leads k before line o) e p

lines_lead_append : (n : ℕ) (a b c : Progress) (prefix : List (List ℕ)) (line : List ℕ) → LinesLead n a prefix b → Leads (n + length prefix) b line (to_progress c) → LinesLead n a (prefix ++ line ∷ []) c
lines_lead_append n a b c [] line p q = (c, leads_at (n + 0) n a line (to_progress c) (add-zero n) (subst (λ (m : Progress). Leads (n + 0) m line (to_progress c)) (sym p) q), refl)
lines_lead_append n a b c (x ∷ xs) line p q = (p.0, p.1, lines_lead_append (n + 1) p.0 b c xs line p.2 (leads_at (n + length (x ∷ xs)) ((n + 1) + length xs) b line (to_progress c) (omega arith) q))

-- lines lead to one progress at most
lines_lead_unique : (n : ℕ) (a b c : Progress) (lines : List (List ℕ)) → LinesLead n a lines b → LinesLead n a lines c → b ≡ c
lines_lead_unique n a b c [] p q = sym p ∙ q
lines_lead_unique n a b c (x ∷ xs) p q =
    let same = to_progress_injective p.0 q.0 (leads_unique n a x (to_progress p.0) (to_progress q.0) p.1 q.1) in
    lines_lead_unique (n + 1) q.0 b c xs (subst (λ (m : Progress). LinesLead (n + 1) m xs b) same p.2) q.2

-- bytes are one job at most
pub job_unique : (bytes : List ℕ) (a b : Draft) → IsJob bytes a → IsJob bytes b → a ≡ b
job_unique bytes a b p q = ended_injective a b (lines_lead_unique 1 nothing (ended a) (ended b) (lines_of bytes) p q)

-- ---- the lines so far

-- the lines before the rest, so many of them, lead there
pub record LedTo (bytes : List ℕ) (rest : List (List ℕ)) (number : ℕ) (a : Progress) : Type 0 where
  pub prefix : List (List ℕ)
  pub whole : lines_of bytes ≡ prefix ++ rest
  pub counted : length prefix ≡ number
  pub path : LinesLead 1 nothing prefix a

-- before the first line
pub led_to_start : (bytes : List ℕ) → LedTo bytes (lines_of bytes) 0 nothing
led_to_start bytes = record { prefix = []; whole = refl; counted = refl; path = refl }

-- one line more
pub led_to_next : (bytes : List ℕ) (old rest : List (List ℕ)) (line : List ℕ) (number : ℕ) (a b : Progress) → LedTo bytes old number a → old ≡ line ∷ rest → Leads (number + 1) a line (to_progress b) → LedTo bytes rest (number + 1) b
led_to_next bytes old rest line number a b l e p = record {
  prefix = l.prefix ++ line ∷ [];
  whole = l.whole ∙ (ap (λ (ls : List (List ℕ)). l.prefix ++ ls) e ∙ sym (append_assoc l.prefix (line ∷ []) rest));
  counted = let counted = l.counted in omega (arith, length-append l.prefix (line ∷ []));
  path = lines_lead_append 1 nothing a b l.prefix line l.path (leads_at (number + 1) (1 + length l.prefix) a line (to_progress b) (let counted = l.counted in omega arith) p);
}

-- the next line has a fault
pub first_fault_at_line : (bytes : List ℕ) (old rest : List (List ℕ)) (line : List ℕ) (number : ℕ) (a : Progress) (fault : Fault) → LedTo bytes old number a → old ≡ line ∷ rest → Leads (number + 1) a line (to_fault fault) → IsFirstFault bytes fault
first_fault_at_line bytes old rest line number a fault l e p =
    at_line l.prefix line rest a (l.whole ∙ ap (λ (ls : List (List ℕ)). l.prefix ++ ls) e) l.path
    (leads_at (number + 1) (length l.prefix + 1) a line (to_fault fault) (let counted = l.counted in omega arith) p)

-- no line is left
lines_lead_to_end : (bytes : List ℕ) (rest : List (List ℕ)) (number : ℕ) (a : Progress) → LedTo bytes rest number a → rest ≡ [] → LinesLead 1 nothing (lines_of bytes) a
lines_lead_to_end bytes rest number a l e =
    subst (λ (ls : List (List ℕ)). LinesLead 1 nothing ls a) (sym (l.whole ∙ (ap (λ (ls : List (List ℕ)). l.prefix ++ ls) e ∙ append-nil l.prefix))) l.path

-- all lines lead to the end
pub job_at_end : (bytes : List ℕ) (rest : List (List ℕ)) (number : ℕ) (a : Progress) (draft : Draft) → LedTo bytes rest number a → rest ≡ [] → a ≡ ended draft → IsJob bytes draft
job_at_end bytes rest number a draft l e is = subst (λ (b : Progress). LinesLead 1 nothing (lines_of bytes) b) is (lines_lead_to_end bytes rest number a l e)

-- all lines are blank
pub bad_header_at_end : (bytes : List ℕ) (rest : List (List ℕ)) (number : ℕ) (a : Progress) → LedTo bytes rest number a → rest ≡ [] → a ≡ nothing → IsFirstFault bytes faults.BadHeader
bad_header_at_end bytes rest number a l e is = no_header (subst (λ (b : Progress). LinesLead 1 nothing (lines_of bytes) b) is (lines_lead_to_end bytes rest number a l e)) refl

-- all lines are read, and `end` isn't among them
pub no_end_at_end : (bytes : List ℕ) (rest : List (List ℕ)) (number : ℕ) (a : Progress) → LedTo bytes rest number a → rest ≡ [] → a ≢ nothing → ((draft : Draft) → a ≢ ended draft) → IsFirstFault bytes faults.NoEnd
no_end_at_end bytes rest number a l e some unended = no_end a (lines_lead_to_end bytes rest number a l e) some unended refl

-- ---- a job describes a surface

-- at the end there are polygons or a table
abbrev pub HasSurfaceAtEnd : Progress → Type 0
HasSurfaceAtEnd nothing = Unit {0}
HasSurfaceAtEnd headed = Unit {0}
HasSurfaceAtEnd (drafted draft) = Unit {0}
HasSurfaceAtEnd (ended draft) = DescribesSurface draft

surface_at_end_added : (n : ℕ) (before : Progress) (s : Statement) (after : Progress) → IsAllowed before s → Adds n (draft_of before) s after → HasSurfaceAtEnd after
surface_at_end_added n before (field_line d) after may adds = subst HasSurfaceAtEnd (sym adds) tt
surface_at_end_added n before (polygon_line pairs) after may adds = subst HasSurfaceAtEnd (sym adds.2) tt
surface_at_end_added n before (table_line pairs) after may adds = subst HasSurfaceAtEnd (sym adds.2) tt
surface_at_end_added n before (glue_line one two) after may adds = subst HasSurfaceAtEnd (sym adds) tt
surface_at_end_added n before (command_line stated) after may adds = subst HasSurfaceAtEnd (sym adds.2) tt
surface_at_end_added n nothing end_line after may adds = absurd may
surface_at_end_added n headed end_line after may adds = absurd may
surface_at_end_added n (drafted draft) end_line after may adds = subst HasSurfaceAtEnd (sym adds) may
surface_at_end_added n (ended draft) end_line after may adds = absurd may

-- it stays so from line to line
pub surface_at_end_after : (n : ℕ) (before : Progress) (line : List ℕ) (after : Progress) → HasSurfaceAtEnd before → Leads n before line (to_progress after) → HasSurfaceAtEnd after
surface_at_end_after n before line after ready leads =
    line_keeps n before line HasSurfaceAtEnd tt (λ s next may room sense adds. surface_at_end_added n before s next may adds) ready after leads

-- ---- a job or a first fault, and not both

-- the first fault from a line on
abbrev HasFaultFrom : ℕ → Progress → List (List ℕ) → Fault → Type 0
HasFaultFrom n before [] fault = ((before ≡ nothing) × (fault ≡ faults.BadHeader)) ⊎ ((before ≢ nothing) × ((draft : Draft) → before ≢ ended draft) × (fault ≡ faults.NoEnd))
HasFaultFrom n before (line ∷ lines) fault = Leads n before line (to_fault fault) ⊎ ((mid : Progress) × Leads n before line (to_progress mid) × HasFaultFrom (n + 1) mid lines fault)

fault_from_line : (n : ℕ) (a b : Progress) (prefix rest : List (List ℕ)) (line : List ℕ) (fault : Fault) → LinesLead n a prefix b → Leads (length prefix + n) b line (to_fault fault) → HasFaultFrom n a (prefix ++ line ∷ rest) fault
fault_from_line n a b [] rest line fault p q = inl (leads_at (0 + n) n a line (to_fault fault) (omega arith) (subst (λ (m : Progress). Leads (0 + n) m line (to_fault fault)) (sym p) q))
fault_from_line n a b (x ∷ xs) rest line fault p q =
    inr (p.0, p.1, fault_from_line (n + 1) p.0 b xs rest line fault p.2 (leads_at (length (x ∷ xs) + n) (length xs + (n + 1)) b line (to_fault fault) (omega arith) q))

fault_from_end : (n m : ℕ) (a b : Progress) (lines : List (List ℕ)) (fault : Fault) → LinesLead n a lines b → HasFaultFrom m b [] fault → HasFaultFrom n a lines fault
fault_from_end n m a b [] fault p f = subst (λ (c : Progress). HasFaultFrom m c [] fault) (sym p) f
fault_from_end n m a b (x ∷ xs) fault p f = inr (p.0, p.1, fault_from_end (n + 1) m p.0 b xs fault p.2 f)

fault_from_start : (bytes : List ℕ) (fault : Fault) → IsFirstFault bytes fault → HasFaultFrom 1 nothing (lines_of bytes) fault
fault_from_start bytes fault (at_line prefix line rest before whole path leads) =
    subst (λ (ls : List (List ℕ)). HasFaultFrom 1 nothing ls fault) (sym whole) (fault_from_line 1 nothing before prefix rest line fault path leads)
fault_from_start bytes fault (no_header path is) = fault_from_end 1 1 nothing nothing (lines_of bytes) fault path (inl (refl, is))
fault_from_start bytes fault (no_end before path some unended is) = fault_from_end 1 1 nothing before (lines_of bytes) fault path (inr (some, unended, is))

fault_from_unique : (n : ℕ) (a : Progress) (lines : List (List ℕ)) (f g : Fault) → HasFaultFrom n a lines f → HasFaultFrom n a lines g → f ≡ g
fault_from_unique n a [] f g p q = elim p [
  | inl x ↦ elim q [ inl y ↦ x.1 ∙ sym y.1 | inr y ↦ absurd (y.0 x.0) ]
  | inr x ↦ elim q [ inl y ↦ absurd (x.0 y.0) | inr y ↦ x.2 ∙ sym y.2 ]
]
fault_from_unique n a (line ∷ lines) f g p q = elim p [
  | inl x ↦ elim q [
    | inl y ↦ to_fault_injective f g (leads_unique n a line (to_fault f) (to_fault g) x y)
    | inr y ↦ absurd (progress_not_fault y.0 f (leads_unique n a line (to_progress y.0) (to_fault f) y.1 x))
  ]
  | inr x ↦ elim q [
    | inl y ↦ absurd (progress_not_fault x.0 g (leads_unique n a line (to_progress x.0) (to_fault g) x.1 y))
    | inr y ↦
        let same = to_progress_injective x.0 y.0 (leads_unique n a line (to_progress x.0) (to_progress y.0) x.1 y.1) in
        fault_from_unique (n + 1) y.0 lines f g (subst (λ (m : Progress). HasFaultFrom (n + 1) m lines f) same x.2) y.2
  ]
]

-- bytes have one first fault at most
pub fault_unique : (bytes : List ℕ) (f g : Fault) → IsFirstFault bytes f → IsFirstFault bytes g → f ≡ g
fault_unique bytes f g p q = fault_from_unique 1 nothing (lines_of bytes) f g (fault_from_start bytes f p) (fault_from_start bytes g q)

ended_not_nothing : (draft : Draft) → nothing ≡ ended draft → ⊥
ended_not_nothing draft e = cc

fault_and_job : (n : ℕ) (a : Progress) (lines : List (List ℕ)) (draft : Draft) (fault : Fault) → LinesLead n a lines (ended draft) → HasFaultFrom n a lines fault → ⊥
fault_and_job n a [] draft fault p q = elim q [ inl x ↦ ended_not_nothing draft (sym x.0 ∙ p) | inr x ↦ x.1 draft p ]
fault_and_job n a (line ∷ lines) draft fault p q = elim q [
  | inl x ↦ progress_not_fault p.0 fault (leads_unique n a line (to_progress p.0) (to_fault fault) p.1 x)
  | inr x ↦
      let same = to_progress_injective p.0 x.0 (leads_unique n a line (to_progress p.0) (to_progress x.0) p.1 x.1) in
      fault_and_job (n + 1) x.0 lines draft fault (subst (λ (m : Progress). LinesLead (n + 1) m lines (ended draft)) same p.2) x.2
]

-- a job has no first fault
pub not_both : (bytes : List ℕ) (draft : Draft) (fault : Fault) → IsJob bytes draft → ¬ IsFirstFault bytes fault
not_both bytes draft fault p q = fault_and_job 1 nothing (lines_of bytes) draft fault p (fault_from_start bytes fault q)

by_outcome : (P : Outcome → Type 0) → ((b : Progress) → P (to_progress b)) → ((f : Fault) → P (to_fault f)) → (o : Outcome) → P o
by_outcome P next faulty (to_progress b) = next b
by_outcome P next faulty (to_fault f) = faulty f

module _ (bytes : List ℕ) (no_job : (draft : Draft) → ¬ IsJob bytes draft) (no_fault : (fault : Fault) → ¬ IsFirstFault bytes fault) where
  no_outcome : (rest : List (List ℕ)) (number : ℕ) (a : Progress) → LedTo bytes rest number a → ⊥
  no_outcome [] number a l = elim (nothing_or_not a) [
    | inl e ↦ no_fault faults.BadHeader (bad_header_at_end bytes [] number a l refl e)
    | inr e ↦ no_fault faults.NoEnd (no_end_at_end bytes [] number a l refl e (λ draft ended. no_job draft (job_at_end bytes [] number a draft l refl ended)))
  ]
  no_outcome (line ∷ more) number a l = leads_exists (number + 1) a line (nothing_or_not a) (by_outcome (λ o. ¬ Leads (number + 1) a line o)
      (λ b p. no_outcome more (number + 1) b (led_to_next bytes (line ∷ more) more line number a b l refl p))
      (λ f p. no_fault f (first_fault_at_line bytes (line ∷ more) more line number a f l refl p)))

  -- bytes that are no job have a first fault
  pub not_neither : ⊥
  not_neither = no_outcome (lines_of bytes) 0 nothing (led_to_start bytes)
