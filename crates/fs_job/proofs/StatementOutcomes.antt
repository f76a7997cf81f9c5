-- A statement leads to one outcome, and to no other.
use Rattle.std.proofs.Common.{◌≡◌, ℕ, Some, List, [], ◌∷◌, ◌++◌, inl, inr, refl, sym, ap, ◌∙◌}
use Rattle.std.specs.List.{AllByRecursion}
use Rattle.fs_fraction.specs.declared.number.NumberFault.{NumberFault}
use Rattle.fs_gluing.specs.declared.faults.Fault.{Fault}
use Rattle.fs_gluing.specs.declared.faults.Fault.TheVariants as faults
use Rattle.fs_gluing.specs.declared.shapes.Point.{Point}
use Rattle.fs_job.specs.declared.job.Command.{Command}
use Rattle.fs_job.specs.Statement.{Statement, field_line, polygon_line, table_line, glue_line, command_line, end_line, number_texts}
use Rattle.fs_job.specs.Draft.{Draft, Progress, drafted, Outcome, to_progress, to_fault, draft_of, IsAllowed, HasRoom, IsNumber, HasBadNumber, number_fault, IsSenseless, Adds, StatementLeads, bad_line, too_many, bad_number, senseless, accepted}
use Rattle.fs_job.proofs.Choices.{Unique, Choice, choice_unique, Is, is_unique}
use Rattle.fs_job.proofs.NumberTexts.{numbers_or_bad, numbers_not_bad, bad_number_unique}
use Rattle.fs_job.proofs.PolygonNumbers.{points_are_numbers, points_exist, points_unique}
use Rattle.fs_job.proofs.CommandArguments.{command_unique, command_is_numbers, command_exists}

-- ---- what a statement adds

-- what a statement adds is one at most
adds_unique : (n : ℕ) (draft : Draft) (s : Statement) (b c : Progress) → Adds n draft s b → Adds n draft s c → b ≡ c
adds_unique n draft (field_line d) b c p q = p ∙ sym q
adds_unique n draft (polygon_line pairs) b c p q =
    p.2 ∙ (ap (λ (points : List Point). drafted (record draft { polygons = draft.polygons ++ points ∷ [] })) (points_unique pairs p.0 q.0 p.1 q.1) ∙ sym q.2)
adds_unique n draft (table_line pairs) b c p q =
    p.2 ∙ (ap (λ (points : List Point). drafted (record draft { table = Some points })) (points_unique pairs p.0 q.0 p.1 q.1) ∙ sym q.2)
adds_unique n draft (glue_line one two) b c p q = p ∙ sym q
adds_unique n draft (command_line stated) b c p q =
    p.2 ∙ (ap (λ (command : Command). drafted (record draft { commands = draft.commands ++ command ∷ [] })) (command_unique n stated p.0 q.0 p.1 q.1) ∙ sym q.2)
adds_unique n draft end_line b c p q = p ∙ sym q

-- what is added to a draft has numbers only
adds_numbers : (n : ℕ) (draft : Draft) (s : Statement) (after : Progress) → Adds n draft s after → AllByRecursion IsNumber (number_texts s)
adds_numbers n draft (field_line d) after p = tt
adds_numbers n draft (polygon_line pairs) after p = points_are_numbers pairs p.0 p.1
adds_numbers n draft (table_line pairs) after p = points_are_numbers pairs p.0 p.1
adds_numbers n draft (glue_line one two) after p = tt
adds_numbers n draft (command_line stated) after p = command_is_numbers n stated p.0 p.1
adds_numbers n draft end_line after p = tt

adds_exists : (n : ℕ) (draft : Draft) (s : Statement) → AllByRecursion IsNumber (number_texts s) → (after : Progress) × Adds n draft s after
adds_exists n draft (field_line d) all = (_, refl)
adds_exists n draft (polygon_line pairs) all = let found = points_exist pairs all in (_, (found.0, found.1, refl))
adds_exists n draft (table_line pairs) all = let found = points_exist pairs all in (_, (found.0, found.1, refl))
adds_exists n draft (glue_line one two) all = (_, refl)
adds_exists n draft (command_line stated) all = let found = command_exists n stated all in (_, (found.0, found.1, refl))
adds_exists n draft end_line all = (_, refl)

-- a statement makes no sense in one way at most
senseless_unique : (n : ℕ) (s : Statement) (f g : Fault) → IsSenseless n s f → IsSenseless n s g → f ≡ g
senseless_unique n (field_line d) f g p q = p.1 ∙ sym q.1
senseless_unique n (polygon_line pairs) f g p q = absurd p
senseless_unique n (table_line pairs) f g p q = absurd p
senseless_unique n (glue_line one two) f g p q = absurd p
senseless_unique n (command_line stated) f g p q = p.1 ∙ sym q.1
senseless_unique n end_line f g p q = absurd p

-- ---- the choices that lead to an outcome, one after the other

module _ (n : ℕ) (before : Progress) (s : Statement) where
  -- the last choice: whether the statement makes sense
  abbrev Added : Outcome → Type 0
  Added o = (after : Progress) × Adds n (draft_of before) s after × (o ≡ to_progress after)

  abbrev HasNoSense : Type 0
  HasNoSense = (fault : Fault) × IsSenseless n s fault

  abbrev HasSense : Type 0
  HasSense = (fault : Fault) → ¬ IsSenseless n s fault

  abbrev AtNoSense : Outcome → Type 0
  AtNoSense o = (fault : Fault) × IsSenseless n s fault × (o ≡ to_fault fault)

  abbrev Sense : Outcome → Type 0
  Sense = Choice HasNoSense AtNoSense HasSense Added

  added_unique : Unique Added
  added_unique o o' p q = p.2 ∙ (ap to_progress (adds_unique n (draft_of before) s p.0 q.0 p.1 q.1) ∙ sym q.2)

  no_sense_unique : Unique AtNoSense
  no_sense_unique o o' p q = p.2 ∙ (ap to_fault (senseless_unique n s p.0 q.0 p.1 q.1) ∙ sym q.2)

  sense_unique : Unique Sense
  sense_unique = choice_unique HasNoSense HasSense AtNoSense Added (λ a b. b a.0 a.1) no_sense_unique added_unique

  -- before it: whether its texts are numbers
  abbrev HasBad : Type 0
  HasBad = (fault : NumberFault) × HasBadNumber (number_texts s) fault

  abbrev AtBad : Outcome → Type 0
  AtBad o = (fault : NumberFault) × HasBadNumber (number_texts s) fault × (o ≡ to_fault (number_fault n fault))

  abbrev Numbers : Outcome → Type 0
  Numbers = Choice HasBad AtBad (AllByRecursion IsNumber (number_texts s)) Sense

  bad_unique : Unique AtBad
  bad_unique o o' p q =
      let same = bad_number_unique (number_texts s) p.0 q.0 p.1 q.1 in
      p.2 ∙ (ap (λ (f : NumberFault). to_fault (number_fault n f)) same ∙ sym q.2)

  numbers_unique : Unique Numbers
  numbers_unique = choice_unique HasBad (AllByRecursion IsNumber (number_texts s)) AtBad Sense
      (λ u all. numbers_not_bad (number_texts s) u.0 all u.1) bad_unique sense_unique

  -- before them: whether there is room
  abbrev Room : Outcome → Type 0
  Room = Choice (¬ HasRoom (draft_of before) s) (Is (to_fault (faults.TooMany n))) (HasRoom (draft_of before) s) Numbers

  room_unique : Unique Room
  room_unique = choice_unique (¬ HasRoom (draft_of before) s) (HasRoom (draft_of before) s) (Is (to_fault (faults.TooMany n))) Numbers (λ a b. a b) (is_unique (to_fault (faults.TooMany n))) numbers_unique

  -- before it: whether it is allowed
  abbrev Allowed : Outcome → Type 0
  Allowed = Choice (¬ IsAllowed before s) (Is (to_fault (faults.BadLine n))) (IsAllowed before s) Room

  allowed_unique : Unique Allowed
  allowed_unique = choice_unique (¬ IsAllowed before s) (IsAllowed before s) (Is (to_fault (faults.BadLine n))) Room (λ a b. a b) (is_unique (to_fault (faults.BadLine n))) room_unique

  choices : (o : Outcome) → StatementLeads n before s o → Allowed o
  choices o (bad_line none is) = inl (none, is)
  choices o (too_many may full is) = inr (may, inl (full, is))
  choices o (bad_number fault may room first is) = inr (may, inr (room, inl ((fault, first), (fault, first, is))))
  choices o (senseless fault may room all no_sense is) = inr (may, inr (room, inr (all, inl ((fault, no_sense), (fault, no_sense, is)))))
  choices o (accepted after may room sense adds is) = inr (may, inr (room, inr (adds_numbers n (draft_of before) s after adds, inr (sense, (after, adds, is)))))

  -- a statement leads to one outcome at most
  pub statement_leads_unique : (o o' : Outcome) → StatementLeads n before s o → StatementLeads n before s o' → o ≡ o'
  statement_leads_unique o o' p q = allowed_unique o o' (choices o p) (choices o' q)

  -- a statement leads to an outcome
  pub statement_leads_exists : ((o : Outcome) → ¬ StatementLeads n before s o) → ⊥
  statement_leads_exists none =
      none _ (bad_line (λ may.
      none _ (too_many may (λ room.
      numbers_or_bad (number_texts s)
      (λ all.
      let found = adds_exists n (draft_of before) s all in
      none _ (accepted found.0 may room (λ fault no_sense. none _ (senseless fault may room all no_sense refl)) found.1 refl))
      (λ fault first. none _ (bad_number fault may room first refl))) refl)) refl)
