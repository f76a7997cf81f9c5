-- The lists before and after the split, and what is computed of them.
use Rattle.std.proofs.Common.{◌≡◌, ◌⊎◌, ◌<◌, ◌≤◌, ◌∷◌, ℕ, ◌+◌, ◌-◌, true, false, is_some, List, IfErr, length, take, drop, get_or, set, sym, ap, ◌∙◌, subst, refl, inl, inr, arith}
use Rattle.std.proofs.lemmas.List.{get_or_default, length-set}
use Rattle.fs_lists.proofs.Results.{at_exit}
use Rattle.fs_quadratic.specs.Ring.{zero}
use Rattle.fs_quadratic.proofs.Laws.{field_order}
use Rattle.fs_gluing.specs.Exchanges.{Letter, IsLawful}
use Rattle.fs_rauzy.specs.declared.states.State.TheInside.{Inside}
use Rattle.fs_rauzy.specs.declared.events.Event.TheVariants.{Split}
use Rattle.fs_rauzy.specs.declared.rows.Extent.{Extent}
use Rattle.fs_rauzy.specs.Events.{HasSplit, without_start, without_end}
use Rattle.fs_rauzy.specs.Rooms.{RoomValue}
use Rattle.fs_rauzy.specs.Rule.{SplitNumbers, checked_prefix, checked_parts}
use Rattle.fs_rauzy.specs.States.{StateValue, IsState}
use Rattle.fs_rauzy.specs.StatesInPlace.{no_letter, letters_at, component_at, opened, IsInPlace}
use Rattle.fs_rauzy.specs.Steps.{AtCurrent, IsStoppedBy, SplitsAt}
use Rattle.fs_rauzy.proofs.EventsInPlace.{IsEventInPlace, event_at, made_by, returns_by, place_at, lawful_at, current_at, written_whole}
use Rattle.fs_rauzy.proofs.SplitInPlace.{end_within, start_inside, end_inside, room_to_split}
use Rattle.fs_rauzy.proofs.SplitSteps.{split_stops_first, split_stops_then, split_made}
use Rattle.fs_rauzy.proofs.WrittenLetters.{name_at}
use Rattle.fs_rauzy.proofs.states.State.split_at.Goals as goal
use Rattle.fs_rauzy.proofs.states.State.split_at.Goals.{After-last-extent, After-index-2, After-find_prefix, After-find_split_numbers, After-set_last, After-push, then-is_some, else-is_some}

-- the split, where the state keeps its component
split : (c : After-last-extent) → HasSplit (component_at c.self.inside.letters.items c.self.inside.top.items c.self.inside.bottom.items c.last-extent.result) c.args.k
split c =
    current_at c.self.inside.letters.items c.self.inside.top.items c.self.inside.bottom.items c.last-extent.ensures.1 (λ k. HasSplit k c.args.k)
    (subst (λ (v : StateValue). AtCurrent (λ k. HasSplit k c.args.k) v.components) (sym c.self.view_is) c.requires.split)

place : (c : After-last-extent) → IsInPlace c.self.inside.letters.items c.self.inside.top.items c.self.inside.bottom.items (c.last-extent.result ∷ c.last-extent.ensures.0)
place c = place_at c.self.inside.letters.items c.self.inside.top.items c.self.inside.bottom.items c.last-extent.ensures.1 c.self.invariant.1

lawful : (c : After-last-extent) → IsLawful c.self.inside.field.d (component_at c.self.inside.letters.items c.self.inside.top.items c.self.inside.bottom.items c.last-extent.result)
lawful c = lawful_at c.self.inside.letters.items c.self.inside.top.items c.self.inside.bottom.items c.last-extent.ensures.1 c.self.invariant.0

-- the new end is within the rows
within : (c : After-last-extent) → (c.last-extent.result.first + c.args.k < length c.self.inside.top.items) × (c.last-extent.result.first + c.args.k < length c.self.inside.bottom.items)
within c = let w = end_within (place c) (lawful c) (split c) in (w.2, w.3)

-- the names there, as they are read
start_read : (c : After-index-2) → c.last-extent.result.first + c.args.k < length c.self.inside.bottom.items
    → c.index.result.now ≡ get_or c.self.inside.bottom.items (c.last-extent.result.first + c.args.k) 0
start_read c l = c.index.ensures ∙ get_or_default c.self.inside.bottom.items (c.last-extent.result.first + c.args.k) c.index.result.now 0 l

end_read : (c : After-index-2) → c.last-extent.result.first + c.args.k < length c.self.inside.top.items
    → c.index-2.result.now ≡ get_or c.self.inside.top.items (c.last-extent.result.first + c.args.k) 0
end_read c l = c.index-2.ensures ∙ get_or_default c.self.inside.top.items (c.last-extent.result.first + c.args.k) c.index-2.result.now 0 l

-- the sum of the first lengths
prefix : (c : After-find_prefix) → c.find_prefix.result ≡ checked_prefix (letters_at c.self.inside.letters.items (take c.args.k (drop c.last-extent.result.first c.self.inside.top.items)))
prefix c =
    let many : c.last-extent.result.first + c.args.k - c.last-extent.result.first ≡ c.args.k = omega arith in
    c.find_prefix.ensures ∙ (λ i. checked_prefix (letters_at (c.deref.ensures.value i) (take (many i) (drop c.last-extent.result.first (c.deref-2.ensures.value i)))))

pub returns-in_err-sum-clause-stops : goal.returns-in_err-sum-clause-stops
returns-in_err-sum-clause-stops c =
    let at = goal.at.returns-in_err-sum-clause-stops c in
    at_exit (λ r. IfErr r (λ stop. IsStoppedBy c.args.self.now.d (SplitsAt c.args.k) c.args.self.now.components stop)) c.from_residual.result c.in_err-sum.field-0.0 c.from_residual.ensures.1
    (subst (λ (v : StateValue). IsStoppedBy v.d (SplitsAt c.args.k) v.components c.in_err-sum.field-0.0) c.self.view_is
    (split_stops_first (field_order c.self.inside.field.radicand) c.last-extent.ensures.1 c.self.invariant.1 c.self.invariant.0 (split at.After-last-extent) c.in_err-sum.field-0.0
    (sym (prefix at.After-find_prefix) ∙ c.in_err-sum.was)))

-- the numbers of the parts
parts : (c : After-find_split_numbers) → get_or c.self.inside.bottom.items (c.last-extent.result.first + c.args.k) 0 < length c.self.inside.letters.items
    → get_or c.self.inside.top.items (c.last-extent.result.first + c.args.k) 0 < length c.self.inside.letters.items
    → c.index.result.now ≡ get_or c.self.inside.bottom.items (c.last-extent.result.first + c.args.k) 0
    → c.index-2.result.now ≡ get_or c.self.inside.top.items (c.last-extent.result.first + c.args.k) 0
    → c.find_split_numbers.result ≡ checked_parts c.last-extent.result.base c.last-extent.result.total c.args.k c.in_ok-sum.sum
    (get_or c.self.inside.letters.items (get_or c.self.inside.bottom.items (c.last-extent.result.first + c.args.k) 0) no_letter)
    (get_or c.self.inside.letters.items (get_or c.self.inside.top.items (c.last-extent.result.first + c.args.k) 0) no_letter)
parts c s e start end =
    let letters = c.self.inside.letters.items in
    let inside = λ (n m : ℕ) (same : n ≡ m) (l : m < length letters). subst (λ (i : ℕ). i < length letters) (sym same) l in
    let one = c.index-3.ensures ∙ get_or_default letters c.index.result.now c.index-3.result.now no_letter (inside c.index.result.now (get_or c.self.inside.bottom.items (c.last-extent.result.first + c.args.k) 0) start s) ∙ ap (λ (n : ℕ). get_or letters n no_letter) start in
    let two = c.index-4.ensures ∙ get_or_default letters c.index-2.result.now c.index-4.result.now no_letter (inside c.index-2.result.now (get_or c.self.inside.top.items (c.last-extent.result.first + c.args.k) 0) end e) ∙ ap (λ (n : ℕ). get_or letters n no_letter) end in
    c.find_split_numbers.ensures ∙ (λ i. checked_parts c.last-extent.result.base c.last-extent.result.total c.args.k c.in_ok-sum.sum (one i) (two i))

-- the letters at the names there
starting_in : (c : After-last-extent) → get_or c.self.inside.bottom.items (c.last-extent.result.first + c.args.k) 0 < length c.self.inside.letters.items
starting_in c = start_inside (place c) (lawful c) (split c)

ending_in : (c : After-last-extent) → get_or c.self.inside.top.items (c.last-extent.result.first + c.args.k) 0 < length c.self.inside.letters.items
ending_in c = end_inside (place c) (lawful c) (split c)

pub returns-in_err-numbers-clause-stops : goal.returns-in_err-numbers-clause-stops
returns-in_err-numbers-clause-stops c =
    let at = goal.at.returns-in_err-numbers-clause-stops c in
    let one = at.After-last-extent in
    let start = start_read at.After-index-2 (within one).1 in
    let end = end_read at.After-index-2 (within one).0 in
    let fails = parts at.After-find_split_numbers (starting_in one) (ending_in one) start end in
    at_exit (λ r. IfErr r (λ stop. IsStoppedBy c.args.self.now.d (SplitsAt c.args.k) c.args.self.now.components stop)) c.from_residual-in_err-numbers.result c.in_err-numbers.field-0.0
    c.from_residual-in_err-numbers.ensures.1
    (subst (λ (v : StateValue). IsStoppedBy v.d (SplitsAt c.args.k) v.components c.in_err-numbers.field-0.0) c.self.view_is
    (split_stops_then (field_order c.self.inside.field.radicand) c.last-extent.ensures.1 c.self.invariant.1 c.self.invariant.0 (split one) c.in_ok-sum.sum
    (sym (prefix at.After-find_prefix) ∙ c.in_ok-sum.was) c.in_err-numbers.field-0.0 (sym fails ∙ c.in_err-numbers.was)))

pub clear_ends-requires-clause-named_start : goal.clear_ends-requires-clause-named_start
clear_ends-requires-clause-named_start c =
    let at = goal.at.clear_ends-requires-clause-named_start c in
    let one = at.After-last-extent in
    let start = start_read at.After-index-2 (within one).1 in
    ap (λ (ls : List Letter). (get_or ls c.index.result.now no_letter).name) c.deref_mut.ensures.value
    ∙ name_at c.self.inside.letters.items c.index.result.now c.self.invariant.1.named (subst (λ (n : ℕ). n < length c.self.inside.letters.items) (sym start) (starting_in one))

pub clear_ends-requires-clause-named_end : goal.clear_ends-requires-clause-named_end
clear_ends-requires-clause-named_end c =
    let at = goal.at.clear_ends-requires-clause-named_end c in
    let one = at.After-last-extent in
    let end = end_read at.After-index-2 (within one).0 in
    ap (λ (ls : List Letter). (get_or ls c.index-2.result.now no_letter).name) c.deref_mut.ensures.value
    ∙ name_at c.self.inside.letters.items c.index-2.result.now c.self.invariant.1.named (subst (λ (n : ℕ). n < length c.self.inside.letters.items) (sym end) (ending_in one))

-- what the clearing leaves as it was
kept : (c : After-set_last) → (c.if-is_some.self-inside.field.d ≡ c.self.inside.field.d) × (c.if-is_some.self-inside.top.items ≡ c.self.inside.top.items)
    × (c.if-is_some.self-inside.bottom.items ≡ c.self.inside.bottom.items) × (c.if-is_some.self-inside.extents ≡ c.self.inside.extents)
    × (length c.if-is_some.self-inside.places.items ≡ length c.self.inside.places.items)
kept c = elim c.if-is_some.branch [
  | then-is_some w ↦ (
    ap (λ (s : Inside). s.field.d) w.self-inside-is,
    ap (λ (s : Inside). s.top.items) w.self-inside-is,
    ap (λ (s : Inside). s.bottom.items) w.self-inside-is,
    ap (λ (s : Inside). s.extents) w.self-inside-is,
    ap (λ (s : Inside). length s.places.items) w.self-inside-is,
  )
  | else-is_some w ↦ (
    ap (λ (s : Inside). s.field.d) w.self-inside-is,
    ap (λ (s : Inside). s.top.items) w.self-inside-is,
    ap (λ (s : Inside). s.bottom.items) w.self-inside-is,
    ap (λ (s : Inside). s.extents) w.self-inside-is,
    ap (λ (s : Inside). length s.places.items) w.self-inside-is,
  )
]

-- the letters after it
cleared : (c : After-set_last) → let letters = c.self.inside.letters.items in
    let first = set letters c.index.result.now (without_start c.index.result.now (get_or letters c.index.result.now no_letter)) in
    ((c.is_some.result ≡ true) × (c.if-is_some.self-inside.letters.items ≡ set first c.index-2.result.now (without_end c.index-2.result.now (get_or first c.index-2.result.now no_letter))))
    ⊎ ((c.is_some.result ≡ false) × (c.if-is_some.self-inside.letters.items ≡ letters))
cleared c = elim c.if-is_some.branch [
  | then-is_some w ↦ inl (
    w.if-is_some.true,
    ap (λ (s : Inside). s.letters.items) w.self-inside-is
        ∙ written_whole c.self.inside.letters.len w.clear_ends.new.letters c.self.inside.letters.items
        (c.self.inside.letters.ok.0 ∙ sym (ap length w.deref_mut.ensures.value) ∙ sym w.clear_ends.auto.letters)
        ∙ w.clear_ends.ensures
        ∙ ap (λ (ls : List Letter).
        let first = set ls c.index.result.now (without_start c.index.result.now (get_or ls c.index.result.now no_letter)) in
        set first c.index-2.result.now (without_end c.index-2.result.now (get_or first c.index-2.result.now no_letter))) w.deref_mut.ensures.value,
  )
  | else-is_some w ↦ inr (w.if-is_some.false, ap (λ (s : Inside). s.letters.items) w.self-inside-is)
]

as_long : (c : After-set_last) → length c.if-is_some.self-inside.letters.items ≡ length c.self.inside.letters.items
as_long c =
    let letters = c.self.inside.letters.items in
    let first = set letters c.index.result.now (without_start c.index.result.now (get_or letters c.index.result.now no_letter)) in
    elim (cleared c) [
      | inl h ↦
          ap length h.1 ∙ length-set first c.index-2.result.now (without_end c.index-2.result.now (get_or first c.index-2.result.now no_letter))
          ∙ length-set letters c.index.result.now (without_start c.index.result.now (get_or letters c.index.result.now no_letter))
      | inr h ↦ ap length h.1
    ]

-- the extent of the left part
replaced : (c : After-set_last) → c.set_last.new.self.items ≡ record c.last-extent.result { total = c.numbers.inside.sum } ∷ c.last-extent.ensures.0
replaced c = c.set_last.ensures.items c.last-extent.result c.last-extent.ensures.0 (ap (λ (r : RoomValue Extent). r.items) (kept c).3 ∙ c.last-extent.ensures.1)

room : (c : After-set_last) → c.set_last.new.self.room ≡ c.self.inside.extents.room
room c = c.set_last.ensures.room ∙ ap (λ (r : RoomValue Extent). r.room) (kept c).3

pub push-requires : goal.push-requires
push-requires c =
    let at = goal.at.push-requires c in
    let one = at.After-last-extent in
    let long = ap length (replaced at.After-set_last) in
    let same = room at.After-set_last in
    let holds = c.self.invariant.2 in
    let some = room_to_split c.self.inside.letters.items c.self.inside.top.items c.self.inside.bottom.items c.last-extent.result c.last-extent.ensures.0 c.args.k (place one) (split one).some (within one).0 in
    omega arith

-- so it is for the names that the rows have there
cleared_at : (c : After-set_last) → c.index.result.now ≡ get_or c.self.inside.bottom.items (c.last-extent.result.first + c.args.k) 0
    → c.index-2.result.now ≡ get_or c.self.inside.top.items (c.last-extent.result.first + c.args.k) 0 → let letters = c.self.inside.letters.items in
    let starting = get_or c.self.inside.bottom.items (c.last-extent.result.first + c.args.k) 0 in
    let ending = get_or c.self.inside.top.items (c.last-extent.result.first + c.args.k) 0 in
    let first = set letters starting (without_start starting (get_or letters starting no_letter)) in
    ((c.is_some.result ≡ true) × (c.if-is_some.self-inside.letters.items ≡ set first ending (without_end ending (get_or first ending no_letter))))
    ⊎ ((c.is_some.result ≡ false) × (c.if-is_some.self-inside.letters.items ≡ letters))
cleared_at c start end =
    let letters = c.self.inside.letters.items in
    elim (cleared c) [
      | inl h ↦ inl (
        h.0,
        h.1
            ∙ (λ i.
            let first = set letters (start i) (without_start (start i) (get_or letters (start i) no_letter)) in
            set first (end i) (without_end (end i) (get_or first (end i) no_letter))),
      )
      | inr h ↦ inr h
    ]

-- the lists after the event
after : (c : After-push)
    → (extents : c.set_last.new.self.items ≡ record c.last-extent.result { total = c.numbers.inside.sum } ∷ c.last-extent.ensures.0)
    → HasSplit (component_at c.self.inside.letters.items c.self.inside.top.items c.self.inside.bottom.items c.last-extent.result) c.args.k
    → c.find_prefix.result ≡ checked_prefix (letters_at c.self.inside.letters.items (take c.args.k (drop c.last-extent.result.first c.self.inside.top.items)))
    → c.find_split_numbers.result ≡ checked_parts c.last-extent.result.base c.last-extent.result.total c.args.k c.in_ok-sum.sum
    (get_or c.self.inside.letters.items (get_or c.self.inside.bottom.items (c.last-extent.result.first + c.args.k) 0) no_letter)
    (get_or c.self.inside.letters.items (get_or c.self.inside.top.items (c.last-extent.result.first + c.args.k) 0) no_letter)
    → (let letters = c.self.inside.letters.items in
    let starting = get_or c.self.inside.bottom.items (c.last-extent.result.first + c.args.k) 0 in
    let ending = get_or c.self.inside.top.items (c.last-extent.result.first + c.args.k) 0 in
    let first = set letters starting (without_start starting (get_or letters starting no_letter)) in
    ((c.is_some.result ≡ true) × (c.if-is_some.self-inside.letters.items ≡ set first ending (without_end ending (get_or first ending no_letter))))
    ⊎ ((c.is_some.result ≡ false) × (c.if-is_some.self-inside.letters.items ≡ letters)))
    → (c.if-is_some.self-inside.top.items ≡ c.self.inside.top.items) → (c.if-is_some.self-inside.bottom.items ≡ c.self.inside.bottom.items)
    → IsEventInPlace (record { d = c.self.inside.field.d; components = opened c.self.inside.letters.items c.self.inside.top.items c.self.inside.bottom.items c.self.inside.extents.items })
    (Split c.args.k c.numbers.inside.found) zero c.if-is_some.self-inside.letters.items c.if-is_some.self-inside.top.items c.if-is_some.self-inside.bottom.items c.push.new.self.items
after c extents can sum_is parts_are letters_are top bottom =
    let numbers = c.in_ok-numbers.numbers in
    let tested : c.is_some.result ≡ is_some numbers.found = c.is_some.ensures ∙ ap (λ (n : SplitNumbers). is_some n.found) c.numbers.view_is in
    let pushed = λ (n : SplitNumbers). record { first = c.last-extent.result.first + c.args.k; base = n.base; total = n.rest } ∷ (record c.last-extent.result { total = n.sum } ∷ c.last-extent.ensures.0) in
    subst (λ found. IsEventInPlace (record { d = c.self.inside.field.d; components = opened c.self.inside.letters.items c.self.inside.top.items c.self.inside.bottom.items c.self.inside.extents.items })
    (Split c.args.k found) zero c.if-is_some.self-inside.letters.items c.if-is_some.self-inside.top.items c.if-is_some.self-inside.bottom.items c.push.new.self.items)
    (sym (ap (λ (n : SplitNumbers). n.found) c.numbers.view_is))
    (event_at refl refl top bottom refl
    (split_made (field_order c.self.inside.field.radicand) c.last-extent.ensures.1 c.self.invariant.1 c.self.invariant.0 can c.in_ok-sum.sum (sym sum_is ∙ c.in_ok-sum.was)
    numbers (sym parts_are ∙ c.in_ok-numbers.was) c.if-is_some.self-inside.letters.items
    (elim letters_are [ inl h ↦ inl (sym tested ∙ h.0, h.1) | inr h ↦ inr (sym tested ∙ h.0, h.1) ])
    c.push.new.self.items
    (c.push.ensures.items
    ∙ ap (λ (es : List Extent). record { first = c.last-extent.result.first + c.args.k; base = c.numbers.inside.base; total = c.numbers.inside.rest } ∷ es) extents
    ∙ ap pushed c.numbers.view_is)))

pub returns-clause-made : goal.returns-clause-made
returns-clause-made c =
    let at = goal.at.returns-clause-made c in
    let one = at.After-last-extent in
    let start = start_read at.After-index-2 (within one).1 in
    let end = end_read at.After-index-2 (within one).0 in
    let kept_here = kept at.After-set_last in
    let is = after at.After-push (replaced at.After-set_last) (split one) (prefix at.After-find_prefix) (parts at.After-find_split_numbers (starting_in one) (ending_in one) start end)
    (cleared_at at.After-set_last start end) kept_here.1 kept_here.2 in
    made_by c.self.view_is (c.numbers.inside.found, refl) is

pub returns-clause-returns : goal.returns-clause-returns
returns-clause-returns c =
    let at = goal.at.returns-clause-returns c in
    let one = at.After-last-extent in
    let start = start_read at.After-index-2 (within one).1 in
    let end = end_read at.After-index-2 (within one).0 in
    let kept_here = kept at.After-set_last in
    let is = after at.After-push (replaced at.After-set_last) (split one) (prefix at.After-find_prefix) (parts at.After-find_split_numbers (starting_in one) (ending_in one) start end)
    (cleared_at at.After-set_last start end) kept_here.1 kept_here.2 in
    returns_by c.self.view_is is

pub invariant_of-self : goal.invariant_of-self
invariant_of-self c =
    let at = goal.at.invariant_of-self c in
    let one = at.After-last-extent in
    let start = start_read at.After-index-2 (within one).1 in
    let end = end_read at.After-index-2 (within one).0 in
    let kept_here = kept at.After-set_last in
    let is = after at.After-push (replaced at.After-set_last) (split one) (prefix at.After-find_prefix) (parts at.After-find_split_numbers (starting_in one) (ending_in one) start end)
    (cleared_at at.After-set_last start end) kept_here.1 kept_here.2 in
    let components = opened c.if-is_some.self-inside.letters.items c.if-is_some.self-inside.top.items c.if-is_some.self-inside.bottom.items c.push.new.self.items in
    let long = as_long at.After-set_last in
    let same = c.push.ensures.room ∙ room at.After-set_last in (
      subst (λ (d : ℕ). IsState (record { d = d; components = components })) (sym kept_here.0) is.state,
      is.place,
      subst (λ (n : ℕ). n ≤ c.push.new.self.room) (sym long) (subst (λ (n : ℕ). length c.self.inside.letters.items ≤ n) (sym same) c.self.invariant.2),
      kept_here.4 ∙ c.self.invariant.3 ∙ sym long,
      tt,
    )
