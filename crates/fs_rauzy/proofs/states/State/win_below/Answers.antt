-- The lists before and after the comparison, and what is computed of them.
use Rattle.std.proofs.Common.{rules, ◌≡◌, ◌<◌, ◌≤◌, ◌∷◌, ◌++◌, ℕ, ◌+◌, true, false, List, IfErr, slice_set, slice_index_or, length, take, drop, get_or, sym, ap, ◌∙◌, subst, refl}
use Rattle.std.proofs.lemmas.List.{get_or_default}
use Rattle.fs_lists.specs.Members.{IsIn}
use Rattle.fs_lists.proofs.Results.{at_exit}
use Rattle.fs_quadratic.specs.Ring.{IsLess}
use Rattle.fs_quadratic.proofs.Laws.{field_order}
use Rattle.fs_gluing.specs.Exchanges.{Letter}
use Rattle.fs_rauzy.specs.declared.events.Event.TheVariants.{Won}
use Rattle.fs_rauzy.specs.Rule.{WonNumbers, checked_won, is_step}
use Rattle.fs_rauzy.specs.States.{StateValue}
use Rattle.fs_rauzy.specs.StatesInPlace.{no_letter, opened, AreLastNames}
use Rattle.fs_rauzy.specs.Steps.{AtCurrent, IsStoppedBy}
use Rattle.fs_rauzy.proofs.EventsInPlace.{IsEventInPlace, event_at, made_by, returns_by, last_at, y_in_top, written_whole}
use Rattle.fs_rauzy.proofs.LastInPlace.{AreLastInPlace}
use Rattle.fs_rauzy.proofs.WonSteps.{IsFoundAt, won_below_stops, won_below_made, won_below_place_within, won_searched}
use Rattle.fs_rauzy.proofs.states.State.win_below.Goals as goal
use Rattle.fs_rauzy.proofs.states.State.win_below.Goals.{After-last-extent, After-find_won, After-set_total}

-- the last names, where the state keeps them
last : (c : After-last-extent) → AreLastInPlace (λ a b. IsLess c.self.inside.field.d a.length b.length) c.self.inside.letters.items c.self.inside.top.items c.self.inside.bottom.items
    c.last-extent.result c.args.x c.args.y
last c =
    last_at c.self.inside.letters.items c.self.inside.top.items c.self.inside.bottom.items c.last-extent.ensures.1 (λ a b. IsLess c.self.inside.field.d a.length b.length) c.args.x c.args.y
    c.self.invariant.1
    (subst (λ (v : StateValue). AtCurrent (λ k. AreLastNames k c.args.x c.args.y (λ a b. IsLess v.d a.length b.length)) v.components) (sym c.self.view_is) c.requires.last)

pub index-winner-requires : goal.index-winner-requires
index-winner-requires c = subst (λ n. c.args.y < n) (sym c.self.inside.letters.ok.0) (last (goal.at.index-winner-requires c).After-last-extent).y_inside

pub index-loser-requires : goal.index-loser-requires
index-loser-requires c = subst (λ n. c.args.x < n) (sym c.self.inside.letters.ok.0) (last (goal.at.index-loser-requires c).After-last-extent).x_inside

-- the numbers that are computed are those of the letters at the names
computed : (c : After-find_won) → AreLastInPlace (λ a b. IsLess c.self.inside.field.d a.length b.length) c.self.inside.letters.items c.self.inside.top.items c.self.inside.bottom.items
    c.last-extent.result c.args.x c.args.y → let letters = c.self.inside.letters.items in
    c.find_won.result ≡ checked_won (get_or letters c.args.y no_letter) (get_or letters c.args.x no_letter) c.last-extent.result.total (get_or letters c.args.x no_letter).end.vector
computed c there =
    let letters = c.self.inside.letters.items in
    let winner = c.index-winner.ensures ∙ get_or_default letters c.args.y c.index-winner.result.now no_letter there.y_inside in
    let loser = c.index-loser.ensures ∙ get_or_default letters c.args.x c.index-loser.result.now no_letter there.x_inside in
    let read : c.find_won.result ≡ checked_won c.index-winner.result.now c.index-loser.result.now c.last-extent.result.total c.index-loser.result.now.end.vector = search rules in
    read ∙ (λ i. checked_won (winner i) (loser i) c.last-extent.result.total (loser i).end.vector)

pub returns-in_err-numbers-clause-stops : goal.returns-in_err-numbers-clause-stops
returns-in_err-numbers-clause-stops c =
    let there = last (goal.at.returns-in_err-numbers-clause-stops c).After-last-extent in
    let fails = sym (computed (goal.at.returns-in_err-numbers-clause-stops c).After-find_won there) ∙ c.in_err-numbers.was in
    at_exit (λ r. IfErr r (λ stop. IsStoppedBy c.args.self.now.d (λ event. is_step event ≡ true) c.args.self.now.components stop)) c.from_residual.result c.in_err-numbers.field-0.0
    c.from_residual.ensures.1
    (subst (λ (v : StateValue). IsStoppedBy v.d (λ event. is_step event ≡ true) v.components c.in_err-numbers.field-0.0) c.self.view_is
    (won_below_stops (field_order c.self.inside.field.radicand) c.last-extent.ensures.1 c.self.invariant.1 c.self.invariant.0 c.args.x c.args.y there c.in_err-numbers.field-0.0 fails))

pub find_name-place-requires : goal.find_name-place-requires
find_name-place-requires c =
    subst (IsIn c.args.y) (sym c.deref.ensures.value)
    (y_in_top c.self.inside.letters.items c.self.inside.top.items c.self.inside.bottom.items c.last-extent.ensures.1 (last (goal.at.find_name-place-requires c).After-last-extent))

pub write_won_below-requires-clause-winner : goal.write_won_below-requires-clause-winner
write_won_below-requires-clause-winner c =
    subst (λ (ls : List Letter). c.args.y < length ls) (sym c.deref_mut.ensures.value) (last (goal.at.write_won_below-requires-clause-winner c).After-last-extent).y_inside

pub write_won_below-requires-clause-loser : goal.write_won_below-requires-clause-loser
write_won_below-requires-clause-loser c =
    subst (λ (ls : List Letter). c.args.x < length ls) (sym c.deref_mut.ensures.value) (last (goal.at.write_won_below-requires-clause-loser c).After-last-extent).x_inside

pub move_last_behind-requires : goal.move_last_behind-requires
move_last_behind-requires c =
    subst (λ (row : List ℕ). c.find_name-place.result + 1 < length row) (sym c.deref_mut-2.ensures.value)
    (won_below_place_within (field_order c.self.inside.field.radicand) c.last-extent.ensures.1 c.self.invariant.1 c.self.invariant.0 c.args.x c.args.y
    (last (goal.at.move_last_behind-requires c).After-last-extent) c.find_name-place.result
    (subst (λ (row : List ℕ). IsFoundAt row c.args.y c.find_name-place.result) c.deref.ensures.value c.find_name-place.ensures))

-- the letters are written whole
whole : (c : After-set_total) → take c.self.inside.letters.len (c.write_won_below.new.letters ++ drop (length c.write_won_below.new.letters) c.self.inside.letters.items) ≡ c.write_won_below.new.letters
whole c =
    written_whole c.self.inside.letters.len c.write_won_below.new.letters c.self.inside.letters.items
    (c.self.inside.letters.ok.0 ∙ sym (ap length c.deref_mut.ensures.value) ∙ sym c.write_won_below.auto.letters)

-- the lists after the event
after : (c : After-set_total) → AreLastInPlace (λ a b. IsLess c.self.inside.field.d a.length b.length) c.self.inside.letters.items c.self.inside.top.items c.self.inside.bottom.items
    c.last-extent.result c.args.x c.args.y → let letters = c.self.inside.letters.items in
    c.find_won.result ≡ checked_won (get_or letters c.args.y no_letter) (get_or letters c.args.x no_letter) c.last-extent.result.total (get_or letters c.args.x no_letter).end.vector
    → IsEventInPlace (record { d = c.self.inside.field.d; components = opened letters c.self.inside.top.items c.self.inside.bottom.items c.self.inside.extents.items })
    (Won false) c.numbers.inside.length (take c.self.inside.letters.len (c.write_won_below.new.letters ++ drop (length c.write_won_below.new.letters) letters))
    (take c.self.inside.top.len (c.move_last_behind.new.row ++ drop (length c.move_last_behind.new.row) c.self.inside.top.items)) c.self.inside.bottom.items c.set_total.new.self.items
after c there is =
    let letters = c.self.inside.letters.items in
    let numbers = c.in_ok-numbers.numbers in
    let written = λ (ls : List Letter). slice_set (slice_set ls c.args.y (record (slice_index_or ls c.args.y no_letter) { length = numbers.length })) c.args.x
    (record (slice_index_or ls c.args.x no_letter) { back = numbers.back; end = record (slice_index_or ls c.args.x no_letter).end { vector = numbers.vector } }) in
    event_at (ap (λ (n : WonNumbers). n.length) c.numbers.view_is) refl refl refl refl
    (won_below_made (field_order c.self.inside.field.radicand) c.last-extent.ensures.1 c.self.invariant.1 c.self.invariant.0 c.args.x c.args.y there numbers (sym is ∙ c.in_ok-numbers.was)
    c.find_name-place.result (subst (λ (row : List ℕ). IsFoundAt row c.args.y c.find_name-place.result) c.deref.ensures.value c.find_name-place.ensures)
    (take c.self.inside.letters.len (c.write_won_below.new.letters ++ drop (length c.write_won_below.new.letters) letters))
    (whole c ∙ c.write_won_below.ensures ∙ ap written c.deref_mut.ensures.value)
    (take c.self.inside.top.len (c.move_last_behind.new.row ++ drop (length c.move_last_behind.new.row) c.self.inside.top.items))
    (λ left right winner loser long was.
    written_whole c.self.inside.top.len c.move_last_behind.new.row c.self.inside.top.items
    (c.self.inside.top.ok.0 ∙ sym (ap length c.deref_mut-2.ensures.value) ∙ sym c.move_last_behind.auto.row)
    ∙ c.move_last_behind.ensures left right winner loser long (c.deref_mut-2.ensures.value ∙ was))
    c.set_total.new.self.items
    (c.set_total.ensures.items c.last-extent.result c.last-extent.ensures.0 c.last-extent.ensures.1
    ∙ ap (λ (n : WonNumbers). record c.last-extent.result { total = n.total } ∷ c.last-extent.ensures.0) c.numbers.view_is))

pub returns-clause-made : goal.returns-clause-made
returns-clause-made c =
    let at = goal.at.returns-clause-made c in
    let there = last at.After-last-extent in
    made_by c.self.view_is refl (after at.After-set_total there (computed at.After-find_won there))

pub returns-clause-returns : goal.returns-clause-returns
returns-clause-returns c =
    let at = goal.at.returns-clause-returns c in
    let there = last at.After-last-extent in
    returns_by c.self.view_is (after at.After-set_total there (computed at.After-find_won there))

pub invariant_of-self : goal.invariant_of-self
invariant_of-self c =
    let at = goal.at.invariant_of-self c in
    let there = last at.After-last-extent in
    let is = after at.After-set_total there (computed at.After-find_won there) in
    let long = ap length (whole at.After-set_total) ∙ c.write_won_below.auto.letters ∙ ap length c.deref_mut.ensures.value in
    let room = c.self.invariant.2 in
    let same = c.set_total.ensures.room in (
      is.state,
      is.place,
      subst (λ (n : ℕ). n ≤ c.set_total.new.self.room) (sym long) (subst (λ (n : ℕ). length c.self.inside.letters.items ≤ n) (sym same) room),
      c.self.invariant.3 ∙ sym long,
      won_searched (field_order c.self.inside.field.radicand) c.self.inside.searched c.self.invariant.0.lawful is.made c.self.invariant.4,
    )
