-- The lists before and after the merge, and what is computed of them.
use Rattle.std.proofs.Common.{◌≡◌, ◌<◌, ◌≤◌, ◌∷◌, ◌++◌, [], ℕ, true, List, IfErr, slice_set, slice_index_or, length, take, drop, get_or, sym, ap, ◌∙◌, subst, refl, arith}
use Rattle.std.proofs.lemmas.List.{get_or_default}
use Rattle.fs_lists.specs.Members.{IsIn}
use Rattle.fs_lists.proofs.Results.{at_exit}
use Rattle.fs_quadratic.proofs.Laws.{field_order}
use Rattle.fs_gluing.specs.Exchanges.{Letter}
use Rattle.fs_rauzy.specs.declared.events.Event.TheVariants.{Merged}
use Rattle.fs_rauzy.specs.Rule.{MergedNumbers, checked_merged, is_step}
use Rattle.fs_rauzy.specs.States.{StateValue}
use Rattle.fs_rauzy.specs.StatesInPlace.{no_letter, opened, AreLastNames}
use Rattle.fs_rauzy.specs.Steps.{AtCurrent, IsStoppedBy}
use Rattle.fs_rauzy.proofs.EventsInPlace.{IsEventInPlace, event_at, made_by, returns_by, place_at, last_at, x_in_bottom, written_whole}
use Rattle.fs_rauzy.proofs.LastInPlace.{AreLastInPlace}
use Rattle.fs_rauzy.proofs.MergedSteps.{popped, merge_stops, merge_made, merge_place_within}
use Rattle.fs_rauzy.proofs.WonSteps.{IsFoundAt}
use Rattle.fs_rauzy.proofs.states.State.merge.Goals as goal
use Rattle.fs_rauzy.proofs.states.State.merge.Goals.{After-last-extent, After-find_merged, After-set_last}

-- the last names, where the state keeps them
last : (c : After-last-extent) → AreLastInPlace (λ a b. a.length ≡ b.length) c.self.inside.letters.items c.self.inside.top.items c.self.inside.bottom.items c.last-extent.result c.args.x c.args.y
last c =
    last_at c.self.inside.letters.items c.self.inside.top.items c.self.inside.bottom.items c.last-extent.ensures.1 (λ a b. a.length ≡ b.length) c.args.x c.args.y c.self.invariant.1
    (subst (λ (v : StateValue). AtCurrent (λ k. AreLastNames k c.args.x c.args.y (λ a b. a.length ≡ b.length)) v.components) (sym c.self.view_is) c.requires.last)

pub index-requires : goal.index-requires
index-requires c = subst (λ n. c.args.y < n) (sym c.self.inside.letters.ok.0) (last (goal.at.index-requires c).After-last-extent).y_inside

pub index-requires-2 : goal.index-requires-2
index-requires-2 c = subst (λ n. c.args.x < n) (sym c.self.inside.letters.ok.0) (last (goal.at.index-requires-2 c).After-last-extent).x_inside

pub index-requires-3 : goal.index-requires-3
index-requires-3 c = subst (λ n. c.args.y < n) (sym c.self.inside.letters.ok.0) (last (goal.at.index-requires-3 c).After-last-extent).y_inside

-- the numbers that are computed are those of the letters at the names
computed : (c : After-find_merged) → AreLastInPlace (λ a b. a.length ≡ b.length) c.self.inside.letters.items c.self.inside.top.items c.self.inside.bottom.items c.last-extent.result c.args.x c.args.y
    → let letters = c.self.inside.letters.items in c.find_merged.result ≡ checked_merged (get_or letters c.args.x no_letter) (get_or letters c.args.y no_letter) c.last-extent.result.total
computed c there =
    let letters = c.self.inside.letters.items in
    let x = c.index-2.ensures ∙ get_or_default letters c.args.x c.index-2.result.now no_letter there.x_inside in
    let y = c.index-3.ensures ∙ get_or_default letters c.args.y c.index-3.result.now no_letter there.y_inside in
    c.find_merged.ensures ∙ (λ i. checked_merged (x i) (y i) c.last-extent.result.total)

pub returns-in_err-numbers-clause-stops : goal.returns-in_err-numbers-clause-stops
returns-in_err-numbers-clause-stops c =
    let there = last (goal.at.returns-in_err-numbers-clause-stops c).After-last-extent in
    let fails = sym (computed (goal.at.returns-in_err-numbers-clause-stops c).After-find_merged there) ∙ c.in_err-numbers.was in
    at_exit (λ r. IfErr r (λ stop. IsStoppedBy c.args.self.now.d (λ event. is_step event ≡ true) c.args.self.now.components stop)) c.from_residual.result c.in_err-numbers.field-0.0
    c.from_residual.ensures.1
    (subst (λ (v : StateValue). IsStoppedBy v.d (λ event. is_step event ≡ true) v.components c.in_err-numbers.field-0.0) c.self.view_is
    (merge_stops (field_order c.self.inside.field.radicand) c.last-extent.ensures.1 c.self.invariant.1 c.self.invariant.0 c.args.x c.args.y there c.in_err-numbers.field-0.0 fails))

pub find_name-place-requires : goal.find_name-place-requires
find_name-place-requires c =
    subst (IsIn c.args.x) (sym c.deref.ensures.value)
    (x_in_bottom c.self.inside.letters.items c.self.inside.top.items c.self.inside.bottom.items c.last-extent.ensures.1 c.self.invariant.1 c.self.invariant.0
    (last (goal.at.find_name-place-requires c).After-last-extent))

pub write_merged-requires-clause-x : goal.write_merged-requires-clause-x
write_merged-requires-clause-x c =
    subst (λ (ls : List Letter). c.args.x < length ls) (sym c.deref_mut.ensures.value) (last (goal.at.write_merged-requires-clause-x c).After-last-extent).x_inside

pub write_merged-requires-clause-y : goal.write_merged-requires-clause-y
write_merged-requires-clause-y c =
    subst (λ (ls : List Letter). c.args.y < length ls) (sym c.deref_mut.ensures.value) (last (goal.at.write_merged-requires-clause-y c).After-last-extent).y_inside

pub put_last_at-requires : goal.put_last_at-requires
put_last_at-requires c =
    merge_place_within (field_order c.self.inside.field.radicand) c.last-extent.ensures.1 c.self.invariant.1 c.self.invariant.0 c.args.x c.args.y
    (last (goal.at.put_last_at-requires c).After-last-extent) c.find_name-place.result
    (subst (λ (row : List ℕ). IsFoundAt row c.args.x c.find_name-place.result) c.deref.ensures.value c.find_name-place.ensures)

-- the letters are written whole
whole : (c : After-set_last) → take c.self.inside.letters.len (c.write_merged.new.letters ++ drop (length c.write_merged.new.letters) c.self.inside.letters.items) ≡ c.write_merged.new.letters
whole c =
    written_whole c.self.inside.letters.len c.write_merged.new.letters c.self.inside.letters.items
    (c.self.inside.letters.ok.0 ∙ sym (ap length c.deref_mut.ensures.value) ∙ sym c.write_merged.auto.letters)

-- the top row loses its last name
shorter : (c : After-set_last) → (z : ℕ) × (c.self.inside.top.items ≡ c.pop.new.self.items ++ z ∷ [])
shorter c =
    let begins : c.last-extent.result.first < length c.self.inside.top.items =
    (place_at c.self.inside.letters.items c.self.inside.top.items c.self.inside.bottom.items c.last-extent.ensures.1 c.self.invariant.1).laid.0 in
    let long = c.self.inside.top.ok.0 in
    popped c.self.inside.top.items c.pop.new.self.items c.pop.result c.pop.ensures.items (c.pop.ensures.variant.1 (omega arith))

-- the lists after the event
after : (c : After-set_last) → AreLastInPlace (λ a b. a.length ≡ b.length) c.self.inside.letters.items c.self.inside.top.items c.self.inside.bottom.items c.last-extent.result c.args.x c.args.y
    → let letters = c.self.inside.letters.items in
    c.find_merged.result ≡ checked_merged (get_or letters c.args.x no_letter) (get_or letters c.args.y no_letter) c.last-extent.result.total
    → IsEventInPlace (record { d = c.self.inside.field.d; components = opened letters c.self.inside.top.items c.self.inside.bottom.items c.self.inside.extents.items })
    (Merged c.numbers.inside.found) c.behind-self.inside.length (take c.self.inside.letters.len (c.write_merged.new.letters ++ drop (length c.write_merged.new.letters) letters))
    c.pop.new.self.items c.put_last_at.new.row.items c.set_last.new.self.items
after c there is =
    let letters = c.self.inside.letters.items in
    let numbers = c.in_ok-numbers.numbers in
    let a = get_or letters c.args.x no_letter in
    let written = λ (ls : List Letter). slice_set ls c.args.y (record (slice_index_or ls c.args.y no_letter) {
      back = numbers.back;
      corner = (slice_index_or ls c.args.x no_letter).corner;
      start = (slice_index_or ls c.args.x no_letter).start;
    }) in
    let noted = ap (λ (l : Letter). l.length) (c.behind-self.view_is ∙ c.index.ensures ∙ get_or_default letters c.args.y c.index.result.now no_letter there.y_inside) in
    let top = shorter c in
    subst (λ found. IsEventInPlace (record { d = c.self.inside.field.d; components = opened letters c.self.inside.top.items c.self.inside.bottom.items c.self.inside.extents.items })
    (Merged found) c.behind-self.inside.length (take c.self.inside.letters.len (c.write_merged.new.letters ++ drop (length c.write_merged.new.letters) letters))
    c.pop.new.self.items c.put_last_at.new.row.items c.set_last.new.self.items) (sym (ap (λ (n : MergedNumbers). n.found) c.numbers.view_is))
    (event_at noted refl refl refl refl
    (merge_made (field_order c.self.inside.field.radicand) c.last-extent.ensures.1 c.self.invariant.1 c.self.invariant.0 c.args.x c.args.y there numbers (sym is ∙ c.in_ok-numbers.was)
    c.find_name-place.result (subst (λ (row : List ℕ). IsFoundAt row c.args.x c.find_name-place.result) c.deref.ensures.value c.find_name-place.ensures)
    (take c.self.inside.letters.len (c.write_merged.new.letters ++ drop (length c.write_merged.new.letters) letters))
    (whole c ∙ c.write_merged.ensures ∙ ap written c.deref_mut.ensures.value)
    c.pop.new.self.items top.0 top.1 c.put_last_at.new.row.items c.put_last_at.ensures
    c.set_last.new.self.items
    (c.set_last.ensures.items c.last-extent.result c.last-extent.ensures.0 c.last-extent.ensures.1
    ∙ ap (λ (n : MergedNumbers). record c.last-extent.result { total = n.total } ∷ c.last-extent.ensures.0) c.numbers.view_is)))

pub returns-clause-made : goal.returns-clause-made
returns-clause-made c =
    let at = goal.at.returns-clause-made c in
    let there = last at.After-last-extent in
    made_by c.self.view_is refl (after at.After-set_last there (computed at.After-find_merged there))

pub returns-clause-returns : goal.returns-clause-returns
returns-clause-returns c =
    let at = goal.at.returns-clause-returns c in
    let there = last at.After-last-extent in
    returns_by c.self.view_is (after at.After-set_last there (computed at.After-find_merged there))

pub invariant_of-self : goal.invariant_of-self
invariant_of-self c =
    let at = goal.at.invariant_of-self c in
    let there = last at.After-last-extent in
    let is = after at.After-set_last there (computed at.After-find_merged there) in
    let long = ap length (whole at.After-set_last) ∙ c.write_merged.auto.letters ∙ ap length c.deref_mut.ensures.value in
    let room = c.self.invariant.2 in
    let same = c.set_last.ensures.room in
    (is.state, is.place, subst (λ (n : ℕ). n ≤ c.set_last.new.self.room) (sym long) (subst (λ (n : ℕ). length c.self.inside.letters.items ≤ n) (sym same) room), c.self.invariant.3 ∙ sym long, tt)
