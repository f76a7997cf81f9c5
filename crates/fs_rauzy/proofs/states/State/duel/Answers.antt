-- What is read are the last names of the current component, and the comparison of their lengths says which call comes next.
use Rattle.std.proofs.Common.{◌≡◌, ◌<◌, ℕ, length, get_or, sym, ap, ◌∙◌, subst, arith}
use Rattle.std.proofs.lemmas.List.{get_or_default}
use Rattle.fs_quadratic.specs.Ring.{Quadratic, IsLess}
use Rattle.fs_quadratic.proofs.Laws.{field_order}
use Rattle.fs_gluing.specs.Exchanges.{Letter}
use Rattle.fs_rauzy.specs.States.{StateValue}
use Rattle.fs_rauzy.specs.StatesInPlace.{no_letter, opened, AreLastNames}
use Rattle.fs_rauzy.specs.Steps.{AtCurrent, CanCompare}
use Rattle.fs_rauzy.proofs.EventNumbers.{equal_lengths}
use Rattle.fs_rauzy.proofs.LastReads.{rows_some, last_inside, last_letters_read}
use Rattle.fs_rauzy.proofs.states.State.duel.Goals as goal
use Rattle.fs_rauzy.proofs.states.State.duel.Goals.{After-len, After-index-y, After-compare_lengths}

-- the last letters differ, as the state keeps them
can : (c : After-len) → AtCurrent CanCompare (opened c.self.inside.letters.items c.self.inside.top.items c.self.inside.bottom.items c.self.inside.extents.items)
can c = subst (λ (v : StateValue). AtCurrent CanCompare v.components) (sym c.self.view_is) c.requires.last

pub overflow_sub-len : goal.overflow_sub-len
overflow_sub-len c =
    let some = (rows_some c.self.invariant.1 (can (goal.at.overflow_sub-len c).After-len)).0 in let long = c.len.ensures in let own = c.self.inside.top.ok.0 in omega arith

pub index-x-requires : goal.index-x-requires
index-x-requires c =
    let some = (rows_some c.self.invariant.1 (can (goal.at.index-x-requires c).After-len)).0 in let long = c.len.ensures in let own = c.self.inside.top.ok.0 in omega arith

pub overflow_sub-len-2 : goal.overflow_sub-len-2
overflow_sub-len-2 c =
    let some = (rows_some c.self.invariant.1 (can (goal.at.overflow_sub-len-2 c).After-len)).1 in let long = c.len-2.ensures in let own = c.self.inside.bottom.ok.0 in omega arith

pub index-y-requires : goal.index-y-requires
index-y-requires c =
    let some = (rows_some c.self.invariant.1 (can (goal.at.index-y-requires c).After-len)).1 in let long = c.len-2.ensures in let own = c.self.inside.bottom.ok.0 in omega arith

-- the names that are read are those of letters
inside : (c : After-index-y) → AtCurrent CanCompare (opened c.self.inside.letters.items c.self.inside.top.items c.self.inside.bottom.items c.self.inside.extents.items)
    → (c.index-x.result.now < length c.self.inside.letters.items) × (c.index-y.result.now < length c.self.inside.letters.items)
inside c h =
    last_inside c.self.invariant.1 h c.index-x.result.now c.index-y.result.now c.len.result c.len-2.result (c.len.ensures ∙ c.self.inside.top.ok.0) (c.len-2.ensures ∙ c.self.inside.bottom.ok.0)
    c.index-x.ensures c.index-y.ensures

pub index-requires : goal.index-requires
index-requires c =
    let at = goal.at.index-requires c in
    subst (λ (n : ℕ). c.index-x.result.now < n) (sym c.self.inside.letters.ok.0) (inside at.After-index-y (can at.After-len)).0

pub index-requires-2 : goal.index-requires-2
index-requires-2 c =
    let at = goal.at.index-requires-2 c in
    subst (λ (n : ℕ). c.index-y.result.now < n) (sym c.self.inside.letters.ok.0) (inside at.After-index-y (can at.After-len)).1

-- what holds of the letters at the names holds of the last letters
named : (c : After-index-y) → AtCurrent CanCompare (opened c.self.inside.letters.items c.self.inside.top.items c.self.inside.bottom.items c.self.inside.extents.items)
    → (R : ℕ → Letter → Letter → Type 0)
    → R c.self.inside.field.d (get_or c.self.inside.letters.items c.index-x.result.now no_letter) (get_or c.self.inside.letters.items c.index-y.result.now no_letter)
    → AtCurrent (λ k. AreLastNames k c.index-x.result.now c.index-y.result.now (R c.args.self.now.d)) c.args.self.now.components
named c h R r =
    subst (λ (v : StateValue). AtCurrent (λ k. AreLastNames k c.index-x.result.now c.index-y.result.now (R v.d)) v.components) c.self.view_is
    (last_letters_read c.self.invariant.1 h c.index-x.result.now c.index-y.result.now c.len.result c.len-2.result (c.len.ensures ∙ c.self.inside.top.ok.0) (c.len-2.ensures ∙ c.self.inside.bottom.ok.0)
    c.index-x.ensures c.index-y.ensures (R c.self.inside.field.d) r)

-- the lengths that are compared are theirs
above : (c : After-compare_lengths) → c.index-x.result.now < length c.self.inside.letters.items → c.behind-self.inside.length ≡ (get_or c.self.inside.letters.items c.index-x.result.now no_letter).length
above c l = ap (λ (k : Letter). k.length) (c.behind-self.view_is ∙ c.index.ensures ∙ get_or_default c.self.inside.letters.items c.index-x.result.now c.index.result.now no_letter l)

below : (c : After-compare_lengths) → c.index-y.result.now < length c.self.inside.letters.items → c.behind-self-2.inside.length ≡ (get_or c.self.inside.letters.items c.index-y.result.now no_letter).length
below c l = ap (λ (k : Letter). k.length) (c.behind-self-2.view_is ∙ c.index-2.ensures ∙ get_or_default c.self.inside.letters.items c.index-y.result.now c.index-2.result.now no_letter l)

pub win_above-requires : goal.win_above-requires
win_above-requires c =
    let at = goal.at.win_above-requires c in
    let h = can at.After-len in
    let there = inside at.After-index-y h in
    record {
      last = named at.After-index-y h (λ d a b. IsLess d b.length a.length)
          (subst (λ (p : Quadratic). IsLess c.self.inside.field.d p (get_or c.self.inside.letters.items c.index-x.result.now no_letter).length) (below at.After-compare_lengths there.1)
          (subst (λ (q : Quadratic). IsLess c.self.inside.field.d c.behind-self-2.inside.length q) (above at.After-compare_lengths there.0) (c.compare_lengths.ensures.greater.0 c.in-Greater.is)));
    }

pub win_below-requires : goal.win_below-requires
win_below-requires c =
    let at = goal.at.win_below-requires c in
    let h = can at.After-len in
    let there = inside at.After-index-y h in
    record {
      last = named at.After-index-y h (λ d a b. IsLess d a.length b.length)
          (subst (λ (p : Quadratic). IsLess c.self.inside.field.d p (get_or c.self.inside.letters.items c.index-y.result.now no_letter).length) (above at.After-compare_lengths there.0)
          (subst (λ (q : Quadratic). IsLess c.self.inside.field.d c.behind-self.inside.length q) (below at.After-compare_lengths there.1) (c.compare_lengths.ensures.less.0 c.in-Less.is)));
    }

pub merge-requires : goal.merge-requires
merge-requires c =
    let at = goal.at.merge-requires c in
    let h = can at.After-len in
    let there = inside at.After-index-y h in
    record {
      last = named at.After-index-y h (λ d a b. a.length ≡ b.length)
          (sym (above at.After-compare_lengths there.0)
          ∙ equal_lengths (field_order c.self.inside.field.radicand) c.behind-self.inside.length c.behind-self-2.inside.length c.compare_lengths.result c.in-Equal.is c.compare_lengths.ensures.greater c.compare_lengths.ensures.less
          ∙ below at.After-compare_lengths there.1);
    }
