-- The rows of both current components are compared, and then their lengths.
use Rattle.std.proofs.Common.{Ok, false, refl, sym, ap, ◌∙◌}
use Rattle.fs_rauzy.specs.Comparisons.{checked_proportion}
use Rattle.fs_rauzy.specs.States.{StateValue}
use Rattle.fs_rauzy.specs.StatesInPlace.{letters_at}
use Rattle.fs_rauzy.proofs.ComparedRows.{IsCurrent, refuted, other_tops, other_bottoms, equal_compared, alike_at_both, within_now, same_within}
use Rattle.fs_rauzy.proofs.SearchedRows.{row_slice}
use Rattle.fs_rauzy.proofs.states.State.same_shape.Goals as goal

pub returns-then-not-are_same-clause-comparison : goal.returns-then-not-are_same-clause-comparison
returns-then-not-are_same-clause-comparison c =
    let x = c.self.inside in
    let y = c.other.inside in
    let after : IsCurrent x.letters.items x.top.items x.bottom.items c.last-now.result c.args.self.now.components =
    record { extents = x.extents.items; rest = c.last-now.ensures.0; now = c.last-now.ensures.1; in_place = c.self.invariant.1; is = ap (λ (v : StateValue). v.components) c.self.view_is } in
    let before : IsCurrent y.letters.items y.top.items y.bottom.items c.last-before.result c.args.other.now.components =
    record { extents = y.extents.items; rest = c.last-before.ensures.0; now = c.last-before.ensures.1; in_place = c.other.invariant.1; is = ap (λ (v : StateValue). v.components) c.other.view_is } in
    let top = row_slice c.deref.result.now x.top.items c.last-now.result.first c.deref.ensures.value in
    let old_top = row_slice c.deref-2.result.now y.top.items c.last-before.result.first c.deref-2.ensures.value in
    other_tops before after c.args.self.now.d (λ same. refuted c.are_same.result c.if-not-are_same.true c.are_same.ensures (top ∙ same ∙ sym old_top))

pub returns-then-not-are_same-clause-alike : goal.returns-then-not-are_same-clause-alike
returns-then-not-are_same-clause-alike c = alike_at_both c.args.self.now.d (Ok false) _ _ (returns-then-not-are_same-clause-comparison c)

pub returns-then-not-are_same-2-clause-comparison : goal.returns-then-not-are_same-2-clause-comparison
returns-then-not-are_same-2-clause-comparison c =
    let x = c.self.inside in
    let y = c.other.inside in
    let after : IsCurrent x.letters.items x.top.items x.bottom.items c.last-now.result c.args.self.now.components =
    record { extents = x.extents.items; rest = c.last-now.ensures.0; now = c.last-now.ensures.1; in_place = c.self.invariant.1; is = ap (λ (v : StateValue). v.components) c.self.view_is } in
    let before : IsCurrent y.letters.items y.top.items y.bottom.items c.last-before.result c.args.other.now.components =
    record { extents = y.extents.items; rest = c.last-before.ensures.0; now = c.last-before.ensures.1; in_place = c.other.invariant.1; is = ap (λ (v : StateValue). v.components) c.other.view_is } in
    let top = row_slice c.deref.result.now x.top.items c.last-now.result.first c.deref.ensures.value in
    let old_top = row_slice c.deref-2.result.now y.top.items c.last-before.result.first c.deref-2.ensures.value in
    let bottom = row_slice c.deref-3.result.now x.bottom.items c.last-now.result.first c.deref-3.ensures.value in
    let old_bottom = row_slice c.deref-4.result.now y.bottom.items c.last-before.result.first c.deref-4.ensures.value in
    other_bottoms before after c.args.self.now.d (λ same. refuted c.are_same-2.result c.if-not-are_same-2.true c.are_same-2.ensures (bottom ∙ same ∙ sym old_bottom))

pub returns-then-not-are_same-2-clause-alike : goal.returns-then-not-are_same-2-clause-alike
returns-then-not-are_same-2-clause-alike c = alike_at_both c.args.self.now.d (Ok false) _ _ (returns-then-not-are_same-2-clause-comparison c)

pub is_proportional-requires-clause-before : goal.is_proportional-requires-clause-before
is_proportional-requires-clause-before c =
    let x = c.self.inside in
    let y = c.other.inside in
    let after : IsCurrent x.letters.items x.top.items x.bottom.items c.last-now.result c.args.self.now.components =
    record { extents = x.extents.items; rest = c.last-now.ensures.0; now = c.last-now.ensures.1; in_place = c.self.invariant.1; is = ap (λ (v : StateValue). v.components) c.self.view_is } in
    let before : IsCurrent y.letters.items y.top.items y.bottom.items c.last-before.result c.args.other.now.components =
    record { extents = y.extents.items; rest = c.last-before.ensures.0; now = c.last-before.ensures.1; in_place = c.other.invariant.1; is = ap (λ (v : StateValue). v.components) c.other.view_is } in
    let top = row_slice c.deref.result.now x.top.items c.last-now.result.first c.deref.ensures.value in
    let old_top = row_slice c.deref-2.result.now y.top.items c.last-before.result.first c.deref-2.ensures.value in
    same_within c.deref-5.ensures.value (c.if-not-are_same.ensures.0 refl ∙ old_top) (within_now before)

pub is_proportional-requires-clause-after : goal.is_proportional-requires-clause-after
is_proportional-requires-clause-after c =
    let x = c.self.inside in
    let y = c.other.inside in
    let after : IsCurrent x.letters.items x.top.items x.bottom.items c.last-now.result c.args.self.now.components =
    record { extents = x.extents.items; rest = c.last-now.ensures.0; now = c.last-now.ensures.1; in_place = c.self.invariant.1; is = ap (λ (v : StateValue). v.components) c.self.view_is } in
    let before : IsCurrent y.letters.items y.top.items y.bottom.items c.last-before.result c.args.other.now.components =
    record { extents = y.extents.items; rest = c.last-before.ensures.0; now = c.last-before.ensures.1; in_place = c.other.invariant.1; is = ap (λ (v : StateValue). v.components) c.other.view_is } in
    let top = row_slice c.deref.result.now x.top.items c.last-now.result.first c.deref.ensures.value in
    let old_top = row_slice c.deref-2.result.now y.top.items c.last-before.result.first c.deref-2.ensures.value in
    same_within c.deref-6.ensures.value top (within_now after)

pub returns-clause-comparison : goal.returns-clause-comparison
returns-clause-comparison c =
    let x = c.self.inside in
    let y = c.other.inside in
    let after : IsCurrent x.letters.items x.top.items x.bottom.items c.last-now.result c.args.self.now.components =
    record { extents = x.extents.items; rest = c.last-now.ensures.0; now = c.last-now.ensures.1; in_place = c.self.invariant.1; is = ap (λ (v : StateValue). v.components) c.self.view_is } in
    let before : IsCurrent y.letters.items y.top.items y.bottom.items c.last-before.result c.args.other.now.components =
    record { extents = y.extents.items; rest = c.last-before.ensures.0; now = c.last-before.ensures.1; in_place = c.other.invariant.1; is = ap (λ (v : StateValue). v.components) c.other.view_is } in
    let top = row_slice c.deref.result.now x.top.items c.last-now.result.first c.deref.ensures.value in
    let old_top = row_slice c.deref-2.result.now y.top.items c.last-before.result.first c.deref-2.ensures.value in
    let bottom = row_slice c.deref-3.result.now x.bottom.items c.last-now.result.first c.deref-3.ensures.value in
    let old_bottom = row_slice c.deref-4.result.now y.bottom.items c.last-before.result.first c.deref-4.ensures.value in
    equal_compared before after c.args.self.now.d c.is_proportional.result
    (sym top ∙ c.if-not-are_same.ensures.0 refl ∙ old_top)
    (sym bottom ∙ c.if-not-are_same-2.ensures.0 refl ∙ old_bottom)
    (c.is_proportional.ensures ∙ (λ i. checked_proportion (ap (λ (v : StateValue). v.d) c.self.view_is i) c.last-before.result.total c.last-now.result.total 0
    (letters_at (c.deref-5.ensures.value i) (top i)) (letters_at (c.deref-6.ensures.value i) (top i))))

pub returns-clause-alike : goal.returns-clause-alike
returns-clause-alike c = alike_at_both c.args.self.now.d c.is_proportional.result _ _ (returns-clause-comparison c)
