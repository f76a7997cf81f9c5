-- The lengths of the current component and of the checkpoint are compared, and then their rows.
use Rattle.std.proofs.Common.{Ok, false, List, cond, length, sym, ap, ◌∙◌, subst}
use Rattle.fs_gluing.specs.Exchanges.{Letter}
use Rattle.fs_rauzy.specs.Comparisons.{IsComparison, checked_proportion}
use Rattle.fs_rauzy.specs.Runs.{Checkpoint}
use Rattle.fs_rauzy.specs.States.{StateValue}
use Rattle.fs_rauzy.specs.StatesInPlace.{letters_at}
use Rattle.fs_rauzy.specs.Steps.{AtCurrent}
use Rattle.fs_rauzy.proofs.ComparedRows.{IsCurrent, saved_top_differs, saved_not_in_proportion, saved_in_proportion, saved_compared, as_many_named, within_now, same_within}
use Rattle.fs_rauzy.proofs.SearchedRows.{row_slice}
use Rattle.fs_rauzy.proofs.states.State.is_like.Goals as goal

pub returns-then-letters-top : goal.returns-then-letters-top
returns-then-letters-top c =
    let x = c.self.inside in
    let after : IsCurrent x.letters.items x.top.items x.bottom.items c.last-now.result c.args.self.now.components =
    record { extents = x.extents.items; rest = c.last-now.ensures.0; now = c.last-now.ensures.1; in_place = c.self.invariant.1; is = ap (λ (v : StateValue). v.components) c.self.view_is } in
    let top = row_slice c.deref.result.now x.top.items c.last-now.result.first c.deref.ensures.value in
    saved_top_differs c.args.saved.now.component after c.args.self.now.d
    (λ same. c.if-letters-top.true (ap (λ (ls : List Letter). length ls) (c.deref-letters.ensures.value ∙ ap (λ (s : Checkpoint). s.component.top) c.saved.view_is) ∙ as_many_named _ _ same ∙ ap length (sym top)))

pub is_in_proportion-requires-clause-after : goal.is_in_proportion-requires-clause-after
is_in_proportion-requires-clause-after c =
    let x = c.self.inside in
    let after : IsCurrent x.letters.items x.top.items x.bottom.items c.last-now.result c.args.self.now.components =
    record { extents = x.extents.items; rest = c.last-now.ensures.0; now = c.last-now.ensures.1; in_place = c.self.invariant.1; is = ap (λ (v : StateValue). v.components) c.self.view_is } in
    let top = row_slice c.deref.result.now x.top.items c.last-now.result.first c.deref.ensures.value in
    same_within c.deref-2.ensures.value top (within_now after)

pub returns-in-Ok-false : goal.returns-in-Ok-false
returns-in-Ok-false c =
    let x = c.self.inside in
    let after : IsCurrent x.letters.items x.top.items x.bottom.items c.last-now.result c.args.self.now.components =
    record { extents = x.extents.items; rest = c.last-now.ensures.0; now = c.last-now.ensures.1; in_place = c.self.invariant.1; is = ap (λ (v : StateValue). v.components) c.self.view_is } in
    let top = row_slice c.deref.result.now x.top.items c.last-now.result.first c.deref.ensures.value in
    let is = c.is_in_proportion.ensures ∙ (λ i. checked_proportion (ap (λ (v : StateValue). v.d) c.self.view_is i) (ap (λ (s : Checkpoint). s.component.total) c.saved.view_is i) c.last-now.result.total 0
    ((c.deref-letters.ensures.value ∙ ap (λ (s : Checkpoint). s.component.top) c.saved.view_is) i) (letters_at (c.deref-2.ensures.value i) (top i))) in
    saved_not_in_proportion c.args.saved.now.component after c.args.self.now.d c.is_in_proportion.result is (c.in-Ok-false.is ∙ ap (λ b. Ok b) c.in-Ok-false.field-0-test)

pub returns-in-Ok-true : goal.returns-in-Ok-true
returns-in-Ok-true c =
    let x = c.self.inside in
    let after : IsCurrent x.letters.items x.top.items x.bottom.items c.last-now.result c.args.self.now.components =
    record { extents = x.extents.items; rest = c.last-now.ensures.0; now = c.last-now.ensures.1; in_place = c.self.invariant.1; is = ap (λ (v : StateValue). v.components) c.self.view_is } in
    let top = row_slice c.deref.result.now x.top.items c.last-now.result.first c.deref.ensures.value in
    let is = c.is_in_proportion.ensures ∙ (λ i. checked_proportion (ap (λ (v : StateValue). v.d) c.self.view_is i) (ap (λ (s : Checkpoint). s.component.total) c.saved.view_is i) c.last-now.result.total 0
    ((c.deref-letters.ensures.value ∙ ap (λ (s : Checkpoint). s.component.top) c.saved.view_is) i) (letters_at (c.deref-2.ensures.value i) (top i))) in
    saved_in_proportion c.args.saved.now.component after c.args.self.now.d c.has_rows.result c.is_in_proportion.result c.has_rows.ensures is (c.in-Ok-true.is ∙ ap (λ b. Ok b) c.in-Ok-true.field-0-test)

pub returns-then-has_rows : goal.returns-then-has_rows
returns-then-has_rows c =
    let x = c.self.inside in
    let after : IsCurrent x.letters.items x.top.items x.bottom.items c.last-now.result c.args.self.now.components =
    record { extents = x.extents.items; rest = c.last-now.ensures.0; now = c.last-now.ensures.1; in_place = c.self.invariant.1; is = ap (λ (v : StateValue). v.components) c.self.view_is } in
    let top = row_slice c.deref.result.now x.top.items c.last-now.result.first c.deref.ensures.value in
    let is = c.is_in_proportion.ensures ∙ (λ i. checked_proportion (ap (λ (v : StateValue). v.d) c.self.view_is i) (ap (λ (s : Checkpoint). s.component.total) c.saved.view_is i) c.last-now.result.total 0
    ((c.deref-letters.ensures.value ∙ ap (λ (s : Checkpoint). s.component.top) c.saved.view_is) i) (letters_at (c.deref-2.ensures.value i) (top i))) in
    subst (λ r. AtCurrent (λ k. IsComparison c.args.self.now.d c.args.saved.now.component k r) c.args.self.now.components) (λ i. cond (c.if-has_rows.true i) (c.in-Err.is i) (Ok false))
    (saved_compared c.args.saved.now.component after c.args.self.now.d c.has_rows-in-Err.result c.is_in_proportion.result c.has_rows-in-Err.ensures is)

pub returns-else-has_rows : goal.returns-else-has_rows
returns-else-has_rows c =
    let x = c.self.inside in
    let after : IsCurrent x.letters.items x.top.items x.bottom.items c.last-now.result c.args.self.now.components =
    record { extents = x.extents.items; rest = c.last-now.ensures.0; now = c.last-now.ensures.1; in_place = c.self.invariant.1; is = ap (λ (v : StateValue). v.components) c.self.view_is } in
    let top = row_slice c.deref.result.now x.top.items c.last-now.result.first c.deref.ensures.value in
    let is = c.is_in_proportion.ensures ∙ (λ i. checked_proportion (ap (λ (v : StateValue). v.d) c.self.view_is i) (ap (λ (s : Checkpoint). s.component.total) c.saved.view_is i) c.last-now.result.total 0
    ((c.deref-letters.ensures.value ∙ ap (λ (s : Checkpoint). s.component.top) c.saved.view_is) i) (letters_at (c.deref-2.ensures.value i) (top i))) in
    subst (λ r. AtCurrent (λ k. IsComparison c.args.self.now.d c.args.saved.now.component k r) c.args.self.now.components) (λ i. cond (c.if-has_rows.false i) (c.in-Err.is i) (Ok false))
    (saved_compared c.args.saved.now.component after c.args.self.now.d c.has_rows-in-Err.result c.is_in_proportion.result c.has_rows-in-Err.ensures is)
