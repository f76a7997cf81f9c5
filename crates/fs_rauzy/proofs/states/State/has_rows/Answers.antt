-- The rows of the current component and of the checkpoint are compared.
use Rattle.std.proofs.Common.{◌≡◌, ◌↔◌, IsTrue, false, List, refl, sym, ap, ◌∙◌, subst}
use Rattle.fs_gluing.specs.Exchanges.{Letter, names_of}
use Rattle.fs_rauzy.specs.Comparisons.{HaveEqualRows}
use Rattle.fs_rauzy.specs.Runs.{Checkpoint}
use Rattle.fs_rauzy.specs.States.{StateValue}
use Rattle.fs_rauzy.specs.Steps.{AtCurrent}
use Rattle.fs_rauzy.proofs.ComparedRows.{IsCurrent, refuted, rows_differ_below, rows_as_above}
use Rattle.fs_rauzy.proofs.SearchedRows.{row_slice}
use Rattle.fs_rauzy.proofs.states.State.has_rows.Goals as goal

pub returns-then-not-are_same : goal.returns-then-not-are_same
returns-then-not-are_same c =
    let x = c.self.inside in
    let after : IsCurrent x.letters.items x.top.items x.bottom.items c.last-first.result c.args.self.now.components =
    record { extents = x.extents.items; rest = c.last-first.ensures.0; now = c.last-first.ensures.1; in_place = c.self.invariant.1; is = ap (λ (v : StateValue). v.components) c.self.view_is } in
    let bottom = row_slice c.deref.result.now x.bottom.items c.last-first.result.first c.deref.ensures.value in
    subst (λ (s : Checkpoint). AtCurrent (λ k. IsTrue false ↔ HaveEqualRows s.component k) c.args.self.now.components) c.saved.view_is
    (rows_differ_below _ after c.self.inside.field.d (λ same. refuted c.are_same.result c.if-not-are_same.true c.are_same.ensures (bottom ∙ same ∙ sym c.deref-2.ensures.value)))

pub returns : goal.returns
returns c =
    let x = c.self.inside in
    let after : IsCurrent x.letters.items x.top.items x.bottom.items c.last-first.result c.args.self.now.components =
    record { extents = x.extents.items; rest = c.last-first.ensures.0; now = c.last-first.ensures.1; in_place = c.self.invariant.1; is = ap (λ (v : StateValue). v.components) c.self.view_is } in
    let bottom = row_slice c.deref.result.now x.bottom.items c.last-first.result.first c.deref.ensures.value in
    let top = row_slice c.deref-4.result.now x.top.items c.last-first.result.first c.deref-4.ensures.value in
    let letters : names_of c.deref-3.result.now ≡ names_of c.saved.inside.letters.items = ap (λ (ls : List Letter). names_of ls) c.deref-3.ensures.value in
    subst (λ (s : Checkpoint). AtCurrent (λ k. IsTrue c.are_named.result ↔ HaveEqualRows s.component k) c.args.self.now.components) c.saved.view_is
    (rows_as_above _ after c.self.inside.field.d c.are_named.result (sym bottom ∙ c.if-not-are_same.ensures.0 refl ∙ c.deref-2.ensures.value)
    (λ t. sym letters ∙ c.are_named.ensures.0 t ∙ top, λ same. c.are_named.ensures.1 (letters ∙ same ∙ sym top)))
