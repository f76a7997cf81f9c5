-- The polygons are scaled one after another, up to the first that overflows.
use Rattle.std.proofs.Common.{◌≡◌, ◌⊎◌, inl, inr}
use Rattle.std.specs.Result.{IfErr}
use Rattle.fs_lists.proofs.Results.{at_exit}
use Rattle.fs_lists.proofs.Items.{item_read}
use Rattle.fs_gluing.specs.declared.faults.BuildStop.{BuildStop}
use Rattle.fs_gluing.specs.declared.faults.BuildStop.TheVariants.{NoMemory}
use Rattle.fs_gluing.specs.Scaling.{PassesScale, part_tests, all_numbered}
use Rattle.fs_gluing.specs.TestsInOrder.{IsFirstStop}
use Rattle.fs_gluing.proofs.Scale.ScalingInTurn.{scale_stop, polygons_scaled_more, polygons_scaled_fail}
use Rattle.fs_gluing.proofs.scaling.scale_polygons.Goals as goal

pub returns-in_err-scale_polygon-clause-failed : goal.returns-in_err-scale_polygon-clause-failed
returns-in_err-scale_polygon-clause-failed c =
    let item = item_read _ _ _ _ _ c.as_slice-polygon-items.ensures c.loop-i-test.true c.polygon-item.is c.as_slice.ensures in
    let Stops : BuildStop → Type 0 = λ e. (e ≡ NoMemory) ⊎ IsFirstStop PassesScale (part_tests c.args.den (all_numbered c.args.polygons.now)) scale_stop e in
    at_exit (λ r. IfErr r Stops) c.from_residual.result c.in_err-scale_polygon.field-0.0 c.from_residual.ensures.1
    (elim c.in_err-scale_polygon.ensures.failed [
      | inl h ↦ inl h
      | inr h ↦ inr (polygons_scaled_fail c.args.den c.args.polygons.now c.loop-i.i c.loop-i.rows _ _ item c.loop-i.invariant h)
    ])

pub loop-i-preserved : goal.loop-i-preserved
loop-i-preserved c =
    let item = item_read _ _ _ _ _ c.as_slice-polygon-items.ensures c.loop-i-test.true c.polygon-item.is c.as_slice.ensures in
    polygons_scaled_more c.args.den c.args.polygons.now c.loop-i.i c.loop-i.rows c.push.new.self _ _ item c.loop-i.invariant
    c.in_ok-scale_polygon.ensures.scaled c.in_ok-push.ensures.ok c.in_ok-scale_polygon.ensures.passed
