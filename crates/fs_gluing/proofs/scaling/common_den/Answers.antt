-- The polygons come one after another, up to the first whose common denominator overflows.
use Rattle.std.specs.Result.{IfErr}
use Rattle.fs_lists.proofs.Results.{at_exit}
use Rattle.fs_lists.proofs.Items.{item_read}
use Rattle.fs_gluing.specs.Scaling.{PassesScale, common_tests, all_numbered}
use Rattle.fs_gluing.specs.TestsInOrder.{IsFirstStop}
use Rattle.fs_gluing.proofs.Scale.ScalingInTurn.{scale_stop, polygons_more, polygons_fail}
use Rattle.fs_gluing.proofs.scaling.common_den.Goals as goal

pub returns-in_err-den-clause-failed : goal.returns-in_err-den-clause-failed
returns-in_err-den-clause-failed c =
    let item = item_read _ _ _ _ _ c.as_slice-polygon-items.ensures c.loop-i-test.true c.polygon-item.is c.as_slice.ensures in
    at_exit (λ r. IfErr r (IsFirstStop PassesScale (common_tests 1 (all_numbered c.args.polygons.now)) scale_stop))
    c.from_residual.result c.in_err-den.field-0.0 c.from_residual.ensures.1
    (polygons_fail c.args.polygons.now c.loop-i.i c.loop-i.den _ _ item c.loop-i.invariant c.in_err-den.ensures.failed)

pub loop-i-preserved : goal.loop-i-preserved
loop-i-preserved c =
    let item = item_read _ _ _ _ _ c.as_slice-polygon-items.ensures c.loop-i-test.true c.polygon-item.is c.as_slice.ensures in
    polygons_more c.args.polygons.now c.loop-i.i c.loop-i.den c.in_ok-den.den _ item c.loop-i.invariant
    c.in_ok-den.ensures.positive c.in_ok-den.ensures.within c.in_ok-den.ensures.value c.in_ok-den.ensures.passed
