-- The sides come one after another, up to the first whose common multiple overflows.
use Rattle.std.specs.Result.{IfErr}
use Rattle.fs_lists.proofs.Results.{at_exit}
use Rattle.fs_lists.proofs.Items.{IsItem}
use Rattle.fs_gluing.specs.Scaling.{PassesScale, common_tests, numbered_sides}
use Rattle.fs_gluing.specs.TestsInOrder.{IsFirstStop}
use Rattle.fs_gluing.proofs.Scale.ScalingInTurn.{scale_stop, row_more, row_fails}
use Rattle.fs_gluing.proofs.scaling.common_of_polygon.Goals as goal

pub returns-in_err-den-clause-failed : goal.returns-in_err-den-clause-failed
returns-in_err-den-clause-failed c =
    let item : IsItem c.args.points.now c.loop-j.j c.index-points-j.result = record { inside = c.loop-j-test.true; is = c.index-points-j.is } in
    at_exit (λ r. IfErr r (IsFirstStop PassesScale (common_tests c.args.m (numbered_sides c.args.i 0 c.args.points.now)) scale_stop))
    c.from_residual.result c.in_err-den.field-0.0 c.from_residual.ensures.1
    (row_fails c.args.m c.args.i c.args.points.now c.loop-j.j c.loop-j.den c.index-points-j.result _ c.new.result c.new.ensures item c.loop-j.invariant c.in_err-den.ensures.failed)

pub loop-j-preserved : goal.loop-j-preserved
loop-j-preserved c =
    let item : IsItem c.args.points.now c.loop-j.j c.index-points-j.result = record { inside = c.loop-j-test.true; is = c.index-points-j.is } in
    row_more c.args.m c.args.i c.args.points.now c.loop-j.j c.loop-j.den c.in_ok-den.den c.index-points-j.result c.new.result c.new.ensures item c.loop-j.invariant
    c.in_ok-den.ensures.positive c.in_ok-den.ensures.within c.in_ok-den.ensures.value c.in_ok-den.ensures.passed
