-- The sides are scaled one after another, up to the first that overflows.
use Rattle.std.proofs.Common.{◌≡◌, ◌⊎◌, inr}
use Rattle.std.specs.Result.{IfErr}
use Rattle.fs_lists.proofs.Results.{at_exit}
use Rattle.fs_lists.proofs.Items.{IsItem}
use Rattle.fs_gluing.specs.declared.faults.BuildStop.{BuildStop}
use Rattle.fs_gluing.specs.declared.faults.BuildStop.TheVariants.{NoMemory}
use Rattle.fs_gluing.specs.Scaling.{PassesScale, part_tests, numbered_sides}
use Rattle.fs_gluing.specs.TestsInOrder.{IsFirstStop}
use Rattle.fs_gluing.proofs.Scale.ScalingInTurn.{scale_stop, row_scaled_more, row_scaled_fails}
use Rattle.fs_gluing.proofs.scaling.scale_polygon.Goals as goal

pub returns-in_err-scale_side-clause-failed : goal.returns-in_err-scale_side-clause-failed
returns-in_err-scale_side-clause-failed c =
    let item : IsItem c.args.points.now c.loop-j.j c.index-points-j.result = record { inside = c.loop-j-test.true; is = c.index-points-j.is } in
    let Stops : BuildStop → Type 0 = λ e. (e ≡ NoMemory) ⊎ IsFirstStop PassesScale (part_tests c.args.den (numbered_sides c.args.i 0 c.args.points.now)) scale_stop e in
    at_exit (λ r. IfErr r Stops) c.from_residual.result c.in_err-scale_side.field-0.0 c.from_residual.ensures.1
    (inr (row_scaled_fails c.args.den c.args.i c.args.points.now c.loop-j.j c.loop-j.row c.index-points-j.result _ c.new.result c.new.ensures item c.loop-j.invariant c.in_err-scale_side.ensures.failed))

pub loop-j-preserved : goal.loop-j-preserved
loop-j-preserved c =
    let item : IsItem c.args.points.now c.loop-j.j c.index-points-j.result = record { inside = c.loop-j-test.true; is = c.index-points-j.is } in
    row_scaled_more c.args.den c.args.i c.args.points.now c.loop-j.j c.loop-j.row c.push.new.self c.index-points-j.result c.in_ok-scale_side.field-0 c.new.result c.new.ensures item c.loop-j.invariant
    c.in_ok-scale_side.ensures.scaled c.in_ok-push.ensures.ok c.in_ok-scale_side.ensures.passed
