-- The corners are tested one after another, up to the first that fails.
use Rattle.std.specs.Result.{IfErr}
use Rattle.fs_lists.proofs.Results.{at_exit}
use Rattle.fs_lists.proofs.Items.{IsItem}
use Rattle.fs_gluing.specs.FirstFault.{PassesIn, corner_tests}
use Rattle.fs_gluing.specs.Convex.{corners_of}
use Rattle.fs_gluing.specs.TestsInOrder.{IsFirstStop}
use Rattle.fs_gluing.proofs.Polygon.Boundary.{polygon_stop}
use Rattle.fs_gluing.proofs.Polygon.ConvexCorners.{corners_more, corner_fails}
use Rattle.fs_gluing.proofs.polygons.check_corners.Goals as goal

pub returns-in_err-check_corner-clause-failed : goal.returns-in_err-check_corner-clause-failed
returns-in_err-check_corner-clause-failed c =
    let item : IsItem c.args.sides.now c.loop-j.j c.index-sides-j.result = record { inside = c.loop-j-test.true; is = c.index-sides-j.is } in
    at_exit (λ r. IfErr r (IsFirstStop (PassesIn c.args.straight c.args.field.d c.args.sides.now) (corner_tests 0 (corners_of c.args.sides.now)) (polygon_stop c.args.i c.args.sides.now)))
    c.from_residual.result c.in_err-check_corner.field-0.0 c.from_residual.ensures.1
    (corner_fails c.args.straight c.args.field.d c.args.sides.now c.args.i c.loop-j.j c.loop-j.before c.index-sides-j.result _ c.new.result c.new.ensures item c.loop-j.invariant (c.in_err-check_corner.ensures.failed c.args.sides.now))

pub loop-j-preserved : goal.loop-j-preserved
loop-j-preserved c =
    let item : IsItem c.args.sides.now c.loop-j.j c.index-sides-j.result = record { inside = c.loop-j-test.true; is = c.index-sides-j.is } in
    corners_more c.args.straight c.args.field.d c.args.sides.now c.args.i c.loop-j.j c.loop-j.before c.index-sides-j.result c.new.result c.new.ensures item c.loop-j.invariant (c.in_ok-check_corner.ensures.passed c.args.sides.now)
