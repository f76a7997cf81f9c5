-- The tests of a polygon in their order, up to the first that fails.
use Rattle.std.proofs.Common.{◌≡◌, ◌⊎◌, inl, inr, sym, ◌∙◌}
use Rattle.std.specs.Result.{IfErr}
use Rattle.fs_lists.proofs.Results.{at_exit}
use Rattle.fs_gluing.specs.declared.faults.BuildStop.{BuildStop}
use Rattle.fs_gluing.specs.declared.faults.BuildStop.TheVariants.{NoMemory}
use Rattle.fs_gluing.specs.FirstFault.{PassesIn, polygon_tests}
use Rattle.fs_gluing.specs.TestsInOrder.{IsFirstStop}
use Rattle.fs_gluing.proofs.Polygon.Boundary.{polygon_stop}
use Rattle.fs_gluing.proofs.Polygon.PolygonTests.{few_sides, positions_fail, corners_fail, turning_number_fails, polygon_passes}
use Rattle.fs_gluing.proofs.polygons.check_polygon.Goals as goal

pub returns-then-sides-lt3-clause-failed : goal.returns-then-sides-lt3-clause-failed
returns-then-sides-lt3-clause-failed c = inr (few_sides c.args.straight c.args.field.d c.args.i c.args.sides.now c.if-sides-lt3.true)

pub returns-in_err-positions-clause-failed : goal.returns-in_err-positions-clause-failed
returns-in_err-positions-clause-failed c =
    let Stops : BuildStop → Type 0 = λ e. (e ≡ NoMemory) ⊎ IsFirstStop (PassesIn c.args.straight c.args.field.d c.args.sides.now) (polygon_tests c.args.sides.now) (polygon_stop c.args.i c.args.sides.now) e in
    at_exit (λ r. IfErr r Stops) c.from_residual.result c.in_err-positions.field-0.0 c.from_residual.ensures.1
    (elim c.in_err-positions.ensures.failed [ inl h ↦ inl h | inr h ↦ inr (positions_fail c.args.straight c.args.field.d c.args.i c.args.sides.now c.if-sides-lt3.false _ (h c.args.straight c.args.field.d)) ])

pub returns-in_err-check_corners-clause-failed : goal.returns-in_err-check_corners-clause-failed
returns-in_err-check_corners-clause-failed c =
    let Stops : BuildStop → Type 0 = λ e. (e ≡ NoMemory) ⊎ IsFirstStop (PassesIn c.args.straight c.args.field.d c.args.sides.now) (polygon_tests c.args.sides.now) (polygon_stop c.args.i c.args.sides.now) e in
    at_exit (λ r. IfErr r Stops) c.from_residual-in_err-check_corners.result c.in_err-check_corners.field-0.0 c.from_residual-in_err-check_corners.ensures.1
    (inr (corners_fail c.args.straight c.args.field.d c.args.i c.args.sides.now c.if-sides-lt3.false (c.in_ok-positions.ensures.passed c.args.straight c.args.field.d) _ c.in_err-check_corners.ensures.failed))

pub returns-then-count_rises-ne1-clause-failed : goal.returns-then-count_rises-ne1-clause-failed
returns-then-count_rises-ne1-clause-failed c =
    inr (turning_number_fails c.args.straight c.args.field.d c.args.i c.args.sides.now c.if-sides-lt3.false (c.in_ok-positions.ensures.passed c.args.straight c.args.field.d) c.in_ok-check_corners.ensures.passed
    (λ once. c.if-count_rises-ne1.true (c.count_rises.ensures ∙ once)))

pub returns-clause-passed : goal.returns-clause-passed
returns-clause-passed c =
    polygon_passes c.args.straight c.args.field.d c.args.i c.args.sides.now c.if-sides-lt3.false (c.in_ok-positions.ensures.passed c.args.straight c.args.field.d) c.in_ok-check_corners.ensures.passed
    (sym c.count_rises.ensures ∙ c.if-count_rises-ne1.false)
