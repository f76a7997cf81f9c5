-- The steps of `build` in their order: each stops with the first failed test of the shape, or passes.
use Rattle.std.proofs.Common.{◌≡◌, ◌⊎◌, List, [], subst}
use Rattle.std.specs.List.{AllByRecursion}
use Rattle.fs_lists.proofs.Results.{at_exit}
use Rattle.fs_gluing.specs.declared.shapes.Glue.{Glue}
use Rattle.fs_gluing.specs.declared.faults.BuildStop.TheVariants.{NoMemory}
use Rattle.fs_gluing.specs.TestsInOrder.{IsFirstStop}
use Rattle.fs_gluing.specs.FirstFault.{IsBuildResult, PassesLine, line_tests}
use Rattle.fs_gluing.specs.Gluing.{ArePartners}
use Rattle.fs_gluing.specs.PartnerTable.{partner_of}
use Rattle.fs_gluing.proofs.Scale.ScalingInTurn.{den_passed}
use Rattle.fs_gluing.proofs.Gluing.GluedPolygons.{paired_by}
use Rattle.fs_gluing.proofs.Gluing.GlueLines.{line_stop}
use Rattle.fs_gluing.proofs.Outcome.BuildResult.{ScaledShape, GluedShape, scaled_shape, outcome_at_scaling, outcome_at_polygons, outcome_at_lines, outcome_at_sides, outcome_at_reaching, outcome_of_all_passed, short, some_rows, few_rows, rows_glued, rows_surface, rows_positions, first_failure_of_outcome}
use Rattle.fs_gluing.proofs.Outcome.SurfaceUnique.{returned_of_outcome}
use Rattle.fs_gluing.proofs.building.build.Goals.{In_ok-scaled, In_ok-glued}
use Rattle.fs_gluing.proofs.building.build.Goals as goal

-- the scaled shape, once scaling has passed
abbrev scaled_of : (c : In_ok-scaled) → ScaledShape
scaled_of c = scaled_shape c.args.field.d c.args.shape.now _ _ c.requires c.in_ok-scaled.ensures.passed c.in_ok-scaled.ensures.den c.in_ok-scaled.ensures.polygons c.in_ok-scaled.ensures.positive

-- the same, once all sides have partners
abbrev scaled_in : (c : In_ok-glued) → ScaledShape
scaled_in c = scaled_shape c.args.field.d c.args.shape.now _ _ c.requires c.in_ok-scaled.ensures.passed c.in_ok-scaled.ensures.den c.in_ok-scaled.ensures.polygons c.in_ok-scaled.ensures.positive

-- and its glued polygons
abbrev glued_of : (c : In_ok-glued) → GluedShape (scaled_in c)
glued_of c = record {
  partner = partner_of c.in_ok-partners.partners;
  rows = c.in_ok-glued.glued;
  paired = paired_by c.args.shape.now.straight c.args.field.d c.in_ok-scaled.scaled.polygons _ _ _ c.as_slice.ensures c.in_ok-positions.ensures.passed c.in_ok-partners.ensures.passed c.in_ok-partners.ensures.paired c.in_ok-glued.ensures.passed;
  rows_are = c.in_ok-glued.ensures.glued;
}

pub returns-in_err-scaled : goal.returns-in_err-scaled
returns-in_err-scaled c =
    let outcome = at_exit (IsBuildResult c.args.field.d c.args.shape.now) c.from_residual.result c.in_err-scaled.field-0.0 c.from_residual.ensures.1
    (outcome_at_scaling c.args.field.d c.args.shape.now _ c.in_err-scaled.ensures.failed) in
    record { outcome = outcome; first = first_failure_of_outcome c.args.field.d c.args.shape.now _ outcome; returned = returned_of_outcome c.args.field.d c.args.shape.now _ outcome }

pub check_polygons-requires-clause-short : goal.check_polygons-requires-clause-short
check_polygons-requires-clause-short c = short (scaled_of (goal.at.check_polygons-requires-clause-short c).In_ok-scaled)

pub pair_sides-requires-clause-short : goal.pair_sides-requires-clause-short
pair_sides-requires-clause-short c = short (scaled_of (goal.at.pair_sides-requires-clause-short c).In_ok-scaled)

pub glue_polygons-requires-clause-short : goal.glue_polygons-requires-clause-short
glue_polygons-requires-clause-short c = short (scaled_of (goal.at.glue_polygons-requires-clause-short c).In_ok-scaled)

pub returns-in_err-positions : goal.returns-in_err-positions
returns-in_err-positions c =
    let s = scaled_of (goal.at.returns-in_err-positions c).In_ok-scaled in
    let outcome = at_exit (IsBuildResult c.args.field.d c.args.shape.now) c.from_residual-in_err-positions.result c.in_err-positions.field-0.0 c.from_residual-in_err-positions.ensures.1
    (outcome_at_polygons s _ c.in_err-positions.ensures.failed) in
    record { outcome = outcome; first = first_failure_of_outcome c.args.field.d c.args.shape.now _ outcome; returned = returned_of_outcome c.args.field.d c.args.shape.now _ outcome }

pub returns-in_err-partners : goal.returns-in_err-partners
returns-in_err-partners c =
    let s = scaled_of (goal.at.returns-in_err-partners c).In_ok-scaled in
    let e = c.in_err-partners.field-0.0 in
    let failed = subst (λ (gs : List Glue). (e ≡ NoMemory) ⊎ IsFirstStop (PassesLine c.in_ok-scaled.scaled.polygons) (line_tests [] gs) line_stop e) c.as_slice.ensures c.in_err-partners.ensures.failed in
    let outcome = at_exit (IsBuildResult c.args.field.d c.args.shape.now) c.from_residual-in_err-partners.result e c.from_residual-in_err-partners.ensures.1
    (outcome_at_lines s e (c.in_ok-positions.ensures.passed c.args.shape.now.glues) failed) in
    record { outcome = outcome; first = first_failure_of_outcome c.args.field.d c.args.shape.now _ outcome; returned = returned_of_outcome c.args.field.d c.args.shape.now _ outcome }

pub returns-in_err-glued : goal.returns-in_err-glued
returns-in_err-glued c =
    let s = scaled_of (goal.at.returns-in_err-glued c).In_ok-scaled in
    let p = partner_of c.in_ok-partners.partners in
    let lines = subst (λ (gs : List Glue). AllByRecursion (PassesLine c.in_ok-scaled.scaled.polygons) (line_tests [] gs)) c.as_slice.ensures c.in_ok-partners.ensures.passed in
    let partners = subst (λ (gs : List Glue). ArePartners gs p) c.as_slice.ensures c.in_ok-partners.ensures.paired in
    let outcome = at_exit (IsBuildResult c.args.field.d c.args.shape.now) c.from_residual-in_err-glued.result c.in_err-glued.field-0.0 c.from_residual-in_err-glued.ensures.1
    (outcome_at_sides s p _ (c.in_ok-positions.ensures.passed c.args.shape.now.glues) lines partners c.in_err-glued.ensures.failed) in
    record { outcome = outcome; first = first_failure_of_outcome c.args.field.d c.args.shape.now _ outcome; returned = returned_of_outcome c.args.field.d c.args.shape.now _ outcome }

pub check_reached-requires-clause-some : goal.check_reached-requires-clause-some
check_reached-requires-clause-some c =
    let at = (goal.at.check_reached-requires-clause-some c).In_ok-glued in
    some_rows (scaled_in at) (glued_of at)

pub check_reached-requires-clause-few : goal.check_reached-requires-clause-few
check_reached-requires-clause-few c =
    let at = (goal.at.check_reached-requires-clause-few c).In_ok-glued in
    few_rows (scaled_in at) (glued_of at)

pub check_reached-requires-clause-glued : goal.check_reached-requires-clause-glued
check_reached-requires-clause-glued c =
    let at = (goal.at.check_reached-requires-clause-glued c).In_ok-glued in
    rows_glued (scaled_in at) (glued_of at)

pub returns-in_err-check_reached : goal.returns-in_err-check_reached
returns-in_err-check_reached c =
    let at = (goal.at.returns-in_err-check_reached c).In_ok-glued in
    let outcome = at_exit (IsBuildResult c.args.field.d c.args.shape.now) c.from_residual-in_err-check_reached.result c.in_err-check_reached.field-0.0 c.from_residual-in_err-check_reached.ensures.1
    (outcome_at_reaching (scaled_in at) (glued_of at) _ c.in_err-check_reached.ensures.failed) in
    record { outcome = outcome; first = first_failure_of_outcome c.args.field.d c.args.shape.now _ outcome; returned = returned_of_outcome c.args.field.d c.args.shape.now _ outcome }

pub new-requires : goal.new-requires
new-requires c =
    let at = (goal.at.new-requires c).In_ok-glued in
    record {
      surface = rows_surface (scaled_in at) (glued_of at) c.args.field.radicand c.in_ok-check_reached.ensures.passed _ (den_passed c.signed.result c.in_ok-scaled.scaled.den c.in_ok-scaled.ensures.within c.signed.ensures);
      positions = rows_positions (scaled_in at) (glued_of at) c.in_ok-positions.positions c.in_ok-positions.ensures.positions;
    }

pub returns : goal.returns
returns c =
    let at = (goal.at.returns c).In_ok-glued in
    let outcome = outcome_of_all_passed (scaled_in at) (glued_of at) c.args.field.radicand c.in_ok-check_reached.ensures.passed c.new.result _ (den_passed c.signed.result c.in_ok-scaled.scaled.den c.in_ok-scaled.ensures.within c.signed.ensures) c.new.ensures in
    record { outcome = outcome; first = first_failure_of_outcome c.args.field.d c.args.shape.now _ outcome; returned = returned_of_outcome c.args.field.d c.args.shape.now _ outcome }
