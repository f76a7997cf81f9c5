-- The common denominator is found, then the polygons are scaled.
use Rattle.std.proofs.Common.{◌≡◌, ◌⊎◌, inl, inr}
use Rattle.std.specs.Result.{IfErr}
use Rattle.fs_lists.proofs.Results.{at_exit}
use Rattle.fs_gluing.specs.declared.faults.BuildStop.{BuildStop}
use Rattle.fs_gluing.specs.declared.faults.BuildStop.TheVariants.{NoMemory}
use Rattle.fs_gluing.specs.Scaling.{PassesScale, scale_tests}
use Rattle.fs_gluing.specs.TestsInOrder.{IsFirstStop}
use Rattle.fs_gluing.proofs.Polygon.PolygonsInTurn.{short_rows}
use Rattle.fs_gluing.proofs.Scale.ScalingInTurn.{scale_stop, parts_of_shape_fail}
use Rattle.fs_gluing.proofs.scaling.scale.Goals as goal

pub common_den-requires-clause-short : goal.common_den-requires-clause-short
common_den-requires-clause-short c = short_rows c.args.shape.now c.requires

pub scale_polygons-requires-clause-short : goal.scale_polygons-requires-clause-short
scale_polygons-requires-clause-short c = short_rows c.args.shape.now c.requires

pub returns-in_err-polygons-clause-failed : goal.returns-in_err-polygons-clause-failed
returns-in_err-polygons-clause-failed c =
    let Stops : BuildStop → Type 0 = λ e. (e ≡ NoMemory) ⊎ IsFirstStop PassesScale (scale_tests c.args.shape.now.polygons) scale_stop e in
    at_exit (λ r. IfErr r Stops) c.from_residual-in_err-polygons.result c.in_err-polygons.field-0.0 c.from_residual-in_err-polygons.ensures.1
    (elim c.in_err-polygons.ensures.failed [
      | inl h ↦ inl h
      | inr h ↦ inr (parts_of_shape_fail c.args.shape.now.polygons c.in_ok-den.den _ c.in_ok-den.ensures.value c.in_ok-den.ensures.passed h)
    ])
