-- x is scaled, then y; the first part that overflows gives the site.
use Rattle.std.specs.Result.{IfErr}
use Rattle.std.proofs.Common.{[], ◌∷◌}
use Rattle.fs_lists.proofs.Results.{at_exit}
use Rattle.fs_gluing.specs.Scaling.{PassesScale, part_tests, numbered_sides}
use Rattle.fs_gluing.specs.TestsInOrder.{IsFirstStop}
use Rattle.fs_gluing.proofs.Base.TestsInOrder.{first_stop_of_prefix}
use Rattle.fs_gluing.proofs.Scale.ScalingInTurn.{scale_stop, y_parts_fail}
use Rattle.fs_gluing.proofs.scaling.scale_side.Goals as goal

pub returns-in_err-x-clause-failed : goal.returns-in_err-x-clause-failed
returns-in_err-x-clause-failed c =
    at_exit (λ r. IfErr r (IsFirstStop PassesScale (part_tests c.args.den (numbered_sides c.args.corner.polygon c.args.corner.side (c.args.point ∷ []))) scale_stop))
    c.from_residual.result c.in_err-x.field-0.0 c.from_residual.ensures.1
    (first_stop_of_prefix _ _ _ _ _ c.in_err-x.ensures.failed)

pub returns-in_err-y-clause-failed : goal.returns-in_err-y-clause-failed
returns-in_err-y-clause-failed c =
    at_exit (λ r. IfErr r (IsFirstStop PassesScale (part_tests c.args.den (numbered_sides c.args.corner.polygon c.args.corner.side (c.args.point ∷ []))) scale_stop))
    c.from_residual-in_err-y.result c.in_err-y.field-0.0 c.from_residual-in_err-y.ensures.1
    (y_parts_fail c.args.den c.args.corner c.args.point _ c.in_ok-x.ensures.passed c.in_err-y.ensures.failed)
