-- The denominator of x comes first, then that of y.
use Rattle.fs_gluing.proofs.Scale.ScalingInTurn.{x_den_fails, y_den_fails}
use Rattle.fs_gluing.proofs.scaling.common_of_side.Goals as goal

pub returns-in_default-clause-failed : goal.returns-in_default-clause-failed
returns-in_default-clause-failed c = x_den_fails c.args.m c.args.corner c.args.point _ c.overflow.ensures c.in_default.ensures.value

pub returns-in_default-common_multiple-clause-failed : goal.returns-in_default-common_multiple-clause-failed
returns-in_default-common_multiple-clause-failed c =
    y_den_fails c.args.m c.args.corner c.args.point c.in-Some.with_x _ c.overflow-in_default-common_multiple.ensures
    c.in-Some.ensures.value.0 c.in-Some.ensures.value.1 c.in_default-common_multiple.ensures.value
