-- den is the common multiple of m and the denominators of the sides before j.
use Rattle.fs_gluing.proofs.Scale.ScalingInTurn.{HasCommonOfSides}
use Rattle.fs_gluing.proofs.scaling.common_of_polygon.Given as goal

abbrev pub invariant-loop-j : goal.invariant-loop-j
invariant-loop-j l = HasCommonOfSides l.m l.i l.points l.j l.den
