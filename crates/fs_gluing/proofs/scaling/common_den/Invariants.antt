-- den is the common denominator of the polygons before i.
use Rattle.fs_gluing.proofs.Scale.ScalingInTurn.{HasCommonOfPolygons}
use Rattle.fs_gluing.proofs.scaling.common_den.Given as goal

abbrev pub invariant-loop-i : goal.invariant-loop-i
invariant-loop-i l = HasCommonOfPolygons l.polygons l.i l.den
