-- The polygons before i are scaled.
use Rattle.fs_gluing.proofs.Scale.ScalingInTurn.{HasScaledPolygons}
use Rattle.fs_gluing.proofs.scaling.scale_polygons.Given as goal

abbrev pub invariant-loop-i : goal.invariant-loop-i
invariant-loop-i l = HasScaledPolygons l.den l.polygons l.i l.rows
