-- The sides before j are scaled.
use Rattle.fs_gluing.proofs.Scale.ScalingInTurn.{HasScaledSides}
use Rattle.fs_gluing.proofs.scaling.scale_polygon.Given as goal

abbrev pub invariant-loop-j : goal.invariant-loop-j
invariant-loop-j l = HasScaledSides l.den l.i l.points l.j l.row
