-- The vertices with a corner before polygon i are found.
use Rattle.fs_stratum.specs.VerticesFound.{AreFoundBefore}
use Rattle.fs_stratum.proofs.cones.classes.Given as goal

abbrev pub invariant-loop-i : goal.invariant-loop-i
invariant-loop-i l = AreFoundBefore l.surface (record { polygon = l.i; side = 0 }) l.marks l.cones
