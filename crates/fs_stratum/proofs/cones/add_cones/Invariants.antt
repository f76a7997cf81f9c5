-- The vertices with a corner before side j of polygon i are found.
use Rattle.fs_stratum.specs.VerticesFound.{AreFoundBefore}
use Rattle.fs_stratum.proofs.cones.add_cones.Given as goal

abbrev pub invariant-loop-j : goal.invariant-loop-j
invariant-loop-j l = AreFoundBefore l.surface (record { polygon = l.i; side = l.j }) l.marks l.cones
