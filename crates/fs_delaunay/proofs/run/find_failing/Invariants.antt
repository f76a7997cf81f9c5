-- The numbers below `from` aren't suspects, and each edge that isn't one passes.
use Rattle.std.proofs.Common.{◌-◌, length}
use Rattle.fs_delaunay.proofs.SuspectSearch.{SearchesSuspects}
use Rattle.fs_delaunay.proofs.run.find_failing.Given as goal

abbrev pub invariant-loop-h : goal.invariant-loop-h
invariant-loop-h l = SearchesSuspects l.mesh.surface.d l.mesh.triangles l.suspects l.from

abbrev pub decreases-loop-h : goal.decreases-loop-h
decreases-loop-h l = length l.mesh.triangles.vectors - l.from
