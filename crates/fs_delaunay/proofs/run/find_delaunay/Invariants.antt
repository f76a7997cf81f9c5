-- Checked flips led to the mesh, each edge that isn't a suspect passes, and where nothing was left to flip each edge does.
use Rattle.std.proofs.Common.{◌+◌, ◌-◌, length, cond}
use Rattle.fs_delaunay.proofs.RunsUnderWay.{IsUnderWay}
use Rattle.fs_delaunay.proofs.run.find_delaunay.Given as goal

abbrev pub invariant-loop-more : goal.invariant-loop-more
invariant-loop-more l = IsUnderWay l.fn.mesh l.budget l.mesh l.suspects l.edges l.more

abbrev pub decreases-loop-more : goal.decreases-loop-more
decreases-loop-more l = (l.budget - length l.edges) + cond l.more 1 0
