-- The polygons before i are reached.
use Rattle.std.proofs.Common.{◌-◌, length}
use Rattle.std.specs.List.{range_with_len}
use Rattle.fs_gluing.specs.TestsInOrder.{PassesBefore}
use Rattle.fs_gluing.specs.Reached.{IsReached}
use Rattle.fs_gluing.specs.Surface.{AreNeighbours}
use Rattle.fs_gluing.proofs.reaching.check_reached.Given as goal

abbrev pub invariant-loop-i : goal.invariant-loop-i
invariant-loop-i l = PassesBefore (IsReached (AreNeighbours l.polygons)) (range_with_len 0 (length l.polygons)) (range_with_len l.i (length l.polygons - l.i))
