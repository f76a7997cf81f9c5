-- The rectangles before this one are made, and the state is that of its first draw.
use Rattle.std.proofs.Common.{◌≡◌, ◌+◌, map}
use Rattle.std.specs.List.{range_with_len}
use Rattle.fs_workload.specs.Draws.{state_after}
use Rattle.fs_workload.specs.Staircase.{rectangle_at}
use Rattle.fs_workload.proofs.rectangles.find_rectangles.Given as goal

abbrev pub invariant-loop-i : goal.invariant-loop-i
invariant-loop-i l = (l.state ≡ state_after l.seed (l.i + 1)) × (l.polygons ≡ map (rectangle_at l.seed) (range_with_len 0 l.i))
