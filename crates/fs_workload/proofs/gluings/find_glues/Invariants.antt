-- The lines of the rectangles before this one are there.
use Rattle.std.proofs.Common.{◌≡◌}
use Rattle.fs_workload.specs.Staircase.{lines_of, rectangle_sides}
use Rattle.fs_workload.proofs.gluings.find_glues.Given as goal

abbrev pub invariant-loop-i : goal.invariant-loop-i
invariant-loop-i l = l.lines ≡ lines_of l.k (rectangle_sides l.i)
