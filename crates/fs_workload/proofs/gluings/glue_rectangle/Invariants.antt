-- The lines of the sides before this one are added.
use Rattle.std.proofs.Common.{◌≡◌, ◌++◌}
use Rattle.fs_gluing.specs.Gluing.{sides_between}
use Rattle.fs_workload.specs.Staircase.{lines_of}
use Rattle.fs_workload.proofs.gluings.glue_rectangle.Given as goal

abbrev pub invariant-loop-side : goal.invariant-loop-side
invariant-loop-side l = l.lines ≡ l.initial.lines ++ lines_of l.k (sides_between l.i 0 l.side)
