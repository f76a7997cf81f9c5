use Rattle.std.proofs.Common.{◌≡◌, length, take, sum_by}
use Rattle.fs_report.proofs.answers.count_sides.Given as goal

-- the sides of the polygons so far
abbrev pub invariant-loop-i : goal.invariant-loop-i
invariant-loop-i l = l.sides ≡ sum_by length (take l.i l.surface.polygons)
