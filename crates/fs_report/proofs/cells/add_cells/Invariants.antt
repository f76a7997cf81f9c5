use Rattle.std.proofs.Common.{◌≡◌, ◌++◌, take, string_bytes}
use Rattle.fs_report.specs.DelaunayText.{cell_lines}
use Rattle.fs_report.proofs.cells.add_cells.Given as goal

-- the lines of the cells so far were added
abbrev pub invariant-loop-c : goal.invariant-loop-c
invariant-loop-c l = string_bytes l.text ≡ string_bytes l.initial.text ++ cell_lines 0 (take l.c l.cells)
