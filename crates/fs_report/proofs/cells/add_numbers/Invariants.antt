use Rattle.std.proofs.Common.{◌≡◌, ◌++◌, take, string_bytes}
use Rattle.fs_report.specs.DelaunayText.{spaced_numbers}
use Rattle.fs_report.proofs.cells.add_numbers.Given as goal

-- the numbers so far were added
abbrev pub invariant-loop-number : goal.invariant-loop-number
invariant-loop-number l = string_bytes l.text ≡ string_bytes l.initial.text ++ spaced_numbers (take l.number-index l.numbers)
