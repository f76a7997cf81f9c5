use Rattle.std.proofs.Common.{◌≡◌, ◌++◌, take, string_bytes}
use Rattle.fs_report.specs.Text.{spaced_sides}
use Rattle.fs_report.proofs.segment.add_sides.Given as goal

-- the sides so far were added
abbrev pub invariant-loop-side : goal.invariant-loop-side
invariant-loop-side l = string_bytes l.text ≡ string_bytes l.initial.text ++ spaced_sides (take l.side-index l.sides)
