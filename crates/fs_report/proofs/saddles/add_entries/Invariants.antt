use Rattle.std.proofs.Common.{◌≡◌, ◌++◌, take, string_bytes}
use Rattle.std.specs.Prelude.{unsigned_abs}
use Rattle.fs_report.specs.SaddlesText.{saddle_lines}
use Rattle.fs_report.proofs.saddles.add_entries.Given as goal

-- the lines of the entries so far were added
abbrev pub invariant-loop-entry : goal.invariant-loop-entry
invariant-loop-entry l = string_bytes l.text ≡ string_bytes l.initial.text ++ saddle_lines (unsigned_abs l.surface.den) (take l.entry-index l.entries)
