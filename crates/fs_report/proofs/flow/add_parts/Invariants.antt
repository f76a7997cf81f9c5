use Rattle.std.proofs.Common.{◌≡◌, ◌++◌, take, string_bytes}
use Rattle.std.specs.Prelude.{unsigned_abs}
use Rattle.fs_report.specs.FlowText.{part_lines}
use Rattle.fs_report.proofs.flow.add_parts.Given as goal

-- the lines of the parts so far were added
abbrev pub invariant-loop-part : goal.invariant-loop-part
invariant-loop-part l = string_bytes l.text ≡ string_bytes l.initial.text ++ part_lines (unsigned_abs l.surface.den) (take l.part-index l.parts)
