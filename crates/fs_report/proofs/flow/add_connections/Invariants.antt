use Rattle.std.proofs.Common.{◌≡◌, ◌++◌, take, string_bytes}
use Rattle.std.specs.Prelude.{unsigned_abs}
use Rattle.fs_report.specs.FlowText.{connection_lines}
use Rattle.fs_report.proofs.flow.add_connections.Given as goal

-- the lines of the connections so far were added
abbrev pub invariant-loop-entry : goal.invariant-loop-entry
invariant-loop-entry l = string_bytes l.text ≡ string_bytes l.initial.text ++ connection_lines (unsigned_abs l.surface.den) (take l.entry-index l.entries)
