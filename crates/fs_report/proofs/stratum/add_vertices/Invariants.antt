use Rattle.std.proofs.Common.{◌≡◌, ◌++◌, take, string_bytes}
use Rattle.fs_report.specs.Text.{vertex_lines}
use Rattle.fs_report.proofs.stratum.add_vertices.Given as goal

-- the lines of the vertices so far were added
abbrev pub invariant-loop-cone : goal.invariant-loop-cone
invariant-loop-cone l = string_bytes l.text ≡ string_bytes l.initial.text ++ vertex_lines (take l.cone-index l.cones)
