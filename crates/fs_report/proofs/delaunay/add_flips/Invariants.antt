use Rattle.std.proofs.Common.{◌≡◌, ◌++◌, take, string_bytes}
use Rattle.fs_report.specs.DelaunayText.{flip_lines}
use Rattle.fs_report.proofs.delaunay.add_flips.Given as goal

-- the lines of the flips so far were added
abbrev pub invariant-loop-edge : goal.invariant-loop-edge
invariant-loop-edge l = string_bytes l.text ≡ string_bytes l.initial.text ++ flip_lines (take l.edge-index l.edges)
