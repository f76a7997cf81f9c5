use Rattle.std.proofs.Common.{◌≡◌, ◌++◌, string_bytes}
use Rattle.std.specs.Prelude.{unsigned_abs}
use Rattle.fs_report.specs.DelaunayText.{face_lines}
use Rattle.fs_report.proofs.delaunay.add_faces.Given as goal

-- the lines of the faces so far were added
abbrev pub invariant-loop-f : goal.invariant-loop-f
invariant-loop-f l = string_bytes l.text ≡ string_bytes l.initial.text ++ face_lines (unsigned_abs l.mesh.surface.den) l.mesh.triangles 0 l.f
