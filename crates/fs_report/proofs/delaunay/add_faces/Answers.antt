use Rattle.std.specs.Prelude.{unsigned_abs}
use Rattle.fs_report.specs.DelaunayText.{face_line}
use Rattle.fs_report.proofs.DelaunayTexts.{number_written}
use Rattle.fs_report.proofs.delaunay.add_faces.Goals as goal

pub loop-f-preserved : goal.loop-f-preserved
loop-f-preserved c = number_written (face_line (unsigned_abs c.args.mesh.now.surface.den) c.args.mesh.now.triangles) c.loop-f.f _ _ _ c.loop-f.invariant c.in_ok-add_face.ensures
