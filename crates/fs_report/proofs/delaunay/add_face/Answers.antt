use Rattle.fs_report.proofs.DelaunayTexts.{face_written}
use Rattle.fs_report.proofs.delaunay.add_face.Goals as goal

pub returns : goal.returns
returns c = face_written c.args.f _ _ _ _ _ _ c.in_ok-vectors.ensures c.in_ok-twins.ensures c.in_ok-write.ensures.bytes
