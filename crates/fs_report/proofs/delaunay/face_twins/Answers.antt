use Rattle.std.proofs.lemmas.Result.{IfOk-weaker}
use Rattle.fs_report.proofs.DelaunayTexts.{twins_spelled}
use Rattle.fs_report.proofs.delaunay.face_twins.Goals as goal

pub returns : goal.returns
returns c =
    IfOk-weaker c.format.result _ _ (λ line e. twins_spelled _ _ _ _ _ _ _ c.twin-one.ensures.twin c.twin-two.ensures.twin c.twin-three.ensures.twin e) c.format.ensures.ok
