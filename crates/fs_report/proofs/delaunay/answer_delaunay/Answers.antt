use Rattle.std.proofs.Common.{refl}
use Rattle.std.proofs.lemmas.Result.{IfOk-weaker}
use Rattle.fs_report.specs.DelaunayText.{stopped}
use Rattle.fs_report.proofs.DelaunayUnique.{answered_whole, answered_at_stop}
use Rattle.fs_report.proofs.delaunay.answer_delaunay.Goals as goal

pub returns-in_ok-whole_text-in-Ok : goal.returns-in_ok-whole_text-in-Ok
returns-in_ok-whole_text-in-Ok c =
    answered_whole c.args.surface.now c.args.budget c.in_ok-mesh.mesh c.in_ok-mesh.ensures.first_cut c.in-Ok.delaunay c.in-Ok.ensures.surface
    c.in_ok-whole_text-in-Ok.ensures.mesh c.in-Ok.ensures.run c.in-Ok.ensures.delaunay _ _ c.in_ok-whole_text-in-Ok.ensures.text refl

pub returns-in-Err : goal.returns-in-Err
returns-in-Err c =
    IfOk-weaker c.stopped.result _ _
    (λ answer is. stopped (answered_at_stop c.args.surface.now c.args.budget c.in_ok-mesh.mesh c.in_ok-mesh.ensures.first_cut _ _ _ c.in-Err.stop c.in-Err.ensures.run is))
    c.stopped.ensures
