use Rattle.std.proofs.Common.{◌∙◌, refl, subst}
use Rattle.std.proofs.lemmas.Result.{IfOk-weaker}
use Rattle.fs_mesh.specs.Meshes.{IsMesh}
use Rattle.fs_report.proofs.SaddlesUnique.{answered_at_run_stop, answered_list, answered_at_list_stop}
use Rattle.fs_report.proofs.saddles.answer_saddles.Goals as goal

pub returns-in-Err : goal.returns-in-Err
returns-in-Err c =
    IfOk-weaker c.stopped.result _ _
    (λ answer is. answered_at_run_stop c.args.surface.now c.args.budget c.args.limit c.in_ok-mesh.mesh c.in_ok-mesh.ensures.first_cut _ _ _ c.in-Err.stop (c.deref.ensures ∙ c.in_ok-words.ensures) c.in-Err.ensures.run is)
    c.stopped.ensures

pub returns-in-Ok-find_saddles : goal.returns-in-Ok-find_saddles
returns-in-Ok-find_saddles c =
    answered_list c.args.surface.now c.args.budget c.args.limit c.in_ok-mesh.mesh c.in_ok-mesh.ensures.first_cut c.in-Ok.delaunay c.in-Ok.ensures.surface
    (subst IsMesh c.mesh.ensures.mesh c.faces.ensures.mesh) c.in-Ok.ensures.run c.in-Ok.ensures.delaunay c.in-Ok-find_saddles.saddles _ _ _ (c.deref-in-Ok-find_saddles.ensures ∙ c.in_ok-words.ensures)
    c.in-Ok-find_saddles.ensures.saddles c.in-Ok-find_saddles.ensures.list c.in_ok-whole_text-in-Ok-find_saddles.ensures refl

pub returns : goal.returns
returns c =
    IfOk-weaker c.list_stopped.result _ _
    (λ answer is. answered_at_list_stop c.args.surface.now c.args.budget c.args.limit c.in_ok-mesh.mesh c.in_ok-mesh.ensures.first_cut c.in-Ok.delaunay c.in-Ok.ensures.surface
    (subst IsMesh c.mesh.ensures.mesh c.faces.ensures.mesh) c.in-Ok.ensures.run c.in-Ok.ensures.delaunay _ _ _ c.in-Err-find_saddles.stop (c.deref-in-Err-find_saddles.ensures ∙ c.in_ok-words.ensures) c.in-Err-find_saddles.ensures.saddles is)
    c.list_stopped.ensures
