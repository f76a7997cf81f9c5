use Rattle.std.proofs.Common.{refl}
use Rattle.std.proofs.lemmas.Result.{IfOk-weaker}
use Rattle.fs_report.specs.DelaunayText.{not_celled}
use Rattle.fs_report.proofs.DelaunayUnique.{answered_celled, answered_at_stop}
use Rattle.fs_report.proofs.cells.answer_cells.Goals as goal

pub returns-in_ok-cells_text-in-Ok : goal.returns-in_ok-cells_text-in-Ok
returns-in_ok-cells_text-in-Ok c =
    let found = c.in_ok-cells_text-in-Ok.ensures.text in
    answered_celled c.args.surface.now c.args.budget c.in_ok-mesh.mesh c.in_ok-mesh.ensures.first_cut c.in-Ok.delaunay c.in-Ok.ensures.surface
    c.in_ok-cells_text-in-Ok.ensures.mesh c.in-Ok.ensures.run c.in-Ok.ensures.delaunay _ _ found.0 found.1 found.2 refl

pub returns-in-Err : goal.returns-in-Err
returns-in-Err c =
    IfOk-weaker c.stopped.result _ _
    (λ answer is. not_celled (answered_at_stop c.args.surface.now c.args.budget c.in_ok-mesh.mesh c.in_ok-mesh.ensures.first_cut _ _ _ c.in-Err.stop c.in-Err.ensures.run is))
    c.stopped.ensures
