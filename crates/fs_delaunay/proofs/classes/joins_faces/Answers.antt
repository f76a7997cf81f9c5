-- The circle value of the edge is compared with 0.
use Rattle.std.proofs.Common.{◌≡◌, ◌↔◌, IsTrue, ◌∙◌, subst}
use Rattle.fs_quadratic.specs.Ring.{zero}
use Rattle.fs_delaunay.proofs.CellJoins.{edge_not_stopped}
use Rattle.fs_delaunay.proofs.classes.joins_faces.Goals as goal

pub returns-in-Ok : goal.returns-in-Ok
returns-in-Ok c =
    subst (λ v. IsTrue c.is_zero.result ↔ (v ≡ zero)) (c.in-Ok.ensures.value ∙ c.edge_of.ensures.circle) c.is_zero.ensures

pub returns-in-Err : goal.returns-in-Err
returns-in-Err c = absurd (edge_not_stopped c.args.mesh.now.surface.d c.args.mesh.now.triangles c.edge_of.result _ c.requires.legal c.edge_of.ensures.edge c.in-Err.ensures.formula)
