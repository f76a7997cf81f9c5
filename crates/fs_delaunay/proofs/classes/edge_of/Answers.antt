-- The lesser of two twins names their edge, which has one circle value.
use Rattle.std.proofs.Common.{◌≤◌, sym, ap, ◌∙◌, subst}
use Rattle.fs_gluing.specs.Triangulation.{IsEdge}
use Rattle.fs_mesh.specs.Meshes.{edge_circle}
use Rattle.fs_mesh.proofs.HingeHalfEdges.{circle_of_twin}
use Rattle.fs_delaunay.proofs.CellJoins.{twin_names_edge}
use Rattle.fs_delaunay.proofs.classes.edge_of.Goals as goal

pub returns-clause-edge : goal.returns-clause-edge
returns-clause-edge c =
    let mesh = c.requires.mesh in
    subst (IsEdge c.args.mesh.now.triangles) (sym c.twin-twin.ensures.twin)
    (twin_names_edge c.args.mesh.now.triangles mesh.triangulation.triangles mesh.surface.radicand c.args.h c.requires.there
    (subst (λ g. g ≤ c.args.h) c.twin-twin.ensures.twin c.if-h-twin.false))

pub returns-clause-circle : goal.returns-clause-circle
returns-clause-circle c =
    let mesh = c.requires.mesh in
    ap (edge_circle c.args.mesh.now.surface.d c.args.mesh.now.triangles) c.twin-twin.ensures.twin
    ∙ sym (circle_of_twin c.args.mesh.now.triangles mesh.triangulation.triangles c.args.h c.requires.there)
