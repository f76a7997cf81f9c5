-- The circle value is that of the twin too, and its sign says whether the fourth vertex is inside the circle of a face.
use Rattle.std.proofs.Common.{◌≡◌, ap, ◌∙◌, subst}
use Rattle.std.specs.Result.{IfOk}
use Rattle.fs_quadratic.proofs.Laws.{field_order}
use Rattle.fs_plane.specs.Formulas.{circle_after}
use Rattle.fs_plane.specs.Vector.{circle}
use Rattle.fs_plane.proofs.CircleLaws.{circle_given_inside}
use Rattle.fs_gluing.specs.Triangulation.{edge_vector}
use Rattle.fs_mesh.specs.Meshes.{IsMesh, hinge_after, hinge_before, hinge_after_twin, hinge_before_twin}
use Rattle.fs_mesh.proofs.HingeHalfEdges.{hinge_closes, left_turn, circle_of_twin}
use Rattle.fs_mesh.proofs.meshes.Mesh.circle_of.Goals as goal

pub returns-clause-inside : goal.returns-clause-inside
returns-clause-inside c =
    let mesh = subst IsMesh c.self.view_is c.self.invariant.0 in
    let order = field_order mesh.surface.radicand in
    let triangles = mesh.triangulation.triangles in
    let t = c.args.self.now.triangles in
    let d = c.field.ensures.field ∙ ap (λ m. m.surface.d) c.self.view_is in
    let hinge = c.hinge-hinge.ensures.hinge in
    let after = c.vector.ensures ∙ ap (λ k. edge_vector t k.after) hinge in
    let before = c.vector-2.ensures ∙ ap (λ k. edge_vector t k.before) hinge in
    let after_twin = c.vector-3.ensures ∙ ap (λ k. edge_vector t k.after_twin) hinge in
    let before_twin = c.vector-4.ensures ∙ ap (λ k. edge_vector t k.before_twin) hinge in
    circle_given_inside 0 c.args.self.now.surface.d (hinge_after t c.args.edge) (hinge_before t c.args.edge) (hinge_after_twin t c.args.edge) (hinge_before_twin t c.args.edge)
    mesh.surface.radicand (hinge_closes order t triangles c.args.edge c.requires.there) (left_turn order t triangles c.args.edge c.requires.there) c.circle.result
    (c.circle.ensures.formula ∙ (λ i. circle_after 0 (d i) (after i) (before i) (after_twin i) (before_twin i)))

pub returns-clause-edge : goal.returns-clause-edge
returns-clause-edge c =
    let mesh = subst IsMesh c.self.view_is c.self.invariant.0 in
    let t = c.args.self.now.triangles in
    let d = c.field.ensures.field ∙ ap (λ m. m.surface.d) c.self.view_is in
    let hinge = c.hinge-hinge.ensures.hinge in
    let after = c.vector.ensures ∙ ap (λ k. edge_vector t k.after) hinge in
    let before = c.vector-2.ensures ∙ ap (λ k. edge_vector t k.before) hinge in
    let after_twin = c.vector-3.ensures ∙ ap (λ k. edge_vector t k.after_twin) hinge in
    let before_twin = c.vector-4.ensures ∙ ap (λ k. edge_vector t k.before_twin) hinge in
    subst (λ w. IfOk c.circle.result (λ value. value ≡ w))
    ((λ i. circle (d i) (after i) (before i) (after_twin i) (before_twin i)) ∙ circle_of_twin t mesh.triangulation.triangles c.args.edge c.requires.there)
    c.circle.ensures.value
