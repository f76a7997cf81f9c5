-- Both homes of the new edge are searched for, from the homes of the half-edges before.
use Rattle.std.proofs.Common.{◌≢◌, ◌<◌, length, sym, ap, ◌∙◌, subst}
use Rattle.fs_lists.proofs.Results.{at_exit}
use Rattle.fs_plane.specs.Formulas.{vector_sum_after}
use Rattle.fs_plane.specs.Vector.{PlaneVector, vector_zero, vector_neg}
use Rattle.fs_gluing.specs.Homes.{home_of, FindsCorner}
use Rattle.fs_gluing.specs.Triangulation.{edge_vector}
use Rattle.fs_mesh.specs.Meshes.{IsMesh}
use Rattle.fs_mesh.specs.FlippedMeshes.{FindsNewEdge, vector_overflows, searched}
use Rattle.fs_mesh.proofs.NewEdges.{before_twin_there, new_vector-ne-zero, new_opposite-ne-zero}
use Rattle.fs_mesh.proofs.meshes.Mesh.new_edge.Goals as goal

pub vector-requires : goal.vector-requires
vector-requires c =
    let mesh = subst IsMesh c.self.view_is c.self.invariant.0 in
    subst (λ k. k.before_twin < length c.args.self.now.triangles.vectors) (sym c.requires.hinge) (before_twin_there c.args.self.now mesh c.args.edge c.requires.edge)

pub returns-in_err-vector : goal.returns-in_err-vector
returns-in_err-vector c =
    let t = c.args.self.now.triangles in
    let first = c.vector.ensures ∙ ap (λ k. edge_vector t k.before_twin) c.requires.hinge in
    let second = c.vector-2.ensures ∙ ap (λ k. edge_vector t k.after) c.requires.hinge in
    at_exit (FindsNewEdge c.args.self.now c.args.edge) c.from_residual.result c.in_err-vector.field-0.0 c.from_residual.ensures.1
    (vector_overflows c.in_err-vector.field-0.0 ((λ i. vector_sum_after 0 (sym first i) (sym second i)) ∙ sym c.in_err-vector.ensures))

pub home_of-requires : goal.home_of-requires
home_of-requires c =
    let mesh = subst IsMesh c.self.view_is c.self.invariant.0 in
    subst (λ k. k.before_twin < length c.args.self.now.triangles.vectors) (sym c.requires.hinge) (before_twin_there c.args.self.now mesh c.args.edge c.requires.edge)

pub find_corner-home-requires-clause-direction : goal.find_corner-home-requires-clause-direction
find_corner-home-requires-clause-direction c =
    let mesh = subst IsMesh c.self.view_is c.self.invariant.0 in
    let t = c.args.self.now.triangles in
    let first = c.vector.ensures ∙ ap (λ k. edge_vector t k.before_twin) c.requires.hinge in
    let second = c.vector-2.ensures ∙ ap (λ k. edge_vector t k.after) c.requires.hinge in
    new_vector-ne-zero c.args.self.now mesh c.args.edge c.requires.edge c.requires.illegal c.in_ok-vector.vector ((λ i. vector_sum_after 0 (sym first i) (sym second i)) ∙ sym c.in_ok-vector.ensures)

pub find_corner-twin_home-requires-clause-direction : goal.find_corner-twin_home-requires-clause-direction
find_corner-twin_home-requires-clause-direction c =
    let mesh = subst IsMesh c.self.view_is c.self.invariant.0 in
    let t = c.args.self.now.triangles in
    let first = c.vector.ensures ∙ ap (λ k. edge_vector t k.before_twin) c.requires.hinge in
    let second = c.vector-2.ensures ∙ ap (λ k. edge_vector t k.after) c.requires.hinge in
    subst (λ (w : PlaneVector). w ≢ vector_zero) (sym c.neg.ensures)
    (new_opposite-ne-zero c.args.self.now mesh c.args.edge c.requires.edge c.requires.illegal c.in_ok-vector.vector ((λ i. vector_sum_after 0 (sym first i) (sym second i)) ∙ sym c.in_ok-vector.ensures))

pub returns : goal.returns
returns c =
    let m = c.args.self.now in
    let first = c.vector.ensures ∙ ap (λ k. edge_vector m.triangles k.before_twin) c.requires.hinge in
    let second = c.vector-2.ensures ∙ ap (λ k. edge_vector m.triangles k.after) c.requires.hinge in
    let from = c.home_of.ensures.home ∙ ap (λ k. home_of m.homes k.before_twin) c.requires.hinge in
    let twin_from = c.home_of-2.ensures.home ∙ ap (λ k. home_of m.homes k.before) c.requires.hinge in
    let surface = ap (λ w. w.surface) c.self.view_is in
    subst (FindsNewEdge m c.args.edge) (sym c.with_homes.ensures)
    (searched c.in_ok-vector.vector c.find_corner-home.result c.find_corner-twin_home.result ((λ i. vector_sum_after 0 (sym first i) (sym second i)) ∙ sym c.in_ok-vector.ensures)
    (subst (λ k. FindsCorner m.surface k c.in_ok-vector.vector 2 18 c.find_corner-home.result) from
    (subst (λ s. FindsCorner s c.home_of.result c.in_ok-vector.vector 2 18 c.find_corner-home.result) surface c.find_corner-home.ensures.found))
    (subst (λ k. FindsCorner m.surface k (vector_neg c.in_ok-vector.vector) 11 18 c.find_corner-twin_home.result) twin_from
    (subst (λ w. FindsCorner m.surface c.home_of-2.result w 11 18 c.find_corner-twin_home.result) c.neg.ensures
    (subst (λ s. FindsCorner s c.home_of-2.result c.neg.result 11 18 c.find_corner-twin_home.result) surface c.find_corner-twin_home.ensures.found))))
