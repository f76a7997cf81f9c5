-- The half-edge before one is the next one of its next one.
use Rattle.std.proofs.Common.{◌≡◌, ◌<◌, length, true, ap, ◌∙◌, subst}
use Rattle.std.proofs.Math.ListN.{set}
use Rattle.fs_quadratic.proofs.Laws.{field_order}
use Rattle.fs_gluing.specs.Triangulation.{edge_twin, next_in_face, prev_in_face}
use Rattle.fs_mesh.proofs.HingeHalfEdges.{prev_twice}
use Rattle.fs_delaunay.specs.Suspects.{edge_name}
use Rattle.fs_delaunay.proofs.run.suspect_hinge.Goals as goal

pub returns : goal.returns
returns c =
    let t = c.args.mesh.now.triangles in
    let e = c.args.edge in
    let order = field_order c.requires.mesh.surface.radicand in
    let triangles = c.requires.mesh.triangulation.triangles in
    let twin_there = subst (λ h. h < length t.vectors) c.twin-twin.ensures.twin c.twin-twin.ensures.there in
    let after = c.next-after.ensures.next in
    let before : c.next.result ≡ prev_in_face e = c.next.ensures.next ∙ ap next_in_face after ∙ prev_twice order t triangles e c.requires.there in
    let after_twin : c.next-after_twin.result ≡ next_in_face (edge_twin t e) = c.next-after_twin.ensures.next ∙ ap next_in_face c.twin-twin.ensures.twin in
    let before_twin : c.next-2.result ≡ prev_in_face (edge_twin t e) = c.next-2.ensures.next ∙ ap next_in_face after_twin ∙ prev_twice order t triangles (edge_twin t e) twin_there in
    let one = c.insert.ensures in
    let two = c.suspect_edge.ensures ∙ (λ i. set (one i) (edge_name t (after i)) true) in
    let three = c.suspect_edge-2.ensures ∙ (λ i. set (two i) (edge_name t (before i)) true) in
    let four = c.suspect_edge-3.ensures ∙ (λ i. set (three i) (edge_name t (after_twin i)) true) in
    c.suspect_edge-4.ensures ∙ (λ i. set (four i) (edge_name t (before_twin i)) true)
