-- The hinge of an edge of a mesh: its half-edges are there, and its sides close.
use Rattle.std.proofs.Common.{◌≡◌, ℕ, ◌<◌, length, sym, ap, ◌∙◌, subst}
use Rattle.fs_ring.specs.OrderedRing.{IsOrderedRing}
use Rattle.fs_ring.proofs.Plane as plane
use Rattle.fs_quadratic.specs.Ring.{quadratic, IsPositive}
use Rattle.fs_quadratic.proofs.Laws.{quadratic_ring}
use Rattle.fs_plane.specs.Vector.{vector_add, vector_zero, cross, circle}
use Rattle.fs_triangles.specs.Triangles.{AreTriangles}
use Rattle.fs_triangles.proofs.TriangleSides as triangle_sides
use Rattle.fs_triangles.proofs.FlippedTriangles.{hinge_sum}
use Rattle.fs_gluing.specs.Triangulation.{Triangulation, face_sides, edge_vector, edge_twin, next_in_face, prev_in_face}
use Rattle.fs_mesh.specs.declared.arena.Hinge.{Hinge}
use Rattle.fs_mesh.specs.Arena.{IsWithin, hinge_of}
use Rattle.fs_mesh.specs.Meshes.{edge_circle, hinge_after, hinge_before, hinge_after_twin, hinge_before_twin}
use Rattle.fs_mesh.proofs.HalfEdgeNumbers.{side_of_number, number_of_side, next_is_below, twin_is_below}

module _ {d : ℕ} (L : IsOrderedRing (quadratic d) (IsPositive d)) (t : Triangulation) (triangles : AreTriangles (quadratic d) (IsPositive d) (face_sides t))
    (h : ℕ) (there : h < length t.vectors) where
  -- the half-edge before is the one after the next one
  pub prev_twice : next_in_face (next_in_face h) ≡ prev_in_face h
  prev_twice = sym (triangles.prev h (side_of_number t h there))

  -- it is a half-edge
  pub prev_is_below : prev_in_face h < length t.vectors
  prev_is_below = number_of_side t (prev_in_face h) (triangle_sides.prev_side L triangles h (side_of_number t h there))

  -- from the end of h, the sides of the hinge lead back there
  pub hinge_closes : vector_add (vector_add (hinge_after t h) (hinge_before t h)) (vector_add (hinge_after_twin t h) (hinge_before_twin t h)) ≡ vector_zero
  hinge_closes = hinge_sum L triangles h (side_of_number t h there)

  -- the face of h turns left after the half-edge after h
  pub left_turn : IsPositive d (cross d (hinge_after t h) (hinge_before t h))
  left_turn =
      subst (λ k. IsPositive d (cross d (hinge_after t h) (edge_vector t k))) prev_twice
      (triangles.counterclockwise (next_in_face h) (triangles.next_side h (side_of_number t h there)))

-- both half-edges of an edge have its circle value
pub circle_of_twin : {d : ℕ} (t : Triangulation) → AreTriangles (quadratic d) (IsPositive d) (face_sides t) → (h : ℕ) → h < length t.vectors → edge_circle d t h ≡ edge_circle d t (edge_twin t h)
circle_of_twin {d} t triangles h there =
    let back = triangles.twin_twin h (side_of_number t h there) in
    sym (plane.circle_swap (quadratic_ring d) (hinge_after t h) (hinge_before t h) (hinge_after_twin t h) (hinge_before_twin t h))
    ∙ (λ i. circle d (hinge_after_twin t h) (hinge_before_twin t h) (edge_vector t (next_in_face (sym back i))) (edge_vector t (prev_in_face (sym back i))))

-- the half-edges of a hinge, and the twins of its sides, are half-edges
pub hinge_within : {d : ℕ} → IsOrderedRing (quadratic d) (IsPositive d) → (t : Triangulation) → AreTriangles (quadratic d) (IsPositive d) (face_sides t) → (h : ℕ) → h < length t.vectors
    → IsWithin (length t.vectors) t.twins (hinge_of t h)
hinge_within L t triangles h there =
    let twin = twin_is_below t triangles h there in
    let after = next_is_below t triangles h there in
    let before = prev_is_below L t triangles h there in
    let after_twin = next_is_below t triangles (edge_twin t h) twin in
    let before_twin = prev_is_below L t triangles (edge_twin t h) twin in
    record {
      edge = there;
      after = after;
      before = before;
      twin = twin;
      after_twin = after_twin;
      before_twin = before_twin;
      twin_of_after = twin_is_below t triangles (next_in_face h) after;
      twin_of_before = twin_is_below t triangles (prev_in_face h) before;
      twin_of_after_twin = twin_is_below t triangles (next_in_face (edge_twin t h)) after_twin;
      twin_of_before_twin = twin_is_below t triangles (prev_in_face (edge_twin t h)) before_twin;
    }

-- a hinge that is read one half-edge after another is that of the edge
pub hinge_read : {d : ℕ} → IsOrderedRing (quadratic d) (IsPositive d) → (t : Triangulation) → AreTriangles (quadratic d) (IsPositive d) (face_sides t) → (h : ℕ) → h < length t.vectors
    → (hinge : Hinge) → hinge.edge ≡ h → hinge.after ≡ next_in_face h → hinge.before ≡ next_in_face hinge.after → hinge.twin ≡ edge_twin t h
    → hinge.after_twin ≡ next_in_face hinge.twin → hinge.before_twin ≡ next_in_face hinge.after_twin → hinge ≡ hinge_of t h
hinge_read L t triangles h there hinge edge after before twin after_twin before_twin =
    let next_of_twin = after_twin ∙ ap next_in_face twin in
    let prev = before ∙ ap next_in_face after ∙ prev_twice L t triangles h there in
    let prev_of_twin = before_twin ∙ ap next_in_face next_of_twin ∙ prev_twice L t triangles (edge_twin t h) (twin_is_below t triangles h there) in
    λ i. record { edge = edge i; after = after i; before = prev i; twin = twin i; after_twin = next_of_twin i; before_twin = prev_of_twin i }
