-- The vector and the homes of the new edge of a flip: what is found is one only, and the homes are the first corners that hold the vectors.
use Rattle.std.proofs.Common.{◌≡◌, ◌≢◌, ℕ, ◌<◌, Result, Ok, Err, IfOk, length, refl, sym, ap, ◌∙◌, subst}
use Rattle.fs_lists.proofs.Results.{ok_equal, err_equal, ok_not_err}
use Rattle.fs_ring.specs.OrderedRing.{IsOrderedRing}
use Rattle.fs_ring.proofs.Directions as directions
use Rattle.fs_ring.proofs.Turns as turns
use Rattle.fs_quadratic.specs.Ring.{quadratic, IsPositive}
use Rattle.fs_quadratic.specs.declared.steps.Place.{Place}
use Rattle.fs_quadratic.proofs.Laws.{field_order}
use Rattle.fs_plane.specs.declared.corners.Corner.{Corner}
use Rattle.fs_plane.specs.Vector.{PlaneVector, vector_zero, vector_neg, cross}
use Rattle.fs_plane.proofs.FormulaLaws.{sum_value}
use Rattle.fs_triangles.proofs.FlippedTriangles.{convex_of_circle}
use Rattle.fs_gluing.specs.Homes.{home_of, FindsCorner}
use Rattle.fs_gluing.specs.Polygons.{HasSide}
use Rattle.fs_gluing.specs.Triangulation.{edge_twin, prev_in_face}
use Rattle.fs_gluing.proofs.Sides.CornerSearch.{found_corner_unique, found_corner_exists, first_of_found}
use Rattle.fs_mesh.specs.Meshes.{MeshValue, IsMesh, IsIllegal, hinge_after, hinge_before_twin}
use Rattle.fs_mesh.specs.FlippedMeshes.{flipped_vector, NewEdge, with_homes, FindsNewEdge, vector_overflows, searched, AreFirstHomes}
use Rattle.fs_mesh.proofs.HalfEdgeNumbers.{side_of_number, twin_is_below}
use Rattle.fs_mesh.proofs.HingeHalfEdges.{prev_is_below}

-- what a flip finds is one only
pub found_edge_unique : (m : MeshValue) (h : ℕ) (a b : Result NewEdge Place) → FindsNewEdge m h a → FindsNewEdge m h b → a ≡ b
found_edge_unique m h _ _ (vector_overflows stop e) (vector_overflows other f) = ap Err (err_equal stop other (sym e ∙ f))
found_edge_unique m h _ _ (vector_overflows stop e) (searched v home twin_home f s t) = absurd (ok_not_err v stop (sym f ∙ e))
found_edge_unique m h _ _ (searched v home twin_home e s t) (vector_overflows stop f) = absurd (ok_not_err v stop (sym e ∙ f))
found_edge_unique m h _ _ (searched v home twin_home e s t) (searched w corner twin_corner f k l) =
    let same = ok_equal w v (sym f ∙ e) in
    let from = home_of m.homes (prev_in_face (edge_twin m.triangles h)) in
    let twin_from = home_of m.homes (prev_in_face h) in
    let first = found_corner_unique m.surface from v 2 18 home corner s (subst (λ x. FindsCorner m.surface from x 2 18 corner) same k) in
    let second = found_corner_unique m.surface twin_from (vector_neg v) 11 18 twin_home twin_corner t (subst (λ x. FindsCorner m.surface twin_from (vector_neg x) 11 18 twin_corner) same l) in
    λ i. with_homes (sym same i) (first i) (second i)

-- what is known of a new edge that is found
pub record IsNewEdge (m : MeshValue) (h : ℕ) (new : NewEdge) : Type 0 where
  pub vector : flipped_vector m.triangles h ≡ Ok new.vector
  pub first : AreFirstHomes m h new
  pub home_there : HasSide m.surface.polygons new.home
  pub twin_home_there : HasSide m.surface.polygons new.twin_home

module _ (m : MeshValue) (mesh : IsMesh m) (h : ℕ) (there : h < length m.triangles.vectors) where
  abbrev L : IsOrderedRing (quadratic m.surface.d) (IsPositive m.surface.d)
  L = field_order mesh.surface.radicand

  -- the half-edges from whose homes is searched are there
  pub before_twin_there : prev_in_face (edge_twin m.triangles h) < length m.triangles.vectors
  before_twin_there = prev_is_below L m.triangles mesh.triangulation.triangles (edge_twin m.triangles h) (twin_is_below m.triangles mesh.triangulation.triangles h there)

  pub before_there : prev_in_face h < length m.triangles.vectors
  before_there = prev_is_below L m.triangles mesh.triangulation.triangles h there

  -- a new edge that is found has these homes
  pub is_new_edge : (r : Result NewEdge Place) → FindsNewEdge m h r → IfOk r (IsNewEdge m h)
  is_new_edge _ (vector_overflows stop e) = tt
  is_new_edge _ (searched v home twin_home e s t) = go home twin_home s t
    where
      go : (home twin_home : Result Corner Place) → FindsCorner m.surface (home_of m.homes (prev_in_face (edge_twin m.triangles h))) v 2 18 home
          → FindsCorner m.surface (home_of m.homes (prev_in_face h)) (vector_neg v) 11 18 twin_home → IfOk (with_homes v home twin_home) (IsNewEdge m h)
      go (Ok home) (Ok twin_home) s t =
          let first = first_of_found m.surface (home_of m.homes (prev_in_face (edge_twin m.triangles h))) v 2 18 mesh.surface (mesh.homes.corner _ before_twin_there) (Ok home) s in
          let second = first_of_found m.surface (home_of m.homes (prev_in_face h)) (vector_neg v) 11 18 mesh.surface (mesh.homes.corner _ before_there) (Ok twin_home) t in
          record { vector = e; first = record { home = first.0; twin_home = second.0 }; home_there = first.1; twin_home_there = second.1 }
      go (Ok home) (Err stop) s t = tt
      go (Err stop) (Ok twin_home) s t = tt
      go (Err one) (Err two) s t = tt

  module _ (illegal : IsIllegal m.surface.d m.triangles h) (v : PlaneVector) (sum : flipped_vector m.triangles h ≡ Ok v) where
    left_of_before : IsPositive m.surface.d (cross m.surface.d (hinge_before_twin m.triangles h) v)
    left_of_before =
        subst (λ x. IsPositive m.surface.d (cross m.surface.d (hinge_before_twin m.triangles h) x)) (sym (sum_value 0 (hinge_before_twin m.triangles h) (hinge_after m.triangles h) v sum))
        (directions.cross-add_self_right L (hinge_before_twin m.triangles h) (hinge_after m.triangles h)
        (convex_of_circle L mesh.triangulation.triangles h (side_of_number m.triangles h there) illegal).at_end)

    -- the vector of a new edge isn't zero, nor is its opposite
    pub new_vector-ne-zero : v ≢ vector_zero
    new_vector-ne-zero = directions.cross_positive-ne-zero_right L left_of_before

    pub new_opposite-ne-zero : vector_neg v ≢ vector_zero
    new_opposite-ne-zero = directions.cross_positive-ne-zero_left L (turns.left_of_opposite L left_of_before)

  -- something is found for an illegal edge
  pub found_edge_exists : IsIllegal m.surface.d m.triangles h → (r : Result NewEdge Place) × FindsNewEdge m h r
  found_edge_exists illegal = by_vector (flipped_vector m.triangles h) refl
    where
      by_vector : (x : Result PlaneVector Place) → flipped_vector m.triangles h ≡ x → (r : Result NewEdge Place) × FindsNewEdge m h r
      by_vector (Err stop) e = (Err stop, vector_overflows stop e)
      by_vector (Ok v) e =
          let first = found_corner_exists m.surface (home_of m.homes (prev_in_face (edge_twin m.triangles h))) v 2 18 mesh.surface (mesh.homes.corner _ before_twin_there) (new_vector-ne-zero illegal v e) in
          let second = found_corner_exists m.surface (home_of m.homes (prev_in_face h)) (vector_neg v) 11 18 mesh.surface (mesh.homes.corner _ before_there) (new_opposite-ne-zero illegal v e) in
          (with_homes v first.0 second.0, searched v first.0 second.0 e first.1 second.1)
