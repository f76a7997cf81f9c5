-- A flip is a cut undone and another cut: the two triangles at an edge, as one polygon, are cut along the other diagonal. A library for crates to come.
use Rattle.std.proofs.Common.{◌≡◌, ◌≢◌, ◌⊎◌, Bool, [], ◌∷◌, refl, sym, ap, ◌∙◌, inl, inr}
use Rattle.fs_ring.specs.Operations.{Operations}
use Rattle.fs_ring.specs.OrderedRing.{IsOrderedRing}
use Rattle.fs_ring.specs.Vector.{Vector, zero_vector, add_vector}
use Rattle.fs_ring.proofs.Solver.{expressions as E}
use Rattle.fs_ring.proofs.PlaneSolver.{vector_identity, ◌≐ᵥ◌}
use Rattle.fs_convex.specs.Turning.{DecidesHalfPlanes}
use Rattle.fs_paths.specs.SideGluing.{SideGluing, IsSide, AreGluedPolygons}
use Rattle.fs_paths.specs.Development.{IsPutAt}
use Rattle.fs_cuts.specs.EdgeRemoval.{TellsNames, IsWithoutEdge, without_edge}
use Rattle.fs_cuts.specs.Cuts.{IsCut}
use Rattle.fs_cuts.proofs.EdgeRemoval as removal
use Rattle.fs_cuts.proofs.WithoutEdge as without
use Rattle.fs_triangles.specs.Triangles.{AreTriangles}
use Rattle.fs_triangles.specs.Flips.{moved, IsFlip, IsConvexHinge}
use Rattle.fs_triangles.proofs.TriangleSides as triangle_sides
use Rattle.fs_triangles.proofs.HingeNames as hinge_names
use Rattle.fs_triangles.proofs.HingeNames.{IsMovedTo, edge, after_edge, before_edge, twin_edge, after_twin, before_twin, outside}
use Rattle.fs_triangles.proofs.FlippedTriangles as flipped_triangles

module _ {A : Type 0} {R : Operations A} {IsPositive : A → Type 0} (L : IsOrderedRing R IsPositive)
    {is_ahead : Vector A → Vector A → Bool} (test : DecidesHalfPlanes R IsPositive is_ahead)
    {X : Type 0} {same : X → X → Bool} (tells : TellsNames same)
    {G : SideGluing X A} (t : AreTriangles R IsPositive G) (g : AreGluedPolygons R IsPositive is_ahead G) (h : X) (h_side : IsSide G h)
    (convex : IsConvexHinge R IsPositive G h)
    {H : SideGluing X A} (f : IsFlip R same G H h) where
  abbrev e : X
  e = G.twin h

  abbrev m : X → X
  m = moved same G h

  -- the triangles without the edge: the hinge becomes one polygon
  abbrev K : SideGluing X A
  K = without_edge same G h

  r : IsWithoutEdge G K h e
  r = without.is_without_edge tells g h h_side (triangle_sides.twin_apart L t h h_side)

  other : IsWithoutEdge G K e h
  other = removal.mirrored L test g r

  e_side : IsSide G e
  e_side = t.twin_side h h_side

  next_before_edge : K.next (G.prev h) ≡ G.next e
  next_before_edge = r.next_before_d

  next_before_twin : K.next (G.prev e) ≡ G.next h
  next_before_twin = r.next_before_e

  next_after_edge : K.next (G.next h) ≡ G.prev h
  next_after_edge =
      r.next_kept (G.next h) (removal.after_d_side L test g r) (triangle_sides.next_not_prev L t h h_side) (hinge_names.next_not_prev_of_twin L tells t h h_side)
      ∙ sym (t.prev h h_side)

  next_after_twin : K.next (G.next e) ≡ G.prev e
  next_after_twin =
      r.next_kept (G.next e) (removal.after_d_side L test g other) (λ k. hinge_names.prev_not_next_of_twin L tells t h h_side (sym k)) (triangle_sides.next_not_prev L t e e_side)
      ∙ sym (t.prev e e_side)

  next_after : (x : X) → IsSide K x → x ≢ G.next e → x ≢ G.next h → H.next (m x) ≡ m (K.next x)
  next_after x s n o = elim (hinge_names.spot L tells t h h_side x) [
    | edge i ↦ absurd (r.not_d x s i)
    | twin_edge i ↦ absurd (r.not_e x s i)
    | after_edge i ↦ absurd (o i)
    | after_twin i ↦ absurd (n i)
    | before_edge i ↦
        ap (λ y. H.next (m y)) i
        ∙ ap H.next (hinge_names.moved_prev L tells t h h_side)
        ∙ f.next (G.next h)
        ∙ sym (t.prev h h_side)
        ∙ sym (hinge_names.moved_next_of_twin L tells t h h_side)
        ∙ ap m (sym next_before_edge ∙ ap K.next (sym i))
    | before_twin i ↦
        ap (λ y. H.next (m y)) i
        ∙ ap H.next (hinge_names.moved_prev_of_twin L tells t h h_side)
        ∙ f.next (G.next e)
        ∙ sym (t.prev e e_side)
        ∙ sym (hinge_names.moved_next L tells t h h_side)
        ∙ ap m (sym next_before_twin ∙ ap K.next (sym i))
    | outside i ↦
        ap H.next (hinge_names.moved_outside L tells t h h_side i)
        ∙ f.next x
        ∙ sym (hinge_names.moved_outside L tells t h h_side (hinge_names.outside_next L tells t h h_side x (r.side_before x s) i))
        ∙ ap m (sym (r.next_kept x s i.not_prev i.not_prev_of_twin))
  ]

  sides_after : (y : X) → IsSide H y → (y ≡ h) ⊎ ((y ≡ e) ⊎ ((x : X) × IsSide K x × (y ≡ m x)))
  sides_after y s = elim (hinge_names.edge_or_moved L tells t h h_side y (flipped_triangles.side_of L tells t h h_side f s)) [
    | inl i ↦ inl i
    | inr (inl i) ↦ inr (inl i)
    | inr (inr i) ↦ elim (r.sides i.name i.side) [
      | inl k ↦ absurd (i.not_edge k)
      | inr (inl k) ↦ absurd (i.not_twin k)
      | inr (inr k) ↦ inr (inr (i.name, k, i.is))
    ]
  ]

  -- from the end of the half-edge after the twin, two sides lead across the hinge
  span_of_edge : IsPutAt R K (K.next (G.next e)) (zero_vector R) (K.next (G.next h)) (H.vector h)
  span_of_edge = record {
    number = 2;
    side = ap (λ x. K.next (K.next x)) next_after_twin ∙ ap K.next next_before_twin;
    corner =
        ap (λ x. add_vector R (add_vector R (zero_vector R) (G.vector x)) (G.vector (K.next x))) next_after_twin
        ∙ ap (λ x. add_vector R (add_vector R (zero_vector R) (G.vector (G.prev e))) (G.vector x)) next_before_twin
        ∙ vector_identity L.ring [] (G.vector (G.prev e) ∷ G.vector (G.next h) ∷ [])
        (λ u v. add_vector E (add_vector E (zero_vector E) u) v ≐ᵥ add_vector E u v) refl
        ∙ sym f.edge;
  }

  -- the polygon without the edge is cut along its other diagonal
  pub cut_by_flipped_edge : IsCut R (without_edge same G h) H (moved same G h) (G.next (G.twin h)) (G.next h) h (G.twin h)
  cut_by_flipped_edge = record {
    p_side = removal.after_d_side L test g other;
    q_side = removal.after_d_side L test g r;
    d_side = flipped_triangles.side_after L tells t h h_side f h_side;
    e_side = flipped_triangles.side_after L tells t h h_side f e_side;
    kept_side = λ x s. flipped_triangles.side_after L tells t h h_side f (hinge_names.moved_side L tells t h h_side x (r.side_before x s));
    kept_not_d = λ x s. hinge_names.moved_not_edge L tells t h h_side (r.not_d x s);
    kept_not_e = λ x s. hinge_names.moved_not_twin L tells t h h_side (r.not_e x s);
    one_to_one = λ x y j k i. hinge_names.moved_one_to_one L tells t h h_side i;
    sides = sides_after;
    vector = λ x s. f.vector x (r.side_before x s) (r.not_d x s) (r.not_e x s);
    twin = λ x s. f.twin x (r.side_before x s) (r.not_d x s) (r.not_e x s);
    twin_d = f.twin_edge;
    twin_e = f.twin_back;
    next_p = ap H.next (hinge_names.moved_next_of_twin L tells t h h_side) ∙ f.next (G.prev h) ∙ triangle_sides.next_prev L t h h_side;
    next_d = f.next h ∙ sym (ap m next_after_edge ∙ hinge_names.moved_prev L tells t h h_side);
    next_q = ap H.next (hinge_names.moved_next L tells t h h_side) ∙ f.next (G.prev e) ∙ triangle_sides.next_prev L t e e_side;
    next_e = f.next e ∙ sym (ap m next_after_twin ∙ hinge_names.moved_prev_of_twin L tells t h h_side);
    next_kept = next_after;
    span = span_of_edge;
    apart = λ k i. triangle_sides.twin_apart L (flipped_triangles.flipped_triangles L tells t h h_side f convex) h (flipped_triangles.side_after L tells t h h_side f h_side) k (i ∙ sym f.twin_edge);
  }
