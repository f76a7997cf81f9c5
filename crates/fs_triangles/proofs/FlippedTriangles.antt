-- A flip of an edge with a strictly convex hinge leads from triangles to triangles. A library for crates to come.
use Rattle.std.proofs.Common.{◌≡◌, ◌≢◌, Bool, IsTrue, [], ◌∷◌, refl, sym, ap, ◌∙◌, subst, inl, inr}
use Rattle.fs_ring.specs.Operations.{Operations}
use Rattle.fs_ring.specs.OrderedRing.{IsOrderedRing}
use Rattle.fs_ring.specs.Vector.{Vector, zero_vector, add_vector, neg_vector, cross, circle}
use Rattle.fs_ring.proofs.Plane as plane
use Rattle.fs_ring.proofs.Hinges as hinges
use Rattle.fs_ring.proofs.Solver.{expressions as E}
use Rattle.fs_ring.proofs.PlaneSolver.{vector_identity, ◌≐ᵥ◌}
use Rattle.fs_paths.specs.SideGluing.{SideGluing, IsSide}
use Rattle.fs_cuts.specs.EdgeRemoval.{TellsNames}
use Rattle.fs_triangles.specs.Triangles.{AreTriangles}
use Rattle.fs_triangles.specs.Flips.{moved, IsFlip, IsConvexHinge}
use Rattle.fs_triangles.proofs.TriangleSides as triangle_sides
use Rattle.fs_triangles.proofs.TriangleSides.{counterclockwise_next, closed_next}
use Rattle.fs_triangles.proofs.HingeNames as hinge_names
use Rattle.fs_triangles.proofs.HingeNames.{IsOutsideHinge, edge, after_edge, before_edge, twin_edge, after_twin, before_twin, outside}

module _ {A : Type 0} {R : Operations A} {IsPositive : A → Type 0} (L : IsOrderedRing R IsPositive) where
  -- two triangles at one edge, without the edge
  hinge_closed : {h a b e c g : Vector A} → add_vector R (add_vector R h a) b ≡ zero_vector R → add_vector R (add_vector R e c) g ≡ zero_vector R → e ≡ neg_vector R h
      → add_vector R (add_vector R a b) (add_vector R c g) ≡ zero_vector R
  hinge_closed {h} {a} {b} {e} {c} {g} first second opposite =
      vector_identity L.ring [] (h ∷ a ∷ b ∷ c ∷ g ∷ [])
      (λ h a b c g. add_vector E (add_vector E a b) (add_vector E c g) ≐ᵥ add_vector E (add_vector E (add_vector E h a) b) (add_vector E (add_vector E (neg_vector E h) c) g)) refl
      ∙ ap (λ v. add_vector R (add_vector R (add_vector R h a) b) (add_vector R (add_vector R v c) g)) (sym opposite)
      ∙ (λ i. add_vector R (first i) (second i))
      ∙ plane.add_vector_zero L.ring (zero_vector R)

  -- a triangle that is counterclockwise at one corner is so at the corner before
  counterclockwise_before : {u v w : Vector A} → add_vector R (add_vector R u v) w ≡ zero_vector R → IsPositive (cross R v w) → IsPositive (cross R u v)
  counterclockwise_before closed p = counterclockwise_next L (closed_next L (closed_next L closed)) (counterclockwise_next L (closed_next L closed) p)

module _ {A : Type 0} {R : Operations A} {IsPositive : A → Type 0} (L : IsOrderedRing R IsPositive) {X : Type 0}
    {G : SideGluing X A} (t : AreTriangles R IsPositive G) (h : X) (h_side : IsSide G h) where
  -- the hinge closes
  pub hinge_sum : add_vector R (add_vector R (G.vector (G.next h)) (G.vector (G.prev h))) (add_vector R (G.vector (G.next (G.twin h))) (G.vector (G.prev (G.twin h)))) ≡ zero_vector R
  hinge_sum =
      hinge_closed L (closes h h_side) (closes (G.twin h) (t.twin_side h h_side)) (t.twin_opposite h h_side)
    where
      closes : (x : X) → IsSide G x → add_vector R (add_vector R (G.vector x) (G.vector (G.next x))) (G.vector (G.prev x)) ≡ zero_vector R
      closes x s = ap (λ y. add_vector R (add_vector R (G.vector x) (G.vector (G.next x))) (G.vector y)) (t.prev x s) ∙ t.closed x s

  -- it is strictly convex where the circle value of the edge is positive
  pub convex_of_circle : IsPositive (circle R (G.vector (G.next h)) (G.vector (G.prev h)) (G.vector (G.next (G.twin h))) (G.vector (G.prev (G.twin h)))) → IsConvexHinge R IsPositive G h
  convex_of_circle p =
      let both = hinges.hinge_convex L _ _ _ _ hinge_sum (turns h h_side) (turns (G.twin h) (t.twin_side h h_side)) p in
      record { at_start = both.0; at_end = both.1 }
    where
      turns : (x : X) → IsSide G x → IsPositive (cross R (G.vector (G.next x)) (G.vector (G.prev x)))
      turns x s = subst (λ y. IsPositive (cross R (G.vector (G.next x)) (G.vector y))) (sym (t.prev x s)) (t.counterclockwise (G.next x) (t.next_side x s))

module _ {A : Type 0} {R : Operations A} {IsPositive : A → Type 0} (L : IsOrderedRing R IsPositive) {X : Type 0} {same : X → X → Bool} (tells : TellsNames same)
    {G : SideGluing X A} (t : AreTriangles R IsPositive G) (h : X) (h_side : IsSide G h) {H : SideGluing X A} (f : IsFlip R same G H h) where
  abbrev e : X
  e = G.twin h

  abbrev m : X → X
  m = moved same G h

  e_side : IsSide G e
  e_side = t.twin_side h h_side

  -- ---- the vectors after the flip

  pub vector_outside : {x : X} → IsSide G x → IsOutsideHinge G h x → H.vector x ≡ G.vector x
  vector_outside {x} s o = ap H.vector (sym (hinge_names.moved_outside L tells t h h_side o)) ∙ f.vector x s o.not_edge o.not_twin

  pub vector_next : H.vector (G.next h) ≡ G.vector (G.prev h)
  vector_next =
      ap H.vector (sym (hinge_names.moved_prev L tells t h h_side))
      ∙ f.vector (G.prev h) (triangle_sides.prev_side L t h h_side) (triangle_sides.prev_not_self L t h h_side) (λ k. triangle_sides.twin_not_prev L t h h_side (sym k))

  pub vector_prev : H.vector (G.prev h) ≡ G.vector (G.next (G.twin h))
  vector_prev =
      ap H.vector (sym (hinge_names.moved_next_of_twin L tells t h h_side))
      ∙ f.vector (G.next e) (t.next_side e e_side) (λ k. hinge_names.edge_not_next_of_twin L tells t h h_side (sym k)) (triangle_sides.next_not_self L t e e_side)

  pub vector_next_of_twin : H.vector (G.next (G.twin h)) ≡ G.vector (G.prev (G.twin h))
  vector_next_of_twin =
      ap H.vector (sym (hinge_names.moved_prev_of_twin L tells t h h_side))
      ∙ f.vector (G.prev e) (triangle_sides.prev_side L t e e_side) (λ k. hinge_names.edge_not_prev_of_twin L tells t h h_side (sym k)) (triangle_sides.prev_not_self L t e e_side)

  pub vector_prev_of_twin : H.vector (G.prev (G.twin h)) ≡ G.vector (G.next h)
  vector_prev_of_twin =
      ap H.vector (sym (hinge_names.moved_next L tells t h h_side))
      ∙ f.vector (G.next h) (t.next_side h h_side) (triangle_sides.next_not_self L t h h_side) (λ k. triangle_sides.twin_not_next L t h h_side (sym k))

  -- ---- the twins after the flip

  pub side_after : {x : X} → IsSide G x → IsSide H x
  side_after {x} s = subst IsTrue (sym (f.has x)) s

  pub side_of : {x : X} → IsSide H x → IsSide G x
  side_of {x} s = subst IsTrue (f.has x) s

  twin_not_edge : {x : X} → IsSide G x → x ≢ e → G.twin x ≢ h
  twin_not_edge {x} s n k = n (sym (t.twin_twin x s) ∙ ap G.twin k)

  twin_not_e : {x : X} → IsSide G x → x ≢ h → G.twin x ≢ e
  twin_not_e {x} s n k = n (sym (t.twin_twin x s) ∙ ap G.twin k ∙ t.twin_twin h h_side)

  twin_stays : (x : X) → IsSide G x → IsSide H (H.twin x)
  twin_stays x s = elim (hinge_names.edge_or_moved L tells t h h_side x s) [
    | inl k ↦ subst (IsSide H) (sym (ap H.twin k ∙ f.twin_edge)) (side_after e_side)
    | inr (inl k) ↦ subst (IsSide H) (sym (ap H.twin k ∙ f.twin_back)) (side_after h_side)
    | inr (inr k) ↦
        subst (IsSide H) (sym (ap H.twin k.is ∙ f.twin k.name k.side k.not_edge k.not_twin))
        (side_after (hinge_names.moved_side L tells t h h_side (G.twin k.name) (t.twin_side k.name k.side)))
  ]

  twin_back : (x : X) → IsSide G x → H.twin (H.twin x) ≡ x
  twin_back x s = elim (hinge_names.edge_or_moved L tells t h h_side x s) [
    | inl k ↦ ap (λ y. H.twin (H.twin y)) k ∙ ap H.twin f.twin_edge ∙ f.twin_back ∙ sym k
    | inr (inl k) ↦ ap (λ y. H.twin (H.twin y)) k ∙ ap H.twin f.twin_back ∙ f.twin_edge ∙ sym k
    | inr (inr k) ↦
        ap (λ y. H.twin (H.twin y)) k.is
        ∙ ap H.twin (f.twin k.name k.side k.not_edge k.not_twin)
        ∙ f.twin (G.twin k.name) (t.twin_side k.name k.side) (twin_not_edge k.side k.not_twin) (twin_not_e k.side k.not_edge)
        ∙ ap m (t.twin_twin k.name k.side)
        ∙ sym k.is
  ]

  twin_is_opposite : (x : X) → IsSide G x → H.vector (H.twin x) ≡ neg_vector R (H.vector x)
  twin_is_opposite x s = elim (hinge_names.edge_or_moved L tells t h h_side x s) [
    | inl k ↦ ap (λ y. H.vector (H.twin y)) k ∙ ap H.vector f.twin_edge ∙ f.edge_back ∙ ap (neg_vector R) (sym f.edge ∙ ap H.vector (sym k))
    | inr (inl k) ↦
        ap (λ y. H.vector (H.twin y)) k
        ∙ ap H.vector f.twin_back
        ∙ sym (plane.neg_vector-neg L.ring (H.vector h))
        ∙ ap (neg_vector R) (ap (neg_vector R) f.edge ∙ sym f.edge_back ∙ ap H.vector (sym k))
    | inr (inr k) ↦
        ap (λ y. H.vector (H.twin y)) k.is
        ∙ ap H.vector (f.twin k.name k.side k.not_edge k.not_twin)
        ∙ f.vector (G.twin k.name) (t.twin_side k.name k.side) (twin_not_edge k.side k.not_twin) (twin_not_e k.side k.not_edge)
        ∙ t.twin_opposite k.name k.side
        ∙ ap (neg_vector R) (sym (f.vector k.name k.side k.not_edge k.not_twin) ∙ ap H.vector (sym k.is))
  ]

  -- ---- the triangles after the flip

  module _ (convex : IsConvexHinge R IsPositive G h) where
    -- the triangle of y closes and is counterclockwise
    record IsTriangleAt (y : X) : Type 0 where
      closed : add_vector R (add_vector R (H.vector y) (H.vector (G.next y))) (H.vector (G.next (G.next y))) ≡ zero_vector R
      counterclockwise : IsPositive (cross R (H.vector y) (H.vector (G.next y)))

    triangle_next : (y : X) → IsSide G y → IsTriangleAt y → IsTriangleAt (G.next y)
    triangle_next y s k = record {
      closed = subst (λ x. add_vector R (add_vector R (H.vector (G.next y)) (H.vector (G.next (G.next y)))) (H.vector x) ≡ zero_vector R) (sym (t.three_sides y s)) (closed_next L k.closed);
      counterclockwise = counterclockwise_next L k.closed k.counterclockwise;
    }

    triangle_prev : (y : X) → IsSide G y → IsTriangleAt y → IsTriangleAt (G.prev y)
    triangle_prev y s k = subst IsTriangleAt (sym (t.prev y s)) (triangle_next (G.next y) (t.next_side y s) (triangle_next y s k))

    -- from the vectors before the flip
    triangle_by : (y : X) → IsSide G y → {u v w : Vector A} → H.vector y ≡ u → H.vector (G.next y) ≡ v → H.vector (G.prev y) ≡ w
        → add_vector R (add_vector R u v) w ≡ zero_vector R → IsPositive (cross R u v) → IsTriangleAt y
    triangle_by y s {u} {v} i j k closed p = record {
      closed = (λ l. add_vector R (add_vector R (i l) (j l)) ((ap H.vector (sym (t.prev y s)) ∙ k) l)) ∙ closed;
      counterclockwise = subst (λ z. IsPositive (cross R (H.vector y) z)) (sym j) (subst (λ z. IsPositive (cross R z v)) (sym i) p);
    }

    triangle_of_edge : IsTriangleAt h
    triangle_of_edge = triangle_by h h_side f.edge vector_next vector_prev closed (counterclockwise_before L closed convex.at_start)
      where
        closed : add_vector R (add_vector R (add_vector R (G.vector (G.prev e)) (G.vector (G.next h))) (G.vector (G.prev h))) (G.vector (G.next e)) ≡ zero_vector R
        closed =
            vector_identity L.ring [] (G.vector (G.next h) ∷ G.vector (G.prev h) ∷ G.vector (G.next e) ∷ G.vector (G.prev e) ∷ [])
            (λ a b c g. add_vector E (add_vector E (add_vector E g a) b) c ≐ᵥ add_vector E (add_vector E a b) (add_vector E c g)) refl
            ∙ hinge_sum L t h h_side

    triangle_of_twin : IsTriangleAt e
    triangle_of_twin = triangle_by e e_side f.edge_back vector_next_of_twin vector_prev_of_twin closed (counterclockwise_before L closed convex.at_end)
      where
        closed : add_vector R (add_vector R (neg_vector R (add_vector R (G.vector (G.prev e)) (G.vector (G.next h)))) (G.vector (G.prev e))) (G.vector (G.next h)) ≡ zero_vector R
        closed =
            vector_identity L.ring [] (G.vector (G.next h) ∷ G.vector (G.prev e) ∷ [])
            (λ a g. add_vector E (add_vector E (neg_vector E (add_vector E g a)) g) a ≐ᵥ zero_vector E) refl

    triangle_at : (y : X) → IsSide G y → IsTriangleAt y
    triangle_at y s = elim (hinge_names.spot L tells t h h_side y) [
      | edge k ↦ subst IsTriangleAt (sym k) triangle_of_edge
      | twin_edge k ↦ subst IsTriangleAt (sym k) triangle_of_twin
      | after_edge k ↦ subst IsTriangleAt (sym k) (triangle_next h h_side triangle_of_edge)
      | before_edge k ↦ subst IsTriangleAt (sym k) (triangle_prev h h_side triangle_of_edge)
      | after_twin k ↦ subst IsTriangleAt (sym k) (triangle_next e e_side triangle_of_twin)
      | before_twin k ↦ subst IsTriangleAt (sym k) (triangle_prev e e_side triangle_of_twin)
      | outside o ↦
          triangle_by y s (vector_outside s o)
          (vector_outside (t.next_side y s) (hinge_names.outside_next L tells t h h_side y s o))
          (vector_outside (triangle_sides.prev_side L t y s) (hinge_names.outside_prev L tells t h h_side y s o))
          (ap (λ x. add_vector R (add_vector R (G.vector y) (G.vector (G.next y))) (G.vector x)) (t.prev y s) ∙ t.closed y s) (t.counterclockwise y s)
    ]

    next_twice : (x : X) → H.next (H.next x) ≡ G.next (G.next x)
    next_twice x = ap H.next (f.next x) ∙ f.next (G.next x)

    -- after the flip of an edge whose hinge is strictly convex they are triangles again
    pub flipped_triangles : AreTriangles R IsPositive H
    flipped_triangles = record {
      next_side = λ x s. subst (IsSide H) (sym (f.next x)) (side_after (t.next_side x (side_of s)));
      twin_side = λ x s. twin_stays x (side_of s);
      three_sides = λ x s. ap H.next (next_twice x) ∙ f.next (G.next (G.next x)) ∙ t.three_sides x (side_of s);
      prev = λ x s. f.prev x ∙ t.prev x (side_of s) ∙ sym (next_twice x);
      closed = λ x s.
          (λ i. add_vector R (add_vector R (H.vector x) (H.vector (f.next x i))) (H.vector (next_twice x i)))
          ∙ (triangle_at x (side_of s)).closed;
      counterclockwise = λ x s. subst (λ y. IsPositive (cross R (H.vector x) (H.vector y))) (sym (f.next x)) (triangle_at x (side_of s)).counterclockwise;
      twin_twin = λ x s. twin_back x (side_of s);
      twin_opposite = λ x s. twin_is_opposite x (side_of s);
    }
