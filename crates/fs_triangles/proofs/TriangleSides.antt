-- Triangles by their half-edges: their vectors, which half-edges differ, and that they are glued polygons. A library for crates to come.
use Rattle.std.proofs.Common.{◌≡◌, ◌≢◌, ◌⊎◌, ℕ, Bool, zero, suc, [], ◌∷◌, refl, sym, ap, ◌∙◌, subst, inl, inr, arith}
use Rattle.fs_cycles.proofs.Iterates.{iterate_after}
use Rattle.fs_ring.specs.Operations.{Operations}
use Rattle.fs_ring.specs.OrderedRing.{IsOrderedRing}
use Rattle.fs_ring.specs.Vector.{Vector, zero_vector, unit_vector, add_vector, neg_vector, cross}
use Rattle.fs_ring.specs.Direction.{InHalfPlane, inside}
use Rattle.fs_ring.proofs.Signs as signs
use Rattle.fs_ring.proofs.Plane as plane
use Rattle.fs_ring.proofs.Directions as directions
use Rattle.fs_ring.proofs.Solver.{expressions as E, numeral, ◌≐◌, ◌from◌}
use Rattle.fs_ring.proofs.PlaneSolver.{plane_identity, plane_derived, vector_identity, ◌≐ᵥ◌}
use Rattle.fs_convex.specs.Turning.{DecidesHalfPlanes}
use Rattle.fs_convex.specs.Polygon.{position}
use Rattle.fs_convex.proofs.Winding as winding
use Rattle.fs_paths.specs.SideGluing.{SideGluing, IsSide, AreGluedPolygons, nth_side, sides_from}
use Rattle.fs_triangles.specs.Triangles.{AreTriangles}

module _ {A : Type 0} {R : Operations A} {IsPositive : A → Type 0} (L : IsOrderedRing R IsPositive) where
  -- a triangle that is counterclockwise at one corner is so at the next one
  pub counterclockwise_next : {u v w : Vector A} → add_vector R (add_vector R u v) w ≡ zero_vector R → IsPositive (cross R u v) → IsPositive (cross R v w)
  counterclockwise_next {u} {v} {w} closed p =
      signs.positive_of_eq L
      (plane_derived L.ring [] (u ∷ v ∷ w ∷ [])
      (λ u v w. cross E v w ≐ cross E u v from (E.neg v.y, (add_vector E (add_vector E u v) w).x ≐ numeral 0) ∷ (v.x, (add_vector E (add_vector E u v) w).y ≐ numeral 0) ∷ []) refl
      (ap (λ s. s.x) closed, (ap (λ s. s.y) closed, tt)))
      p

  -- it closes from the next corner on
  pub closed_next : {u v w : Vector A} → add_vector R (add_vector R u v) w ≡ zero_vector R → add_vector R (add_vector R v w) u ≡ zero_vector R
  closed_next {u} {v} {w} closed =
      vector_identity L.ring [] (u ∷ v ∷ w ∷ []) (λ u v w. add_vector E (add_vector E v w) u ≐ᵥ add_vector E (add_vector E u v) w) refl ∙ closed

module _ {A : Type 0} {R : Operations A} {IsPositive : A → Type 0} (L : IsOrderedRing R IsPositive) {X : Type 0} {G : SideGluing X A} (t : AreTriangles R IsPositive G) where
  pub prev_side : (h : X) → IsSide G h → IsSide G (G.prev h)
  prev_side h s = subst (IsSide G) (sym (t.prev h s)) (t.next_side (G.next h) (t.next_side h s))

  pub next_prev : (h : X) → IsSide G h → G.next (G.prev h) ≡ h
  next_prev h s = ap G.next (t.prev h s) ∙ t.three_sides h s

  pub prev_next : (h : X) → IsSide G h → G.prev (G.next h) ≡ h
  prev_next h s = t.prev (G.next h) (t.next_side h s) ∙ t.three_sides h s

  -- no half-edge is 0
  pub vector-ne-zero : (h : X) → IsSide G h → G.vector h ≢ zero_vector R
  vector-ne-zero h s = directions.cross_positive-ne-zero_left L (t.counterclockwise h s)

  -- ---- which half-edges differ

  next_not_opposite : (h : X) → IsSide G h → G.vector (G.next h) ≢ neg_vector R (G.vector h)
  next_not_opposite h s f =
      signs.positive-ne-zero L (t.counterclockwise h s)
      (ap (cross R (G.vector h)) f ∙ plane_identity L.ring [] (G.vector h ∷ []) (λ v. cross E v (neg_vector E v) ≐ numeral 0) refl)

  pub twin_not_next : (h : X) → IsSide G h → G.twin h ≢ G.next h
  twin_not_next h s f = next_not_opposite h s (ap G.vector (sym f) ∙ t.twin_opposite h s)

  pub twin_not_prev : (h : X) → IsSide G h → G.twin h ≢ G.prev h
  twin_not_prev h s f =
      next_not_opposite (G.prev h) (prev_side h s)
      (ap G.vector (next_prev h s)
      ∙ sym (plane.neg_vector-neg L.ring (G.vector h))
      ∙ ap (neg_vector R) (sym (t.twin_opposite h s) ∙ ap G.vector f))

  pub twin_not_self : (h : X) → IsSide G h → G.twin h ≢ h
  twin_not_self h s f =
      let own = t.counterclockwise h s in
      let next = G.vector (G.next h) in
      signs.not_both_signs L own
      (subst IsPositive (plane.cross-neg_left L.ring (G.vector h) next) (subst (λ v. IsPositive (cross R v next)) (ap G.vector (sym f) ∙ t.twin_opposite h s) own))

  pub next_not_self : (h : X) → IsSide G h → G.next h ≢ h
  next_not_self h s f =
      signs.positive-ne-zero L (t.counterclockwise h s) (ap (λ x. cross R (G.vector h) (G.vector x)) f ∙ plane.cross_self L.ring (G.vector h))

  pub prev_not_self : (h : X) → IsSide G h → G.prev h ≢ h
  prev_not_self h s f = next_not_self h s (ap G.next (sym f) ∙ next_prev h s)

  pub next_not_prev : (h : X) → IsSide G h → G.next h ≢ G.prev h
  next_not_prev h s f = next_not_self (G.next h) (t.next_side h s) (sym (t.prev h s) ∙ sym f)

  -- the half-edges of a triangle
  pub nth_cases : (h : X) → IsSide G h → (k : ℕ) → (nth_side G h k ≡ h) ⊎ ((nth_side G h k ≡ G.next h) ⊎ (nth_side G h k ≡ G.prev h))
  nth_cases h s zero = inl refl
  nth_cases h s (suc k) = elim (nth_cases (G.next h) (t.next_side h s) k) [
    | inl f ↦ inr (inl f)
    | inr (inl f) ↦ inr (inr (f ∙ sym (t.prev h s)))
    | inr (inr f) ↦ inl (f ∙ prev_next h s)
  ]

  -- a half-edge and its twin are in two triangles
  pub twin_apart : (h : X) → IsSide G h → (k : ℕ) → nth_side G h k ≢ G.twin h
  twin_apart h s k f = elim (nth_cases h s k) [
    | inl m ↦ twin_not_self h s (sym f ∙ m)
    | inr (inl m) ↦ twin_not_next h s (sym f ∙ m)
    | inr (inr m) ↦ twin_not_prev h s (sym f ∙ m)
  ]

  -- ---- triangles are glued polygons

  nth_is_side : (h : X) → IsSide G h → (k : ℕ) → IsSide G (nth_side G h k)
  nth_is_side h s zero = s
  nth_is_side h s (suc k) = nth_is_side (G.next h) (t.next_side h s) k

  pub convex_corner : (h : X) → IsSide G h → InHalfPlane R IsPositive (G.vector h) (G.vector (G.next h))
  convex_corner h s = inside (t.counterclockwise h s)

  unit-ne-zero : unit_vector R ≢ zero_vector R
  unit-ne-zero e = signs.positive-ne-zero L L.one_positive (ap (λ v. v.x) e)

  three_lead_back : (h : X) → IsSide G h → position R (zero_vector R) (sides_from G h) 3 ≡ zero_vector R
  three_lead_back h s =
      vector_identity L.ring [] (G.vector h ∷ G.vector (G.next h) ∷ G.vector (G.next (G.next h)) ∷ [])
      (λ u v w. add_vector E (add_vector E (add_vector E (zero_vector E) u) v) w ≐ᵥ add_vector E (add_vector E u v) w) refl
      ∙ t.closed h s

  -- where their corners have positions
  pub glued_triangles : {is_ahead : Vector A → Vector A → Bool} → DecidesHalfPlanes R IsPositive is_ahead
      → (at : X → Vector A) → ((x : X) → IsSide G x → at (G.next x) ≡ add_vector R (at x) (G.vector x)) → AreGluedPolygons R IsPositive is_ahead G
  glued_triangles test at at_next = record {
    next_side = t.next_side;
    prev_side = prev_side;
    twin_side = t.twin_side;
    next_prev = next_prev;
    prev_next = prev_next;
    twin_twin = t.twin_twin;
    twin_other = twin_not_self;
    twin_opposite = t.twin_opposite;
    convex = convex_corner;
    position = at;
    position_next = at_next;
    sides = λ x. 3;
    returns = t.three_sides;
    turning_number = λ x s. winding.one_rise_of_few L test
        (λ j. subst (λ y. InHalfPlane R IsPositive (sides_from G x j) (G.vector y)) (sym (iterate_after G.next j x)) (convex_corner (nth_side G x j) (nth_is_side x s j)))
        {q = position R (zero_vector R) (sides_from G x)} (λ j. refl) unit-ne-zero 3 (omega arith) (omega arith) (ap G.vector (t.three_sides x s)) (three_lead_back x s);
  }
