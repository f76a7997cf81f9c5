-- Glued polygons without one edge are glued polygons, and the edge cuts one of them in two. A library for crates to come.
use Rattle.std.proofs.Common.{◌≡◌, ◌⊎◌, ℕ, Bool, zero, suc, ◌<◌, [], ◌∷◌, refl, sym, ap, ◌∙◌, subst, inl, inr, arith}
use Rattle.fs_ring.specs.Operations.{Operations}
use Rattle.fs_ring.specs.OrderedRing.{IsOrderedRing}
use Rattle.fs_ring.specs.Vector.{Vector, zero_vector, add_vector, sub_vector, neg_vector}
use Rattle.fs_ring.specs.Direction.{InHalfPlane}
use Rattle.fs_ring.proofs.Solver.{expressions as E}
use Rattle.fs_ring.proofs.PlaneSolver.{vector_identity, ◌≐ᵥ◌}
use Rattle.fs_convex.specs.Turning.{DecidesHalfPlanes}
use Rattle.fs_convex.specs.Polygon.{position}
use Rattle.fs_paths.specs.SideGluing.{SideGluing, IsSide, AreGluedPolygons, sides_from}
use Rattle.fs_paths.specs.Development.{IsPutAt}
use Rattle.fs_paths.proofs.Developments as developments
use Rattle.fs_cuts.specs.EdgeRemoval.{IsWithoutEdge}
use Rattle.fs_cuts.specs.Cuts.{IsCut}
use Rattle.fs_cuts.proofs.EdgeRemoval as removal
use Rattle.fs_cuts.proofs.RemovalPositions as removal_positions
use Rattle.fs_cuts.proofs.RemovalTurning as removal_turning

module _ {A : Type 0} {R : Operations A} {IsPositive : A → Type 0} (L : IsOrderedRing R IsPositive)
    {is_ahead : Vector A → Vector A → Bool} (test : DecidesHalfPlanes R IsPositive is_ahead)
    {X : Type 0} {G K : SideGluing X A} (g : AreGluedPolygons R IsPositive is_ahead G) {d e : X} (r : IsWithoutEdge G K d e)
    (convex_d : InHalfPlane R IsPositive (G.vector (G.prev d)) (G.vector (G.next e)))
    (convex_e : InHalfPlane R IsPositive (G.vector (G.prev e)) (G.vector (G.next d))) where
  abbrev other : IsWithoutEdge G K e d
  other = removal.mirrored L test g r

  -- each side is the next of some side
  side_before : (x : X) → IsSide K x → (z : X) × IsSide K z × (K.next z ≡ x)
  side_before x s = elim (r.sides (G.prev x) (g.prev_side x there)) [
    | inl f ↦ (G.prev e, removal.before_d_side L test g other, r.next_before_e ∙ ap G.next (sym f) ∙ g.next_prev x there)
    | inr (inl f) ↦ (G.prev d, removal.before_d_side L test g r, r.next_before_d ∙ ap G.next (sym f) ∙ g.next_prev x there)
    | inr (inr k) ↦ (G.prev x, k, removal.next_same L test g r (G.prev x) k (subst (IsSide K) (sym (g.next_prev x there)) s) ∙ g.next_prev x there)
  ]
    where
      there : IsSide G x
      there = r.side_before x s

  -- and that is the one before
  prev_of : (x : X) (s : IsSide K x) → K.prev x ≡ (side_before x s).0
  prev_of x s = let before = side_before x s in ap K.prev (sym before.2) ∙ r.prev_next before.0 before.1

  -- twins are left
  twin_left : (x : X) → IsSide K x → IsSide K (G.twin x)
  twin_left x s = elim (r.sides (G.twin x) (g.twin_side x there)) [
    | inl f ↦ absurd (r.not_e x s (sym (g.twin_twin x there) ∙ ap G.twin f ∙ r.twin_d))
    | inr (inl f) ↦ absurd (r.not_d x s (sym (g.twin_twin x there) ∙ ap G.twin f ∙ removal.twin_e L test g r))
    | inr (inr k) ↦ k
  ]
    where
      there : IsSide G x
      there = r.side_before x s

  -- how many sides lead back: none are asked for where there is no side
  count_where : (x : X) → IsSide K x ⊎ ¬ IsSide K x → ℕ
  count_where x (inl s) = (removal_turning.turns_once L test g r convex_d convex_e x s).0
  count_where x (inr n) = 0

  turns_where : (x : X) → IsSide K x → (c : IsSide K x ⊎ ¬ IsSide K x) → removal_turning.TurnsOnce L test g r convex_d convex_e x (count_where x c)
  unfolding count_where
  turns_where x s (inl t) = (removal_turning.turns_once L test g r convex_d convex_e x t).1
  turns_where x s (inr n) = absurd (n s)

  -- without the edge they are glued polygons, where no corner at its ends bends right
  pub glued_without_edge : AreGluedPolygons R IsPositive is_ahead K
  glued_without_edge = record {
    next_side = removal_turning.next_left L test g r convex_d convex_e;
    prev_side = λ x s. subst (IsSide K) (sym (prev_of x s)) (side_before x s).1;
    twin_side = λ x s. subst (IsSide K) (sym (r.twin x s)) (twin_left x s);
    next_prev = λ x s. ap K.next (prev_of x s) ∙ (side_before x s).2;
    prev_next = r.prev_next;
    twin_twin = λ x s. ap K.twin (r.twin x s) ∙ r.twin (G.twin x) (twin_left x s) ∙ g.twin_twin x (r.side_before x s);
    twin_other = λ x s f. g.twin_other x (r.side_before x s) (sym (r.twin x s) ∙ f);
    twin_opposite = λ x s.
        ap K.vector (r.twin x s)
        ∙ r.vector (G.twin x) (twin_left x s)
        ∙ g.twin_opposite x (r.side_before x s)
        ∙ ap (neg_vector R) (sym (r.vector x s));
    convex = removal_turning.convex_left L test g r convex_d convex_e;
    position = removal_positions.joined_position L test g r;
    position_next = removal_positions.joined_position_next L test g r;
    sides = λ x. count_where x (removal_positions.true_or_not (K.has x));
    returns = λ x s. (turns_where x s (removal_positions.true_or_not (K.has x))).returns;
    turning_number = λ x s. (turns_where x s (removal_positions.true_or_not (K.has x))).turning_number;
  }

  -- ---- the edge is a cut

  position_agree : (p : Vector A) (s t : ℕ → Vector A) (k : ℕ) → ((j : ℕ) → j < k → s j ≡ t j) → position R p s k ≡ position R p t k
  position_agree p s t zero h = refl
  position_agree p s t (suc k) h = λ i. add_vector R (position_agree p s t k (λ j l. h j (omega arith)) i) (h k (omega arith) i)

  -- the sides from the one after e up to the one before d lead where d leads
  span_of_d : IsPutAt R K (G.next e) (zero_vector R) (G.next d) (G.vector d)
  span_of_d = record {
    number = suc more;
    side = removal_turning.across_d L test g other;
    corner = position_agree (zero_vector R) (sides_from K (G.next e)) (sides_from G (G.next e)) (suc more) (λ j l. sym (removal_turning.vector_left L test g other j (omega arith))) ∙ to_d;
  }
    where
      more : ℕ
      more = removal_turning.more_sides L test g other

      e_side : IsSide G e
      e_side = removal.e_side L test g r

      Q : Vector A
      Q = position R (zero_vector R) (sides_from G (G.next e)) (suc more)

      round : add_vector R Q (G.vector e) ≡ zero_vector R
      round =
          developments.put_position_unique L test g (g.next_side e e_side)
          (developments.put_next (record { number = suc more; side = removal_turning.end_after_d L test g other; corner = refl })) (developments.put_refl (G.next e) (zero_vector R))

      to_d : Q ≡ G.vector d
      to_d =
          vector_identity L.ring [] (Q ∷ G.vector e ∷ []) (λ q e. q ≐ᵥ sub_vector E (add_vector E q e) e) refl
          ∙ ap (λ w. sub_vector R w (G.vector e)) round
          ∙ vector_identity L.ring [] (G.vector e ∷ []) (λ e. sub_vector E (zero_vector E) e ≐ᵥ neg_vector E e) refl
          ∙ sym (removal.vector_e L test g other)

  -- with the edge, one of their polygons is cut in two
  pub cut_by_edge : IsCut R K G (λ x. x) (G.prev d) (G.prev e) d e
  cut_by_edge = record {
    p_side = removal.before_d_side L test g r;
    q_side = removal.before_d_side L test g other;
    d_side = r.d_side;
    e_side = removal.e_side L test g r;
    kept_side = r.side_before;
    kept_not_d = r.not_d;
    kept_not_e = r.not_e;
    one_to_one = λ x y j k f. f;
    sides = λ y s. elim (r.sides y s) [ inl f ↦ inl f | inr (inl f) ↦ inr (inl f) | inr (inr k) ↦ inr (inr (y, k, refl)) ];
    vector = λ x s. sym (r.vector x s);
    twin = λ x s. sym (r.twin x s);
    twin_d = r.twin_d;
    twin_e = removal.twin_e L test g r;
    next_p = g.next_prev d r.d_side;
    next_d = sym r.next_before_e;
    next_q = g.next_prev e (removal.e_side L test g r);
    next_e = sym r.next_before_d;
    next_kept = λ x s m n. sym (r.next_kept x s m n);
    span = subst (λ w. IsPutAt R K w (zero_vector R) (K.next (G.prev e)) (G.vector d)) (sym r.next_before_d)
        (subst (λ w. IsPutAt R K (G.next e) (zero_vector R) w (G.vector d)) (sym r.next_before_e) span_of_d);
    apart = r.apart;
  }
