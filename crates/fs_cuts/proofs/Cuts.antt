-- What follows at once from a cut: the sides before, the sides after, and that the two halves are alike. A library for crates to come.
use Rattle.std.proofs.Common.{◌≡◌, ◌≢◌, ◌⊎◌, Bool, [], ◌∷◌, refl, sym, ap, ◌∙◌, subst, inl, inr}
use Rattle.fs_ring.specs.Operations.{Operations}
use Rattle.fs_ring.specs.OrderedRing.{IsOrderedRing}
use Rattle.fs_ring.specs.Vector.{Vector, zero_vector, add_vector, neg_vector}
use Rattle.fs_ring.proofs.Plane as plane
use Rattle.fs_ring.proofs.Solver.{expressions as E}
use Rattle.fs_ring.proofs.PlaneSolver.{vector_identity, ◌≐ᵥ◌}
use Rattle.fs_convex.specs.Turning.{DecidesHalfPlanes}
use Rattle.fs_paths.specs.SideGluing.{SideGluing, IsSide, AreGluedPolygons}
use Rattle.fs_paths.specs.Development.{IsPutAt}
use Rattle.fs_paths.proofs.Developments as developments
use Rattle.fs_cuts.specs.Cuts.{IsCut}

module _ {A : Type 0} {R : Operations A} {IsPositive : A → Type 0} (L : IsOrderedRing R IsPositive)
    {is_ahead : Vector A → Vector A → Bool} (test : DecidesHalfPlanes R IsPositive is_ahead)
    {X Y : Type 0} {G : SideGluing X A} {H : SideGluing Y A} (g : AreGluedPolygons R IsPositive is_ahead G) (h : AreGluedPolygons R IsPositive is_ahead H)
    {kept : X → Y} {p q : X} {d e : Y} (cut : IsCut R G H kept p q d e) where
  -- the two sides of the cut are different
  pub cut_sides_differ : d ≢ e
  cut_sides_differ = cut.apart 0

  -- so are the sides before them
  pub sides_before_differ : p ≢ q
  sides_before_differ same = cut_sides_differ (sym cut.next_p ∙ ap (λ x. H.next (kept x)) same ∙ cut.next_q)

  -- two sides that have the same next side are the same
  next_one_to_one : {x y : X} → IsSide G x → IsSide G y → G.next x ≡ G.next y → x ≡ y
  next_one_to_one {x} {y} hx hy same = sym (g.prev_next x hx) ∙ ap G.prev same ∙ g.prev_next y hy

  -- so are the corners at which the cut begins and ends
  pub ends_differ : G.next p ≢ G.next q
  ends_differ same = sides_before_differ (next_one_to_one cut.p_side cut.q_side same)

  -- the two sides of the cut are opposite
  pub vector_d : H.vector d ≡ neg_vector R (H.vector e)
  vector_d = ap H.vector (sym cut.twin_e) ∙ h.twin_opposite e cut.e_side

  pub vector_e : H.vector e ≡ neg_vector R (H.vector d)
  vector_e = ap H.vector (sym cut.twin_d) ∙ h.twin_opposite d cut.d_side

  -- d, and then e, leads back
  pub across_and_back : (P : Vector A) → add_vector R (add_vector R P (H.vector d)) (H.vector e) ≡ P
  across_and_back P =
      ap (add_vector R (add_vector R P (H.vector d))) vector_e
      ∙ vector_identity L.ring [] (P ∷ H.vector d ∷ []) (λ p d. add_vector E (add_vector E p d) (neg_vector E d) ≐ᵥ p) refl

  -- ---- the sides before the cut and after it

  pub before_next_q : H.prev (kept (G.next q)) ≡ d
  before_next_q = ap H.prev (sym cut.next_d) ∙ h.prev_next d cut.d_side

  pub before_d : H.prev d ≡ kept p
  before_d = ap H.prev (sym cut.next_p) ∙ h.prev_next (kept p) (cut.kept_side p cut.p_side)

  -- the next side of a kept side is one of the cut, or kept
  pub next_cases : (x : X) → IsSide G x → (x ≡ p) ⊎ ((x ≡ q) ⊎ ((x ≢ p) × (x ≢ q) × (H.next (kept x) ≡ kept (G.next x))))
  next_cases x k = elim (cut.sides (H.next (kept x)) (h.next_side (kept x) hx)) [
    | inl f ↦ inl (same_before cut.p_side (f ∙ sym cut.next_p))
    | inr (inl f) ↦ inr (inl (same_before cut.q_side (f ∙ sym cut.next_q)))
    | inr (inr r) ↦
        let not_p : x ≢ p = λ f. cut.kept_not_d r.0 r.1 (sym r.2 ∙ ap (λ w. H.next (kept w)) f ∙ cut.next_p) in
        let not_q : x ≢ q = λ f. cut.kept_not_e r.0 r.1 (sym r.2 ∙ ap (λ w. H.next (kept w)) f ∙ cut.next_q) in
        inr (inr (not_p, not_q, cut.next_kept x k not_p not_q))
  ]
    where
      hx : IsSide H (kept x)
      hx = cut.kept_side x k

      same_before : {y : X} → IsSide G y → H.next (kept x) ≡ H.next (kept y) → x ≡ y
      same_before {y} j same = cut.one_to_one x y k j (sym (h.prev_next (kept x) hx) ∙ ap H.prev same ∙ h.prev_next (kept y) (cut.kept_side y j))

  -- the side before a kept side is one of the cut, where the kept side begins at an end of the cut, or kept
  pub prev_cases : (x : X) → IsSide G x → (x ≡ G.next p) ⊎ ((x ≡ G.next q) ⊎ (H.prev (kept x) ≡ kept (G.prev x)))
  prev_cases x k = elim (next_cases (G.prev x) before) [
    | inl f ↦ inl (sym (g.next_prev x k) ∙ ap G.next f)
    | inr (inl f) ↦ inr (inl (sym (g.next_prev x k) ∙ ap G.next f))
    | inr (inr r) ↦
        inr (inr (ap (λ w. H.prev (kept w)) (sym (g.next_prev x k)) ∙ ap H.prev (sym r.2) ∙ h.prev_next (kept (G.prev x)) (cut.kept_side (G.prev x) before)))
  ]
    where
      before : IsSide G (G.prev x)
      before = g.prev_side x k

  -- ---- the two halves are alike

  -- the sides after q up to p lead where e leads
  other_span : IsPutAt R G (G.next q) (zero_vector R) (G.next p) (H.vector e)
  other_span =
      let back = developments.put_back L test g (g.next_side p cut.p_side) cut.span in
      let shifted = developments.put_shift L.ring (H.vector e) back in
      subst (λ w. IsPutAt R G (G.next q) w (G.next p) (H.vector e)) (ap (λ w. add_vector R w (H.vector d)) vector_e ∙ to_zero)
      (subst (λ w. IsPutAt R G (G.next q) (add_vector R (H.vector e) (H.vector d)) (G.next p) w) (plane.add_vector_zero L.ring (H.vector e)) shifted)
    where
      to_zero : add_vector R (neg_vector R (H.vector d)) (H.vector d) ≡ zero_vector R
      to_zero = vector_identity L.ring [] (H.vector d ∷ []) (λ d. add_vector E (neg_vector E d) d ≐ᵥ zero_vector E) refl

  -- a cut is also one where its two sides, and the two sides before them, are exchanged: what is shown of one half holds of the other
  pub mirrored : IsCut R G H kept q p e d
  mirrored = record {
    p_side = cut.q_side;
    q_side = cut.p_side;
    d_side = cut.e_side;
    e_side = cut.d_side;
    kept_side = cut.kept_side;
    kept_not_d = cut.kept_not_e;
    kept_not_e = cut.kept_not_d;
    one_to_one = cut.one_to_one;
    sides = λ y k. elim (cut.sides y k) [ inl f ↦ inr (inl f) | inr (inl f) ↦ inl f | inr (inr r) ↦ inr (inr r) ];
    vector = cut.vector;
    twin = cut.twin;
    twin_d = cut.twin_e;
    twin_e = cut.twin_d;
    next_p = cut.next_q;
    next_d = cut.next_e;
    next_q = cut.next_p;
    next_e = cut.next_d;
    next_kept = λ x k m n. cut.next_kept x k n m;
    span = other_span;
    apart = λ k f. other_apart (record { number = k; side = f; corner = refl });
  }
    where
      other_apart : {Q : Vector A} → IsPutAt R H e (zero_vector R) d Q → ⊥
      other_apart k = let back = developments.put_back L test h cut.e_side k in cut.apart back.number back.side
