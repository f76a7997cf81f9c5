-- Boundaries cut in two, and the two chains of a boundary that passes a direction once. A library for crates to come.
use Rattle.std.proofs.Common.{◌≡◌, ◌≢◌, ◌⊎◌, ℕ, zero, suc, ◌+◌, ◌-◌, ◌<◌, ◌≤◌, Bool, true, false, not, refl, sym, ap, ◌∙◌, subst, inl, inr, arith, add-zero, add-suc, zero-add}
use Rattle.std.proofs.lemmas.Bool.{cases_Bool}
use Rattle.fs_ring.specs.Operations.{Operations}
use Rattle.fs_ring.specs.OrderedRing.{IsOrderedRing, IsNonNegative}
use Rattle.fs_ring.specs.Vector.{Vector, zero_vector, neg_vector, sub_vector, cross}
use Rattle.fs_ring.specs.Direction.{IsAlong, InHalfPlane}
use Rattle.fs_ring.proofs.Plane as plane
use Rattle.fs_ring.proofs.HalfPlanes as half_planes
use Rattle.fs_ring.proofs.Turns as turns
use Rattle.fs_lists.proofs.Counts.{one_if}
use Rattle.fs_convex.specs.Counts.{count_below}
use Rattle.fs_convex.specs.Turning.{DecidesHalfPlanes, HasConvexCorners, is_rise, rises, IsCutInTwo, IsTwoChains}
use Rattle.fs_convex.specs.Polygon.{HasSides}
use Rattle.fs_convex.proofs.Counts.{count_below-agree, count_below-add, some_passes, backwards, last_before_failure}
use Rattle.fs_convex.proofs.Positions.{never_right}
use Rattle.fs_convex.proofs.Rises as at_corner
use Rattle.fs_convex.proofs.Winding as winding
use Rattle.fs_convex.proofs.Boundary.{rises-shift}

true_or_not : (b : Bool) → (b ≡ true) ⊎ ¬ (b ≡ true)
true_or_not true = inl refl
true_or_not false = inr (λ e. cc)

not_true : (b : Bool) → ¬ (b ≡ true) → b ≡ false
not_true true n = absurd (n refl)
not_true false n = refl

module _ {A : Type 0} {R : Operations A} {IsPositive : A → Type 0} (L : IsOrderedRing R IsPositive)
    {is_ahead : Vector A → Vector A → Bool} (test : DecidesHalfPlanes R IsPositive is_ahead) where
  abbrev HalfPlane : Vector A → Vector A → Type 0
  HalfPlane w v = InHalfPlane R IsPositive w v

  -- ---- a boundary cut in two

  module _ {s a b : ℕ → Vector A} (convex : HasConvexCorners R IsPositive s) (convex_first : HasConvexCorners R IsPositive a)
      (convex_second : HasConvexCorners R IsPositive b) where
    -- the two halves together pass a direction once more than the boundary
    pub rises_of_halves : {v : Vector A} → v ≢ zero_vector R → (k m : ℕ) → 0 < k → 0 < m → IsCutInTwo R s a b k m
        → rises R is_ahead v a (suc k) + rises R is_ahead v b (suc m) ≡ rises R is_ahead v s (k + m) + 1
    rises_of_halves n zero m lk lm c = absurd (omega arith)
    rises_of_halves n (suc k) zero lk lm c = absurd (omega arith)
    rises_of_halves {v} n (suc k) (suc m) lk lm c =
        let d = a (suc k) in
        let at_s : ℕ → Bool = λ j. is_rise R is_ahead v (s j) (s (suc j)) in
        let a_k : a k ≡ s k = c.first k (omega arith) in
        let b_m : b m ≡ s (suc k + m) = c.second m (omega arith) in
        let next : (j : ℕ) → suc k + suc j ≡ suc (suc k + j) = λ j. omega arith in
        let end : s (suc (suc k + m)) ≡ s 0 = ap s (sym (next m)) ∙ c.closed in
        let to_cut : HalfPlane (s k) d = subst (λ w. HalfPlane w d) a_k (convex_first k) in
        let from_cut : HalfPlane d (s 0) = subst (HalfPlane d) c.first_closed (convex_first (suc k)) in
        let to_opposite : HalfPlane (s (suc k + m)) (neg_vector R d) = subst (λ w. HalfPlane w (neg_vector R d)) b_m (subst (HalfPlane (b m)) c.opposite_cuts (convex_second m)) in
        let from_opposite : HalfPlane (neg_vector R d) (s (suc k)) = subst (λ w. HalfPlane w (s (suc k))) c.opposite_cuts (subst (HalfPlane (b (suc m))) c.second_closed (convex_second (suc m))) in
        let at_end : HalfPlane (s (suc k + m)) (s 0) = subst (HalfPlane (s (suc k + m))) end (convex (suc k + m)) in
        let first_corner = at_corner.rise_of_cut L test n to_cut from_opposite (convex k) in
        let last_corner = at_corner.rise_of_cut L test n to_opposite (at_corner.half_plane_neg-neg L from_cut) at_end in
        let d-ne-zero = half_planes.half_plane-ne-zero L to_cut in
        let bits : one_if (is_ahead v d) + one_if (is_ahead v (neg_vector R d)) ≡ 1 =
        (λ i. one_if (is_ahead v d) + one_if (at_corner.is_ahead-neg_right L test v d n d-ne-zero i)) ∙ one_of_two (is_ahead v d) in
        let a_rest : rises R is_ahead v a k ≡ count_below at_s k =
        count_below-agree _ _ k (λ j l. λ i. is_rise R is_ahead v (c.first j (omega arith) i) (c.first (suc j) (omega arith) i)) in
        let a_to : one_if (is_rise R is_ahead v (a k) d) ≡ one_if (is_rise R is_ahead v (s k) d) = ap (λ w. one_if (is_rise R is_ahead v w d)) a_k in
        let a_from : one_if (is_rise R is_ahead v d (a (suc (suc k)))) ≡ one_if (is_rise R is_ahead v (neg_vector R (neg_vector R d)) (s 0)) =
        (λ i. one_if (is_rise R is_ahead v (sym (plane.neg_vector-neg L.ring d) i) (c.first_closed i))) in
        let b_rest : rises R is_ahead v b m ≡ count_below (λ j. at_s (suc k + j)) m =
        count_below-agree _ _ m (λ j l. λ i. is_rise R is_ahead v (c.second j (omega arith) i) ((c.second (suc j) (omega arith) ∙ ap s (next j)) i)) in
        let b_to : one_if (is_rise R is_ahead v (b m) (b (suc m))) ≡ one_if (is_rise R is_ahead v (s (suc k + m)) (neg_vector R d)) =
        (λ i. one_if (is_rise R is_ahead v (b_m i) (c.opposite_cuts i))) in
        let b_from : one_if (is_rise R is_ahead v (b (suc m)) (b (suc (suc m)))) ≡ one_if (is_rise R is_ahead v (neg_vector R d) (s (suc k))) =
        (λ i. one_if (is_rise R is_ahead v (c.opposite_cuts i) (c.second_closed i))) in
        let whole : rises R is_ahead v s (suc k + suc m) ≡ count_below at_s (suc k) + count_below (λ j. at_s (suc k + j)) (suc m) = count_below-add at_s (suc k) (suc m) in
        let s_end : one_if (at_s (suc k + m)) ≡ one_if (is_rise R is_ahead v (s (suc k + m)) (s 0)) = ap (λ w. one_if (is_rise R is_ahead v (s (suc k + m)) w)) end in
        omega arith
      where
        one_of_two : (b : Bool) → one_if b + one_if (not b) ≡ 1
        one_of_two true = refl
        one_of_two false = refl

    -- each half of a boundary that passes a direction once passes it once, where both halves close
    pub one_rise_of_halves : {v : Vector A} {f g : ℕ → Vector A} → v ≢ zero_vector R → (k m : ℕ) → 0 < k → 0 < m → IsCutInTwo R s a b k m
        → rises R is_ahead v s (k + m) ≡ 1 → HasSides R f a → f (suc k) ≡ f 0 → HasSides R g b → g (suc m) ≡ g 0
        → (rises R is_ahead v a (suc k) ≡ 1) × (rises R is_ahead v b (suc m) ≡ 1)
    one_rise_of_halves {v} n k m lk lm c once first first_closed second second_closed =
        let sum = rises_of_halves n k m lk lm c in
        let one = winding.some_rise L test convex_first first n (suc k) (omega arith) (c.first_closed ∙ sym (c.first 0 lk)) first_closed in
        let other = winding.some_rise L test convex_second second n (suc m) (omega arith) (c.second_closed ∙ ap s (sym (add-zero k)) ∙ sym (c.second 0 lm)) second_closed in
        (omega arith, omega arith)

  -- ---- two chains

  module _ {v : Vector A} (v-ne-zero : v ≢ zero_vector R) where
    -- where the last corner is the only rise
    chains_after_rise : {t : ℕ → Vector A} → HasConvexCorners R IsPositive t → (n : ℕ) → 0 < n → rises R is_ahead v t n ≡ 1 → t n ≡ t 0
        → is_ahead v (t 0) ≡ true → is_ahead v (t (n - 1)) ≡ false
        → (h : ℕ) × (0 < h) × (h < n) × ((j : ℕ) → j < h → is_ahead v (t j) ≡ true) × ((j : ℕ) → h ≤ j → j < n → is_ahead v (t j) ≡ false)
    chains_after_rise {t} convex n some once closed first last =
        elim (last_before_failure (λ j. is_ahead v (t j) ≡ true) (λ j. true_or_not (is_ahead v (t j))) 0 (n - 1) first) [
          | inl all ↦ absurd (let e = all (n - 1) (omega arith) (omega (arith, zero-add (n - 1))) in cc)
          | inr c ↦ (suc c.0, omega arith, omega (arith, c.2, zero-add (n - 1)), (λ j l. c.3 j (omega arith) (omega arith)), λ j l m. back (suc c.0) (not_true _ c.4) j l m)
        ]
      where
        to_last : suc (n - 1) ≡ n
        to_last = omega arith

        back : (h : ℕ) → is_ahead v (t h) ≡ false → (j : ℕ) → h ≤ j → j < n → is_ahead v (t j) ≡ false
        back h f j l m = elim (cases_Bool (is_ahead v (t j))) [
          | inr e ↦ e
          | inl e ↦
              let there : h + (j - h) ≡ j = omega arith in
              let again = winding.rise_between L test convex v-ne-zero h (j - h) f (ap (λ (i : ℕ). is_ahead v (t i)) there ∙ e) in
              let at_last = winding.rise_of_change L test convex v-ne-zero (n - 1) last (ap (λ (i : ℕ). is_ahead v (t i)) to_last ∙ ap (is_ahead v) closed ∙ first) in
              let same = winding.one_rise L test convex v again.0 (n - 1) n once (omega (arith, again.2)) (omega arith) again.3 at_last in
              absurd (omega (arith, again.2))
        ]

    -- a boundary that passes v once is a chain of sides in the half plane of v, and a chain of sides in that of -v
    pub two_chains : {s : ℕ → Vector A} → HasConvexCorners R IsPositive s → (n : ℕ) → ((j : ℕ) → s (n + j) ≡ s j) → rises R is_ahead v s n ≡ 1
        → (r : ℕ) × (h : ℕ) × IsTwoChains R IsPositive v s n r h
    two_chains {s} convex n repeats once =
        let rise = some_passes (λ j. is_rise R is_ahead v (s j) (s (suc j))) n (omega (arith, once)) in
        let r = suc rise.0 in
        let bits = winding.change_of_rise L test convex v-ne-zero rise.0 rise.2 in
        let round : r + n ≡ n + r = omega arith in
        let last : r + (n - 1) ≡ n + rise.0 = omega (arith, rise.1) in
        let chains = chains_after_rise {t = λ j. s (r + j)}
        (λ j. subst (λ (m : ℕ). HalfPlane (s (r + j)) (s m)) (sym (add-suc r j)) (convex (r + j)))
        n (omega (arith, rise.1)) (rises-shift R is_ahead v s n r repeats ∙ once)
        (ap s round ∙ repeats r ∙ ap s (sym (add-zero r)))
        (ap (λ (m : ℕ). is_ahead v (s m)) (add-zero r) ∙ bits.1)
        (ap (λ (m : ℕ). is_ahead v (s m)) last ∙ ap (is_ahead v) (repeats rise.0) ∙ bits.0) in (
          r,
          chains.0,
          record {
            some_ahead = chains.1;
            some_back = chains.2;
            ahead = λ j l. test.sound v (s (r + j)) (chains.3 j l);
            back = λ j l m. at_corner.half_plane_of_not_ahead L test v-ne-zero (winding.side-ne-zero L test convex (r + j)) (chains.4 j l m);
          },
        )

  -- along the first chain no corner is further right of v than an earlier one
  pub first_chain_never_right : {v : Vector A} {s q : ℕ → Vector A} {n r h : ℕ} → HasSides R q s → IsTwoChains R IsPositive v s n r h → (j k : ℕ) → j + k ≤ h
      → IsNonNegative R IsPositive (cross R v (sub_vector R (q (r + j + k)) (q (r + j))))
  first_chain_never_right {v} {s} {q} {n} {r} {h} sides c j k l =
      never_right L sides v (r + j) k
      (λ i a b.
      let there : r + (i - r) ≡ i = omega arith in
      half_planes.half_plane_non_negative L (subst (λ (m : ℕ). HalfPlane v (s m)) there (c.ahead (i - r) (omega arith))))

  -- along the second chain no corner is further left of v than an earlier one
  pub second_chain_never_left : {v : Vector A} {s q : ℕ → Vector A} {n r h : ℕ} → HasSides R q s → IsTwoChains R IsPositive v s n r h → (j k : ℕ) → h ≤ j → j + k ≤ n
      → IsNonNegative R IsPositive (cross R (neg_vector R v) (sub_vector R (q (r + j + k)) (q (r + j))))
  second_chain_never_left {v} {s} {q} {n} {r} {h} sides c j k l m =
      never_right L sides (neg_vector R v) (r + j) k
      (λ i a b.
      let there : r + (i - r) ≡ i = omega arith in
      half_planes.half_plane_non_negative L (subst (λ (m : ℕ). HalfPlane (neg_vector R v) (s m)) there (c.back (i - r) (omega arith) (omega arith))))

  -- ---- the order of the sides in a chain

  module _ {v : Vector A} {s : ℕ → Vector A} {n r h : ℕ} (convex : HasConvexCorners R IsPositive s) (c : IsTwoChains R IsPositive v s n r h) where
    -- the sides of the first chain that are along v are its first ones
    pub first_chain_along : (i j : ℕ) → i ≤ j → j < h → IsAlong R IsPositive v (s (r + j)) → IsAlong R IsPositive v (s (r + i))
    first_chain_along i j l m a =
        let there : r + i + (j - i) ≡ r + j = omega arith in
        backwards (λ k. IsAlong R IsPositive v (s k)) (r + i) (j - i)
        (λ k b d e.
        let at : r + (k - r) ≡ k = omega arith in
        turns.along_before_turn L e (convex k) (subst (λ (m : ℕ). HalfPlane v (s m)) at (c.ahead (k - r) (omega arith))))
        (subst (λ (k : ℕ). IsAlong R IsPositive v (s k)) (sym there) a)

    -- the last side of the first chain isn't one of them
    pub first_chain_ends_left : IsPositive (cross R v (s (r + (h - 1))))
    first_chain_ends_left =
        let some = c.some_ahead in
        let next : r + h ≡ suc (r + (h - 1)) = omega arith in
        at_corner.left_before_turn_out L (c.ahead (h - 1) (omega arith)) (subst (λ (k : ℕ). HalfPlane (neg_vector R v) (s k)) next (c.back h (omega arith) c.some_back)) (convex (r + (h - 1)))

    -- the sides of the second chain that are along -v are its first ones
    pub second_chain_along : (i j : ℕ) → h ≤ i → i ≤ j → j < n → IsAlong R IsPositive (neg_vector R v) (s (r + j)) → IsAlong R IsPositive (neg_vector R v) (s (r + i))
    second_chain_along i j f l m a =
        let there : r + i + (j - i) ≡ r + j = omega arith in
        backwards (λ k. IsAlong R IsPositive (neg_vector R v) (s k)) (r + i) (j - i)
        (λ k b d e.
        let at : r + (k - r) ≡ k = omega arith in
        turns.along_before_turn L e (convex k) (subst (λ (m : ℕ). HalfPlane (neg_vector R v) (s m)) at (c.back (k - r) (omega arith) (omega arith))))
        (subst (λ (k : ℕ). IsAlong R IsPositive (neg_vector R v) (s k)) (sym there) a)

    -- the last side of the second chain isn't one of them
    pub second_chain_ends_right : ((j : ℕ) → s (n + j) ≡ s j) → IsPositive (cross R (neg_vector R v) (s (r + (n - 1))))
    second_chain_ends_right repeats =
        let some = c.some_back in
        let next : n + r ≡ suc (r + (n - 1)) = omega arith in
        let first : s r ≡ s (suc (r + (n - 1))) = sym (repeats r) ∙ ap s next in
        at_corner.left_before_turn_out L (c.back (n - 1) (omega arith) (omega arith))
        (at_corner.half_plane_neg-neg L (subst (HalfPlane v) (ap s (add-zero r) ∙ first) (c.ahead 0 c.some_ahead))) (convex (r + (n - 1)))
