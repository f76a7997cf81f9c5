-- Where the corners of a convex polygon are, seen from one of its sides. A library for crates to come.
use Rattle.std.proofs.Common.{◌≡◌, ◌≢◌, ◌⊎◌, ℕ, suc, ◌+◌, ◌-◌, ◌<◌, ◌≤◌, Bool, true, false, [], ◌∷◌, refl, sym, ap, ◌∙◌, subst, inl, inr, arith, add-zero, zero-add}
use Rattle.std.proofs.lemmas.Bool.{cases_Bool}
use Rattle.fs_ring.specs.Operations.{Operations}
use Rattle.fs_ring.specs.OrderedRing.{IsOrderedRing, IsNonNegative}
use Rattle.fs_ring.specs.Vector.{Vector, zero_vector, neg_vector, sub_vector, cross, dot}
use Rattle.fs_ring.specs.Direction.{IsAlong, InHalfPlane, at_start, inside}
use Rattle.fs_ring.proofs.Signs as signs
use Rattle.fs_ring.proofs.Directions as directions
use Rattle.fs_ring.proofs.HalfPlanes as half_planes
use Rattle.fs_ring.proofs.Turns as turns
use Rattle.fs_ring.proofs.Solver.{expressions as E, numeral, ◌≐◌, ◌from◌}
use Rattle.fs_ring.proofs.PlaneSolver.{plane_identity, plane_derived}
use Rattle.fs_convex.specs.Turning.{DecidesHalfPlanes, IsRiseAt}
use Rattle.fs_convex.specs.Polygon.{IsConvexPolygon, IsOffSide, left_of_side, beyond_end, before_start, IsLeftOrOnLine, to_left, sides_before, sides_after}
use Rattle.fs_convex.proofs.Counts.{all_or_one_fails, backwards}
use Rattle.fs_convex.proofs.Positions.{HoldsFrom, cross_to_same, dot_to_same, never_right, all_parallel, stays_parallel, further_along}
use Rattle.fs_convex.proofs.Rises as at_corner
use Rattle.fs_convex.proofs.Winding as winding
use Rattle.fs_convex.proofs.Boundary as boundary

module _ {A : Type 0} {R : Operations A} {IsPositive : A → Type 0} (L : IsOrderedRing R IsPositive) where
  abbrev HalfPlane : Vector A → Vector A → Type 0
  HalfPlane w v = InHalfPlane R IsPositive w v

  abbrev Along : Vector A → Vector A → Type 0
  Along a b = IsAlong R IsPositive a b

  -- what is parallel to the first ray of its half plane is along it
  pub along_of_half_plane : {u x : Vector A} → HalfPlane u x → cross R u x ≡ R.zero → Along u x
  along_of_half_plane (at_start h) e = h
  along_of_half_plane (inside p) e = absurd (signs.positive-ne-zero L p e)

  -- what is parallel to u and turns into the direction of u has that direction
  pub along_of_parallel : {u x y : Vector A} → cross R u x ≡ R.zero → HalfPlane x y → Along u y → Along u x
  along_of_parallel e (at_start h) k = directions.along_trans L k (directions.along_comm L h)
  along_of_parallel {u} {x} e (inside p) k =
      absurd (signs.positive-ne-zero L (directions.along_cross_right L x (directions.along_comm L k) p) (directions.parallel_comm L u x e))

  -- what points left of -v from b to a points left of v from a to b
  turned : (u a b : Vector A) → cross R (neg_vector R u) (sub_vector R a b) ≡ cross R u (sub_vector R b a)
  turned u a b = plane_identity L.ring [] (u ∷ a ∷ b ∷ []) (λ u a b. cross E (neg_vector E u) (sub_vector E a b) ≐ cross E u (sub_vector E b a)) refl

  parallel_of_neg : (u x : Vector A) → cross R (neg_vector R u) x ≡ R.zero → cross R u x ≡ R.zero
  parallel_of_neg u x e = plane_derived L.ring [] (u ∷ x ∷ []) (λ u x. cross E u x ≐ numeral 0 from (E.neg (numeral 1), cross E (neg_vector E u) x ≐ numeral 0) ∷ []) refl (e, tt)

  parallel_back : (u a b : Vector A) → cross R u (sub_vector R a b) ≡ R.zero → cross R u (sub_vector R b a) ≡ R.zero
  parallel_back u a b e = plane_derived L.ring [] (u ∷ a ∷ b ∷ []) (λ u a b. cross E u (sub_vector E b a) ≐ numeral 0 from (E.neg (numeral 1), cross E u (sub_vector E a b) ≐ numeral 0) ∷ []) refl (e, tt)

  not_both_ways : (u a b : Vector A) → IsPositive (dot R u (sub_vector R a b)) → IsPositive (dot R u (sub_vector R b a)) → ⊥
  not_both_ways u a b p r =
      signs.not_both_signs L p (directions.positive_by_plane L [] (u ∷ a ∷ b ∷ []) (λ u a b. E.neg (dot E u (sub_vector E a b)) ≐ dot E u (sub_vector E b a)) refl r)

  module _ {is_ahead : Vector A → Vector A → Bool} (test : DecidesHalfPlanes R IsPositive is_ahead) where
    abbrev Polygon : ℕ → (ℕ → Vector A) → (ℕ → Vector A) → Type 0
    Polygon n s q = IsConvexPolygon R IsPositive is_ahead n s q

    module _ {n : ℕ} {s q : ℕ → Vector A} (p : Polygon n s q) where
      abbrev u : Vector A
      u = s 0

      u-ne-zero : u ≢ zero_vector R
      u-ne-zero = winding.side-ne-zero L test p.convex 0

      u_along : Along u u
      u_along = directions.along_self L u u-ne-zero

      last_along : (k : ℕ) → k ≤ n → Along u (s (k + (n - k)))
      last_along k l = subst (Along u) (sym (ap s (let z : k + (n - k) ≡ n = omega arith in z) ∙ boundary.sides_return L test p)) u_along

      -- after a side that isn't in the half plane of side 0, one that is is along side 0
      along_after : (l j : ℕ) → l < j → j < n → is_ahead u (s l) ≡ false → is_ahead u (s j) ≡ true → Along u (s j)
      along_after l j m k e f =
          backwards (λ i. Along u (s i)) j (n - j)
          (λ i a b h. turns.along_before_turn L h (p.convex i) (later i a (omega arith)))
          (last_along j (omega arith))
        where
          to_j : l + (j - l) ≡ j
          to_j = omega arith

          rise : (r : ℕ) × (l ≤ r) × (r < l + (j - l)) × IsRiseAt R is_ahead u s r
          rise = winding.rise_between L test p.convex u-ne-zero l (j - l) e (ap (λ (i : ℕ). is_ahead u (s i)) to_j ∙ f)

          later : (i : ℕ) → j ≤ i → i < n → HalfPlane u (s i)
          later i a b = elim (cases_Bool (is_ahead u (s i))) [
            | inl g ↦ test.sound u (s i) g
            | inr g ↦
                let to_n : i + (n - i) ≡ n = omega arith in
                let again = winding.rise_between L test p.convex u-ne-zero i (n - i) g
                (ap (λ (i : ℕ). is_ahead u (s i)) to_n ∙ ap (is_ahead u) (boundary.sides_return L test p) ∙ test.complete u u (at_start u_along)) in
                let same = boundary.one_rise L test p u-ne-zero rise.0 again.0 (omega (arith, rise.2)) (omega (arith, again.2)) rise.3 again.3 in
                absurd (omega (arith, rise.2, again.1))
          ]

      -- corner k is left of side 0, or the sides on one way to it are all along side 0
      pub corner_from_side : (k : ℕ) → k ≤ n → IsLeftOrOnLine R IsPositive n s q k
      corner_from_side k l = elim (all_or_one_fails (λ j. is_ahead u (s j)) k) [
        | inl all ↦
            let start : 0 + k ≡ k = zero-add k in
            let ahead : HoldsFrom (λ j. IsNonNegative R IsPositive (cross R u (s j))) 0 k =
            (λ j a b. half_planes.half_plane_non_negative L (test.sound u (s j) (all j (omega arith)))) in
            elim (signs.non_negative_cases L _ (never_right L p.sides u 0 k ahead)) [
              | inl r ↦ to_left (subst (λ (i : ℕ). IsPositive (cross R u (sub_vector R (q i) (q 0)))) start r)
              | inr e ↦ sides_before (λ j m. along_of_half_plane (test.sound u (s j) (all j m)) (all_parallel L p.sides u 0 k ahead e j (omega arith) (omega arith)))
            ]
        | inr some ↦
            let to_n : k + (n - k) ≡ n = omega arith in
            let end : q (k + (n - k)) ≡ q 0 = ap q to_n ∙ p.closed in
            let ahead : HoldsFrom (λ j. IsNonNegative R IsPositive (cross R (neg_vector R u) (s j))) k (n - k) =
            (λ j a b. elim (cases_Bool (is_ahead u (s j))) [
              | inl f ↦ signs.non_negative_of_zero L (opposite_parallel (s j) (along_after some.0 j (omega (arith, some.1)) (omega arith) some.2 f))
              | inr f ↦ half_planes.half_plane_non_negative L (at_corner.half_plane_of_not_ahead L test u-ne-zero (winding.side-ne-zero L test p.convex j) f)
            ]) in
            elim (signs.non_negative_cases L _ (never_right L p.sides (neg_vector R u) k (n - k) ahead)) [
              | inl r ↦ to_left (signs.positive_of_eq L (sym (turned u (q 0) (q k))) (subst (λ w. IsPositive (cross R (neg_vector R u) (sub_vector R w (q k)))) end r))
              | inr e ↦
                  let parallel = all_parallel L p.sides (neg_vector R u) k (n - k) ahead e in
                  sides_after (λ j a b.
                  backwards (λ i. Along u (s i)) j (n - j)
                  (λ i c d h. along_of_parallel (parallel_of_neg u (s i) (parallel i (omega arith) (omega arith))) (p.convex i) h)
                  (last_along j (omega arith)))
            ]
      ]
        where
          opposite_parallel : (x : Vector A) → Along u x → cross R (neg_vector R u) x ≡ R.zero
          opposite_parallel x h = plane_derived L.ring [] (u ∷ x ∷ []) (λ u x. cross E (neg_vector E u) x ≐ numeral 0 from (E.neg (numeral 1), cross E u x ≐ numeral 0) ∷ []) refl (h.parallel, tt)

      -- ---- a corner against side 0

      -- a corner other than the ends of side 0 is off the side
      pub corner_off_side : (k : ℕ) → 2 ≤ k → k < n → IsOffSide R IsPositive u (q 0) (q 1) (q k)
      corner_off_side k l m = elim (corner_from_side k (omega arith)) [
        | to_left r ↦ left_of_side r
        | sides_before h ↦
            let from_first : 1 + (k - 1) ≡ k = omega arith in
            beyond_end
            (subst (λ (i : ℕ). cross R u (sub_vector R (q i) (q 0)) ≡ R.zero) (zero-add k) (stays_parallel L p.sides u 0 k (λ j a b. (h j (omega (arith, zero-add k))).parallel)))
            (subst (λ (i : ℕ). IsPositive (dot R u (sub_vector R (q i) (q 1)))) from_first (further_along L p.sides u 1 (k - 1) (λ j a b. (h j (omega arith)).same_way) (omega arith)))
        | sides_after h ↦
            let to_n : k + (n - k) ≡ n = omega arith in
            let end : q (k + (n - k)) ≡ q 0 = ap q to_n ∙ p.closed in
            before_start
            (parallel_back u (q 0) (q k) (subst (λ w. cross R u (sub_vector R w (q k)) ≡ R.zero) end (stays_parallel L p.sides u k (n - k) (λ j a b. (h j a (omega arith)).parallel))))
            (subst (λ w. IsPositive (dot R u (sub_vector R w (q k)))) end (further_along L p.sides u k (n - k) (λ j a b. (h j a (omega arith)).same_way) (omega arith)))
      ]

      -- where a corner is on the line of side 0, the sides on one way to it are all along side 0
      pub sides_to_corner_on_line : (k : ℕ) → k ≤ n → cross R u (sub_vector R (q k) (q 0)) ≡ R.zero
          → ((j : ℕ) → j < k → Along u (s j)) ⊎ ((j : ℕ) → k ≤ j → j < n → Along u (s j))
      sides_to_corner_on_line k l e =
          elim (corner_from_side k l) [ to_left r ↦ absurd (signs.positive-ne-zero L r e) | sides_before h ↦ inl h | sides_after h ↦ inr h ]

      -- where all corners are strictly convex, each corner other than the ends of side 0 is left of the side
      pub corner_left_of_side : ((j : ℕ) → IsPositive (cross R (s j) (s (suc j)))) → (k : ℕ) → 2 ≤ k → k < n → IsPositive (cross R u (sub_vector R (q k) (q 0)))
      corner_left_of_side strict k l m = elim (corner_from_side k (omega arith)) [
        | to_left r ↦ r
        | sides_before h ↦ absurd (turns.along_not_left L (h 1 (omega arith)) (strict 0))
        | sides_after h ↦
            let last : suc (n - 1) ≡ n = omega arith in
            absurd (turns.along_not_right L (h (n - 1) (omega arith) (omega arith))
            (subst (λ w. IsPositive (cross R (s (n - 1)) w)) (ap s last ∙ boundary.sides_return L test p) (strict (n - 1))))
      ]

      corner_not_right_of_first : (k : ℕ) → k ≤ n → IsNonNegative R IsPositive (cross R u (sub_vector R (q k) (q 0)))
      corner_not_right_of_first k l = elim (corner_from_side k l) [
        | to_left r ↦ signs.non_negative_of_positive L r
        | sides_before h ↦
            signs.non_negative_of_zero L
            (subst (λ (i : ℕ). cross R u (sub_vector R (q i) (q 0)) ≡ R.zero) (zero-add k) (stays_parallel L p.sides u 0 k (λ j a b. (h j (omega (arith, zero-add k))).parallel)))
        | sides_after h ↦
            let to_n : k + (n - k) ≡ n = omega arith in
            let end : q (k + (n - k)) ≡ q 0 = ap q to_n ∙ p.closed in
            signs.non_negative_of_zero L
            (parallel_back u (q 0) (q k) (subst (λ w. cross R u (sub_vector R w (q k)) ≡ R.zero) end (stays_parallel L p.sides u k (n - k) (λ j a b. (h j a (omega arith)).parallel))))
      ]

      corner_not_first : (k : ℕ) → 0 < k → k < n → q k ≢ q 0
      corner_not_first k l m e = elim (corner_from_side k (omega arith)) [
        | to_left r ↦ signs.positive-ne-zero L r (cross_to_same L u e)
        | sides_before h ↦
            signs.positive-ne-zero L (further_along L p.sides u 0 k (λ j a b. (h j (omega (arith, zero-add k))).same_way) l) (dot_to_same L u (ap q (zero-add k) ∙ e))
        | sides_after h ↦
            let to_n : k + (n - k) ≡ n = omega arith in
            signs.positive-ne-zero L (further_along L p.sides u k (n - k) (λ j a b. (h j a (omega arith)).same_way) (omega arith)) (dot_to_same L u (ap q to_n ∙ p.closed ∙ sym e))
      ]

      none_inside_first : (k : ℕ) → k < n → cross R u (sub_vector R (q k) (q 0)) ≡ R.zero → IsPositive (dot R u (sub_vector R (q k) (q 0)))
          → IsPositive (dot R u (sub_vector R (q 1) (q k))) → ⊥
      none_inside_first k l e after before = go (three k)
        where
          three : (k : ℕ) → (k ≡ 0) ⊎ ((k ≡ 1) ⊎ (2 ≤ k))
          three k = grind arith

          go : (k ≡ 0) ⊎ ((k ≡ 1) ⊎ (2 ≤ k)) → ⊥
          go (inl z) = signs.positive-ne-zero L after (dot_to_same L u (ap q z))
          go (inr (inl z)) = signs.positive-ne-zero L before (dot_to_same L u (sym (ap q z)))
          go (inr (inr m)) = elim (corner_off_side k m l) [
            | left_of_side r ↦ signs.positive-ne-zero L r e
            | beyond_end z r ↦ not_both_ways u (q k) (q 1) r before
            | before_start z r ↦ not_both_ways u (q k) (q 0) after r
          ]

    -- ---- a corner against any side

    module _ {n : ℕ} {s q : ℕ → Vector A} (p : Polygon n s q) where
      -- a corner other than the ends of side j is off the side
      pub corner_off_any_side : (j k : ℕ) → 2 ≤ k → k < n → IsOffSide R IsPositive (s j) (q j) (q (suc j)) (q (j + k))
      corner_off_any_side j k l m =
          subst (λ w. IsOffSide R IsPositive (s j) (q j) w (q (j + k))) (ap q (let z : j + 1 ≡ suc j = omega arith in z))
          (subst (λ (i : ℕ). IsOffSide R IsPositive (s i) (q i) (q (j + 1)) (q (j + k))) (add-zero j)
          (corner_off_side (boundary.polygon_from L test j p) k l m))

      -- where all corners are strictly convex, each corner other than the ends of side j is left of the side
      pub corner_left_of_any_side : ((j : ℕ) → IsPositive (cross R (s j) (s (suc j)))) → (j k : ℕ) → 2 ≤ k → k < n → IsPositive (cross R (s j) (sub_vector R (q (j + k)) (q j)))
      corner_left_of_any_side strict j k l m =
          subst (λ (i : ℕ). IsPositive (cross R (s i) (sub_vector R (q (j + k)) (q i)))) (add-zero j)
          (corner_left_of_side (boundary.polygon_from L test j p)
          (λ i. subst (λ (h : ℕ). IsPositive (cross R (s (j + i)) (s h))) (let z : suc (j + i) ≡ j + suc i = omega arith in z) (strict (j + i))) k l m)

      -- no corner is right of any side
      pub corner_not_right : (j k : ℕ) → IsNonNegative R IsPositive (cross R (s j) (sub_vector R (q k) (q j)))
      corner_not_right j k =
          let there = boundary.position_after L test p j k in
          let from_j = boundary.polygon_from L test j p in
          let small = boundary.position_below L test from_j there.0 in
          subst (IsNonNegative R IsPositive)
          (λ i. cross R (s (add-zero j i)) (sub_vector R ((sym small.2 ∙ there.1) i) (q (add-zero j i))))
          (corner_not_right_of_first from_j small.0 (omega (arith, small.1)))

      -- no two corners have one position
      pub positions_differ : (j k : ℕ) → j < k → k < n → q j ≢ q k
      positions_differ j k l m e =
          let there : j + (k - j) ≡ k = omega arith in
          corner_not_first (boundary.polygon_from L test j p) (k - j) (omega arith) (omega arith) (ap q there ∙ sym e ∙ ap q (sym (add-zero j)))

      -- no corner is strictly between the ends of a side
      pub no_corner_inside_side : (j k : ℕ) → cross R (s j) (sub_vector R (q k) (q j)) ≡ R.zero → IsPositive (dot R (s j) (sub_vector R (q k) (q j)))
          → IsPositive (dot R (s j) (sub_vector R (q (suc j)) (q k))) → ⊥
      no_corner_inside_side j k e after before =
          let there = boundary.position_after L test p j k in
          let from_j = boundary.polygon_from L test j p in
          let small = boundary.position_below L test from_j there.0 in
          let same : q (j + small.0) ≡ q k = sym small.2 ∙ there.1 in
          let next : q (j + 1) ≡ q (suc j) = ap q (let z : j + 1 ≡ suc j = omega arith in z) in
          none_inside_first from_j small.0 small.1
          (subst (λ x. x ≡ R.zero) (sym (λ i. cross R (s (add-zero j i)) (sub_vector R (same i) (q (add-zero j i))))) e)
          (signs.positive_of_eq L (λ i. dot R (s (add-zero j i)) (sub_vector R (same i) (q (add-zero j i)))) after)
          (signs.positive_of_eq L (λ i. dot R (s (add-zero j i)) (sub_vector R (next i) (same i))) before)
