-- Where a line leaves a convex polygon, and that it leaves ahead of where it came in. A library for crates to come.
use Rattle.std.proofs.Common.{◌≡◌, ◌≢◌, ◌⊎◌, ℕ, suc, ◌+◌, ◌-◌, ◌<◌, ◌≤◌, Bool, true, false, [], ◌∷◌, refl, sym, ap, ◌∙◌, subst, inl, inr, arith, zero-add}
use Rattle.std.proofs.lemmas.Bool.{cases_Bool}
use Rattle.fs_ring.specs.Operations.{Operations}
use Rattle.fs_ring.specs.OrderedRing.{IsOrderedRing, positive, null, negative, IsNonNegative}
use Rattle.fs_ring.specs.Vector.{Vector, zero_vector, add_vector, neg_vector, sub_vector, cross, dot, norm}
use Rattle.fs_ring.specs.Direction.{IsAlong, inside}
use Rattle.fs_ring.proofs.Signs as signs
use Rattle.fs_ring.proofs.Directions as directions
use Rattle.fs_ring.proofs.HalfPlanes as half_planes
use Rattle.fs_ring.proofs.Turns as turns
use Rattle.fs_ring.proofs.Solver.{expressions as E, numeral, ◌⊕◌, ◌⊗◌, ◌≐◌, ◌from◌}
use Rattle.fs_ring.proofs.PlaneSolver.{plane_derived}
use Rattle.fs_convex.specs.Turning.{DecidesHalfPlanes, IsRiseAt}
use Rattle.fs_convex.specs.Polygon.{IsConvexPolygon, IsOffSide, left_of_side, beyond_end, before_start, IsExit}
use Rattle.fs_convex.proofs.Counts.{all_or_one_fails, last_before_failure}
use Rattle.fs_convex.proofs.Positions.{never_right, further_left}
use Rattle.fs_convex.proofs.Rises as at_corner
use Rattle.fs_convex.proofs.Winding as winding
use Rattle.fs_convex.proofs.Boundary as boundary
use Rattle.fs_convex.proofs.Corners as corners

module _ {A : Type 0} {R : Operations A} {IsPositive : A → Type 0} (L : IsOrderedRing R IsPositive) where
  -- ---- points left of a vector that v is left of

  -- what is left of b and on the line of v is ahead of (0, 0) along v, where v is left of b
  pub ahead_on_line : {b v x : Vector A} → IsPositive (cross R b v) → IsPositive (cross R b x) → cross R v x ≡ R.zero → IsPositive (dot R v x)
  ahead_on_line {b} {v} {x} bv bx e =
      signs.positive_of_mul_left L bv
      (signs.positive_of_eq L
      (plane_derived L.ring [] (b ∷ v ∷ x ∷ []) (λ b v x. cross E b v ⊗ dot E v x ≐ norm E v ⊗ cross E b x from (E.neg (dot E b v), cross E v x ≐ numeral 0) ∷ []) refl (e, tt))
      (L.mul_positive (directions.norm_positive L v (directions.cross_positive-ne-zero_right L bv)) bx))

  -- from a point right of v to a point left of v the line of v is crossed ahead of (0, 0), where both points and v are left of b
  pub ahead_across : {b v x y : Vector A} → IsPositive (cross R b v) → IsPositive (cross R b x) → IsPositive (cross R b y)
      → IsPositive (cross R x v) → IsPositive (cross R v y) → IsPositive (cross R x y)
  ahead_across {b} {v} {x} {y} bv bx by xv vy =
      signs.positive_of_mul_left L bv
      (directions.positive_by_plane L [] (b ∷ v ∷ x ∷ y ∷ []) (λ b v x y. cross E b v ⊗ cross E x y ≐ cross E v y ⊗ cross E b x ⊕ cross E x v ⊗ cross E b y) refl
      (L.add_positive (L.mul_positive vy bx) (L.mul_positive xv by)))

  right_or_not : (v x : Vector A) → IsPositive (cross R x v) ⊎ ¬ IsPositive (cross R x v)
  right_or_not v x = elim (L.trichotomy (cross R x v)) [
    | positive h ↦ inl h
    | null e ↦ inr (λ h. signs.positive-ne-zero L h e)
    | negative h ↦ inr (λ k. signs.not_both_signs L k h)
  ]

  not_right_cross : (v x : Vector A) → ¬ IsPositive (cross R x v) → IsNonNegative R IsPositive (cross R v x)
  not_right_cross v x h n = h (directions.cross_positive L v x n)

  -- a side from a point right of v to one that isn't points left of v
  side_left : {v x s y : Vector A} → y ≡ add_vector R x s → IsPositive (cross R x v) → ¬ IsPositive (cross R y v) → IsPositive (cross R v s)
  side_left {v} {x} {s} {y} e h k =
      directions.positive_by_plane L [] (v ∷ x ∷ s ∷ []) (λ v x s. cross E v s ≐ cross E v (add_vector E x s) ⊕ cross E x v) refl
      (signs.add_non_negative_positive L (subst (λ w. IsNonNegative R IsPositive (cross R v w)) e (not_right_cross v y k)) h)

  -- (0, 0) is off the side s from x to y, x is right of v and y isn't, and y isn't (0, 0): then the line along v crosses the side ahead
  ahead_of_zero : {v x y s : Vector A} → y ≡ add_vector R x s → y ≢ zero_vector R → IsOffSide R IsPositive s x y (zero_vector R)
      → IsPositive (cross R x v) → ¬ IsPositive (cross R y v) → IsPositive (cross R x y)
  ahead_of_zero {v} {x} {y} {s} e n off h k = go off
    where
      flat : cross R s (sub_vector R (zero_vector R) x) ≡ R.zero → cross R x y ≡ R.zero
      flat z = ap (cross R x) e ∙ plane_derived L.ring [] (x ∷ s ∷ []) (λ x s. cross E x (add_vector E x s) ≐ numeral 0 from (numeral 1, cross E s (sub_vector E (zero_vector E) x) ≐ numeral 0) ∷ []) refl (z, tt)

      -- where x, y and (0, 0) are on a line, v crosses it between x and y
      balanced : cross R x y ≡ R.zero → R.add (R.mul (cross R v y) (dot R s x)) (R.mul (cross R x v) (dot R s y)) ≡ R.zero
      balanced z = plane_derived L.ring [] (v ∷ x ∷ y ∷ s ∷ []) (λ v x y s. cross E v y ⊗ dot E s x ⊕ cross E x v ⊗ dot E s y ≐ numeral 0 from (dot E s v, cross E x y ≐ numeral 0) ∷ []) refl (z, tt)

      parallel_on_line : cross R x y ≡ R.zero → cross R v y ≡ R.zero → ⊥
      parallel_on_line z f =
          elim (directions.zero_of_cross_dot-zero L v y f
          (signs.zero_of_mul_left L (signs.positive-ne-zero L h)
          (plane_derived L.ring [] (v ∷ x ∷ y ∷ []) (λ v x y. cross E x v ⊗ dot E v y ≐ numeral 0 from (norm E v, cross E x y ≐ numeral 0) ∷ (E.neg (dot E v x), cross E v y ≐ numeral 0) ∷ []) refl (z, (f, tt)))))
          [ inl o ↦ directions.cross_positive-ne-zero_right L h o | inr o ↦ n o ]

      beyond : cross R x y ≡ R.zero → IsPositive (cross R v y) → IsPositive (dot R s (sub_vector R (zero_vector R) y)) → ⊥
      beyond z l r =
          let y_back : IsPositive (R.neg (dot R s y)) = directions.positive_by_plane L [] (s ∷ y ∷ []) (λ s y. E.neg (dot E s y) ≐ dot E s (sub_vector E (zero_vector E) y)) refl r in
          let x_back : IsPositive (R.neg (dot R s x)) =
          directions.positive_by_plane L [] (x ∷ s ∷ []) (λ x s. E.neg (dot E s x) ≐ E.neg (dot E s (add_vector E x s)) ⊕ norm E s) refl
          (signs.add_positive_non_negative L (subst (λ w. IsPositive (R.neg (dot R s w))) e y_back) (directions.norm_non_negative L s)) in
          signs.negative-ne-zero L
          (directions.positive_by_plane L [] (v ∷ x ∷ y ∷ s ∷ []) (λ v x y s. E.neg (cross E v y ⊗ dot E s x ⊕ cross E x v ⊗ dot E s y) ≐ cross E v y ⊗ E.neg (dot E s x) ⊕ cross E x v ⊗ E.neg (dot E s y)) refl
          (L.add_positive (L.mul_positive l x_back) (L.mul_positive h y_back))) (balanced z)

      before : cross R x y ≡ R.zero → IsPositive (cross R v y) → IsPositive (dot R s (sub_vector R x (zero_vector R))) → ⊥
      before z l r =
          let x_on : IsPositive (dot R s x) = directions.positive_by_plane L [] (s ∷ x ∷ []) (λ s x. dot E s x ≐ dot E s (sub_vector E x (zero_vector E))) refl r in
          let y_on : IsPositive (dot R s y) =
          subst (λ w. IsPositive (dot R s w)) (sym e)
          (directions.positive_by_plane L [] (x ∷ s ∷ []) (λ x s. dot E s (add_vector E x s) ≐ dot E s x ⊕ norm E s) refl
          (signs.add_positive_non_negative L x_on (directions.norm_non_negative L s))) in
          signs.positive-ne-zero L (L.add_positive (L.mul_positive l x_on) (L.mul_positive h y_on)) (balanced z)

      go : IsOffSide R IsPositive s x y (zero_vector R) → IsPositive (cross R x y)
      go (left_of_side r) =
          subst (λ w. IsPositive (cross R x w)) (sym e)
          (directions.positive_by_plane L [] (x ∷ s ∷ []) (λ x s. cross E x (add_vector E x s) ≐ cross E s (sub_vector E (zero_vector E) x)) refl r)
      go (beyond_end z r) =
          absurd (elim (signs.non_negative_cases L _ (not_right_cross v y k)) [ inl l ↦ beyond (flat z) l r | inr f ↦ parallel_on_line (flat z) f ])
      go (before_start z r) =
          absurd (elim (signs.non_negative_cases L _ (not_right_cross v y k)) [ inl l ↦ before (flat z) l r | inr f ↦ parallel_on_line (flat z) f ])

  -- ---- which corners are right, on and left of a line

  module _ {v : Vector A} {q : ℕ → Vector A} {i m : ℕ} (e : IsExit R IsPositive v q i m) where
    three : (k : ℕ) → (k ≤ i) ⊎ ((k ≡ suc i) ⊎ (suc (suc i) ≤ k))
    three k = grind arith

    -- a corner that is right of the line is no later than the start of the exit side
    pub right_before_exit : (k : ℕ) → k ≤ m → IsPositive (cross R (q k) v) → k ≤ i
    right_before_exit k l h = elim (three k) [
      | inl a ↦ a
      | inr s ↦
          elim s [
            | inl same ↦ absurd (e.not_right (subst (λ (j : ℕ). IsPositive (cross R (q j) v)) same h))
            | inr a ↦ absurd (turns.not_both_crosses L h (e.left_after k a l))
          ]
    ]

    -- a side from the right of the line to its left is the exit side
    pub crossed_side_is_exit : (k : ℕ) → 1 ≤ k → k < m → IsPositive (cross R (q k) v) → IsPositive (cross R v (q (suc k))) → k ≡ i
    crossed_side_is_exit k l h right left = elim (before_or_exit k (right_before_exit k (omega arith) right)) [
      | inl same ↦ same
      | inr less ↦ absurd (turns.not_both_crosses L left (e.right_before (suc k) (omega arith) less))
    ]
      where
        before_or_exit : (k : ℕ) → k ≤ i → (k ≡ i) ⊎ (suc k ≤ i)
        before_or_exit k l = grind arith

    -- a corner on the line is the end of the exit side
    pub corner_on_line_is_exit : (k : ℕ) → 1 ≤ k → k ≤ m → cross R v (q k) ≡ R.zero → k ≡ suc i
    corner_on_line_is_exit k l h z = elim (three k) [
      | inl a ↦ absurd (signs.positive-ne-zero L (e.right_before k l a) (directions.parallel_comm L v (q k) z))
      | inr s ↦ elim s [ inl same ↦ same | inr a ↦ absurd (signs.positive-ne-zero L (e.left_after k a h) z) ]
    ]

    -- the end of the exit side isn't corner m, where that is left of the line and the end on it
    pub exit_on_line_before_last : IsPositive (cross R v (q m)) → cross R v (q (suc i)) ≡ R.zero → suc i < m
    exit_on_line_before_last left z = elim (before_or_last (suc i) m e.before_last) [
      | inl l ↦ l
      | inr same ↦ absurd (signs.positive-ne-zero L left (ap (λ (j : ℕ). cross R v (q j)) (sym same) ∙ z))
    ]
      where
        before_or_last : (j m : ℕ) → j ≤ m → (j < m) ⊎ (j ≡ m)
        before_or_last j m l = grind arith

  module _ {is_ahead : Vector A → Vector A → Bool} (test : DecidesHalfPlanes R IsPositive is_ahead) where
    abbrev Polygon : ℕ → (ℕ → Vector A) → (ℕ → Vector A) → Type 0
    Polygon n s q = IsConvexPolygon R IsPositive is_ahead n s q

    module _ {n : ℕ} {s q : ℕ → Vector A} (p : Polygon n s q) where
      -- ---- the exit

      module _ {v : Vector A} (down : IsPositive (cross R (s 0) v)) (i m : ℕ) (first : 1 ≤ i) (last : i < m) (most : m ≤ n)
          (right : (j : ℕ) → 1 ≤ j → j ≤ i → IsPositive (cross R (q j) v)) (not_right : ¬ IsPositive (cross R (q (suc i)) v)) (left : IsPositive (cross R v (q m))) where
        v-ne-zero : v ≢ zero_vector R
        v-ne-zero = directions.cross_positive-ne-zero_right L down

        up : IsPositive (cross R v (s i))
        up = side_left (p.sides i) (right i first (omega arith)) not_right

        rise : (r : ℕ) × (0 ≤ r) × (r < 0 + i) × IsRiseAt R is_ahead v s r
        rise = winding.rise_between L test p.convex v-ne-zero 0 i (at_corner.not_ahead_of_half_plane L test (inside (turns.left_of_opposite L down)))
            (ap (λ (j : ℕ). is_ahead v (s j)) (zero-add i) ∙ test.complete v (s i) (inside up))

        -- after side i, a side that isn't in the half plane of v is followed by such sides alone
        later : (l j : ℕ) → i ≤ l → l ≤ j → j < n → is_ahead v (s l) ≡ false → is_ahead v (s j) ≡ false
        later l j a b c e = elim (cases_Bool (is_ahead v (s j))) [
          | inr f ↦ f
          | inl f ↦
              let there : l + (j - l) ≡ j = omega arith in
              let again = winding.rise_between L test p.convex v-ne-zero l (j - l) e (ap (λ (i : ℕ). is_ahead v (s i)) there ∙ f) in
              let same = boundary.one_rise L test p v-ne-zero rise.0 again.0 (omega (arith, rise.2, zero-add i)) (omega (arith, again.2)) rise.3 again.3 in
              absurd (omega (arith, rise.2, again.1, zero-add i))
        ]

        left_where_ahead : (j : ℕ) → suc (suc i) ≤ j → j ≤ m → ((l : ℕ) → suc i ≤ l → l < j → is_ahead v (s l) ≡ true) → IsPositive (cross R v (q j))
        left_where_ahead j a b ahead =
            let there : suc i + (j - suc i) ≡ j = omega arith in
            let next : IsPositive (cross R v (s (suc i))) = turns.left_after_turn L up (p.convex i) (test.sound v (s (suc i)) (ahead (suc i) (omega arith) (omega arith))) in
            let further = further_left L p.sides v (suc i) (j - suc i) (suc i)
            (λ l c d. half_planes.half_plane_non_negative L (test.sound v (s l) (ahead l c (omega arith)))) (omega arith) (omega arith) next in
            directions.positive_by_plane L [] (v ∷ q (suc i) ∷ q j ∷ []) (λ v a b. cross E v b ≐ cross E v (sub_vector E b a) ⊕ cross E v a) refl
            (signs.add_positive_non_negative L (subst (λ (l : ℕ). IsPositive (cross R v (sub_vector R (q l) (q (suc i))))) there further) (not_right_cross v (q (suc i)) not_right))

        left_where_not : (j l : ℕ) → suc i ≤ l → l < j → j ≤ m → is_ahead v (s l) ≡ false → IsPositive (cross R v (q j))
        left_where_not j l a b c e =
            let there : j + (m - j) ≡ m = omega arith in
            let further = never_right L p.sides (neg_vector R v) j (m - j)
            (λ k d f. half_planes.half_plane_non_negative L (at_corner.half_plane_of_not_ahead L test v-ne-zero (winding.side-ne-zero L test p.convex k) (later l k (omega arith) (omega arith) (omega arith) e))) in
            directions.positive_by_plane L [] (v ∷ q j ∷ q m ∷ []) (λ v a b. cross E v a ≐ cross E v b ⊕ cross E (neg_vector E v) (sub_vector E b a)) refl
            (signs.add_positive_non_negative L left (subst (λ (l : ℕ). IsNonNegative R IsPositive (cross R (neg_vector R v) (sub_vector R (q l) (q j)))) there further))

        left_after : (j : ℕ) → suc (suc i) ≤ j → j ≤ m → IsPositive (cross R v (q j))
        left_after j a b = elim (all_or_one_fails (λ l. is_ahead v (s (suc i + l))) (j - suc i)) [
          | inl all ↦ left_where_ahead j a b (λ l c d. let there : suc i + (l - suc i) ≡ l = omega arith in sym (ap (λ (l : ℕ). is_ahead v (s l)) there) ∙ all (l - suc i) (omega arith))
          | inr some ↦ left_where_not j (suc i + some.0) (omega arith) (omega (arith, some.1)) b some.2
        ]

      -- where side 0 points right of v, corner 1 is right of the line and corner m left of it, there is one exit between
      pub exit : (v : Vector A) (m : ℕ) → 2 ≤ m → m ≤ n → IsPositive (cross R (s 0) v) → IsPositive (cross R (q 1) v) → IsPositive (cross R v (q m))
          → (i : ℕ) × IsExit R IsPositive v q i m
      exit v m two most down right left = elim (last_before_failure (λ j. IsPositive (cross R (q j) v)) (λ j. right_or_not v (q j)) 1 (m - 1) right) [
        | inl all ↦ absurd (turns.not_both_crosses L left (all m (omega arith) (omega arith)))
        | inr e ↦ (
          e.0,
          record {
            not_first = e.1;
            before_last = omega (arith, e.2);
            right_before = e.3;
            not_right = e.4;
            left_after = left_after down e.0 m e.1 (omega (arith, e.2)) most e.3 e.4 left;
          },
        )
      ]

      -- ---- the line leaves ahead, where it came in by side 0

      module _ {v : Vector A} (left : IsPositive (cross R v (q 0))) (right : IsPositive (cross R (q 1) v)) (ahead : IsPositive (cross R (q 1) (q 0))) where
        from_entry : (x : Vector A) → q 1 ≡ add_vector R (q 0) (s 0) → IsPositive (cross R (s 0) v) × (IsNonNegative R IsPositive (cross R (s 0) (sub_vector R x (q 0))) → IsPositive (cross R (s 0) x))
        from_entry x e = (
          directions.positive_by_plane L [] (v ∷ q 0 ∷ s 0 ∷ []) (λ v a s. cross E s v ≐ cross E (add_vector E a s) v ⊕ cross E v a) refl
              (L.add_positive (subst (λ w. IsPositive (cross R w v)) e right) left),
          λ h. directions.positive_by_plane L [] (q 0 ∷ s 0 ∷ x ∷ []) (λ a s x. cross E s x ≐ cross E s (sub_vector E x a) ⊕ cross E (add_vector E a s) a) refl
              (signs.add_non_negative_positive L h (subst (λ w. IsPositive (cross R w (q 0))) e ahead)),
        )

        entry_turn : IsPositive (cross R (s 0) v)
        entry_turn = (from_entry (q 0) (p.sides 0)).0

        inner : (k : ℕ) → IsPositive (cross R (s 0) (q k))
        inner k = (from_entry (q k) (p.sides 0)).1 (corners.corner_not_right L test p 0 k)

        -- a corner on the line is ahead, where the line came in by side 0
        pub corner_ahead_of_entry : (k : ℕ) → cross R v (q k) ≡ R.zero → IsPositive (dot R v (q k))
        corner_ahead_of_entry k e = ahead_on_line entry_turn (inner k) e

        -- and from a corner right of the line to one left of it the line is crossed ahead
        pub side_ahead_of_entry : (j k : ℕ) → IsPositive (cross R (q j) v) → IsPositive (cross R v (q k)) → IsPositive (cross R (q j) (q k))
        side_ahead_of_entry j k h l = ahead_across entry_turn (inner j) (inner k) h l

      -- ---- the line leaves ahead, where it begins at corner 0

      module _ {v : Vector A} (start : q 0 ≡ zero_vector R) {i m : ℕ} (e : IsExit R IsPositive v q i m) (most : m < n) where
        -- the exit side is crossed ahead, where the line begins at corner 0
        pub side_ahead_of_start : IsPositive (cross R (q i) (q (suc i)))
        side_ahead_of_start =
            ahead_of_zero (p.sides i) not_start
            (subst (λ w. IsOffSide R IsPositive (s i) (q i) (q (suc i)) w) (ap q to_n ∙ p.closed ∙ start)
            (corners.corner_off_any_side L test p i (n - i) (omega (arith, e.before_last)) (omega (arith, e.before_last, e.not_first))))
            (e.right_before i e.not_first (omega arith)) e.not_right
          where
            to_n : i + (n - i) ≡ n
            to_n = omega (arith, e.before_last)

            not_start : q (suc i) ≢ zero_vector R
            not_start z = corners.positions_differ L test p 0 (suc i) (omega arith) (omega (arith, e.before_last)) (start ∙ sym z)

        -- and its end is ahead, where that is on the line
        pub corner_ahead_of_start : cross R v (q (suc i)) ≡ R.zero → IsPositive (dot R v (q (suc i)))
        corner_ahead_of_start z = ahead_on_line (e.right_before i e.not_first (omega arith)) side_ahead_of_start z

      -- ---- the line runs along side 0

      -- a corner ahead on the line is the end of side 0 or beyond it, where the line runs along side 0
      pub corner_ahead_on_side : {v : Vector A} → q 0 ≡ zero_vector R → IsAlong R IsPositive (s 0) v → (k : ℕ) → k < n → cross R v (q k) ≡ R.zero
          → IsPositive (dot R v (q k)) → (k ≡ 1) ⊎ IsPositive (dot R (s 0) (sub_vector R (q k) (q 1)))
      corner_ahead_on_side {v} start h k l e ahead = go (three k)
        where
          three : (k : ℕ) → (k ≡ 0) ⊎ ((k ≡ 1) ⊎ (2 ≤ k))
          three k = grind arith

          go : (k ≡ 0) ⊎ ((k ≡ 1) ⊎ (2 ≤ k)) → (k ≡ 1) ⊎ IsPositive (dot R (s 0) (sub_vector R (q k) (q 1)))
          go (inl z) = absurd (directions.dot_positive-ne-zero_right L ahead (ap q z ∙ start))
          go (inr (inl z)) = inl z
          go (inr (inr m)) = elim (corners.corner_off_side L test p k m l) [
            | left_of_side r ↦
                absurd (signs.positive-ne-zero L
                (directions.along_cross L (q k) h
                (directions.positive_by_plane L [] (s 0 ∷ q k ∷ []) (λ s x. cross E s x ≐ cross E s (sub_vector E x (zero_vector E))) refl
                (subst (λ w. IsPositive (cross R (s 0) (sub_vector R (q k) w))) start r))) e)
            | beyond_end z r ↦ inr r
            | before_start z r ↦
                absurd (signs.not_both_signs L (directions.along_dot L (q k) (directions.along_comm L h) ahead)
                (directions.positive_by_plane L [] (s 0 ∷ q k ∷ []) (λ s x. E.neg (dot E s x) ≐ dot E s (sub_vector E (zero_vector E) x)) refl
                (subst (λ w. IsPositive (dot R (s 0) (sub_vector R w (q k)))) start r)))
          ]
