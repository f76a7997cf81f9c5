-- Numbers that rise and fall along four runs, as how far right of a direction the corners of a polygon are: their least, their sums, and the intervals between them. A library for crates to come.
use Rattle.std.proofs.Common.{◌≡◌, ◌⊎◌, ℕ, zero, suc, ◌+◌, ◌-◌, ◌<◌, ◌≤◌, [], ◌∷◌, refl, sym, ap, ◌∙◌, subst, inl, inr, arith, add-zero, add-suc}
use Rattle.fs_ring.specs.Operations.{Operations, sub}
use Rattle.fs_ring.specs.OrderedRing.{IsOrderedRing, IsNonNegative, IsAtMost}
use Rattle.fs_ring.proofs.Signs as signs
use Rattle.fs_ring.proofs.Order as order
use Rattle.fs_ring.proofs.RingLaws as ring_laws
use Rattle.fs_ring.proofs.Solver.{expressions as E, identity, ◌⊕◌, ◌⊖◌, ◌≐◌}
use Rattle.fs_convex.proofs.Positions.{HoldsFrom, from_fewer, from_last}
use Rattle.fs_convex.proofs.Rows.{Tiles, upward, downward}
use Rattle.fs_convex.proofs.Runs.{IsFourRuns}

module _ {A : Type 0} (R : Operations A) where
  -- the sum of the k numbers from number b on
  abbrev pub sum_from : (ℕ → A) → ℕ → ℕ → A
  sum_from g b zero = R.zero
  sum_from g b (suc k) = R.add (g b) (sum_from g (suc b) k)

  -- each number is the sum of the one before and its step
  abbrev pub HasSteps : (ℕ → A) → (ℕ → A) → Type 0
  HasSteps x w = (j : ℕ) → x (suc j) ≡ R.add (x j) (w j)

module _ {A : Type 0} (R : Operations A) (IsPositive : A → Type 0) where
  -- g has the numbers of w that are above 0, and 0 in place of the others
  pub record IsPositivePart (w g : ℕ → A) : Type 0 where
    pub of_positive : (j : ℕ) → IsPositive (w j) → g j ≡ w j
    pub of_other : (j : ℕ) → ¬ IsPositive (w j) → g j ≡ R.zero

module _ {A : Type 0} {R : Operations A} {IsPositive : A → Type 0} (L : IsOrderedRing R IsPositive) where
  open R use {add as ◌⊞◌, neg, zero as 𝟘}

  infixl 60 ◌⊞◌
  -- ---- sums

  sum_from-add : (g : ℕ → A) (b j k : ℕ) → sum_from R g b (j + k) ≡ sum_from R g b j ⊞ sum_from R g (b + j) k
  sum_from-add g b zero k =
      let none : 0 + k ≡ k = omega arith in
      ap (sum_from R g b) none ∙ sym (ring_laws.zero_add L.ring _) ∙ ap (λ (i : ℕ). 𝟘 ⊞ sum_from R g i k) (sym (add-zero b))
  sum_from-add g b (suc j) k =
      let more : suc j + k ≡ suc (j + k) = omega arith in
      let next : suc b + j ≡ b + suc j = omega arith in
      ap (sum_from R g b) more ∙ ap (λ s. g b ⊞ s) (sum_from-add g (suc b) j k)
      ∙ sym (L.add_assoc (g b) (sum_from R g (suc b) j) (sum_from R g (suc b + j) k))
      ∙ ap (λ (i : ℕ). (g b ⊞ sum_from R g (suc b) j) ⊞ sum_from R g i k) next

  sum_from-period : (g : ℕ → A) (n : ℕ) → ((j : ℕ) → g (n + j) ≡ g j) → (b k : ℕ) → sum_from R g (n + b) k ≡ sum_from R g b k
  sum_from-period g n again b zero = refl
  sum_from-period g n again b (suc k) =
      let next : suc (n + b) ≡ n + suc b = omega arith in
      (λ i. again b i ⊞ (ap (λ (m : ℕ). sum_from R g m k) next ∙ sum_from-period g n again (suc b) k) i)

  -- the sum of n numbers that come again after n is the same from anywhere
  pub sum_from-shift : (g : ℕ → A) (n r : ℕ) → ((j : ℕ) → g (n + j) ≡ g j) → sum_from R g r n ≡ sum_from R g 0 n
  sum_from-shift g n r again =
      let swap : r + n ≡ n + r = omega arith in
      let same : sum_from R g 0 r ⊞ sum_from R g (0 + r) n ≡ sum_from R g 0 n ⊞ sum_from R g (0 + n) r =
      sym (sum_from-add g 0 r n) ∙ ap (sum_from R g 0) swap ∙ sum_from-add g 0 n r in
      let none : 0 + r ≡ r = omega arith in
      let none_n : 0 + n ≡ n + 0 = omega arith in
      let whole : sum_from R g 0 r ⊞ sum_from R g r n ≡ sum_from R g 0 r ⊞ sum_from R g 0 n =
      ap (λ (i : ℕ). sum_from R g 0 r ⊞ sum_from R g i n) (sym none) ∙ same
      ∙ ap (λ (i : ℕ). sum_from R g 0 n ⊞ sum_from R g i r) none_n
      ∙ ap (λ s. sum_from R g 0 n ⊞ s) (sum_from-period g n again 0 r) ∙ L.add_comm (sum_from R g 0 n) (sum_from R g 0 r) in
      ring_laws.add_left_cancel L.ring (sum_from R g 0 r) (sum_from R g r n) (sum_from R g 0 n) whole

  module _ {w x : ℕ → A} (steps : HasSteps R x w) where
    -- ---- runs of steps

    level : (b k : ℕ) → HoldsFrom (λ j. w j ≡ 𝟘) b k → x (b + k) ≡ x b
    level b zero h = ap x (add-zero b)
    level b (suc k) h =
        ap x (add-suc b k) ∙ steps (b + k) ∙ (λ i. level b k (from_fewer (λ j. w j ≡ 𝟘) b k h) i ⊞ from_last (λ j. w j ≡ 𝟘) b k h i) ∙ L.add_zero (x b)

    climbs : (b k : ℕ) → HoldsFrom (λ j. IsNonNegative R IsPositive (w j)) b k → IsAtMost R IsPositive (x b) (x (b + k))
    climbs b zero h = order.at_most_of_eq L (x b) (x (b + 0)) (sym (ap x (add-zero b)))
    climbs b (suc k) h =
        order.at_most_trans L (x b) (x (b + k)) (x (b + suc k)) (climbs b k (from_fewer (λ j. IsNonNegative R IsPositive (w j)) b k h))
        (order.at_most_of_sub L (x (b + k)) (x (b + suc k))
        (subst (IsNonNegative R IsPositive)
        (identity L.ring (x (b + k) ∷ w (b + k) ∷ []) (λ x w. w ≐ (x ⊕ w) ⊖ x) refl ∙ ap (λ y. sub R y (x (b + k))) (sym (steps (b + k)) ∙ ap x (sym (add-suc b k))))
        (from_last (λ j. IsNonNegative R IsPositive (w j)) b k h)))

    falls : (b k : ℕ) → HoldsFrom (λ j. IsNonNegative R IsPositive (neg (w j))) b k → IsAtMost R IsPositive (x (b + k)) (x b)
    falls b zero h = order.at_most_of_eq L (x (b + 0)) (x b) (ap x (add-zero b))
    falls b (suc k) h =
        order.at_most_trans L (x (b + suc k)) (x (b + k)) (x b)
        (order.at_most_of_sub L (x (b + suc k)) (x (b + k))
        (subst (IsNonNegative R IsPositive)
        (identity L.ring (x (b + k) ∷ w (b + k) ∷ []) (λ x w. E.neg w ≐ x ⊖ (x ⊕ w)) refl ∙ ap (λ y. sub R (x (b + k)) y) (sym (steps (b + k)) ∙ ap x (sym (add-suc b k))))
        (from_last (λ j. IsNonNegative R IsPositive (neg (w j))) b k h)))
        (falls b k (from_fewer (λ j. IsNonNegative R IsPositive (neg (w j))) b k h))

    -- ---- intervals between the numbers

    module _ {X : Type 0} (left len : X → A) (item : ℕ → X) (c : A) where
      -- items that begin at a number and are as long as the step to the next one follow one another upwards
      pub tiles_upward : (b k : ℕ) → HoldsFrom (λ j. (left (item j) ≡ x j ⊞ c) × (len (item j) ≡ w j)) b k → Tiles R left len (x b ⊞ c) (upward item b k) (x (b + k) ⊞ c)
      tiles_upward b zero h = ap (λ (j : ℕ). x j ⊞ c) (add-zero b)
      tiles_upward b (suc k) h =
          let here = h b (omega arith) (omega arith) in
          let next : suc b + k ≡ b + suc k = omega arith in (
            here.0,
            subst (λ y. Tiles R left len y (upward item (suc b) k) (x (b + suc k) ⊞ c))
                (ap (λ y. y ⊞ c) (steps b) ∙ identity L.ring (x b ∷ w b ∷ c ∷ []) (λ x w c. (x ⊕ w) ⊕ c ≐ (x ⊕ c) ⊕ w) refl ∙ ap (λ l. (x b ⊞ c) ⊞ l) (sym here.1))
                (subst (λ (j : ℕ). Tiles R left len (x (suc b) ⊞ c) (upward item (suc b) k) (x j ⊞ c)) next (tiles_upward (suc b) k (λ j l m. h j (omega arith) (omega arith)))),
          )

      -- items that begin at the number after a step down and are as long as the step follow one another in the reverse order
      pub tiles_downward : (b k : ℕ) → HoldsFrom (λ j. (left (item j) ≡ x (suc j) ⊞ c) × (len (item j) ≡ neg (w j))) b k
          → Tiles R left len (x (b + k) ⊞ c) (downward item b k) (x b ⊞ c)
      tiles_downward b zero h = ap (λ (j : ℕ). x j ⊞ c) (sym (add-zero b))
      tiles_downward b (suc k) h =
          let here = h (b + k) (omega arith) (omega arith) in (
            here.0 ∙ ap (λ (j : ℕ). x j ⊞ c) (sym (add-suc b k)),
            subst (λ y. Tiles R left len y (downward item b k) (x b ⊞ c))
                (identity L.ring (x (b + k) ∷ w (b + k) ∷ c ∷ []) (λ x w c. x ⊕ c ≐ ((x ⊕ w) ⊕ c) ⊕ E.neg w) refl
                ∙ (λ i. ((sym (steps (b + k)) ∙ ap x (sym (add-suc b k))) i ⊞ c) ⊞ sym here.1 i))
                (tiles_downward b k (λ j l m. h j l (omega arith))),
          )

    -- ---- sums of the positive steps

    part_of_non_negative : {g : ℕ → A} → IsPositivePart R IsPositive w g → (j : ℕ) → IsNonNegative R IsPositive (w j) → g j ≡ w j
    part_of_non_negative part j h =
        elim (signs.non_negative_cases L (w j) h) [ inl p ↦ part.of_positive j p | inr e ↦ part.of_other j (λ p. signs.positive-ne-zero L p e) ∙ sym e ]

    sum_climbs : {g : ℕ → A} → IsPositivePart R IsPositive w g → (b k : ℕ) → HoldsFrom (λ j. IsNonNegative R IsPositive (w j)) b k → x b ⊞ sum_from R g b k ≡ x (b + k)
    sum_climbs {g} part b zero h = L.add_zero (x b) ∙ ap x (sym (add-zero b))
    sum_climbs {g} part b (suc k) h =
        let next : suc b + k ≡ b + suc k = omega arith in
        ap (λ s. x b ⊞ (s ⊞ sum_from R g (suc b) k)) (part_of_non_negative part b (h b (omega arith) (omega arith)))
        ∙ sym (L.add_assoc (x b) (w b) (sum_from R g (suc b) k))
        ∙ ap (λ s. s ⊞ sum_from R g (suc b) k) (sym (steps b))
        ∙ sum_climbs part (suc b) k (λ j l m. h j (omega arith) (omega arith))
        ∙ ap x next

    sum_none : {g : ℕ → A} → IsPositivePart R IsPositive w g → (b k : ℕ) → HoldsFrom (λ j. ¬ IsPositive (w j)) b k → sum_from R g b k ≡ 𝟘
    sum_none {g} part b zero h = refl
    sum_none {g} part b (suc k) h =
        (λ i. part.of_other b (h b (omega arith) (omega arith)) i ⊞ sum_none part (suc b) k (λ j l m. h j (omega arith) (omega arith)) i) ∙ L.add_zero 𝟘

    -- ---- four runs

    module _ {n r a h p : ℕ} (runs : IsFourRuns R IsPositive w n r a h p) where
      at : (j : ℕ) → r ≤ j → r + (j - r) ≡ j
      at j l = omega arith

      up_first : HoldsFrom (λ j. IsNonNegative R IsPositive (w j)) r h
      up_first j l m = go (split (j - r) a)
        where
          split : (i a : ℕ) → (i < a) ⊎ (a ≤ i)
          split i a = grind arith

          go : (j - r < a) ⊎ (a ≤ j - r) → IsNonNegative R IsPositive (w j)
          go (inl less) = signs.non_negative_of_zero L (ap w (sym (at j l)) ∙ runs.first_zeros (j - r) less)
          go (inr more) =
              signs.non_negative_of_positive L (subst (λ (i : ℕ). IsPositive (w i)) (at j l) (runs.positive (j - r) more (omega arith)))

      down_then : HoldsFrom (λ j. IsNonNegative R IsPositive (neg (w j))) (r + h) (n - h)
      down_then j l m = go (split (j - r) p)
        where
          split : (i p : ℕ) → (i < p) ⊎ (p ≤ i)
          split i p = grind arith

          some_negative : p < n
          some_negative = runs.some_negative

          in_order : h ≤ p
          in_order = runs.in_order

          there : r + (j - r) ≡ j
          there = omega arith

          go : (j - r < p) ⊎ (p ≤ j - r) → IsNonNegative R IsPositive (neg (w j))
          go (inl less) = signs.non_negative_of_zero L (ap neg (ap w (sym there) ∙ runs.second_zeros (j - r) (omega arith) less) ∙ ring_laws.neg_zero L.ring)
          go (inr more) =
              signs.non_negative_of_positive L (subst (λ (i : ℕ). IsPositive (neg (w i))) there (runs.negative (j - r) more (omega arith)))

      -- along the first zeros the number stays
      pub at_first_positive : x (r + a) ≡ x r
      at_first_positive = level r a (λ j l m. ap w (sym (at j l)) ∙ runs.first_zeros (j - r) (omega arith))

      -- along the second zeros too
      pub at_first_negative : x (r + p) ≡ x (r + h)
      at_first_negative =
          let in_order = runs.in_order in
          let whole : r + h + (p - h) ≡ r + p = omega arith in
          ap x (sym whole)
          ∙ level (r + h) (p - h)
          (λ j l m.
          let there : r + (j - r) ≡ j = omega arith in
          ap w (sym there) ∙ runs.second_zeros (j - r) (omega arith) (omega arith))

      -- where the numbers come again after n, the one where the runs begin is the least
      pub first_is_least : x (r + n) ≡ x r → (j : ℕ) → j ≤ n → IsAtMost R IsPositive (x r) (x (r + j))
      first_is_least again j l = go (split j h)
        where
          split : (i h : ℕ) → (i ≤ h) ⊎ (h < i)
          split i h = grind arith

          go : (j ≤ h) ⊎ (h < j) → IsAtMost R IsPositive (x r) (x (r + j))
          go (inl m) = climbs r j (λ i b c. up_first i b (omega arith))
          go (inr m) =
              let whole : r + j + (n - j) ≡ r + n = omega arith in
              subst (λ y. IsAtMost R IsPositive y (x (r + j))) (ap x whole ∙ again) (falls (r + j) (n - j) (λ i b c. down_then i (omega arith) (omega arith)))

      -- the sum of the positive steps leads from the least number to the greatest
      pub sum_of_positive : {g : ℕ → A} → IsPositivePart R IsPositive w g → ((j : ℕ) → g (n + j) ≡ g j) → x r ⊞ sum_from R g 0 n ≡ x (r + h)
      sum_of_positive {g} part again =
          let in_order = runs.in_order in
          let some_negative = runs.some_negative in
          let whole : h + (n - h) ≡ n = omega arith in
          ap (λ s. x r ⊞ s) (sym (sum_from-shift g n r again) ∙ ap (sum_from R g r) (sym whole) ∙ sum_from-add g r h (n - h)
          ∙ ap (λ s. sum_from R g r h ⊞ s) (sum_none part (r + h) (n - h) (λ j l m q. down_then j l m (signs.neg-neg_positive L q)))
          ∙ L.add_zero (sum_from R g r h))
          ∙ sum_climbs part r h up_first
