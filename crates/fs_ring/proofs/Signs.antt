-- Signs in an ordered ring: of negatives, products, squares and numerals. A library for crates to come.
use Rattle.std.proofs.Common.{◌≡◌, ◌≢◌, ◌⊎◌, ℕ, zero, suc, true, List, [], ◌∷◌, refl, sym, ap, ◌∙◌, subst, inl, inr}
use Rattle.fs_ring.specs.Operations.{Operations, sub, square, of_nat}
use Rattle.fs_ring.specs.OrderedRing.{IsOrderedRing, Sign, positive, null, negative, IsNonNegative}
use Rattle.fs_ring.proofs.RingLaws as ring
use Rattle.fs_ring.proofs.Solver.{expressions as E, Equation, Over, at_variables, is_identity, evaluate, ◌⊖◌, ◌⊗◌, ◌≐◌, ◌from◌, derived, by_identity, numeral}

module _ {A : Type 0} {R : Operations A} {IsPositive : A → Type 0} (L : IsOrderedRing R IsPositive) where
  open R use {add as ◌+◌, mul as ◌*◌, neg, zero as 𝟘, one as 𝟙}

  infixl 60 ◌+◌ ◌-◌
  infixl 70 ◌*◌
  abbrev ◌-◌ : A → A → A
  x - y = sub R x y

  -- what equals a positive element by an identity is positive: `positive_by L (x ∷ y ∷ []) (λ x y. goal ≐ known) refl h`
  pub positive_by : (xs : List A) (f : Over xs Equation) → is_identity (at_variables 0 xs f) ≡ true
      → IsPositive (evaluate R xs (at_variables 0 xs f).right) → IsPositive (evaluate R xs (at_variables 0 xs f).left)
  positive_by = by_identity L.ring IsPositive

  pub positive_of_eq : {x y : A} → x ≡ y → IsPositive y → IsPositive x
  positive_of_eq e = subst IsPositive (sym e)

  -- ---- one sign at a time

  pub positive-ne-zero : {x : A} → IsPositive x → x ≢ 𝟘
  positive-ne-zero p e = L.zero_not_positive (subst IsPositive e p)

  pub not_both_signs : {x : A} → IsPositive x → IsPositive (neg x) → ⊥
  not_both_signs {x} p n = L.zero_not_positive (subst IsPositive (L.add_neg x) (L.add_positive p n))

  pub positive_of_neg-neg : {x : A} → IsPositive (neg (neg x)) → IsPositive x
  positive_of_neg-neg {x} = subst IsPositive (ring.neg_neg L.ring x)

  pub neg-neg_positive : {x : A} → IsPositive x → IsPositive (neg (neg x))
  neg-neg_positive {x} = subst IsPositive (sym (ring.neg_neg L.ring x))

  pub negative-ne-zero : {x : A} → IsPositive (neg x) → x ≢ 𝟘
  negative-ne-zero n e = positive-ne-zero n (ap neg e ∙ ring.neg_zero L.ring)

  -- ---- the sign of a product

  pub mul_positive_negative : {x y : A} → IsPositive x → IsPositive (neg y) → IsPositive (neg (x * y))
  mul_positive_negative {x} {y} p n = subst IsPositive (ring.mul-neg L.ring x y) (L.mul_positive p n)

  pub mul_negative_positive : {x y : A} → IsPositive (neg x) → IsPositive y → IsPositive (neg (x * y))
  mul_negative_positive {x} {y} n p = subst IsPositive (ring.neg-mul L.ring x y) (L.mul_positive n p)

  pub mul_negative_negative : {x y : A} → IsPositive (neg x) → IsPositive (neg y) → IsPositive (x * y)
  mul_negative_negative {x} {y} m n = positive_by (x ∷ y ∷ []) (λ x y. x ⊗ y ≐ E.neg x ⊗ E.neg y) refl (L.mul_positive m n)

  -- the sign of a product from those of its factors
  pub mul_sign : {x y : A} → Sign R IsPositive x → Sign R IsPositive y → Sign R IsPositive (x * y)
  mul_sign {x} {y} (null e) s = null (ap (λ w. w * y) e ∙ ring.zero_mul L.ring y)
  mul_sign {x} {y} (positive p) (null e) = null (ap (λ w. x * w) e ∙ ring.mul_zero L.ring x)
  mul_sign (positive p) (positive q) = positive (L.mul_positive p q)
  mul_sign (positive p) (negative q) = negative (mul_positive_negative p q)
  mul_sign {x} {y} (negative p) (null e) = null (ap (λ w. x * w) e ∙ ring.mul_zero L.ring x)
  mul_sign (negative p) (positive q) = negative (mul_negative_positive p q)
  mul_sign (negative p) (negative q) = positive (mul_negative_negative p q)

  -- a product is zero only where a factor is
  pub no_zero_divisors : (x y : A) → x * y ≡ 𝟘 → (x ≡ 𝟘) ⊎ (y ≡ 𝟘)
  no_zero_divisors x y h = go (L.trichotomy x) (L.trichotomy y)
    where
      go : Sign R IsPositive x → Sign R IsPositive y → (x ≡ 𝟘) ⊎ (y ≡ 𝟘)
      go (null e) s = inl e
      go (positive p) (null e) = inr e
      go (positive p) (positive q) = absurd (positive-ne-zero (L.mul_positive p q) h)
      go (positive p) (negative q) = absurd (negative-ne-zero (mul_positive_negative p q) h)
      go (negative p) (null e) = inr e
      go (negative p) (positive q) = absurd (negative-ne-zero (mul_negative_positive p q) h)
      go (negative p) (negative q) = absurd (positive-ne-zero (mul_negative_negative p q) h)

  pub mul-ne-zero : {x y : A} → x ≢ 𝟘 → y ≢ 𝟘 → x * y ≢ 𝟘
  mul-ne-zero {x} {y} p q h = elim (no_zero_divisors x y h) [ inl e ↦ p e | inr e ↦ q e ]

  -- a factor that isn't zero can go
  pub mul_left_cancel : (x y z : A) → x ≢ 𝟘 → x * y ≡ x * z → y ≡ z
  mul_left_cancel x y z p h =
      elim (no_zero_divisors x (y - z) (derived L.ring (x ∷ y ∷ z ∷ []) (λ x y z. x ⊗ (y ⊖ z) ≐ numeral 0 from (numeral 1, x ⊗ y ≐ x ⊗ z) ∷ []) refl (h, tt)))
      [ inl e ↦ absurd (p e) | inr e ↦ ring.eq_of_sub-zero L.ring y z e ]

  -- ---- cancelling a positive factor

  -- both factors of a positive product have one sign
  pub mul_positive_cases : (x y : A) → IsPositive (x * y) → (IsPositive x × IsPositive y) ⊎ (IsPositive (neg x) × IsPositive (neg y))
  mul_positive_cases x y h = go (L.trichotomy x) (L.trichotomy y)
    where
      go : Sign R IsPositive x → Sign R IsPositive y → (IsPositive x × IsPositive y) ⊎ (IsPositive (neg x) × IsPositive (neg y))
      go (positive p) (positive q) = inl (p, q)
      go (negative p) (negative q) = inr (p, q)
      go (positive p) (negative q) = absurd (not_both_signs h (mul_positive_negative p q))
      go (negative p) (positive q) = absurd (not_both_signs h (mul_negative_positive p q))
      go (null e) s = absurd (positive-ne-zero h (ap (λ w. w * y) e ∙ ring.zero_mul L.ring y))
      go (positive p) (null e) = absurd (positive-ne-zero h (ap (λ w. x * w) e ∙ ring.mul_zero L.ring x))
      go (negative p) (null e) = absurd (positive-ne-zero h (ap (λ w. x * w) e ∙ ring.mul_zero L.ring x))

  -- the factors of a product below zero have two signs
  pub mul_negative_cases : (x y : A) → IsPositive (neg (x * y)) → (IsPositive x × IsPositive (neg y)) ⊎ (IsPositive (neg x) × IsPositive y)
  mul_negative_cases x y h =
      elim (mul_positive_cases x (neg y) (positive_of_eq (ring.mul-neg L.ring x y) h))
      [ inl c ↦ inl c | inr c ↦ inr (c.0, positive_of_neg-neg c.1) ]

  pub positive_of_mul_left : {x y : A} → IsPositive x → IsPositive (x * y) → IsPositive y
  positive_of_mul_left {x} {y} p h = elim (mul_positive_cases x y h) [ inl c ↦ c.1 | inr c ↦ absurd (not_both_signs p c.0) ]

  pub positive_of_mul_right : {x y : A} → IsPositive y → IsPositive (x * y) → IsPositive x
  positive_of_mul_right {x} {y} p h = elim (mul_positive_cases x y h) [ inl c ↦ c.0 | inr c ↦ absurd (not_both_signs p c.1) ]

  pub negative_of_mul_left : {x y : A} → IsPositive x → IsPositive (neg (x * y)) → IsPositive (neg y)
  negative_of_mul_left {x} {y} p h = elim (mul_negative_cases x y h) [ inl c ↦ c.1 | inr c ↦ absurd (not_both_signs p c.0) ]

  pub negative_of_mul_right : {x y : A} → IsPositive y → IsPositive (neg (x * y)) → IsPositive (neg x)
  negative_of_mul_right {x} {y} p h = elim (mul_negative_cases x y h) [ inl c ↦ absurd (not_both_signs p c.1) | inr c ↦ c.0 ]

  pub zero_of_mul_left : {x y : A} → x ≢ 𝟘 → x * y ≡ 𝟘 → y ≡ 𝟘
  zero_of_mul_left {x} {y} p h = elim (no_zero_divisors x y h) [ inl e ↦ absurd (p e) | inr e ↦ e ]

  pub zero_of_mul_right : {x y : A} → y ≢ 𝟘 → x * y ≡ 𝟘 → x ≡ 𝟘
  zero_of_mul_right {x} {y} p h = elim (no_zero_divisors x y h) [ inl e ↦ e | inr e ↦ absurd (p e) ]

  -- ---- elements that aren't negative

  pub non_negative_of_positive : {x : A} → IsPositive x → IsNonNegative R IsPositive x
  non_negative_of_positive p n = not_both_signs p n

  pub zero_non_negative : IsNonNegative R IsPositive 𝟘
  zero_non_negative n = L.zero_not_positive (subst IsPositive (ring.neg_zero L.ring) n)

  pub non_negative_of_zero : {x : A} → x ≡ 𝟘 → IsNonNegative R IsPositive x
  non_negative_of_zero e n = negative-ne-zero n e

  pub non_negative_cases : (x : A) → IsNonNegative R IsPositive x → IsPositive x ⊎ (x ≡ 𝟘)
  non_negative_cases x h = elim (L.trichotomy x) [ positive p ↦ inl p | null e ↦ inr e | negative n ↦ absurd (h n) ]

  pub add_positive_non_negative : {x y : A} → IsPositive x → IsNonNegative R IsPositive y → IsPositive (x + y)
  add_positive_non_negative {x} {y} p h =
      elim (non_negative_cases y h) [ inl q ↦ L.add_positive p q | inr e ↦ positive_of_eq (ap (λ w. x + w) e ∙ L.add_zero x) p ]

  pub add_non_negative_positive : {x y : A} → IsNonNegative R IsPositive x → IsPositive y → IsPositive (x + y)
  add_non_negative_positive {x} {y} h p = positive_of_eq (L.add_comm x y) (add_positive_non_negative p h)

  pub add_non_negative : {x y : A} → IsNonNegative R IsPositive x → IsNonNegative R IsPositive y → IsNonNegative R IsPositive (x + y)
  add_non_negative {x} {y} h k =
      elim (non_negative_cases x h) [
        | inl p ↦ non_negative_of_positive (add_positive_non_negative p k)
        | inr e ↦ λ n. k (subst (λ w. IsPositive (neg w)) (ap (λ w. w + y) e ∙ ring.zero_add L.ring y) n)
      ]

  pub mul_non_negative : {x y : A} → IsNonNegative R IsPositive x → IsNonNegative R IsPositive y → IsNonNegative R IsPositive (x * y)
  mul_non_negative {x} {y} h k n = elim (mul_negative_cases x y n) [ inl c ↦ k c.1 | inr c ↦ h c.0 ]

  -- two elements that aren't negative sum to zero only where both are zero
  pub both_zero : {x y : A} → IsNonNegative R IsPositive x → IsNonNegative R IsPositive y → x + y ≡ 𝟘 → (x ≡ 𝟘) × (y ≡ 𝟘)
  both_zero {x} {y} h k e = go (non_negative_cases x h) (non_negative_cases y k)
    where
      go : IsPositive x ⊎ (x ≡ 𝟘) → IsPositive y ⊎ (y ≡ 𝟘) → (x ≡ 𝟘) × (y ≡ 𝟘)
      go (inl p) s = absurd (positive-ne-zero (add_positive_non_negative p k) e)
      go (inr a) (inl q) = absurd (positive-ne-zero (add_non_negative_positive h q) e)
      go (inr a) (inr b) = (a, b)

  -- ---- squares and numerals

  pub square_positive : {x : A} → x ≢ 𝟘 → IsPositive (square R x)
  square_positive {x} h =
      elim (L.trichotomy x) [ positive p ↦ L.mul_positive p p | null e ↦ absurd (h e) | negative n ↦ mul_negative_negative n n ]

  pub square_non_negative : (x : A) → IsNonNegative R IsPositive (square R x)
  square_non_negative x =
      elim (L.trichotomy x) [
        | positive p ↦ non_negative_of_positive (L.mul_positive p p)
        | null e ↦ non_negative_of_zero (ap (λ w. x * w) e ∙ ring.mul_zero L.ring x)
        | negative n ↦ non_negative_of_positive (mul_negative_negative n n)
      ]

  pub zero_of_square-zero : {x : A} → square R x ≡ 𝟘 → x ≡ 𝟘
  zero_of_square-zero {x} h = elim (no_zero_divisors x x h) [ inl e ↦ e | inr e ↦ e ]

  -- a sum of two squares is zero only where both elements are
  pub zero_of_squares-zero : {x y : A} → square R x + square R y ≡ 𝟘 → (x ≡ 𝟘) × (y ≡ 𝟘)
  zero_of_squares-zero {x} {y} h =
      let zeros = both_zero (square_non_negative x) (square_non_negative y) h in
      (zero_of_square-zero zeros.0, zero_of_square-zero zeros.1)

  pub of_nat_positive : (n : ℕ) → IsPositive (of_nat R (suc n))
  of_nat_positive zero = L.one_positive
  of_nat_positive (suc n) = L.add_positive (of_nat_positive n) L.one_positive
