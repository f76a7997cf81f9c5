-- The order of an ordered ring: it is total, and respects sums and products by positive elements. A library for crates to come.
use Rattle.std.proofs.Common.{◌≡◌, ◌≢◌, ◌⊎◌, [], ◌∷◌, refl, sym, ap, subst, inl, inr}
use Rattle.fs_ring.specs.Operations.{Operations, sub, square}
use Rattle.fs_ring.specs.OrderedRing.{IsOrderedRing, positive, null, negative, IsLess, IsAtMost, IsNonNegative, Comparison, less, equal, greater}
use Rattle.fs_ring.proofs.RingLaws as ring
use Rattle.fs_ring.proofs.Signs as signs
use Rattle.fs_ring.proofs.Solver.{expressions as E, ◌⊕◌, ◌⊖◌, ◌⊗◌, ◌≐◌, ◌from◌, derived, numeral}

module _ {A : Type 0} {R : Operations A} {IsPositive : A → Type 0} (L : IsOrderedRing R IsPositive) where
  open R use {add as ◌+◌, mul as ◌*◌, neg, zero as 𝟘}

  infixl 60 ◌+◌ ◌-◌
  infixl 70 ◌*◌
  infix 50 ◌<◌ ◌≤◌
  abbrev ◌-◌ : A → A → A
  x - y = sub R x y

  abbrev ◌<◌ : A → A → Type 0
  x < y = IsLess R IsPositive x y

  abbrev ◌≤◌ : A → A → Type 0
  x ≤ y = IsAtMost R IsPositive x y

  -- ---- the order is strict and total

  pub less_irrefl : (x : A) → ¬ (x < x)
  less_irrefl x h = signs.positive-ne-zero L h (L.add_neg x)

  pub less_asymm : (x y : A) → x < y → ¬ (y < x)
  less_asymm x y h k = signs.not_both_signs L h (signs.positive_of_eq L (ring.neg-sub L.ring y x) k)

  pub less_trans : (x y z : A) → x < y → y < z → x < z
  less_trans x y z h k = signs.positive_by L (x ∷ y ∷ z ∷ []) (λ x y z. z ⊖ x ≐ (y ⊖ x) ⊕ (z ⊖ y)) refl (L.add_positive h k)

  pub less-ne : (x y : A) → x < y → x ≢ y
  less-ne x y h e = less_irrefl y (subst (λ w. w < y) e h)

  -- which of the three holds
  pub compare : (x y : A) → Comparison R IsPositive x y
  compare x y =
      elim (L.trichotomy (y - x)) [
        | positive p ↦ less p
        | null e ↦ equal (sym (ring.eq_of_sub-zero L.ring y x e))
        | negative n ↦ greater (signs.positive_of_eq L (sym (ring.neg-sub L.ring y x)) n)
      ]

  pub less_or_at_most : (x y : A) → (x < y) ⊎ (y ≤ x)
  less_or_at_most x y =
      elim (compare x y) [
        | less h ↦ inl h
        | equal e ↦ inr (subst (λ w. w ≤ x) e (less_irrefl x))
        | greater h ↦ inr (less_asymm y x h)
      ]

  pub less_of_not_at_most : (x y : A) → ¬ (y ≤ x) → x < y
  less_of_not_at_most x y h = elim (less_or_at_most x y) [ inl k ↦ k | inr k ↦ absurd (h k) ]

  pub equal_or_not : (x y : A) → (x ≡ y) ⊎ (x ≢ y)
  equal_or_not x y =
      elim (compare x y) [
        | less h ↦ inr (less-ne x y h)
        | equal e ↦ inl e
        | greater h ↦ inr (λ e. less-ne y x h (sym e))
      ]

  -- ---- below or equal

  pub at_most_refl : (x : A) → x ≤ x
  at_most_refl x = less_irrefl x

  pub at_most_of_eq : (x y : A) → x ≡ y → x ≤ y
  at_most_of_eq x y e = subst (λ w. x ≤ w) e (less_irrefl x)

  pub at_most_of_less : (x y : A) → x < y → x ≤ y
  at_most_of_less x y h = less_asymm x y h

  pub at_most_cases : (x y : A) → x ≤ y → (x < y) ⊎ (x ≡ y)
  at_most_cases x y h = elim (compare x y) [ less k ↦ inl k | equal e ↦ inr e | greater k ↦ absurd (h k) ]

  pub at_most_total : (x y : A) → (x ≤ y) ⊎ (y ≤ x)
  at_most_total x y = elim (less_or_at_most x y) [ inl h ↦ inl (less_asymm x y h) | inr h ↦ inr h ]

  pub at_most_antisymm : (x y : A) → x ≤ y → y ≤ x → x ≡ y
  at_most_antisymm x y h k = elim (compare x y) [ less l ↦ absurd (k l) | equal e ↦ e | greater l ↦ absurd (h l) ]

  pub less_of_less_at_most : (x y z : A) → x < y → y ≤ z → x < z
  less_of_less_at_most x y z h k = elim (at_most_cases y z k) [ inl l ↦ less_trans x y z h l | inr e ↦ subst (λ w. x < w) e h ]

  pub less_of_at_most_less : (x y z : A) → x ≤ y → y < z → x < z
  less_of_at_most_less x y z h k = elim (at_most_cases x y h) [ inl l ↦ less_trans x y z l k | inr e ↦ subst (λ w. w < z) (sym e) k ]

  pub at_most_trans : (x y z : A) → x ≤ y → y ≤ z → x ≤ z
  at_most_trans x y z h k l = k (less_of_less_at_most z x y l h)

  -- ---- beside zero

  pub zero_less : {x : A} → IsPositive x → 𝟘 < x
  zero_less {x} = signs.positive_by L (x ∷ []) (λ x. x ⊖ numeral 0 ≐ x) refl

  pub positive_of_zero_less : {x : A} → 𝟘 < x → IsPositive x
  positive_of_zero_less {x} = signs.positive_by L (x ∷ []) (λ x. x ≐ x ⊖ numeral 0) refl

  pub less_zero : {x : A} → IsPositive (neg x) → x < 𝟘
  less_zero {x} = signs.positive_by L (x ∷ []) (λ x. numeral 0 ⊖ x ≐ E.neg x) refl

  pub negative_of_less_zero : {x : A} → x < 𝟘 → IsPositive (neg x)
  negative_of_less_zero {x} = signs.positive_by L (x ∷ []) (λ x. E.neg x ≐ numeral 0 ⊖ x) refl

  pub zero_at_most : {x : A} → IsNonNegative R IsPositive x → 𝟘 ≤ x
  zero_at_most h k = h (negative_of_less_zero k)

  pub non_negative_of_zero_at_most : {x : A} → 𝟘 ≤ x → IsNonNegative R IsPositive x
  non_negative_of_zero_at_most h n = h (less_zero n)

  -- x ≤ y says that y - x isn't negative
  pub at_most_of_sub : (x y : A) → IsNonNegative R IsPositive (y - x) → x ≤ y
  at_most_of_sub x y h k = h (signs.positive_of_eq L (ring.neg-sub L.ring y x) k)

  pub sub_of_at_most : (x y : A) → x ≤ y → IsNonNegative R IsPositive (y - x)
  sub_of_at_most x y h n = h (signs.positive_of_eq L (sym (ring.neg-sub L.ring y x)) n)

  -- ---- sums

  pub add_less_add_left : (x y z : A) → y < z → x + y < x + z
  add_less_add_left x y z = signs.positive_by L (x ∷ y ∷ z ∷ []) (λ x y z. (x ⊕ z) ⊖ (x ⊕ y) ≐ z ⊖ y) refl

  pub less_of_add_left : (x y z : A) → x + y < x + z → y < z
  less_of_add_left x y z = signs.positive_by L (x ∷ y ∷ z ∷ []) (λ x y z. z ⊖ y ≐ (x ⊕ z) ⊖ (x ⊕ y)) refl

  pub add_less_add : (w x y z : A) → w < x → y < z → w + y < x + z
  add_less_add w x y z h k =
      signs.positive_by L (w ∷ x ∷ y ∷ z ∷ []) (λ w x y z. (x ⊕ z) ⊖ (w ⊕ y) ≐ (x ⊖ w) ⊕ (z ⊖ y)) refl (L.add_positive h k)

  pub add_at_most_add_left : (x y z : A) → y ≤ z → x + y ≤ x + z
  add_at_most_add_left x y z h k = h (less_of_add_left x z y k)

  pub add_at_most_add : (w x y z : A) → w ≤ x → y ≤ z → w + y ≤ x + z
  add_at_most_add w x y z h k =
      at_most_of_sub (w + y) (x + z) (λ n. signs.add_non_negative L (sub_of_at_most w x h) (sub_of_at_most y z k)
      (signs.positive_by L (w ∷ x ∷ y ∷ z ∷ []) (λ w x y z. E.neg ((x ⊖ w) ⊕ (z ⊖ y)) ≐ E.neg ((x ⊕ z) ⊖ (w ⊕ y))) refl n))

  pub neg_less_neg : (x y : A) → x < y → neg y < neg x
  neg_less_neg x y = signs.positive_by L (x ∷ y ∷ []) (λ x y. E.neg x ⊖ E.neg y ≐ y ⊖ x) refl

  -- ---- products by a positive element

  pub mul_less_mul_left : (x y z : A) → IsPositive x → y < z → x * y < x * z
  mul_less_mul_left x y z p h = signs.positive_by L (x ∷ y ∷ z ∷ []) (λ x y z. x ⊗ z ⊖ x ⊗ y ≐ x ⊗ (z ⊖ y)) refl (L.mul_positive p h)

  pub less_of_mul_left : (x y z : A) → IsPositive x → x * y < x * z → y < z
  less_of_mul_left x y z p h =
      signs.positive_of_mul_left L p (signs.positive_by L (x ∷ y ∷ z ∷ []) (λ x y z. x ⊗ (z ⊖ y) ≐ x ⊗ z ⊖ x ⊗ y) refl h)

  pub mul_at_most_mul_left : (x y z : A) → IsNonNegative R IsPositive x → y ≤ z → x * y ≤ x * z
  mul_at_most_mul_left x y z h k l =
      elim (signs.non_negative_cases L x h) [
        | inl p ↦ k (less_of_mul_left x z y p l)
        | inr e ↦ less_irrefl 𝟘 (signs.positive_of_eq L (derived L.ring (x ∷ y ∷ z ∷ []) (λ x y z. numeral 0 ⊖ numeral 0 ≐ x ⊗ y ⊖ x ⊗ z from (z ⊖ y, x ≐ numeral 0) ∷ []) refl (e, tt)) l)
      ]

  pub at_most_of_mul_left : (x y z : A) → IsPositive x → x * y ≤ x * z → y ≤ z
  at_most_of_mul_left x y z p h k = h (mul_less_mul_left x z y p k)

  -- ---- squares keep the order of elements that aren't negative

  pub square_less_square : (x y : A) → IsNonNegative R IsPositive x → x < y → square R x < square R y
  square_less_square x y h k =
      let y_positive : IsPositive y = signs.positive_by L (x ∷ y ∷ []) (λ x y. y ≐ (y ⊖ x) ⊕ x) refl (signs.add_positive_non_negative L k h) in
      signs.positive_by L (x ∷ y ∷ []) (λ x y. y ⊗ y ⊖ x ⊗ x ≐ (y ⊖ x) ⊗ (y ⊕ x)) refl (L.mul_positive k (signs.add_positive_non_negative L y_positive h))

  pub less_of_square_less : (x y : A) → IsNonNegative R IsPositive y → square R x < square R y → x < y
  less_of_square_less x y h k =
      elim (compare x y) [
        | less l ↦ l
        | equal e ↦ absurd (less-ne (square R x) (square R y) k (ap (square R) e))
        | greater l ↦ absurd (less_asymm (square R x) (square R y) k (square_less_square y x h l))
      ]
