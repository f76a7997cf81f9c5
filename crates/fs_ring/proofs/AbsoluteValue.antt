-- Absolute values in an ordered ring: a library for crates to come.
use Rattle.std.proofs.Common.{◌≡◌, ◌⊎◌, [], ◌∷◌, refl, sym, ap, ◌∙◌, subst, inl, inr}
use Rattle.fs_ring.specs.Operations.{Operations, square}
use Rattle.fs_ring.specs.OrderedRing.{IsOrderedRing, Sign, positive, null, negative, IsAtMost, IsNonNegative, IsAbsolute, abs, magnitude}
use Rattle.fs_ring.proofs.RingLaws as ring
use Rattle.fs_ring.proofs.Signs as signs
use Rattle.fs_ring.proofs.Order as order
use Rattle.fs_ring.proofs.Solver.{expressions as E, ◌⊕◌, ◌⊖◌, ◌⊗◌, ◌≐◌, ◌from◌, derived, numeral}

module _ {A : Type 0} {R : Operations A} {IsPositive : A → Type 0} (L : IsOrderedRing R IsPositive) where
  open R use {add as ◌+◌, mul as ◌*◌, neg, zero as 𝟘}

  infixl 60 ◌+◌
  infixl 70 ◌*◌
  infix 50 ◌≤◌
  abbrev ◌≤◌ : A → A → Type 0
  x ≤ y = IsAtMost R IsPositive x y

  abbrev IsAbs : A → A → Type 0
  IsAbs x a = IsAbsolute R IsPositive x a

  -- ---- the relation

  pub absolute_of_non_negative : {x : A} → IsNonNegative R IsPositive x → IsAbs x x
  absolute_of_non_negative h = record { non_negative = h; either_sign = inl refl }

  pub absolute_of_neg_non_negative : {x : A} → IsNonNegative R IsPositive (neg x) → IsAbs x (neg x)
  absolute_of_neg_non_negative h = record { non_negative = h; either_sign = inr refl }

  magnitude_is : {x : A} (s : Sign R IsPositive x) → IsAbs x (magnitude s)
  magnitude_is (positive p) = absolute_of_non_negative (signs.non_negative_of_positive L p)
  magnitude_is (null e) = absolute_of_non_negative (signs.non_negative_of_zero L e)
  magnitude_is (negative n) = absolute_of_neg_non_negative (signs.non_negative_of_positive L n)

  pub absolute_neg : {x a : A} → IsAbs x a → IsAbs (neg x) a
  absolute_neg {x} {a} h = record {
    non_negative = h.non_negative;
    either_sign = elim h.either_sign [ inl e ↦ inr (e ∙ sym (ring.neg_neg L.ring x)) | inr e ↦ inl e ];
  }

  pub absolute_mul : {x y a b : A} → IsAbs x a → IsAbs y b → IsAbs (x * y) (a * b)
  absolute_mul {x} {y} {a} {b} h k = record { non_negative = signs.mul_non_negative L h.non_negative k.non_negative; either_sign = go h.either_sign k.either_sign }
    where
      go : (a ≡ x) ⊎ (a ≡ neg x) → (b ≡ y) ⊎ (b ≡ neg y) → (a * b ≡ x * y) ⊎ (a * b ≡ neg (x * y))
      go (inl p) (inl q) = inl cc
      go (inl p) (inr q) = inr (cc (ring.mul-neg L.ring x y))
      go (inr p) (inl q) = inr (cc (ring.neg-mul L.ring x y))
      go (inr p) (inr q) = inl (derived L.ring (x ∷ y ∷ a ∷ b ∷ []) (λ x y a b. a ⊗ b ≐ x ⊗ y from (b, a ≐ E.neg x) ∷ (E.neg x, b ≐ E.neg y) ∷ []) refl (p, (q, tt)))

  pub square_absolute : {x a : A} → IsAbs x a → square R a ≡ square R x
  square_absolute {x} {a} h =
      elim h.either_sign [
        | inl e ↦ ap (square R) e
        | inr e ↦ derived L.ring (x ∷ a ∷ []) (λ x a. a ⊗ a ≐ x ⊗ x from (a ⊖ x, a ≐ E.neg x) ∷ []) refl (e, tt)
      ]

  -- an element has one absolute value
  pub absolute_unique : {x a b : A} → IsAbs x a → IsAbs x b → a ≡ b
  absolute_unique {x} {a} {b} h k =
      let squares : square R a ≡ square R b = square_absolute h ∙ sym (square_absolute k) in
      order.at_most_antisymm L a b
      (λ l. order.less-ne L (square R b) (square R a) (order.square_less_square L b a k.non_negative l) (sym squares))
      (λ l. order.less-ne L (square R a) (square R b) (order.square_less_square L a b h.non_negative l) squares)

  pub at_most_absolute : {x a : A} → IsAbs x a → x ≤ a
  at_most_absolute {x} {a} h =
      elim h.either_sign [
        | inl e ↦ order.at_most_of_eq L x a (sym e)
        | inr e ↦ λ l. signs.add_non_negative L h.non_negative h.non_negative
            (signs.positive_of_eq L (derived L.ring (x ∷ a ∷ []) (λ x a. E.neg (a ⊕ a) ≐ x ⊖ a from (E.neg (numeral 1), a ≐ E.neg x) ∷ []) refl (e, tt)) l)
      ]

  pub neg_at_most_absolute : {x a : A} → IsAbs x a → neg x ≤ a
  neg_at_most_absolute h = at_most_absolute (absolute_neg h)

  -- bounds on both sides bound the absolute value
  pub absolute_at_most : {x a b : A} → IsAbs x a → x ≤ b → neg x ≤ b → a ≤ b
  absolute_at_most {x} {a} {b} h k l = elim h.either_sign [ inl e ↦ subst (λ w. w ≤ b) (sym e) k | inr e ↦ subst (λ w. w ≤ b) (sym e) l ]

  -- the triangle inequality
  pub absolute_add : {x y a b c : A} → IsAbs x a → IsAbs y b → IsAbs (x + y) c → c ≤ a + b
  absolute_add {x} {y} {a} {b} {c} h k l =
      absolute_at_most l
      (order.add_at_most_add L x a y b (at_most_absolute h) (at_most_absolute k))
      (subst (λ w. w ≤ a + b) (sym (ring.neg-add L.ring x y)) (order.add_at_most_add L (neg x) a (neg y) b (neg_at_most_absolute h) (neg_at_most_absolute k)))

  pub zero_of_absolute-zero : {x a : A} → IsAbs x a → a ≡ 𝟘 → x ≡ 𝟘
  zero_of_absolute-zero {x} {a} h e =
      signs.zero_of_square-zero L (sym (square_absolute h) ∙ ap (square R) e ∙ ring.mul_zero L.ring 𝟘)

  -- ---- the function

  pub abs_is : (x : A) → IsAbs x (abs L x)
  abs_is x = magnitude_is (L.trichotomy x)

  pub abs_non_negative : (x : A) → IsNonNegative R IsPositive (abs L x)
  abs_non_negative x = (abs_is x).non_negative

  pub abs-of-non_negative : {x : A} → IsNonNegative R IsPositive x → abs L x ≡ x
  abs-of-non_negative {x} h = absolute_unique (abs_is x) (absolute_of_non_negative h)

  pub abs-neg : (x : A) → abs L (neg x) ≡ abs L x
  abs-neg x = absolute_unique (abs_is (neg x)) (absolute_neg (abs_is x))

  pub abs-mul : (x y : A) → abs L (x * y) ≡ abs L x * abs L y
  abs-mul x y = absolute_unique (abs_is (x * y)) (absolute_mul (abs_is x) (abs_is y))

  pub abs-add : (x y : A) → abs L (x + y) ≤ abs L x + abs L y
  abs-add x y = absolute_add (abs_is x) (abs_is y) (abs_is (x + y))

  pub at_most_abs : (x : A) → x ≤ abs L x
  at_most_abs x = at_most_absolute (abs_is x)

  pub square-abs : (x : A) → square R (abs L x) ≡ square R x
  square-abs x = square_absolute (abs_is x)
