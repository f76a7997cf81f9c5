-- Lengths along one direction, and chords across a line. A library for crates to come.
use Rattle.std.proofs.Common.{◌≡◌, [], ◌∷◌, refl, ap, inl, inr}
use Rattle.fs_ring.specs.Operations.{Operations, sub}
use Rattle.fs_ring.specs.OrderedRing.{IsOrderedRing, positive, null, negative, IsLess, IsAtMost, IsNonNegative}
use Rattle.fs_ring.specs.Vector.{Vector, add_vector, sub_vector, scale, cross, dot, norm}
use Rattle.fs_ring.specs.Direction.{IsAlong}
use Rattle.fs_ring.proofs.RingLaws as ring
use Rattle.fs_ring.proofs.Signs as signs
use Rattle.fs_ring.proofs.Order as order
use Rattle.fs_ring.proofs.Plane as plane
use Rattle.fs_ring.proofs.Directions as directions
use Rattle.fs_ring.proofs.Solver.{expressions as E, numeral, ◌⊕◌, ◌⊖◌, ◌⊗◌, ◌≐◌, ◌from◌}
use Rattle.fs_ring.proofs.PlaneSolver.{plane_identity, plane_derived, vector_eq}

module _ {A : Type 0} {R : Operations A} {IsPositive : A → Type 0} (L : IsOrderedRing R IsPositive) where
  open R use {add as ◌+◌, mul as ◌*◌, neg, zero as 𝟘}

  infixl 60 ◌+◌
  infixl 70 ◌*◌
  infix 50 ◌<◌ ◌≤◌
  abbrev ◌<◌ : A → A → Type 0
  x < y = IsLess R IsPositive x y

  abbrev ◌≤◌ : A → A → Type 0
  x ≤ y = IsAtMost R IsPositive x y

  -- two elements whose squares are equal, and whose sum is positive, are equal
  equal_of_product-zero : {x y : A} → sub R x y * (x + y) ≡ 𝟘 → IsPositive (x + y) → x ≡ y
  equal_of_product-zero {x} {y} e p = ring.eq_of_sub-zero L.ring x y (signs.zero_of_mul_right L (signs.positive-ne-zero L p) e)

  -- ---- lengths along one direction: three comparisons that say the same

  module _ {a b : Vector A} (h : IsAlong R IsPositive a b) where
    length_positive : IsPositive (norm R a)
    length_positive = directions.norm_positive L a (directions.dot_positive-ne-zero_left L h.same_way)

    -- where a is shorter than b, its squared length is below the dot product
    pub norm_less_dot : norm R a < norm R b → norm R a < dot R a b
    norm_less_dot l =
        order.less_of_square_less L (norm R a) (dot R a b) (signs.non_negative_of_positive L h.same_way)
        (signs.positive_of_eq L
        (plane_derived L.ring [] (a ∷ b ∷ []) (λ a b. dot E a b ⊗ dot E a b ⊖ norm E a ⊗ norm E a ≐ norm E a ⊗ (norm E b ⊖ norm E a) from (E.neg (cross E a b), cross E a b ≐ numeral 0) ∷ []) refl (h.parallel, tt))
        (L.mul_positive length_positive l))

    -- the dot product is then below the squared length of b
    pub dot_less_norm : norm R a < dot R a b → dot R a b < norm R b
    dot_less_norm l =
        signs.positive_of_mul_left L length_positive
        (signs.positive_of_eq L
        (plane_derived L.ring [] (a ∷ b ∷ []) (λ a b. norm E a ⊗ (norm E b ⊖ dot E a b) ≐ dot E a b ⊗ (dot E a b ⊖ norm E a) from (cross E a b, cross E a b ≐ numeral 0) ∷ []) refl (h.parallel, tt))
        (L.mul_positive h.same_way l))

    -- and a is then shorter than b
    pub norm_less_norm : dot R a b < norm R b → norm R a < norm R b
    norm_less_norm l =
        order.less_trans L (norm R a) (dot R a b) (norm R b)
        (signs.positive_of_mul_left L h.same_way
        (signs.positive_of_eq L
        (plane_derived L.ring [] (a ∷ b ∷ []) (λ a b. dot E a b ⊗ (dot E a b ⊖ norm E a) ≐ norm E a ⊗ (norm E b ⊖ dot E a b) from (E.neg (cross E a b), cross E a b ≐ numeral 0) ∷ []) refl (h.parallel, tt))
        (L.mul_positive length_positive l)))
        l

    -- where the dot product is the squared length of a, the two are equal
    pub equal_of_norm-dot : norm R a ≡ dot R a b → a ≡ b
    equal_of_norm-dot e =
        elim (directions.zero_of_cross_dot-zero L a (sub_vector R b a)
        (plane_derived L.ring [] (a ∷ b ∷ []) (λ a b. cross E a (sub_vector E b a) ≐ numeral 0 from (numeral 1, cross E a b ≐ numeral 0) ∷ []) refl (h.parallel, tt))
        (plane_derived L.ring [] (a ∷ b ∷ []) (λ a b. dot E a (sub_vector E b a) ≐ numeral 0 from (E.neg (numeral 1), norm E a ≐ dot E a b) ∷ []) refl (e, tt))) [
          | inl z ↦ absurd (directions.dot_positive-ne-zero_left L h.same_way z)
          | inr z ↦
              vector_eq
              (plane_derived L.ring [] (a ∷ b ∷ []) (λ a b. a.x ≐ b.x from (E.neg (numeral 1), E.add b.x (E.neg a.x) ≐ numeral 0) ∷ []) refl (ap (λ v. v.x) z, tt))
              (plane_derived L.ring [] (a ∷ b ∷ []) (λ a b. a.y ≐ b.y from (E.neg (numeral 1), E.add b.y (E.neg a.y) ≐ numeral 0) ∷ []) refl (ap (λ v. v.y) z, tt))
        ]

    -- so are vectors of one length
    pub equal_of_norms : norm R a ≡ norm R b → a ≡ b
    equal_of_norms e =
        equal_of_norm-dot
        (equal_of_product-zero
        (plane_derived L.ring [] (a ∷ b ∷ []) (λ a b. (norm E a ⊖ dot E a b) ⊗ (norm E a ⊕ dot E a b) ≐ numeral 0 from (cross E a b, cross E a b ≐ numeral 0) ∷ (norm E a, norm E a ≐ norm E b) ∷ []) refl (h.parallel, (e, tt)))
        (L.add_positive length_positive h.same_way))

  -- ---- a chord from x to y across the line through (0, 0) along v

  -- where the chord meets the line
  pub chord_meets_line : (v x y : Vector A) → scale R (cross R x y) v ≡ add_vector R (scale R (cross R v y) x) (scale R (cross R x v) y)
  chord_meets_line v x y = plane.middle_combination L.ring x v y

  -- on which side of the chord v is
  pub chord-side : (v x y : Vector A) → cross R (sub_vector R y x) (sub_vector R v x) ≡ sub R (cross R x y) (cross R v y + cross R x v)
  chord-side v x y = plane_identity L.ring [] (v ∷ x ∷ y ∷ []) (λ v x y. cross E (sub_vector E y x) (sub_vector E v x) ≐ cross E x y ⊖ (cross E v y ⊕ cross E x v)) refl

  -- where k/s is at most 1 and m/t at least 1, and y is at most x·k/s and at most x·m/t, it is at most x
  pub at_most_between : (k s m t x y : A) → IsNonNegative R IsPositive k → k ≤ s → IsPositive s → t ≤ m → IsPositive t → s * y ≤ k * x → t * y ≤ m * x → y ≤ x
  at_most_between k s m t x y hk ks hs tm ht first second l =
      elim (L.trichotomy x) [
        | positive p ↦ first (at_first (signs.non_negative_of_positive L p))
        | null e ↦ first (at_first (signs.non_negative_of_zero L e))
        | negative n ↦ second
            (signs.positive_by L (m ∷ t ∷ x ∷ y ∷ []) (λ m t x y. t ⊗ y ⊖ m ⊗ x ≐ t ⊗ (y ⊖ x) ⊕ (m ⊖ t) ⊗ E.neg x) refl
            (signs.add_positive_non_negative L (L.mul_positive ht l) (signs.mul_non_negative L (order.sub_of_at_most L t m tm) (signs.non_negative_of_positive L n))))
      ]
    where
      at_first : IsNonNegative R IsPositive x → k * x < s * y
      at_first hx =
          signs.positive_by L (k ∷ s ∷ x ∷ y ∷ []) (λ k s x y. s ⊗ y ⊖ k ⊗ x ≐ s ⊗ (y ⊖ x) ⊕ (s ⊖ k) ⊗ x) refl
          (signs.add_positive_non_negative L (L.mul_positive hs l) (signs.mul_non_negative L (order.sub_of_at_most L k s ks) hx))
