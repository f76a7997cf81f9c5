-- Two vectors, the second left of the first, where one of them is along the first axis: the signs of their parts, over an ordered ring.
use Rattle.std.proofs.Common.{◌≡◌, [], ◌∷◌, refl}
use Rattle.fs_ring.specs.Operations.{Operations}
use Rattle.fs_ring.specs.OrderedRing.{IsOrderedRing}
use Rattle.fs_ring.specs.Vector.{Vector, cross, dot, norm}
use Rattle.fs_ring.specs.Direction.{IsAlong}
use Rattle.fs_ring.proofs.Signs as signs
use Rattle.fs_ring.proofs.Directions as directions
use Rattle.fs_ring.proofs.Solver.{expressions as E, numeral, ◌⊗◌, ◌≐◌, ◌from◌}
use Rattle.fs_ring.proofs.PlaneSolver.{plane_derived, vector_eq}

module _ {A : Type 0} {R : Operations A} {IsPositive : A → Type 0} (L : IsOrderedRing R IsPositive) where
  open R use {mul as ◌*◌, neg, zero as 𝟘}

  infixl 70 ◌*◌
  -- ---- a is left of b

  module _ (b a : Vector A) (convex : IsPositive (cross R b a)) where
    -- b along (1,0): a points up
    pub from_east : b.y ≡ 𝟘 → IsPositive b.x → IsPositive a.y
    from_east e p =
        signs.positive_of_mul_left L p
        (signs.positive_of_eq L (plane_derived L.ring [] (b ∷ a ∷ []) (λ b a. b.x ⊗ a.y ≐ cross E b a from (a.x, b.y ≐ numeral 0) ∷ []) refl (e, tt)) convex)

    -- b along (-1,0): a points down
    pub from_west : b.y ≡ 𝟘 → IsPositive (neg b.x) → IsPositive (neg a.y)
    from_west e p =
        signs.positive_of_mul_left L p
        (signs.positive_of_eq L (plane_derived L.ring [] (b ∷ a ∷ []) (λ b a. E.neg b.x ⊗ E.neg a.y ≐ cross E b a from (a.x, b.y ≐ numeral 0) ∷ []) refl (e, tt)) convex)

    -- a along (1,0): b points down
    pub to_east : a.y ≡ 𝟘 → IsPositive a.x → IsPositive (neg b.y)
    to_east e p =
        signs.positive_of_mul_left L p
        (signs.positive_of_eq L (plane_derived L.ring [] (b ∷ a ∷ []) (λ b a. a.x ⊗ E.neg b.y ≐ cross E b a from (E.neg b.x, a.y ≐ numeral 0) ∷ []) refl (e, tt)) convex)

    -- a along (-1,0): b points up
    pub to_west : a.y ≡ 𝟘 → IsPositive (neg a.x) → IsPositive b.y
    to_west e p =
        signs.positive_of_mul_left L p
        (signs.positive_of_eq L (plane_derived L.ring [] (b ∷ a ∷ []) (λ b a. E.neg a.x ⊗ b.y ≐ cross E b a from (E.neg b.x, a.y ≐ numeral 0) ∷ []) refl (e, tt)) convex)

    -- b isn't (0,0)
    pub before-ne-zero : b.y ≡ 𝟘 → b.x ≡ 𝟘 → ⊥
    before-ne-zero e f = directions.cross_positive-ne-zero_left L convex (vector_eq f e)

    -- a isn't (0,0)
    pub after-ne-zero : a.y ≡ 𝟘 → a.x ≡ 𝟘 → ⊥
    after-ne-zero e f = directions.cross_positive-ne-zero_right L convex (vector_eq f e)

  -- ---- a straight corner from b to a: the parts of both have the same signs

  module _ (b a : Vector A) (along : IsAlong R IsPositive b a) where
    -- x of a is x of b times the quotient of dot product and norm
    pub along_x : norm R b * a.x ≡ dot R b a * b.x
    along_x = plane_derived L.ring [] (b ∷ a ∷ []) (λ b a. norm E b ⊗ a.x ≐ dot E b a ⊗ b.x from (E.neg b.y, cross E b a ≐ numeral 0) ∷ []) refl (along.parallel, tt)

    -- y of a is y of b times the quotient of dot product and norm
    pub along_y : norm R b * a.y ≡ dot R b a * b.y
    along_y = plane_derived L.ring [] (b ∷ a ∷ []) (λ b a. norm E b ⊗ a.y ≐ dot E b a ⊗ b.y from (b.x, cross E b a ≐ numeral 0) ∷ []) refl (along.parallel, tt)

    -- the norm of b is above 0
    pub along_norm : IsPositive (norm R b)
    along_norm = directions.norm_positive L b (directions.dot_positive-ne-zero_left L along.same_way)

  -- ---- a vector and one along the first axis

  module _ (u : Vector A) (flat : u.y ≡ 𝟘) (ahead : IsPositive u.x) where
    -- a vector that points down is to the right of u
    pub right_of_axis : (a : Vector A) → IsPositive (neg a.y) → IsPositive (cross R a u)
    right_of_axis a p =
        signs.positive_of_eq L (plane_derived L.ring [] (a ∷ u ∷ []) (λ a u. cross E a u ≐ E.neg a.y ⊗ u.x from (a.x, u.y ≐ numeral 0) ∷ []) refl (flat, tt)) (L.mul_positive p ahead)

    -- the converse
    pub right_of_axis_back : (a : Vector A) → IsPositive (cross R a u) → IsPositive (neg a.y)
    right_of_axis_back a p =
        signs.positive_of_mul_right L ahead
        (signs.positive_of_eq L (plane_derived L.ring [] (a ∷ u ∷ []) (λ a u. E.neg a.y ⊗ u.x ≐ cross E a u from (E.neg a.x, u.y ≐ numeral 0) ∷ []) refl (flat, tt)) p)

    -- a vector that points up is to the left of u
    pub left_of_axis : (c : Vector A) → IsPositive c.y → IsPositive (cross R u c)
    left_of_axis c p =
        signs.positive_of_eq L (plane_derived L.ring [] (c ∷ u ∷ []) (λ c u. cross E u c ≐ u.x ⊗ c.y from (E.neg c.x, u.y ≐ numeral 0) ∷ []) refl (flat, tt)) (L.mul_positive ahead p)

    -- a vector with y = 0 and x above 0 is along u
    pub along_axis : (a : Vector A) → a.y ≡ 𝟘 → IsPositive a.x → IsAlong R IsPositive a u
    along_axis a e p = record {
      parallel = plane_derived L.ring [] (a ∷ u ∷ []) (λ a u. cross E a u ≐ numeral 0 from (a.x, u.y ≐ numeral 0) ∷ (E.neg u.x, a.y ≐ numeral 0) ∷ []) refl (flat, (e, tt));
      same_way = signs.positive_of_eq L (plane_derived L.ring [] (a ∷ u ∷ []) (λ a u. dot E a u ≐ a.x ⊗ u.x from (a.y, u.y ≐ numeral 0) ∷ []) refl (flat, tt)) (L.mul_positive p ahead);
    }

    -- a vector along u has y = 0
    pub along_axis_flat : (a : Vector A) → IsAlong R IsPositive a u → a.y ≡ 𝟘
    along_axis_flat a h =
        signs.zero_of_mul_right L (signs.positive-ne-zero L ahead)
        (plane_derived L.ring [] (a ∷ u ∷ []) (λ a u. a.y ⊗ u.x ≐ numeral 0 from (a.x, u.y ≐ numeral 0) ∷ (E.neg (numeral 1), cross E a u ≐ numeral 0) ∷ []) refl (flat, (h.parallel, tt)))

    -- a vector along u has x above 0
    pub along_axis_ahead : (a : Vector A) → IsAlong R IsPositive a u → IsPositive a.x
    along_axis_ahead a h =
        signs.positive_of_mul_right L ahead
        (signs.positive_of_eq L (plane_derived L.ring [] (a ∷ u ∷ []) (λ a u. a.x ⊗ u.x ≐ dot E a u from (E.neg a.y, u.y ≐ numeral 0) ∷ []) refl (flat, tt)) h.same_way)
