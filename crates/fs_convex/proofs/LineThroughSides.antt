-- A line that enters a polygon by one side and leaves it by another: what is beyond the second side on it is beyond the first. A library for crates to come.
use Rattle.std.proofs.Common.{◌≡◌, [], ◌∷◌, refl, sym, ap}
use Rattle.fs_ring.specs.Operations.{Operations}
use Rattle.fs_ring.specs.OrderedRing.{IsOrderedRing, IsNonNegative}
use Rattle.fs_ring.specs.Vector.{Vector, add_vector, sub_vector, scale, cross, dot, norm}
use Rattle.fs_ring.proofs.Signs as signs
use Rattle.fs_ring.proofs.Directions as directions
use Rattle.fs_ring.proofs.Solver.{expressions as E, numeral, ◌⊕◌, ◌⊗◌, ◌≐◌, ◌from◌}
use Rattle.fs_ring.proofs.PlaneSolver.{plane_identity, plane_derived}

module _ {A : Type 0} (R : Operations A) (IsPositive : A → Type 0) where
  -- the line through o along v enters by the side e, which begins at p, and leaves by the side from `right` to `left`, all but e and v taken k times as large; u is on the line
  pub record IsLineThroughSides (k : A) (e p right left o v u : Vector A) : Type 0 where
    pub factor : IsPositive k
    pub enters : IsPositive (cross R e v)
    pub right_beyond : IsNonNegative R IsPositive (cross R e (sub_vector R right p))
    pub left_beyond : IsNonNegative R IsPositive (cross R e (sub_vector R left p))
    pub on_line : cross R (sub_vector R u o) v ≡ R.zero
    -- how far the line is from the two ends of the second side
    pub from_right : IsNonNegative R IsPositive (cross R (sub_vector R (scale R k right) o) v)
    pub from_left : IsNonNegative R IsPositive (cross R v (sub_vector R (scale R k left) o))
    pub apart : IsPositive (R.add (cross R (sub_vector R (scale R k right) o) v) (cross R v (sub_vector R (scale R k left) o)))

module _ {A : Type 0} {R : Operations A} {IsPositive : A → Type 0} (L : IsOrderedRing R IsPositive)
    {k : A} {e p right left o v u : Vector A} (line : IsLineThroughSides R IsPositive k e p right left o v u) where
  open R use {add as ◌+◌, mul as ◌*◌, neg, zero as 𝟘}

  infixl 60 ◌+◌
  infixl 70 ◌*◌
  abbrev to_right : A
  to_right = cross R (sub_vector R (scale R k right) o) v

  abbrev to_left : A
  to_left = cross R v (sub_vector R (scale R k left) o)

  -- the way from the point of the line on the second side to u, times to_right + to_left
  abbrev way : Vector A
  way = sub_vector R (scale R (to_right + to_left) (sub_vector R u o)) (add_vector R (scale R to_left (sub_vector R (scale R k right) o)) (scale R to_right (sub_vector R (scale R k left) o)))

  abbrev side : Vector A
  side = sub_vector R left right

  way_parallel : cross R v way ≡ 𝟘
  way_parallel =
      plane_derived L.ring (k ∷ []) (right ∷ left ∷ o ∷ v ∷ u ∷ [])
      (λ k right left o v u.
      let a = cross E (sub_vector E (scale E k right) o) v in
      let b = cross E v (sub_vector E (scale E k left) o) in
      cross E v (sub_vector E (scale E (a ⊕ b) (sub_vector E u o)) (add_vector E (scale E b (sub_vector E (scale E k right) o)) (scale E a (sub_vector E (scale E k left) o)))) ≐ numeral 0
      from (E.neg (a ⊕ b), cross E (sub_vector E u o) v ≐ numeral 0) ∷ []) refl (line.on_line, tt)

  across_side : cross R side way ≡ (to_right + to_left) * cross R side (sub_vector R u (scale R k right))
  across_side =
      plane_identity L.ring (k ∷ []) (right ∷ left ∷ o ∷ v ∷ u ∷ [])
      (λ k right left o v u.
      let a = cross E (sub_vector E (scale E k right) o) v in
      let b = cross E v (sub_vector E (scale E k left) o) in
      let f = sub_vector E left right in
      cross E f (sub_vector E (scale E (a ⊕ b) (sub_vector E u o)) (add_vector E (scale E b (sub_vector E (scale E k right) o)) (scale E a (sub_vector E (scale E k left) o))))
      ≐ (a ⊕ b) ⊗ cross E f (sub_vector E u (scale E k right))) refl

  across_entry : (to_right + to_left) * cross R e (sub_vector R u (scale R k p))
      ≡ cross R e way + k * (to_left * cross R e (sub_vector R right p) + to_right * cross R e (sub_vector R left p))
  across_entry =
      plane_identity L.ring (k ∷ []) (right ∷ left ∷ o ∷ v ∷ u ∷ e ∷ p ∷ [])
      (λ k right left o v u e p.
      let a = cross E (sub_vector E (scale E k right) o) v in
      let b = cross E v (sub_vector E (scale E k left) o) in
      (a ⊕ b) ⊗ cross E e (sub_vector E u (scale E k p))
      ≐ cross E e (sub_vector E (scale E (a ⊕ b) (sub_vector E u o)) (add_vector E (scale E b (sub_vector E (scale E k right) o)) (scale E a (sub_vector E (scale E k left) o))))
      ⊕ k ⊗ (b ⊗ cross E e (sub_vector E right p) ⊕ a ⊗ cross E e (sub_vector E left p))) refl

  -- the line leaves by the second side
  leaves : IsPositive (cross R v side)
  leaves =
      signs.positive_of_mul_left L line.factor
      (signs.positive_of_eq L
      (plane_identity L.ring (k ∷ []) (right ∷ left ∷ o ∷ v ∷ [])
      (λ k right left o v.
      k ⊗ cross E v (sub_vector E left right) ≐ cross E (sub_vector E (scale E k right) o) v ⊕ cross E v (sub_vector E (scale E k left) o)) refl)
      line.apart)

  v_positive : IsPositive (norm R v)
  v_positive = directions.norm_positive L v (directions.cross_positive-ne-zero_right L line.enters)

  -- both sides see the way by its length along v
  by_side : norm R v * cross R side way ≡ neg (cross R v side * dot R v way)
  by_side =
      plane_derived L.ring [] (v ∷ side ∷ way ∷ [])
      (λ v f z. norm E v ⊗ cross E f z ≐ E.neg (cross E v f ⊗ dot E v z) from (dot E v f, cross E v z ≐ numeral 0) ∷ []) refl (way_parallel, tt)

  by_entry : norm R v * cross R e way ≡ cross R e v * dot R v way
  by_entry =
      plane_derived L.ring [] (v ∷ e ∷ way ∷ [])
      (λ v e z. norm E v ⊗ cross E e z ≐ cross E e v ⊗ dot E v z from (dot E v e, cross E v z ≐ numeral 0) ∷ []) refl (way_parallel, tt)

  ends_beyond : IsNonNegative R IsPositive (k * (to_left * cross R e (sub_vector R right p) + to_right * cross R e (sub_vector R left p)))
  ends_beyond =
      signs.mul_non_negative L (signs.non_negative_of_positive L line.factor)
      (signs.add_non_negative L (signs.mul_non_negative L line.from_left line.right_beyond) (signs.mul_non_negative L line.from_right line.left_beyond))

  -- where u isn't before the second side, it doesn't lead back over the entry
  way_not_back : IsNonNegative R IsPositive (neg (cross R side (sub_vector R u (scale R k right)))) → IsNonNegative R IsPositive (cross R e way)
  way_not_back beyond back =
      let along_back : IsPositive (neg (dot R v way)) =
      signs.negative_of_mul_left L line.enters (signs.positive_of_eq L (ap neg (sym by_entry)) (signs.mul_positive_negative L v_positive back)) in
      let before : IsPositive (norm R v * cross R side way) = signs.positive_of_eq L by_side (signs.mul_positive_negative L leaves along_back) in
      beyond (signs.neg-neg_positive L (signs.positive_of_mul_left L line.apart (signs.positive_of_eq L (sym across_side) (signs.positive_of_mul_left L v_positive before))))

  way_on : IsPositive (neg (cross R side (sub_vector R u (scale R k right)))) → IsPositive (cross R e way)
  way_on beyond =
      let across : IsPositive (neg (cross R side way)) = signs.positive_of_eq L (ap neg across_side) (signs.mul_positive_negative L line.apart beyond) in
      let along : IsPositive (dot R v way) =
      signs.positive_of_mul_left L leaves (signs.positive_of_neg-neg L (signs.positive_of_eq L (ap neg (sym by_side)) (signs.mul_positive_negative L v_positive across))) in
      signs.positive_of_mul_left L v_positive (signs.positive_of_eq L by_entry (L.mul_positive line.enters along))

  -- a point of the line on the second side or beyond it is on the first side's line or left of it
  pub beyond_entry : IsNonNegative R IsPositive (neg (cross R side (sub_vector R u (scale R k right)))) → IsNonNegative R IsPositive (cross R e (sub_vector R u (scale R k p)))
  beyond_entry beyond back =
      signs.add_non_negative L (way_not_back beyond) ends_beyond
      (signs.positive_of_eq L (ap neg (sym across_entry)) (signs.mul_positive_negative L line.apart back))

  -- one beyond the second side is left of it
  pub left_of_entry : IsPositive (neg (cross R side (sub_vector R u (scale R k right)))) → IsPositive (cross R e (sub_vector R u (scale R k p)))
  left_of_entry beyond =
      signs.positive_of_mul_left L line.apart (signs.positive_of_eq L across_entry (signs.add_positive_non_negative L (way_on beyond) ends_beyond))

  -- so is one on the second side, where that has a part left of the first side's line
  pub left_of_entry_by_ends : IsNonNegative R IsPositive (neg (cross R side (sub_vector R u (scale R k right))))
      → IsPositive (to_left * cross R e (sub_vector R right p) + to_right * cross R e (sub_vector R left p))
      → IsPositive (cross R e (sub_vector R u (scale R k p)))
  left_of_entry_by_ends beyond ends =
      signs.positive_of_mul_left L line.apart
      (signs.positive_of_eq L across_entry (signs.add_non_negative_positive L (way_not_back beyond) (L.mul_positive line.factor ends)))
