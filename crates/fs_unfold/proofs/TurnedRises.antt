-- The rises of a copy whose orientation is turned: the passages of the direction opposite to the frame's vector, but for sides along that direction, which cancel around a polygon.
use Rattle.std.proofs.Common.{◌≡◌, ◌≢◌, ℕ, ◌+◌, Bool, true, not, ◌&&◌, [], ◌∷◌, refl, sym, ap, ◌∙◌}
use Rattle.std.specs.Ordering.{ordering_reverse}
use Rattle.std.specs.declared.cmp.Ordering.{Ordering}
use Rattle.std.specs.declared.cmp.Ordering.TheVariants.{Less, Equal, Greater}
use Rattle.fs_lists.proofs.Counts.{one_if}
use Rattle.fs_ring.specs.OrderedRing.{IsOrderedRing}
use Rattle.fs_ring.specs.Vector as vectors
use Rattle.fs_ring.specs.Vector.{neg_vector}
use Rattle.fs_ring.specs.Direction.{IsAlong, Turn, left, right, along, opposite}
use Rattle.fs_ring.proofs.Directions as directions
use Rattle.fs_ring.proofs.Plane as plane
use Rattle.fs_ring.proofs.Signs as signs
use Rattle.fs_ring.proofs.Turns as turns
use Rattle.fs_ring.proofs.Solver.{expressions as E, ◌≐◌}
use Rattle.fs_quadratic.specs.Radicand.{IsNoSquare}
use Rattle.fs_quadratic.specs.Ring.{quadratic, IsPositive, neg, sign}
use Rattle.fs_quadratic.proofs.Laws.{quadratic_ring, quadratic_order}
use Rattle.fs_quadratic.proofs.Signs.{sign-positive, sign-zero, sign-negative, sign-neg}
use Rattle.fs_plane.specs.Vector.{PlaneVector, vector_zero, vector_neg, cross, dot, is_upper, upper_by_signs}
use Rattle.fs_gluing.specs.SurfaceSides.{is_ahead}
use Rattle.fs_unfold.proofs.Images.{framed}
use Rattle.fs_unfold.proofs.AnyDirection.{passes, along_opposite}

-- ---- the four classes of vectors seen from f: left of it, right of it, along it, opposite to it

-- the sign of the cross product of f and the vector
abbrev cross_sign : {d : ℕ} {f v : PlaneVector} → Turn (quadratic d) (IsPositive d) f v → Ordering
cross_sign (left p) = Greater
cross_sign (right p) = Less
cross_sign (along h) = Equal
cross_sign (opposite z p) = Equal

-- the sign of their dot product
abbrev dot_sign : {d : ℕ} {f v : PlaneVector} → Turn (quadratic d) (IsPositive d) f v → Ordering
dot_sign {d} {f} {v} (left p) = sign d (dot d f v)
dot_sign {d} {f} {v} (right p) = sign d (dot d f v)
dot_sign (along h) = Greater
dot_sign (opposite z p) = Less

-- right of f or along it; left of it or opposite to it; left of it or along it; right of it or opposite to it
abbrev right_or_along : {d : ℕ} {f v : PlaneVector} → Turn (quadratic d) (IsPositive d) f v → Bool
right_or_along t = upper_by_signs (ordering_reverse (cross_sign t)) (dot_sign t)

abbrev left_or_opposite : {d : ℕ} {f v : PlaneVector} → Turn (quadratic d) (IsPositive d) f v → Bool
left_or_opposite t = upper_by_signs (ordering_reverse (ordering_reverse (cross_sign t))) (ordering_reverse (dot_sign t))

abbrev left_or_along : {d : ℕ} {f v : PlaneVector} → Turn (quadratic d) (IsPositive d) f v → Bool
left_or_along t = upper_by_signs (cross_sign t) (dot_sign t)

abbrev right_or_opposite : {d : ℕ} {f v : PlaneVector} → Turn (quadratic d) (IsPositive d) f v → Bool
right_or_opposite t = upper_by_signs (ordering_reverse (cross_sign t)) (ordering_reverse (dot_sign t))

-- 1 where the vector is opposite to f
abbrev pub on_opposite : ℕ → PlaneVector → PlaneVector → ℕ
on_opposite d f v = one_if (not (is_upper d (framed d f true v)) && not (is_ahead d f v))

module _ {d : ℕ} (no_square : IsNoSquare d) (f : PlaneVector) where
  abbrev L : IsOrderedRing (quadratic d) (IsPositive d)
  L = quadratic_order no_square

  abbrev Class : PlaneVector → Type 0
  Class v = Turn (quadratic d) (IsPositive d) f v

  module _ (v : PlaneVector) (t : Class v) where
    cross_sign-is : sign d (cross d f v) ≡ cross_sign t
    cross_sign-is = by t
      where
        by : (t : Class v) → sign d (cross d f v) ≡ cross_sign t
        by (left p) = sign-positive d (cross d f v) p
        by (right p) = sign-negative d (cross d f v) (directions.cross_negative L f v p)
        by (along h) = sign-zero d (cross d f v) h.parallel
        by (opposite z p) = sign-zero d (cross d f v) z

    dot_sign-is : sign d (dot d f v) ≡ dot_sign t
    dot_sign-is = by t
      where
        by : (t : Class v) → sign d (dot d f v) ≡ dot_sign t
        by (left p) = refl
        by (right p) = refl
        by (along h) = sign-positive d (dot d f v) h.same_way
        by (opposite z p) = sign-negative d (dot d f v) p

    cross_reversed : sign d (neg (cross d f v)) ≡ ordering_reverse (cross_sign t)
    cross_reversed = sign-neg d (cross d f v) ∙ ap ordering_reverse cross_sign-is

    dot_reversed : sign d (neg (dot d f v)) ≡ ordering_reverse (dot_sign t)
    dot_reversed = sign-neg d (dot d f v) ∙ ap ordering_reverse dot_sign-is

    upper_framed : is_upper d (framed d f true v) ≡ right_or_along t
    upper_framed = λ i. upper_by_signs (cross_reversed i) (dot_sign-is i)

    upper_opposite_framed : is_upper d (vector_neg (framed d f true v)) ≡ left_or_opposite t
    upper_opposite_framed = λ i. upper_by_signs ((sign-neg d (neg (cross d f v)) ∙ ap ordering_reverse cross_reversed) i) (dot_reversed i)

    ahead : is_ahead d f v ≡ left_or_along t
    ahead = λ i. upper_by_signs (cross_sign-is i) (dot_sign-is i)

    ahead_opposite : is_ahead d (neg_vector (quadratic d) f) v ≡ right_or_opposite t
    ahead_opposite =
        λ i. upper_by_signs ((ap (sign d) (plane.cross-neg_left (quadratic_ring d) f v) ∙ cross_reversed) i)
        ((ap (sign d) (plane.dot-neg_left (quadratic_ring d) f v) ∙ dot_reversed) i)

  -- what follows to the left of a vector along f is left of f, and so on
  module _ (v w : PlaneVector) (bends : IsPositive d (cross d v w)) where
    left_after_along : IsAlong (quadratic d) (IsPositive d) f v → IsPositive d (cross d f w)
    left_after_along h = directions.along_cross L w (directions.along_comm L h) bends

    right_after_opposite : IsAlong (quadratic d) (IsPositive d) (neg_vector (quadratic d) f) v → IsPositive d (cross d w f)
    right_after_opposite h = turns.right_of_opposite L (directions.along_cross L w (directions.along_comm L h) bends)

    right_before_along : IsAlong (quadratic d) (IsPositive d) f w → IsPositive d (cross d v f)
    right_before_along h = directions.along_cross_right L v (directions.along_comm L h) bends

    left_before_opposite : IsAlong (quadratic d) (IsPositive d) (neg_vector (quadratic d) f) w → IsPositive d (cross d f v)
    left_before_opposite h =
        directions.positive_by_plane L [] (f ∷ v ∷ []) (λ f v. vectors.cross E f v ≐ vectors.cross E v (vectors.neg_vector E f)) refl
        (directions.along_cross_right L v (directions.along_comm L h) bends)

    -- the ten pairs of classes that occur at a corner, and the six that don't
    table : (s : Class v) (t : Class w)
        → one_if (not (right_or_along t) && not (left_or_along t)) + one_if (right_or_along t && left_or_opposite s)
        ≡ one_if (not (right_or_along s) && not (left_or_along s)) + one_if (left_or_along s && right_or_opposite t)
    table (left p) (left q) = refl
    table (left p) (right q) = refl
    table (left p) (along k) = absurd (turns.not_both_crosses L p (right_before_along k))
    table (left p) (opposite y q) = refl
    table (right p) (left q) = refl
    table (right p) (right q) = refl
    table (right p) (along k) = refl
    table (right p) (opposite y q) = absurd (turns.not_both_crosses L p (left_before_opposite (along_opposite no_square f w y q)))
    table (along h) (left q) = refl
    table (along h) (right q) = absurd (turns.not_both_crosses L q (left_after_along h))
    table (along h) (along k) = refl
    table (along h) (opposite y q) = absurd (signs.positive-ne-zero L (left_after_along h) y)
    table (opposite z p) (left q) = absurd (turns.not_both_crosses L q (right_after_opposite (along_opposite no_square f v z p)))
    table (opposite z p) (right q) = refl
    table (opposite z p) (along k) = absurd (turns.along_not_right L k (right_after_opposite (along_opposite no_square f v z p)))
    table (opposite z p) (opposite y q) = refl

    -- at one corner: a rise of the turned copy is a passage of the opposite of f, but for sides along it
    pub turned_rise : f ≢ vector_zero → on_opposite d f w + one_if (is_upper d (framed d f true w) && is_upper d (vector_neg (framed d f true v)))
        ≡ on_opposite d f v + one_if (passes d (neg_vector (quadratic d) f) (record { before = v; after = w }))
    turned_rise some =
        let s = directions.turn L f v some (directions.cross_positive-ne-zero_left L bends) in
        let t = directions.turn L f w some (directions.cross_positive-ne-zero_right L bends) in
        let back : is_ahead d (neg_vector (quadratic d) (neg_vector (quadratic d) f)) v ≡ left_or_along s = ap (λ u. is_ahead d u v) (plane.neg_vector-neg (quadratic_ring d) f) ∙ ahead v s in
        (λ i. one_if (not (upper_framed w t i) && not (ahead w t i)) + one_if (upper_framed w t i && upper_opposite_framed v s i))
        ∙ table s t
        ∙ sym (λ i. one_if (not (upper_framed v s i) && not (ahead v s i)) + one_if (back i && ahead_opposite w t i))
