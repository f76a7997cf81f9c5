-- The order of all vectors over an ordered ring by direction, counterclockwise from (1, 0), and then by length; (0, 0) is between the upper and the lower half. A library for crates to come.
use Rattle.std.proofs.Common.{◌≡◌, ◌≢◌, ◌⊎◌, [], ◌∷◌, refl, sym, ap, ◌∙◌, inl, inr}
use Rattle.fs_ring.specs.Operations.{Operations}
use Rattle.fs_ring.specs.OrderedRing.{IsOrderedRing, IsLess, less, equal, greater}
use Rattle.fs_ring.specs.Vector.{Vector, zero_vector, unit_vector, sub_vector, cross, dot, norm}
use Rattle.fs_ring.specs.Direction.{IsAlong, IsUpper, IsLower, IsBefore, upper, across, lower}
use Rattle.fs_ring.proofs.RingLaws as ring
use Rattle.fs_ring.proofs.Signs as signs
use Rattle.fs_ring.proofs.Order as order
use Rattle.fs_ring.proofs.Directions as directions
use Rattle.fs_ring.proofs.HalfPlanes as half_planes
use Rattle.fs_ring.proofs.Solver.{expressions as E, numeral, ◌⊕◌, ◌⊖◌, ◌⊗◌, ◌≐◌, ◌from◌}
use Rattle.fs_ring.proofs.PlaneSolver.{plane_derived, vector_eq}

-- v is before w in this order
pub data IsVectorLess {A : Type 0} (R : Operations A) (IsPositive : A → Type 0) (v w : Vector A) : Type 0 where
  by_direction : IsBefore R IsPositive v w → IsVectorLess R IsPositive v w
  by_length : IsAlong R IsPositive v w → IsLess R IsPositive (norm R v) (norm R w) → IsVectorLess R IsPositive v w
  zero_last : IsUpper R IsPositive v → w ≡ zero_vector R → IsVectorLess R IsPositive v w
  zero_first : v ≡ zero_vector R → IsLower R IsPositive w → IsVectorLess R IsPositive v w

module _ {A : Type 0} {R : Operations A} {IsPositive : A → Type 0} (L : IsOrderedRing R IsPositive) where
  open R use {neg, zero as 𝟘}

  abbrev Along : Vector A → Vector A → Type 0
  Along v w = IsAlong R IsPositive v w

  abbrev Before : Vector A → Vector A → Type 0
  Before v w = IsBefore R IsPositive v w

  abbrev VectorLess : Vector A → Vector A → Type 0
  VectorLess v w = IsVectorLess R IsPositive v w

  -- ---- vectors of one direction and one length are equal

  pub eq_of_along : (a b : Vector A) → Along a b → norm R a ≡ norm R b → a ≡ b
  eq_of_along a b h e =
      let factor = L.add_positive h.same_way (directions.norm_positive L a (directions.dot_positive-ne-zero_left L h.same_way)) in
      let same = signs.zero_of_mul_right L (signs.positive-ne-zero L factor)
      (plane_derived L.ring [] (a ∷ b ∷ [])
      (λ a b. (dot E a b ⊖ norm E a) ⊗ (dot E a b ⊕ norm E a) ≐ numeral 0 from (E.neg (norm E a), norm E a ≐ norm E b) ∷ (E.neg (cross E a b), cross E a b ≐ numeral 0) ∷ []) refl (e, (h.parallel, tt))) in
      let none = directions.zero_of_norm-zero L (sub_vector R a b)
      (plane_derived L.ring [] (a ∷ b ∷ [])
      (λ a b. norm E (sub_vector E a b) ≐ numeral 0 from (E.neg (numeral 2), dot E a b ⊖ norm E a ≐ numeral 0) ∷ (E.neg (numeral 1), norm E a ≐ norm E b) ∷ []) refl (same, (e, tt))) in
      vector_eq (ring.eq_of_sub-zero L.ring a.x b.x (ap (λ v. v.x) none)) (ring.eq_of_sub-zero L.ring a.y b.y (ap (λ v. v.y) none))

  -- ---- the two vectors aren't zero

  along-ne-zero_left : {v w : Vector A} → Along v w → v ≢ zero_vector R
  along-ne-zero_left h = directions.dot_positive-ne-zero_left L h.same_way

  along-ne-zero_right : {v w : Vector A} → Along v w → w ≢ zero_vector R
  along-ne-zero_right h = directions.dot_positive-ne-zero_right L h.same_way

  before-ne-zero_left : {v w : Vector A} → Before v w → v ≢ zero_vector R
  before-ne-zero_left (upper h k p) = half_planes.half_plane-ne-zero L h
  before-ne-zero_left (across h k) = half_planes.half_plane-ne-zero L h
  before-ne-zero_left (lower h k p) = half_planes.half_plane-ne-zero L h

  before-ne-zero_right : {v w : Vector A} → Before v w → w ≢ zero_vector R
  before-ne-zero_right (upper h k p) = half_planes.half_plane-ne-zero L k
  before-ne-zero_right (across h k) = half_planes.half_plane-ne-zero L k
  before-ne-zero_right (lower h k p) = half_planes.half_plane-ne-zero L k

  -- what is before an upper vector is upper, and what is after a lower one is lower
  upper_of_before : {v w : Vector A} → Before v w → IsUpper R IsPositive w → IsUpper R IsPositive v
  upper_of_before (upper h k p) u = h
  upper_of_before (across h k) u = h
  upper_of_before (lower h k p) u = absurd (half_planes.half_plane_one L u k)

  lower_of_before : {v w : Vector A} → Before v w → IsLower R IsPositive v → IsLower R IsPositive w
  lower_of_before (upper h k p) l = absurd (half_planes.half_plane_one L h l)
  lower_of_before (across h k) l = k
  lower_of_before (lower h k p) l = k

  -- ---- a strict order

  pub vector_less_irrefl : (v : Vector A) → ¬ VectorLess v v
  vector_less_irrefl v (by_direction h) = half_planes.before_irrefl L v h
  vector_less_irrefl v (by_length h l) = order.less_irrefl L (norm R v) l
  vector_less_irrefl v (zero_last u e) = half_planes.half_plane-ne-zero L u e
  vector_less_irrefl v (zero_first e l) = half_planes.half_plane-ne-zero L l e

  pub vector_less_trans : (u v w : Vector A) → VectorLess u v → VectorLess v w → VectorLess u w
  vector_less_trans u v w (by_direction h) (by_direction k) = by_direction (half_planes.before_trans L h k)
  vector_less_trans u v w (by_direction h) (by_length k l) =
      by_direction (half_planes.before_along L (directions.along_self L u (before-ne-zero_left h)) k h)
  vector_less_trans u v w (by_direction h) (zero_last k e) = zero_last (upper_of_before h k) e
  vector_less_trans u v w (by_direction h) (zero_first e k) = absurd (before-ne-zero_right h e)
  vector_less_trans u v w (by_length h l) (by_direction k) =
      by_direction (half_planes.before_along L (directions.along_comm L h) (directions.along_self L w (before-ne-zero_right k)) k)
  vector_less_trans u v w (by_length h l) (by_length k m) = by_length (directions.along_trans L h k) (order.less_trans L (norm R u) (norm R v) (norm R w) l m)
  vector_less_trans u v w (by_length h l) (zero_last k e) = zero_last (half_planes.half_plane_along L (directions.along_comm L h) k) e
  vector_less_trans u v w (by_length h l) (zero_first e k) = absurd (along-ne-zero_right h e)
  vector_less_trans u v w (zero_last h e) (by_direction k) = absurd (before-ne-zero_left k e)
  vector_less_trans u v w (zero_last h e) (by_length k m) = absurd (along-ne-zero_left k e)
  vector_less_trans u v w (zero_last h e) (zero_last k f) = absurd (half_planes.half_plane-ne-zero L k e)
  vector_less_trans u v w (zero_last h e) (zero_first f k) = by_direction (across h k)
  vector_less_trans u v w (zero_first e h) (by_direction k) = zero_first e (lower_of_before k h)
  vector_less_trans u v w (zero_first e h) (by_length k m) = zero_first e (half_planes.half_plane_along L k h)
  vector_less_trans u v w (zero_first e h) (zero_last k f) = absurd (half_planes.half_plane_one L k h)
  vector_less_trans u v w (zero_first e h) (zero_first f k) = absurd (half_planes.half_plane-ne-zero L h f)

  -- ---- which is total

  along_cases : (v w : Vector A) → Along v w → VectorLess v w ⊎ ((v ≡ w) ⊎ VectorLess w v)
  along_cases v w h =
      elim (order.compare L (norm R v) (norm R w)) [
        | less l ↦ inl (by_length h l)
        | equal e ↦ inr (inl (eq_of_along v w h e))
        | greater l ↦ inr (inr (by_length (directions.along_comm L h) l))
      ]

  nonzero_cases : (v w : Vector A) → v ≢ zero_vector R → w ≢ zero_vector R → VectorLess v w ⊎ ((v ≡ w) ⊎ VectorLess w v)
  nonzero_cases v w m n =
      elim (half_planes.before_cases L v w m n) [
        | inl h ↦ inl (by_direction h)
        | inr s ↦ elim s [ inl h ↦ inr (inr (by_direction h)) | inr h ↦ along_cases v w h ]
      ]

  -- zero and a vector that isn't
  zero_cases : (v w : Vector A) → v ≡ zero_vector R → w ≢ zero_vector R → VectorLess v w ⊎ VectorLess w v
  zero_cases v w e n =
      elim (half_planes.half_plane_cases L (unit_vector R) w (half_planes.unit-ne-zero L) n)
      [ inl u ↦ inr (zero_last u e) | inr l ↦ inl (zero_first e l) ]

  pub vector_less_cases : (v w : Vector A) → VectorLess v w ⊎ ((v ≡ w) ⊎ VectorLess w v)
  vector_less_cases v w = go (directions.zero_or_norm_positive L v) (directions.zero_or_norm_positive L w)
    where
      nonzero : {u : Vector A} → IsPositive (norm R u) → u ≢ zero_vector R
      nonzero {u} p = directions.dot_positive-ne-zero_left L {a = u} {b = u} p

      go : (v ≡ zero_vector R) ⊎ IsPositive (norm R v) → (w ≡ zero_vector R) ⊎ IsPositive (norm R w) → VectorLess v w ⊎ ((v ≡ w) ⊎ VectorLess w v)
      go (inl e) (inl f) = inr (inl (e ∙ sym f))
      go (inl e) (inr q) = elim (zero_cases v w e (nonzero q)) [ inl h ↦ inl h | inr h ↦ inr (inr h) ]
      go (inr p) (inl f) = elim (zero_cases w v f (nonzero p)) [ inl h ↦ inr (inr h) | inr h ↦ inl h ]
      go (inr p) (inr q) = nonzero_cases v w (nonzero p) (nonzero q)
