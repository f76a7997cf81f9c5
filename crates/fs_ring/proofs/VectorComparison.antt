-- A comparison of vectors by computed signs is a total order, and says which vector is before the other: by direction, counterclockwise from (1, 0), and then by length. A library for crates to come.
use Rattle.std.proofs.Common.{◌≡◌, Bool, true, false, [], ◌∷◌, refl, sym, ap, ◌∙◌, subst, inl, inr}
use Rattle.std.specs.Ordering.{bool_cmp, ordering_then, ordering_reverse, MatchOrdering}
use Rattle.std.specs.Cmp.{IsTotalOrder, strict, bool_cmp_total}
use Rattle.std.specs.declared.cmp.Ordering.{Ordering}
use Rattle.std.specs.declared.cmp.Ordering.TheVariants.{Less, Equal, Greater}
use Rattle.fs_ring.specs.Operations.{Operations, sub}
use Rattle.fs_ring.specs.OrderedRing.{IsOrderedRing, IsLess, positive, null, negative}
use Rattle.fs_ring.specs.Vector.{Vector, zero_vector, unit_vector, neg_vector, cross, dot, norm}
use Rattle.fs_ring.specs.Direction.{IsAlong, IsUpper, IsLower, at_start, inside, upper, across, lower}
use Rattle.fs_ring.proofs.RingLaws as ring
use Rattle.fs_ring.proofs.Signs as signs
use Rattle.fs_ring.proofs.Order as order
use Rattle.fs_ring.proofs.Plane as plane
use Rattle.fs_ring.proofs.Directions as directions
use Rattle.fs_ring.proofs.HalfPlanes as half_planes
use Rattle.fs_ring.proofs.VectorOrder.{IsVectorLess, by_direction, by_length, zero_last, zero_first, vector_less_irrefl, vector_less_trans, vector_less_cases}
use Rattle.fs_ring.proofs.Solver.{expressions as E, numeral, ◌≐◌, ◌from◌}
use Rattle.fs_ring.proofs.PlaneSolver.{plane_identity, plane_derived}

-- a test of the upper half by the signs of y and x: y > 0, or y = 0 and x > 0
pub record TestsUpper (upper_by_signs : Ordering → Ordering → Bool) : Type 0 where
  pub above : (x : Ordering) → upper_by_signs Greater x ≡ true
  pub right : upper_by_signs Equal Greater ≡ true
  pub nowhere : upper_by_signs Equal Equal ≡ false
  pub left : upper_by_signs Equal Less ≡ false
  pub below : (x : Ordering) → upper_by_signs Less x ≡ false

then-reverse : (a b : Ordering) → ordering_then (ordering_reverse a) (ordering_reverse b) ≡ ordering_reverse (ordering_then a b)
then-reverse Less b = refl
then-reverse Equal b = refl
then-reverse Greater b = refl

own_reverse : (r : Ordering) → r ≡ ordering_reverse r → r ≡ Equal
own_reverse Less e = cc
own_reverse Equal e = refl
own_reverse Greater e = cc

bool_cmp-self : (b : Bool) → bool_cmp b b ≡ Equal
bool_cmp-self true = refl
bool_cmp-self false = refl

module _ {A : Type 0} {R : Operations A} {IsPositive : A → Type 0} (L : IsOrderedRing R IsPositive)
    (sign : A → Ordering) (sign_ranks : (x : A) → MatchOrdering (sign x) (IsPositive (R.neg x)) (x ≡ R.zero) (IsPositive x))
    (upper_by_signs : Ordering → Ordering → Bool) (tests : TestsUpper upper_by_signs) where
  open R use {neg, zero as 𝟘}

  -- ---- the comparison

  abbrev is_upper : Vector A → Bool
  is_upper v = upper_by_signs (sign v.y) (sign v.x)

  abbrev compare : A → A → Ordering
  compare x y = sign (sub R x y)

  abbrev direction_cmp : Vector A → Vector A → Ordering
  direction_cmp v w = ordering_then (bool_cmp (is_upper w) (is_upper v)) (sign (cross R w v))

  abbrev vector_cmp : Vector A → Vector A → Ordering
  vector_cmp v w = ordering_then (direction_cmp v w) (compare (norm R v) (norm R w))

  abbrev VectorLess : Vector A → Vector A → Type 0
  VectorLess v w = IsVectorLess R IsPositive v w

  -- ---- signs

  sign-positive : (x : A) → IsPositive x → sign x ≡ Greater
  sign-positive x p = go (sign x) (sign_ranks x)
    where
      go : (o : Ordering) → MatchOrdering o (IsPositive (neg x)) (x ≡ 𝟘) (IsPositive x) → o ≡ Greater
      go Less n = absurd (signs.not_both_signs L p n)
      go Equal e = absurd (signs.positive-ne-zero L p e)
      go Greater q = refl

  sign-negative : (x : A) → IsPositive (neg x) → sign x ≡ Less
  sign-negative x n = go (sign x) (sign_ranks x)
    where
      go : (o : Ordering) → MatchOrdering o (IsPositive (neg x)) (x ≡ 𝟘) (IsPositive x) → o ≡ Less
      go Less m = refl
      go Equal e = absurd (signs.negative-ne-zero L n e)
      go Greater p = absurd (signs.not_both_signs L p n)

  sign-zero : (x : A) → x ≡ 𝟘 → sign x ≡ Equal
  sign-zero x e = go (sign x) (sign_ranks x)
    where
      go : (o : Ordering) → MatchOrdering o (IsPositive (neg x)) (x ≡ 𝟘) (IsPositive x) → o ≡ Equal
      go Less n = absurd (signs.negative-ne-zero L n e)
      go Equal f = refl
      go Greater p = absurd (signs.positive-ne-zero L p e)

  sign-neg : (x : A) → sign (neg x) ≡ ordering_reverse (sign x)
  sign-neg x =
      elim (L.trichotomy x) [
        | positive p ↦ sign-negative (neg x) (signs.neg-neg_positive L p) ∙ ap ordering_reverse (sym (sign-positive x p))
        | null e ↦ sign-zero (neg x) (ap neg e ∙ ring.neg_zero L.ring) ∙ ap ordering_reverse (sym (sign-zero x e))
        | negative n ↦ sign-positive (neg x) n ∙ ap ordering_reverse (sym (sign-negative x n))
      ]

  -- ---- the other way round

  compare_reverse : (x y : A) → compare x y ≡ ordering_reverse (compare y x)
  compare_reverse x y = ap sign (sym (ring.neg-sub L.ring y x)) ∙ sign-neg (sub R y x)

  direction_reverse : (v w : Vector A) → direction_cmp v w ≡ ordering_reverse (direction_cmp w v)
  direction_reverse v w =
      (λ i. ordering_then (bool_cmp_total.antisymm (is_upper w) (is_upper v) i) ((ap sign (plane.cross_antisymm L.ring v w) ∙ sign-neg (cross R v w)) i))
      ∙ then-reverse (bool_cmp (is_upper v) (is_upper w)) (sign (cross R v w))

  vector_reverse : (v w : Vector A) → vector_cmp v w ≡ ordering_reverse (vector_cmp w v)
  vector_reverse v w =
      (λ i. ordering_then (direction_reverse v w i) (compare_reverse (norm R v) (norm R w) i))
      ∙ then-reverse (direction_cmp w v) (compare (norm R w) (norm R v))

  -- ---- the test of the upper half

  is_upper-upper : (v : Vector A) → IsUpper R IsPositive v → is_upper v ≡ true
  is_upper-upper v (inside p) =
      ap (λ c. upper_by_signs c (sign v.x)) (sign-positive v.y (subst IsPositive (plane_identity L.ring [] (v ∷ []) (λ v. cross E (unit_vector E) v ≐ v.y) refl) p))
      ∙ tests.above (sign v.x)
  is_upper-upper v (at_start h) =
      (λ i. upper_by_signs
      (sign-zero v.y (plane_derived L.ring [] (v ∷ []) (λ v. v.y ≐ numeral 0 from (numeral 1, cross E (unit_vector E) v ≐ numeral 0) ∷ []) refl (h.parallel, tt)) i)
      (sign-positive v.x (subst IsPositive (plane_identity L.ring [] (v ∷ []) (λ v. dot E (unit_vector E) v ≐ v.x) refl) h.same_way) i))
      ∙ tests.right

  is_upper-lower : (v : Vector A) → IsLower R IsPositive v → is_upper v ≡ false
  is_upper-lower v (inside p) =
      ap (λ c. upper_by_signs c (sign v.x))
      (sign-negative v.y (subst IsPositive (plane_identity L.ring [] (v ∷ []) (λ v. cross E (neg_vector E (unit_vector E)) v ≐ E.neg v.y) refl) p))
      ∙ tests.below (sign v.x)
  is_upper-lower v (at_start h) =
      (λ i. upper_by_signs
      (sign-zero v.y (plane_derived L.ring [] (v ∷ []) (λ v. v.y ≐ numeral 0 from (E.neg (numeral 1), cross E (neg_vector E (unit_vector E)) v ≐ numeral 0) ∷ []) refl (h.parallel, tt)) i)
      (sign-negative v.x (subst IsPositive (plane_identity L.ring [] (v ∷ []) (λ v. dot E (neg_vector E (unit_vector E)) v ≐ E.neg v.x) refl) h.same_way) i))
      ∙ tests.left

  is_upper-zero : (v : Vector A) → v ≡ zero_vector R → is_upper v ≡ false
  is_upper-zero v e = (λ i. upper_by_signs (sign-zero v.y (ap (λ u. u.y) e) i) (sign-zero v.x (ap (λ u. u.x) e) i)) ∙ tests.nowhere

  -- vectors of one direction are in one half
  along_half : (v w : Vector A) → IsAlong R IsPositive v w → is_upper w ≡ is_upper v
  along_half v w h =
      elim (half_planes.half_plane_cases L (unit_vector R) v (half_planes.unit-ne-zero L) (directions.dot_positive-ne-zero_left L h.same_way)) [
        | inl u ↦ is_upper-upper w (half_planes.half_plane_along L h u) ∙ sym (is_upper-upper v u)
        | inr l ↦ is_upper-lower w (half_planes.half_plane_along L h l) ∙ sym (is_upper-lower v l)
      ]

  -- ---- what the comparison gives

  -- by what each step gives
  by_steps : (v w : Vector A) {a b : Bool} {s c : Ordering} → is_upper w ≡ a → is_upper v ≡ b → sign (cross R w v) ≡ s → compare (norm R v) (norm R w) ≡ c
      → vector_cmp v w ≡ ordering_then (ordering_then (bool_cmp a b) s) c
  by_steps v w ea eb es ec = λ i. ordering_then (ordering_then (bool_cmp (ea i) (eb i)) (es i)) (ec i)

  -- where the direction is one
  by_last : (v w : Vector A) → is_upper w ≡ is_upper v → sign (cross R w v) ≡ Equal → IsLess R IsPositive (norm R v) (norm R w) → vector_cmp v w ≡ Less
  by_last v w half turn h =
      by_steps v w half refl turn (sign-negative (sub R (norm R v) (norm R w)) (signs.positive_of_eq L (ring.neg-sub L.ring (norm R v) (norm R w)) h))
      ∙ ap (λ r. ordering_then (ordering_then r Equal) Less) (bool_cmp-self (is_upper v))

  -- to the right of w
  right_of : (v w : Vector A) → IsPositive (cross R v w) → sign (cross R w v) ≡ Less
  right_of v w p = sign-negative (cross R w v) (directions.cross_negative L w v p)

  pub less_of_vector_less : (v w : Vector A) → VectorLess v w → vector_cmp v w ≡ Less
  less_of_vector_less v w (by_direction (upper h k p)) = by_steps v w (is_upper-upper w k) (is_upper-upper v h) (right_of v w p) refl
  less_of_vector_less v w (by_direction (across h k)) = by_steps v w (is_upper-lower w k) (is_upper-upper v h) refl refl
  less_of_vector_less v w (by_direction (lower h k p)) = by_steps v w (is_upper-lower w k) (is_upper-lower v h) (right_of v w p) refl
  less_of_vector_less v w (by_length h l) = by_last v w (along_half v w h) (sign-zero (cross R w v) (directions.parallel_comm L v w h.parallel)) l
  less_of_vector_less v w (zero_last h e) = by_steps v w (is_upper-zero w e) (is_upper-upper v h) refl refl
  less_of_vector_less v w (zero_first e h) =
      by_last v w (is_upper-lower w h ∙ sym (is_upper-zero v e))
      (sign-zero (cross R w v) (ap (cross R w) e ∙ plane.cross-zero_right L.ring w))
      (subst (λ x. IsLess R IsPositive x (norm R w)) (sym (ap (norm R) e ∙ plane.dot-zero_left L.ring (zero_vector R)))
      (order.zero_less L (directions.norm_positive L w (half_planes.half_plane-ne-zero L h))))

  vector_cmp-self : (v w : Vector A) → v ≡ w → vector_cmp v w ≡ Equal
  vector_cmp-self v w e = ap (vector_cmp v) (sym e) ∙ own_reverse (vector_cmp v v) (vector_reverse v v)

  abbrev Ranks : Vector A → Vector A → Ordering → Type 0
  Ranks v w r = MatchOrdering r (VectorLess v w) (v ≡ w) (VectorLess w v)

  -- what a result says of two vectors
  pub vector_ranks : (v w : Vector A) → MatchOrdering (vector_cmp v w) (VectorLess v w) (v ≡ w) (VectorLess w v)
  vector_ranks v w =
      elim (vector_less_cases L v w) [
        | inl h ↦ subst (Ranks v w) (sym (less_of_vector_less v w h)) h
        | inr s ↦ elim s [
          | inl e ↦ subst (Ranks v w) (sym (vector_cmp-self v w e)) e
          | inr h ↦ subst (Ranks v w) (sym (vector_reverse v w ∙ ap ordering_reverse (less_of_vector_less w v h))) h
        ]
      ]

  -- it is a total order of all vectors, (0, 0) included
  pub vector_cmp_total : IsTotalOrder vector_cmp
  vector_cmp_total = strict VectorLess (vector_less_irrefl L) (vector_less_trans L) vector_cmp vector_ranks
