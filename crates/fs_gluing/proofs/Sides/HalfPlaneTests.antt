-- The test whether a vector is in the half plane of another, by the signs of their cross and dot products; at (1,0) it is the test of the upper half. A library for crates to come.
use Rattle.std.proofs.Common.{◌≡◌, ℕ, true, [], ◌∷◌, refl, ap}
use Rattle.std.specs.declared.cmp.Ordering.{Ordering}
use Rattle.std.specs.declared.cmp.Ordering.TheVariants.{Less, Equal, Greater}
use Rattle.fs_ring.specs.Vector as plane
use Rattle.fs_ring.specs.Vector.{unit_vector, neg_vector}
use Rattle.fs_ring.specs.Direction.{InHalfPlane, at_start, inside}
use Rattle.fs_ring.proofs.Solver.{expressions as E, ◌≐◌}
use Rattle.fs_ring.proofs.PlaneSolver.{plane_identity}
use Rattle.fs_quadratic.specs.Radicand.{IsRadicand}
use Rattle.fs_quadratic.specs.Ring.{quadratic, IsPositive, sign}
use Rattle.fs_quadratic.proofs.SquareRoot.{radicand_no_square}
use Rattle.fs_quadratic.proofs.Signs.{sign-positive, sign-zero, positive_of_sign, zero_of_sign}
use Rattle.fs_quadratic.proofs.Laws.{quadratic_ring}
use Rattle.fs_plane.specs.Vector.{PlaneVector, vector_neg, cross, dot, is_upper, upper_by_signs}
use Rattle.fs_convex.specs.Turning.{DecidesHalfPlanes}
use Rattle.fs_gluing.specs.SurfaceSides.{is_ahead}

module _ {d : ℕ} (radicand : IsRadicand d) where
  sound_by : (v x : PlaneVector) (c e : Ordering) → sign d (cross d v x) ≡ c → sign d (dot d v x) ≡ e → upper_by_signs c e ≡ true → InHalfPlane (quadratic d) (IsPositive d) v x
  sound_by v x Greater e left by h = inside (positive_of_sign (radicand_no_square radicand) (cross d v x) left)
  sound_by v x Equal Greater on by h =
      at_start (record { parallel = zero_of_sign (radicand_no_square radicand) (cross d v x) on; same_way = positive_of_sign (radicand_no_square radicand) (dot d v x) by })
  sound_by v x Equal Equal on by h = cc
  sound_by v x Equal Less on by h = cc
  sound_by v x Less e right by h = cc

  complete : (v x : PlaneVector) → InHalfPlane (quadratic d) (IsPositive d) v x → is_ahead d v x ≡ true
  complete v x (inside left) = ap (λ c. upper_by_signs c (sign d (dot d v x))) (sign-positive d (cross d v x) left)
  complete v x (at_start along) = λ i. upper_by_signs (sign-zero d (cross d v x) along.parallel i) (sign-positive d (dot d v x) along.same_way i)

  -- the test decides half planes
  pub decides_half_planes : DecidesHalfPlanes (quadratic d) (IsPositive d) (is_ahead d)
  decides_half_planes = record {
    sound = λ v x h. sound_by v x (sign d (cross d v x)) (sign d (dot d v x)) refl refl h;
    complete = complete;
  }

module _ (d : ℕ) where
  cross-unit : (x : PlaneVector) → cross d (unit_vector (quadratic d)) x ≡ x.y
  cross-unit x = plane_identity (quadratic_ring d) [] (x ∷ []) (λ x. plane.cross E (unit_vector E) x ≐ x.y) refl

  dot-unit : (x : PlaneVector) → dot d (unit_vector (quadratic d)) x ≡ x.x
  dot-unit x = plane_identity (quadratic_ring d) [] (x ∷ []) (λ x. plane.dot E (unit_vector E) x ≐ x.x) refl

  cross-opposites : (v x : PlaneVector) → cross d (neg_vector (quadratic d) v) x ≡ cross d v (vector_neg x)
  cross-opposites v x = plane_identity (quadratic_ring d) [] (v ∷ x ∷ []) (λ v x. plane.cross E (neg_vector E v) x ≐ plane.cross E v (neg_vector E x)) refl

  dot-opposites : (v x : PlaneVector) → dot d (neg_vector (quadratic d) v) x ≡ dot d v (vector_neg x)
  dot-opposites v x = plane_identity (quadratic_ring d) [] (v ∷ x ∷ []) (λ v x. plane.dot E (neg_vector E v) x ≐ plane.dot E v (neg_vector E x)) refl

  -- the half plane of (1,0) is the upper half
  pub is_ahead-unit : (x : PlaneVector) → is_ahead d (unit_vector (quadratic d)) x ≡ is_upper d x
  is_ahead-unit x = λ i. upper_by_signs (sign d (cross-unit x i)) (sign d (dot-unit x i))

  -- a vector is in the half plane of -v where its opposite is in that of v
  pub is_ahead-opposite : (v x : PlaneVector) → is_ahead d (neg_vector (quadratic d) v) x ≡ is_ahead d v (vector_neg x)
  is_ahead-opposite v x = λ i. upper_by_signs (sign d (cross-opposites v x i)) (sign d (dot-opposites v x i))
