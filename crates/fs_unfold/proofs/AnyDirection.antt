-- How often the boundary of a polygon with convex corners passes a direction: as often as any other.
use Rattle.std.proofs.Common.{◌≡◌, ◌≢◌, ℕ, ◌+◌, Bool, true, not, ◌&&◌, List, [], ◌∷◌, count_by, refl, sym, ap, ◌∙◌}
use Rattle.std.specs.List.{AllByRecursion}
use Rattle.std.specs.declared.cmp.Ordering.{Ordering}
use Rattle.std.specs.declared.cmp.Ordering.TheVariants.{Less, Equal, Greater}
use Rattle.fs_lists.proofs.All.{All-weaker}
use Rattle.fs_lists.proofs.Counts.{one_if}
use Rattle.fs_ring.specs.OrderedRing.{IsOrderedRing}
use Rattle.fs_ring.specs.Vector as plane
use Rattle.fs_ring.specs.Vector.{unit_vector, neg_vector}
use Rattle.fs_ring.specs.Direction.{IsAlong, InHalfPlane, left, right, along, opposite, at_start, inside}
use Rattle.fs_ring.proofs.Directions as directions
use Rattle.fs_ring.proofs.HalfPlanes as half_planes
use Rattle.fs_ring.proofs.Solver.{expressions as E, numeral, ◌≐◌, ◌from◌}
use Rattle.fs_ring.proofs.PlaneSolver.{plane_derived}
use Rattle.fs_quadratic.specs.Radicand.{IsNoSquare}
use Rattle.fs_quadratic.specs.Ring.{quadratic, IsPositive, neg, sign, zero as nil}
use Rattle.fs_quadratic.proofs.Laws.{quadratic_order}
use Rattle.fs_quadratic.proofs.Signs.{sign-positive, sign-zero, positive_of_sign, zero_of_sign}
use Rattle.fs_plane.specs.Vector.{PlaneVector, vector_zero, vector_neg, cross, dot, upper_by_signs}
use Rattle.fs_convex.specs.Turning as turning
use Rattle.fs_convex.specs.Turning.{DecidesHalfPlanes}
use Rattle.fs_convex.proofs.Rises as at_corner
use Rattle.fs_gluing.specs.Convex.{CornerSides, corners_of, is_rise}
use Rattle.fs_gluing.specs.SurfaceSides.{is_ahead}
use Rattle.fs_gluing.proofs.Sides.HalfPlaneTests.{is_ahead-unit, is_ahead-opposite}
use Rattle.fs_unfold.proofs.CornersInTurn.{counts_around}

module _ (d : ℕ) where
  -- the boundary passes the direction of v at the corner: the side before it is in the half plane of -v, and the side after it in that of v
  abbrev pub passes : PlaneVector → CornerSides → Bool
  passes v corner = turning.is_rise (quadratic d) (is_ahead d) v corner.before corner.after

  -- the next side is in the half plane of the side before
  abbrev BendsLeft : CornerSides → Type 0
  BendsLeft corner = InHalfPlane (quadratic d) (IsPositive d) corner.before corner.after

  -- (1,0) is passed where the boundary rises
  passes-unit : (corner : CornerSides) → passes (unit_vector (quadratic d)) corner ≡ is_rise d corner
  passes-unit corner =
      λ i. (is_ahead-opposite d (unit_vector (quadratic d)) corner.before ∙ is_ahead-unit d (vector_neg corner.before)) i && is_ahead-unit d corner.after i

module _ {d : ℕ} (no_square : IsNoSquare d) where
  abbrev L : IsOrderedRing (quadratic d) (IsPositive d)
  L = quadratic_order no_square

  sound_by : (v x : PlaneVector) (c e : Ordering) → sign d (cross d v x) ≡ c → sign d (dot d v x) ≡ e → upper_by_signs c e ≡ true → InHalfPlane (quadratic d) (IsPositive d) v x
  sound_by v x Greater e up by h = inside (positive_of_sign no_square (cross d v x) up)
  sound_by v x Equal Greater on by h =
      at_start (record { parallel = zero_of_sign no_square (cross d v x) on; same_way = positive_of_sign no_square (dot d v x) by })
  sound_by v x Equal Equal on by h = cc
  sound_by v x Equal Less on by h = cc
  sound_by v x Less e down by h = cc

  complete : (v x : PlaneVector) → InHalfPlane (quadratic d) (IsPositive d) v x → is_ahead d v x ≡ true
  complete v x (inside up) = ap (λ c. upper_by_signs c (sign d (dot d v x))) (sign-positive d (cross d v x) up)
  complete v x (at_start h) = λ i. upper_by_signs (sign-zero d (cross d v x) h.parallel i) (sign-positive d (dot d v x) h.same_way i)

  -- the test by signs decides half planes, for each d that is no square
  decides : DecidesHalfPlanes (quadratic d) (IsPositive d) (is_ahead d)
  decides = record {
    sound = λ v x h. sound_by v x (sign d (cross d v x)) (sign d (dot d v x)) refl refl h;
    complete = complete;
  }

  -- what is opposite to a vector is along its opposite
  pub along_opposite : (u v : PlaneVector) → cross d u v ≡ nil → IsPositive d (neg (dot d u v)) → IsAlong (quadratic d) (IsPositive d) (neg_vector (quadratic d) u) v
  along_opposite u v z p = record {
    parallel = plane_derived L.ring [] (u ∷ v ∷ []) (λ u v. plane.cross E (plane.neg_vector E u) v ≐ numeral 0 from (E.neg (numeral 1), plane.cross E u v ≐ numeral 0) ∷ []) refl (z, tt);
    same_way = directions.positive_by_plane L [] (u ∷ v ∷ []) (λ u v. plane.dot E (plane.neg_vector E u) v ≐ E.neg (plane.dot E u v)) refl p;
  }

  module _ (sides : List PlaneVector) (convex : AllByRecursion (BendsLeft d) (corners_of sides)) where
    abbrev count : PlaneVector → ℕ
    count v = count_by (passes d v) (corners_of sides)

    -- tests that differ at each corner by what a number of its sides differs
    by_corners : (g : PlaneVector → ℕ) (u v : PlaneVector)
        → ((corner : CornerSides) → BendsLeft d corner → g corner.after + one_if (passes d u corner) ≡ g corner.before + one_if (passes d v corner)) → count u ≡ count v
    by_corners g u v h = counts_around g (passes d u) (passes d v) sides (All-weaker (corners_of sides) h convex)

    passes_left : (u v : PlaneVector) → IsPositive d (cross d u v) → count v ≡ count u
    passes_left u v uv = by_corners (at_corner.in_sector L decides u v) v u (λ corner bends. at_corner.rise_of_sector L decides uv bends)

    passes_opposite : (v : PlaneVector) → v ≢ vector_zero → count (neg_vector (quadratic d) v) ≡ count v
    passes_opposite v m = by_corners (λ x. one_if (is_ahead d v x)) (neg_vector (quadratic d) v) v (λ corner bends. at_corner.rise_of_opposite L decides m bends)

    passes_along : (u v : PlaneVector) → IsAlong (quadratic d) (IsPositive d) u v → count u ≡ count v
    passes_along u v h =
        by_corners (λ x. 0) u v
        (λ corner bends.
        let m = at_corner.first_ray-ne-zero L bends in
        let first = at_corner.is_rise-ahead L decides u corner.before corner.after (directions.dot_positive-ne-zero_left L h.same_way) m in
        let second = at_corner.is_rise-ahead L decides v corner.before corner.after (directions.dot_positive-ne-zero_right L h.same_way) m in
        ap (λ b. 0 + one_if b)
        (first ∙ (λ i. not (at_corner.is_ahead_along L decides corner.before h i) && at_corner.is_ahead_along L decides corner.after h i) ∙ sym second))

    -- the boundary passes each direction as often as any other
    passes_any : (u v : PlaneVector) → u ≢ vector_zero → v ≢ vector_zero → count u ≡ count v
    passes_any u v mu mv =
        elim (directions.turn L u v mu mv) [
          | left p ↦ sym (passes_left u v p)
          | right p ↦ passes_left v u p
          | along h ↦ passes_along u v h
          | opposite z p ↦ sym (passes_opposite u mu) ∙ passes_along (neg_vector (quadratic d) u) v (along_opposite u v z p)
        ]

    -- so as often as it rises
    pub passes_as_rises : (v : PlaneVector) → v ≢ vector_zero → count v ≡ count_by (is_rise d) (corners_of sides)
    passes_as_rises v m = passes_any v (unit_vector (quadratic d)) m (half_planes.unit-ne-zero L) ∙ (λ i. count_by (λ corner. passes-unit d corner i) (corners_of sides))
