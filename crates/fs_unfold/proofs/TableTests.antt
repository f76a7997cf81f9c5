-- A table that passes its tests is a polygon, and none of its sides is 0.
use Rattle.std.proofs.Common.{◌≢◌, ℕ, ℤ, pos, ◌+◌, ◌/◌, ◌*ℤ◌, ◌<◌, ◌≤◌, false, List, [], ◌∷◌, ◌++◌, length, map, refl, sym, ap, ◌∙◌, subst, arith}
use Rattle.std.proofs.Math.Nat.{mul-div_cancel'}
use Rattle.std.proofs.lemmas.List.{length-map}
use Rattle.std.specs.Int.{◌∣◌}
use Rattle.std.specs.List.{AllByRecursion}
use Rattle.fs_lists.specs.Members.{IsIn}
use Rattle.fs_lists.proofs.All.{All-prefix, All-suffix, All-of_map, All-append}
use Rattle.fs_lists.proofs.Members.{All-member, in_map}
use Rattle.fs_ring.proofs.Integers.{integer_ring}
use Rattle.fs_ring.proofs.Signs as signs
use Rattle.fs_ring.proofs.Solver.{identity, numeral, ◌⊗◌, ◌⊖◌, ◌≐◌}
use Rattle.fs_quadratic.specs.Radicand.{IsNoSquare}
use Rattle.fs_quadratic.proofs.Laws.{quadratic_eq, quadratic_ring, quadratic_order}
use Rattle.fs_quadratic.proofs.SquareRoot.{radicand_no_square}
use Rattle.fs_fraction.specs.Fraction.{Fraction, IsLowest, HasValue, scale}
use Rattle.fs_fraction.proofs.Divisors.{multiple_positive}
use Rattle.fs_plane.specs.Vector.{PlaneVector, vector_zero, cross, IsAllowedCorner, IsStrictlyConvex}
use Rattle.fs_gluing.specs.declared.shapes.Point.{Point}
use Rattle.fs_gluing.specs.Convex.{CornerSides, corners_from, corners_of, last_side}
use Rattle.fs_gluing.specs.FirstFault.{of_scaling, of_polygon, polygon_closes, turning_number_one, PassesIn, position_tests, corner_tests, polygon_tests, tests_from, PassesOf}
use Rattle.fs_gluing.specs.Scaling.{NumberedSide, numbered_sides, all_numbered, common_multiple, common_from, common_den, scaled_vector, scale_tests, IsMultipleOf}
use Rattle.fs_gluing.specs.Surface.{IsPolygon}
use Rattle.fs_gluing.proofs.Scale.CommonDenominator.{common_den_least}
use Rattle.fs_unfold.specs.Tables.{IsTable}
use Rattle.fs_unfold.specs.Unfolding.{alone, PassesAlone}
use Rattle.fs_unfold.proofs.Frames.{IsSide}

-- ---- the tests of a polygon

corners_convex : (d : ℕ) (polygon : List PlaneVector) (j : ℕ) (corners : List CornerSides) → AllByRecursion (PassesIn false d polygon) (corner_tests j corners)
    → AllByRecursion (λ corner. IsAllowedCorner false d corner.before corner.after) corners
corners_convex d polygon j [] a = tt
corners_convex d polygon j (corner ∷ corners) a = (a.1.1.1.1.1.1.0, corners_convex d polygon (j + 1) corners a.1.1.1.1.1.1.1)

is_polygon : (d : ℕ) (polygon : List PlaneVector) → AllByRecursion (PassesIn false d polygon) (polygon_tests polygon) → IsPolygon false d polygon
is_polygon d polygon a =
    let P = PassesIn false d polygon in
    let closing = All-suffix P (position_tests (length polygon)) (polygon_closes ∷ (corner_tests 0 (corners_of polygon) ++ turning_number_one ∷ [])) a.1 in
    record {
      three = a.0;
      closed = closing.0;
      convex = corners_convex d polygon 0 (corners_of polygon) (All-prefix P (corner_tests 0 (corners_of polygon)) (turning_number_one ∷ []) closing.1);
      turning_number = (All-suffix P (corner_tests 0 (corners_of polygon)) (turning_number_one ∷ []) closing.1).0;
    }

-- the table's denominator
abbrev pub den_of : List Point → ℕ
den_of table = common_den (table ∷ [])

-- the table, scaled
abbrev pub scaled_table : List Point → List PlaneVector
scaled_table table = map (scaled_vector (den_of table)) table

-- it is a polygon
pub table_polygon : (d : ℕ) (table : List Point) → PassesAlone d table → IsPolygon false d (scaled_table table)
table_polygon d table passes =
    let P = PassesOf d (alone table) in
    let polygon = scaled_table table in
    let last : AllByRecursion P (map (of_polygon 0 polygon) (polygon_tests polygon) ++ []) = All-suffix P (map of_scaling (scale_tests (table ∷ []))) (tests_from 0 (polygon ∷ [])) passes in
    is_polygon d polygon (All-of_map (of_polygon 0 polygon) P (polygon_tests polygon) (All-prefix P (map (of_polygon 0 polygon) (polygon_tests polygon)) [] last))

-- it has three sides or more
pub three_sides : (d : ℕ) (table : List Point) → PassesAlone d table → 3 ≤ length table
three_sides d table passes = subst (λ n. 3 ≤ n) (length-map table (scaled_vector (den_of table))) (table_polygon d table passes).three

-- ---- its denominator

-- a fraction over a multiple of its denominator
pub has_value : (x : Fraction) (den : ℕ) → x.den ∣ den → HasValue x (scale (den / x.den) x.num) den
has_value x den h =
    let e = mul-div_cancel' x.den h in
    let part = λ (z : ℤ). ap (λ n. pos n *ℤ z) (sym e) ∙ identity integer_ring (pos x.den ∷ pos (den / x.den) ∷ z ∷ []) (λ m k z. (m ⊗ k) ⊗ z ≐ m ⊗ (k ⊗ z)) refl in
    quadratic_eq (part x.num.p) (part x.num.q)

-- both denominators are above 0
abbrev pub HasDens : Point → Type 0
HasDens p = (0 < p.x.den) × (0 < p.y.den)

-- the common multiple of such denominators is above 0
pub common_positive : (m : ℕ) (sides : List NumberedSide) → 0 < m → AllByRecursion (λ s. HasDens s.vector) sides → 0 < common_from m sides
common_positive m [] up all = up
common_positive m (s ∷ sides) up all =
    common_positive (common_multiple (common_multiple m s.vector.x.den) s.vector.y.den) sides
    (multiple_positive (common_multiple m s.vector.x.den) s.vector.y.den (multiple_positive m s.vector.x.den up all.0.0) all.0.1) all.1

numbered_dens : (i j : ℕ) (table : List Point) → AllByRecursion HasDens table → AllByRecursion (λ s. HasDens s.vector) (numbered_sides i j table)
numbered_dens i j [] all = tt
numbered_dens i j (p ∷ table) all = (all.0, numbered_dens i (j + 1) table all.1)

den_positive : (table : List Point) → AllByRecursion HasDens table → 0 < den_of table
den_positive table all =
    common_positive 1 (all_numbered (table ∷ [])) (let l : 0 < 1 = omega arith in l)
    (All-append (λ (s : NumberedSide). HasDens s.vector) (numbered_sides 0 0 table) [] (numbered_dens 0 0 table all) tt)

-- ---- its sides

module _ {d : ℕ} (no_square : IsNoSquare d) where
  nonzero_after : (a b : PlaneVector) → IsStrictlyConvex d a b → b ≢ vector_zero
  nonzero_after a b h e =
      signs.positive-ne-zero (quadratic_order no_square) h
      (ap (cross d a) e ∙ identity (quadratic_ring d) (a.x ∷ a.y ∷ []) (λ x y. (x ⊗ numeral 0) ⊖ (y ⊗ numeral 0) ≐ numeral 0) refl)

  sides_after : (before : PlaneVector) (sides : List PlaneVector) → AllByRecursion (λ corner. IsAllowedCorner false d corner.before corner.after) (corners_from before sides)
      → AllByRecursion (λ v. v ≢ vector_zero) sides
  sides_after before [] all = tt
  sides_after before (side ∷ sides) all = (nonzero_after before side all.0, sides_after side sides all.1)

  sides_nonzero : (polygon : List PlaneVector) → IsPolygon false d polygon → AllByRecursion (λ v. v ≢ vector_zero) polygon
  sides_nonzero polygon h = sides_after (last_side polygon) polygon h.convex

-- each side of a table is one of the polygon, over its denominator, and isn't 0
pub table_side : (d : ℕ) (table : List Point) → IsTable d table → (p : Point) → IsIn p table → IsSide (den_of table) p (scaled_vector (den_of table) p)
table_side d table is p p_in =
    let lowest = All-member (λ (q : Point). IsLowest q.x.num q.x.den × IsLowest q.y.num q.y.den) table p is.lowest p_in in
    let multiple : IsMultipleOf (den_of table) p = All-member (IsMultipleOf (den_of table)) table p ((common_den_least (table ∷ [])).multiple).0 p_in in
    let some = sides_nonzero (radicand_no_square is.radicand) (scaled_table table) (table_polygon d table is.passes) in
    record {
      den_positive = den_positive table (dens table is.lowest);
      scaled = (has_value p.x (den_of table) multiple.0, has_value p.y (den_of table) multiple.1);
      x = record { positive = lowest.0.positive; reduced = lowest.0.reduced };
      y = record { positive = lowest.1.positive; reduced = lowest.1.reduced };
      nonzero = All-member (λ (v : PlaneVector). v ≢ vector_zero) (scaled_table table) (scaled_vector (den_of table) p) some (in_map (scaled_vector (den_of table)) p table p_in);
    }
  where
    dens : (points : List Point) → AllByRecursion (λ q. IsLowest q.x.num q.x.den × IsLowest q.y.num q.y.den) points → AllByRecursion HasDens points
    dens [] all = tt
    dens (q ∷ points) all = ((all.0.0.positive, all.0.1.positive), dens points all.1)
