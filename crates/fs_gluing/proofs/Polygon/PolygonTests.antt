-- The tests of a polygon: its number of sides, its positions, its corners, its turning number.
use Rattle.std.proofs.Common.{◌≡◌, ◌≢◌, ◌≤◌, ◌<◌, ℕ, Bool, List, [], ◌∷◌, ◌++◌, length, sym, ap, refl, arith, append_assoc}
use Rattle.std.specs.List.{AllByRecursion, count_by}
use Rattle.fs_plane.specs.Vector.{PlaneVector}
use Rattle.fs_gluing.specs.declared.faults.BuildStop.{BuildStop}
use Rattle.fs_gluing.specs.declared.faults.Fault.TheVariants as faults
use Rattle.fs_gluing.specs.declared.faults.BuildStop.TheVariants as stops
use Rattle.fs_gluing.specs.Convex.{corners_of, is_rise}
use Rattle.fs_gluing.specs.FirstFault.{PolygonTest, three_sides, polygon_closes, turning_number_one, PassesIn, position_tests, corner_tests, polygon_tests}
use Rattle.fs_gluing.specs.TestsInOrder.{PassesBefore, IsFirstStop}
use Rattle.fs_gluing.proofs.Base.TestsInOrder.{passes_before_more, all_from_passes_before, first_stop_of_rest, first_stop_of_head, first_stop_of_prefix}
use Rattle.fs_gluing.proofs.Polygon.Boundary.{closing_tests, polygon_stop}

module _ (straight : Bool) (d i : ℕ) (sides : List PlaneVector) where
  -- the tests after the one that the polygon closes
  abbrev later : List PolygonTest
  later = corner_tests 0 (corners_of sides) ++ turning_number_one ∷ []

  -- e is the stop of the first of these tests that fails
  abbrev Stops : List PolygonTest → BuildStop → Type 0
  Stops tests e = IsFirstStop (PassesIn straight d sides) tests (polygon_stop i sides) e

  positions_then : position_tests (length sides) ++ polygon_closes ∷ later ≡ closing_tests sides ++ later
  positions_then = sym (append_assoc (position_tests (length sides)) (polygon_closes ∷ []) later)

  -- fewer than three sides give `FewSides`
  pub few_sides : length sides < 3 → Stops (polygon_tests sides) (stops.Fault (faults.FewSides i))
  few_sides few = first_stop_of_head (PassesIn straight d sides) three_sides _ (polygon_stop i sides) _ refl (λ three. absurd (omega arith))

  three_then : 3 ≤ length sides → PassesBefore (PassesIn straight d sides) (polygon_tests sides) (closing_tests sides ++ later)
  three_then three = record { before = three_sides ∷ []; whole = ap (λ (ts : List PolygonTest). three_sides ∷ ts) positions_then; passed = (three, tt) }

  -- the positions fail, or the polygon is not closed
  pub positions_fail : 3 ≤ length sides → (e : BuildStop) → Stops (closing_tests sides) e → Stops (polygon_tests sides) e
  positions_fail three e a = first_stop_of_rest _ _ _ _ _ (three_then three) (first_stop_of_prefix _ _ _ _ _ a)

  positions_pass_then : 3 ≤ length sides → AllByRecursion (PassesIn straight d sides) (closing_tests sides) → PassesBefore (PassesIn straight d sides) (polygon_tests sides) later
  positions_pass_then three positioned = passes_before_more _ _ (closing_tests sides) _ (three_then three) positioned

  -- a corner fails
  pub corners_fail : 3 ≤ length sides → AllByRecursion (PassesIn straight d sides) (closing_tests sides) → (e : BuildStop) → Stops (corner_tests 0 (corners_of sides)) e → Stops (polygon_tests sides) e
  corners_fail three positioned e a = first_stop_of_rest _ _ _ _ _ (positions_pass_then three positioned) (first_stop_of_prefix _ _ _ _ _ a)

  convex_then : 3 ≤ length sides → AllByRecursion (PassesIn straight d sides) (closing_tests sides) → AllByRecursion (PassesIn straight d sides) (corner_tests 0 (corners_of sides))
      → PassesBefore (PassesIn straight d sides) (polygon_tests sides) (turning_number_one ∷ [])
  convex_then three positioned convex = passes_before_more _ _ (corner_tests 0 (corners_of sides)) _ (positions_pass_then three positioned) convex

  -- another number of rises than 1 gives `TurnsTwice`
  pub turning_number_fails : 3 ≤ length sides → AllByRecursion (PassesIn straight d sides) (closing_tests sides) → AllByRecursion (PassesIn straight d sides) (corner_tests 0 (corners_of sides))
      → count_by (is_rise d) (corners_of sides) ≢ 1 → Stops (polygon_tests sides) (stops.Fault (faults.TurnsTwice i))
  turning_number_fails three positioned convex other = first_stop_of_rest _ _ _ _ _ (convex_then three positioned convex) (first_stop_of_head (PassesIn straight d sides) turning_number_one [] (polygon_stop i sides) _ refl other)

  -- the polygon passes all tests
  pub polygon_passes : 3 ≤ length sides → AllByRecursion (PassesIn straight d sides) (closing_tests sides) → AllByRecursion (PassesIn straight d sides) (corner_tests 0 (corners_of sides))
      → count_by (is_rise d) (corners_of sides) ≡ 1 → AllByRecursion (PassesIn straight d sides) (polygon_tests sides)
  polygon_passes three positioned convex turning = all_from_passes_before _ _ (passes_before_more _ _ (turning_number_one ∷ []) [] (convex_then three positioned convex) (turning, tt))
