-- The tests of the polygons of a shape, polygon by polygon, and shapes within the limits.
use Rattle.std.proofs.Common.{◌≡◌, ◌≤◌, ◌+◌, ℕ, Bool, List, [], ◌∷◌, ◌++◌, length, drop, map, sum_by, sym, ap, ◌∙◌, subst, arith, append_assoc}
use Rattle.std.proofs.lemmas.List.{drop_all, length-map, append-nil}
use Rattle.std.specs.List.{AllByRecursion}
use Rattle.fs_lists.proofs.Sums.{lengths-map, each_length}
use Rattle.fs_lists.proofs.All.{All-map}
use Rattle.fs_lists.proofs.Items.{IsItem, drop_item}
use Rattle.fs_plane.specs.Vector.{vector_zero, PlaneVector}
use Rattle.fs_gluing.specs.Limits.{most_sides}
use Rattle.fs_gluing.specs.declared.shapes.Glue.{Glue}
use Rattle.fs_gluing.specs.declared.shapes.Shape.{Shape}
use Rattle.fs_gluing.specs.declared.faults.BuildStop.{BuildStop}
use Rattle.fs_gluing.specs.Positions.{positions_from, all_positions}
use Rattle.fs_gluing.specs.Scaling.{common_den, scaled_vector}
use Rattle.fs_gluing.specs.Shape.{polygons_of, IsWithinLimits}
use Rattle.fs_gluing.specs.FirstFault.{PassesIn, polygon_tests, of_polygon, Passes, stop_of, tests_from}
use Rattle.fs_gluing.specs.TestsInOrder.{PassesBefore, IsFirstStop}
use Rattle.fs_gluing.proofs.Base.TestsInOrder.{passes_before_more, passes_before_same, all_from_passes_before, first_stop_of_rest, first_stop_of_prefix, first_stop_of_map}
use Rattle.fs_gluing.proofs.Polygon.Boundary.{polygon_stop}

-- the first i polygons pass, and these are the positions of their corners
pub record PassesPolygonsUpTo (straight : Bool) (d : ℕ) (polygons : List (List PlaneVector)) (i : ℕ) (positions : List (List PlaneVector)) : Type 0 where
  pub passed : (glues : List Glue) → PassesBefore (Passes straight d polygons glues) (tests_from 0 polygons) (tests_from i (drop i polygons))
  pub positions_are : positions ++ all_positions (drop i polygons) ≡ all_positions polygons

-- one more polygon passes
pub passed_more : (straight : Bool) (d : ℕ) (polygons : List (List PlaneVector)) (i : ℕ) (polygon : List PlaneVector) (positions positions' : List (List PlaneVector)) (own : List PlaneVector) → IsItem polygons i polygon → PassesPolygonsUpTo straight d polygons i positions
    → AllByRecursion (PassesIn straight d polygon) (polygon_tests polygon) → own ≡ positions_from vector_zero polygon → positions' ≡ positions ++ own ∷ [] → PassesPolygonsUpTo straight d polygons (i + 1) positions'
passed_more straight d polygons i polygon positions positions' own item p a is more =
    let next = drop_item polygons i polygon item in
    record {
      passed = λ glues. passes_before_more _ _ (map (of_polygon i polygon) (polygon_tests polygon)) _ (passes_before_same _ _ _ _ (ap (tests_from i) next) (p.passed glues))
          (All-map (of_polygon i polygon) (Passes straight d polygons glues) (polygon_tests polygon) a);
      positions_are = ap (λ (ps : List (List PlaneVector)). ps ++ all_positions (drop (i + 1) polygons)) more
          ∙ append_assoc positions (own ∷ []) (all_positions (drop (i + 1) polygons))
          ∙ ap (λ (ps : List PlaneVector). positions ++ (ps ∷ all_positions (drop (i + 1) polygons))) is
          ∙ ap (λ (ps : List (List PlaneVector)). positions ++ all_positions ps) (sym next)
          ∙ p.positions_are;
    }

-- the next polygon fails, and its stop is the first of all polygons
pub passed_fails : (straight : Bool) (d : ℕ) (polygons : List (List PlaneVector)) (i : ℕ) (polygon : List PlaneVector) (positions : List (List PlaneVector)) (e : BuildStop) → IsItem polygons i polygon → PassesPolygonsUpTo straight d polygons i positions
    → IsFirstStop (PassesIn straight d polygon) (polygon_tests polygon) (polygon_stop i polygon) e → (glues : List Glue) → IsFirstStop (Passes straight d polygons glues) (tests_from 0 polygons) stop_of e
passed_fails straight d polygons i polygon positions e item p a glues =
    first_stop_of_rest _ _ _ _ _ (passes_before_same _ _ _ _ (ap (tests_from i) (drop_item polygons i polygon item)) (p.passed glues))
    (first_stop_of_prefix _ _ _ _ _ (first_stop_of_map (of_polygon i polygon) (Passes straight d polygons glues) (polygon_tests polygon) stop_of e a))

-- all polygons pass, and the list has the positions of all
pub passed_all : (straight : Bool) (d : ℕ) (polygons : List (List PlaneVector)) (n : ℕ) (positions : List (List PlaneVector)) → n ≡ length polygons → PassesPolygonsUpTo straight d polygons n positions
    → ((glues : List Glue) → AllByRecursion (Passes straight d polygons glues) (tests_from 0 polygons)) × (positions ≡ all_positions polygons)
passed_all straight d polygons n positions e p = (
  (λ glues. all_from_passes_before _ _ (passes_before_same _ _ _ _ (ap (tests_from n) (drop_all n polygons (omega (arith, e)))) (p.passed glues))),
  sym (append-nil positions) ∙ ap (λ (ps : List (List PlaneVector)). positions ++ all_positions ps) (sym (drop_all n polygons (omega (arith, e)))) ∙ p.positions_are,
)

-- ---- a shape within the limits

-- scaling keeps the number of polygons
pub shape_count : (shape : Shape) → length (polygons_of shape) ≡ length shape.polygons
shape_count shape = length-map shape.polygons (map (scaled_vector (common_den shape.polygons)))

-- scaling keeps the number of sides
pub shape_sides : (shape : Shape) → sum_by length (polygons_of shape) ≡ sum_by length shape.polygons
shape_sides shape = lengths-map (scaled_vector (common_den shape.polygons)) shape.polygons

-- the scaled polygons of a shape have at most 1,024 sides
pub short_polygons : (shape : Shape) → IsWithinLimits shape → AllByRecursion (λ polygon. length polygon ≤ most_sides) (polygons_of shape)
short_polygons shape h = each_length (polygons_of shape) most_sides (subst (λ n. n ≤ most_sides) (sym (shape_sides shape)) h.sides)

-- the polygons of a shape before scaling have at most 1,024 sides
pub short_rows : (shape : Shape) → IsWithinLimits shape → AllByRecursion (λ polygon. length polygon ≤ most_sides) shape.polygons
short_rows shape h = each_length shape.polygons most_sides h.sides
