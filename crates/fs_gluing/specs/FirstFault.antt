-- What is tested of a shape, in which order, and which fault or overflow a failed test gives.
use Rattle.std.specs.Prelude.{◌≡◌, ◌≢◌, ℕ, Bool, ◌+◌, ◌≤◌, ◌⊎◌, List, [], ◌∷◌, ◌++◌, Option, Some, None, Result, Ok, Err, length, map, Contains}
use Rattle.std.specs.List.{AllByRecursion, flat_map, range_with_len}
use Rattle.fs_lists.specs.First.{IsFirstWithout}
use Rattle.fs_quadratic.specs.Width.{Fits}
use Rattle.fs_plane.specs.declared.corners.Corner.{Corner}
use Rattle.fs_plane.specs.declared.sites.Site.TheVariants as sites
use Rattle.fs_plane.specs.Vector.{vector_neg, IsAllowedCorner, PlaneVector}
use Rattle.fs_quadratic.specs.Checked.{place}
use Rattle.fs_plane.specs.Formulas.{is_convex_after}
use Rattle.fs_gluing.specs.declared.shapes.Glue.{Glue}
use Rattle.fs_gluing.specs.declared.shapes.Shape.{Shape}
use Rattle.fs_gluing.specs.declared.faults.Fault.TheVariants as faults
use Rattle.fs_gluing.specs.declared.faults.BuildStop.{BuildStop}
use Rattle.fs_gluing.specs.declared.faults.BuildStop.TheVariants as stops
use Rattle.fs_gluing.specs.Convex.{CornerSides, IsClosed, HasTurningNumberOne, corners_of, corner_position}
use Rattle.fs_gluing.specs.Gluing.{IsPairOf}
use Rattle.fs_gluing.specs.Polygons.{HasSide, at_side, all_sides}
use Rattle.fs_gluing.specs.Reached.{IsReached}
use Rattle.fs_gluing.specs.Scaling.{ScaleTest, common_fits, part_fits, PassesScale, scale_tests}
use Rattle.fs_gluing.specs.Shape.{glued_sides, polygons_of, HasShape}
use Rattle.fs_gluing.specs.Surface.{GluedPolygons, IsSurface}

-- ---- one polygon

-- what is tested of a polygon
pub data PolygonTest : Type 0 where
  -- it has three sides or more
  three_sides : PolygonTest
  -- the position of corner j plus side j is within the width, in x and in y
  x_fits : (j : ℕ) → PolygonTest
  y_fits : (j : ℕ) → PolygonTest
  -- it closes
  polygon_closes : PolygonTest
  -- at corner j the test of the two sides doesn't overflow at place p
  corner_fits : (j : ℕ) → CornerSides → (p : ℕ) → PolygonTest
  -- corner j is strictly convex, or also straight, where straight corners are allowed
  corner_convex : (j : ℕ) → CornerSides → PolygonTest
  -- its turning number is 1
  turning_number_one : PolygonTest

-- the polygon passes the test, by whether straight corners are allowed
abbrev pub PassesIn : Bool → ℕ → List PlaneVector → PolygonTest → Type 0
PassesIn straight d polygon three_sides = 3 ≤ length polygon
PassesIn straight d polygon (x_fits j) = Fits (corner_position polygon (j + 1)).x
PassesIn straight d polygon (y_fits j) = Fits (corner_position polygon (j + 1)).y
PassesIn straight d polygon polygon_closes = IsClosed polygon
PassesIn straight d polygon (corner_fits j corner p) = is_convex_after 0 straight d corner.before corner.after ≢ Err (place p)
PassesIn straight d polygon (corner_convex j corner) = IsAllowedCorner straight d corner.before corner.after
PassesIn straight d polygon turning_number_one = HasTurningNumberOne d polygon

-- the tests of the positions at the ends of n sides
abbrev pub position_tests : ℕ → List PolygonTest
position_tests n = flat_map (λ j. x_fits j ∷ y_fits j ∷ []) (range_with_len 0 n)

-- the tests of these corners, the first of which has the number j: places 1 to 3 are the cross product of the two sides, places 4 to 6 their dot product
abbrev pub corner_tests : ℕ → List CornerSides → List PolygonTest
corner_tests j [] = []
corner_tests j (corner ∷ rest) =
    corner_fits j corner 1 ∷ corner_fits j corner 2 ∷ corner_fits j corner 3 ∷ corner_fits j corner 4 ∷ corner_fits j corner 5 ∷ corner_fits j corner 6
    ∷ corner_convex j corner ∷ corner_tests (j + 1) rest

-- the tests of a polygon, in order
abbrev pub polygon_tests : List PlaneVector → List PolygonTest
polygon_tests polygon = three_sides ∷ (position_tests (length polygon) ++ polygon_closes ∷ (corner_tests 0 (corners_of polygon) ++ turning_number_one ∷ []))

-- ---- one glue line

-- what is tested of a glue line
pub data LineTest : Type 0 where
  -- both of its sides exist
  sides_exist : Glue → LineTest
  -- they differ, and neither is on an earlier line
  glued_once : (earlier : List Glue) → Glue → LineTest
  -- they are opposite
  sides_opposite : Glue → LineTest

-- both vectors exist, and the second is the opposite of the first
abbrev pub AreOpposite : Option PlaneVector → Option PlaneVector → Type 0
AreOpposite (Some a) (Some b) = b ≡ vector_neg a
AreOpposite (Some a) None = ⊥
AreOpposite None b = ⊥

-- the glue line passes the test
abbrev pub PassesLine : List (List PlaneVector) → LineTest → Type 0
PassesLine polygons (sides_exist g) = HasSide polygons g.one × HasSide polygons g.two
PassesLine polygons (glued_once earlier g) = (g.one ≢ g.two) × (¬ Contains (glued_sides earlier) g.one) × (¬ Contains (glued_sides earlier) g.two)
PassesLine polygons (sides_opposite g) = AreOpposite (at_side polygons g.one) (at_side polygons g.two)

-- the tests of glue lines that come after others, in order
abbrev pub line_tests : List Glue → List Glue → List LineTest
line_tests earlier [] = []
line_tests earlier (g ∷ glues) = sides_exist g ∷ glued_once earlier g ∷ sides_opposite g ∷ line_tests (earlier ++ g ∷ []) glues

-- ---- the whole shape

-- what is tested of a shape
pub data Test : Type 0 where
  -- while it is scaled
  of_scaling : ScaleTest → Test
  -- of polygon i, which has these sides
  of_polygon : (i : ℕ) → (polygon : List PlaneVector) → PolygonTest → Test
  -- of a glue line
  of_line : LineTest → Test
  -- the side is on a glue line
  side_glued : Corner → Test
  -- polygon i is reached from polygon 0 through glued sides
  polygon_reached : (i : ℕ) → Test

-- some line glues a side of polygon i to one of polygon j
pub record Joins (glues : List Glue) (i j : ℕ) : Type 0 where
  pub one : Corner
  pub two : Corner
  pub pair : IsPairOf glues one two
  pub from : one.polygon ≡ i
  pub to : two.polygon ≡ j

-- a scaled shape passes the test, by whether straight corners are allowed
abbrev pub Passes : Bool → ℕ → List (List PlaneVector) → List Glue → Test → Type 0
Passes straight d polygons glues (of_scaling test) = PassesScale test
Passes straight d polygons glues (of_polygon i polygon test) = PassesIn straight d polygon test
Passes straight d polygons glues (of_line test) = PassesLine polygons test
Passes straight d polygons glues (side_glued c) = Contains (glued_sides glues) c
Passes straight d polygons glues (polygon_reached i) = IsReached (Joins glues) i

-- the tests of polygons, the first of which has the number i
abbrev pub tests_from : ℕ → List (List PlaneVector) → List Test
tests_from i [] = []
tests_from i (polygon ∷ polygons) = map (of_polygon i polygon) (polygon_tests polygon) ++ tests_from (i + 1) polygons

-- the tests of a scaled shape, in order: the polygons, the glue lines, the sides, and the polygons once more
abbrev pub tests : List (List PlaneVector) → List Glue → List Test
tests polygons glues =
    tests_from 0 polygons
    ++ (map of_line (line_tests [] glues)
    ++ (map side_glued (all_sides polygons)
    ++ map polygon_reached (range_with_len 0 (length polygons))))

-- the fault or overflow that a failed test gives
abbrev pub stop_of : Test → BuildStop
stop_of (of_scaling (common_fits i j p m n)) = stops.Overflow (sites.Scale i j p)
stop_of (of_scaling (part_fits i j p k z)) = stops.Overflow (sites.Scale i j p)
stop_of (of_polygon i polygon three_sides) = stops.Fault (faults.FewSides i)
stop_of (of_polygon i polygon (x_fits j)) = stops.Overflow (sites.Close i j 1)
stop_of (of_polygon i polygon (y_fits j)) = stops.Overflow (sites.Close i j 2)
stop_of (of_polygon i polygon polygon_closes) = stops.Fault (faults.NotClosed i)
stop_of (of_polygon i polygon (corner_fits j corner p)) = stops.Overflow (sites.Corner i j p)
stop_of (of_polygon i polygon (corner_convex j corner)) = stops.Fault (faults.NotConvex (record { polygon = i; side = j }))
stop_of (of_polygon i polygon turning_number_one) = stops.Fault (faults.TurnsTwice i)
stop_of (of_line (sides_exist g)) = stops.Fault (faults.NoSuchSide g.line)
stop_of (of_line (glued_once earlier g)) = stops.Fault (faults.GluedTwice g.line)
stop_of (of_line (sides_opposite g)) = stops.Fault (faults.NotOpposite g.line)
stop_of (side_glued c) = stops.Fault (faults.Unglued c)
stop_of (polygon_reached i) = stops.Fault (faults.Apart i)

-- the shape passes a test of its polygons and glue lines
abbrev pub PassesOf : ℕ → Shape → Test → Type 0
PassesOf d shape = Passes shape.straight d (polygons_of shape) shape.glues

-- the tests of a shape, in order: scaling comes first
abbrev pub tests_of : Shape → List Test
tests_of shape = map of_scaling (scale_tests shape.polygons) ++ tests (polygons_of shape) shape.glues

-- the first test in the order that the shape fails
abbrev pub IsFirstFailure : ℕ → Shape → Test → Type 0
IsFirstFailure d shape test = IsFirstWithout (PassesOf d shape) (tests_of shape) test

-- the result of building a shape: a surface exactly where all tests pass, else what the first failed test gives; out of memory at any time
abbrev pub IsBuildResult : ℕ → Shape → Result GluedPolygons BuildStop → Type 0
IsBuildResult d shape (Ok s) = IsSurface s × HasShape d shape s × AllByRecursion (PassesOf d shape) (tests_of shape)
IsBuildResult d shape (Err e) = (e ≡ stops.NoMemory) ⊎ ((test : Test) × IsFirstFailure d shape test × (e ≡ stop_of test))
