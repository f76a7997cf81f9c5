-- One denominator for all coordinates of a shape.
use Rattle.std.specs.Prelude.{ℕ, ℤ, pos, ◌+◌, ◌*◌, ◌/◌, ◌*ℤ◌, List, [], ◌∷◌, ◌++◌, map}
use Rattle.std.specs.Int.{◌∣◌}
use Rattle.std.specs.List.{AllByRecursion}
use Rattle.fs_quadratic.specs.Width.{InWidth}
use Rattle.fs_fraction.specs.Divisor.{gcd}
use Rattle.fs_fraction.specs.Fraction.{scale}
use Rattle.fs_plane.specs.Vector.{PlaneVector}
use Rattle.fs_gluing.specs.declared.shapes.Point.{Point}

-- a side of a shape: its polygon, its number there, and its unscaled vector
pub record NumberedSide : Type 0 where
  pub polygon : ℕ
  pub side : ℕ
  pub vector : Point

-- the sides of polygon i from side j on
abbrev pub numbered_sides : ℕ → ℕ → List Point → List NumberedSide
numbered_sides i j [] = []
numbered_sides i j (point ∷ points) = record { polygon = i; side = j; vector = point } ∷ numbered_sides i (j + 1) points

-- the sides of the polygons, the first of which has the number i
abbrev pub numbered_from : ℕ → List (List Point) → List NumberedSide
numbered_from i [] = []
numbered_from i (polygon ∷ polygons) = numbered_sides i 0 polygon ++ numbered_from (i + 1) polygons

-- all sides in order
abbrev pub all_numbered : List (List Point) → List NumberedSide
all_numbered polygons = numbered_from 0 polygons

-- the least common multiple: the product over the greatest common divisor
abbrev pub common_multiple : ℕ → ℕ → ℕ
common_multiple m n = m * (n / gcd m n)

-- the least common multiple of m and of the denominators of these sides, x before y
abbrev pub common_from : ℕ → List NumberedSide → ℕ
common_from m [] = m
common_from m (s ∷ sides) = common_from (common_multiple (common_multiple m s.vector.x.den) s.vector.y.den) sides

-- the common denominator of a shape's polygons
abbrev pub common_den : List (List Point) → ℕ
common_den polygons = common_from 1 (all_numbered polygons)

-- the denominators of both coordinates divide n
abbrev pub IsMultipleOf : ℕ → Point → Type 0
IsMultipleOf n point = (point.x.den ∣ n) × (point.y.den ∣ n)

-- the denominator of each coordinate divides n
abbrev pub IsCommonMultiple : List (List Point) → ℕ → Type 0
IsCommonMultiple polygons n = AllByRecursion (AllByRecursion (IsMultipleOf n)) polygons

-- n is a common multiple of the denominators, and divides each one
pub record IsLeastCommonMultiple (polygons : List (List Point)) (n : ℕ) : Type 0 where
  pub multiple : IsCommonMultiple polygons n
  pub least : (k : ℕ) → IsCommonMultiple polygons k → n ∣ k

-- a vector times a multiple of its denominators
abbrev pub scaled_vector : ℕ → Point → PlaneVector
scaled_vector den point = record { x = scale (den / point.x.den) point.x.num; y = scale (den / point.y.den) point.y.num }

-- the polygons times their common denominator
abbrev pub scaled : List (List Point) → List (List PlaneVector)
scaled polygons = map (map (scaled_vector (common_den polygons))) polygons

-- what is tested while a shape is scaled, for side j of polygon i
pub data ScaleTest : Type 0 where
  -- the common multiple of m and the denominator n of x (place 1) or y (place 2) is within the width
  common_fits : (i j p m n : ℕ) → ScaleTest
  -- k times the part z is within the width: a part of x (places 3 and 4) or y (places 5 and 6)
  part_fits : (i j p k : ℕ) → (z : ℤ) → ScaleTest

-- the numbers pass the test
abbrev pub PassesScale : ScaleTest → Type 0
PassesScale (common_fits i j p m n) = InWidth (pos (common_multiple m n))
PassesScale (part_fits i j p k z) = InWidth (pos k *ℤ z)

-- the tests of the denominators, in order, after the multiple m of those before
abbrev pub common_tests : ℕ → List NumberedSide → List ScaleTest
common_tests m [] = []
common_tests m (s ∷ sides) =
    common_fits s.polygon s.side 1 m s.vector.x.den
    ∷ common_fits s.polygon s.side 2 (common_multiple m s.vector.x.den) s.vector.y.den
    ∷ common_tests (common_multiple (common_multiple m s.vector.x.den) s.vector.y.den) sides

-- the tests of the parts, in order, each times den over its denominator
abbrev pub part_tests : ℕ → List NumberedSide → List ScaleTest
part_tests den [] = []
part_tests den (s ∷ sides) =
    part_fits s.polygon s.side 3 (den / s.vector.x.den) s.vector.x.num.p
    ∷ part_fits s.polygon s.side 4 (den / s.vector.x.den) s.vector.x.num.q
    ∷ part_fits s.polygon s.side 5 (den / s.vector.y.den) s.vector.y.num.p
    ∷ part_fits s.polygon s.side 6 (den / s.vector.y.den) s.vector.y.num.q
    ∷ part_tests den sides

-- the tests of scaling, in order: first all denominators, then all parts
abbrev pub scale_tests : List (List Point) → List ScaleTest
scale_tests polygons = common_tests 1 (all_numbered polygons) ++ part_tests (common_den polygons) (all_numbered polygons)
