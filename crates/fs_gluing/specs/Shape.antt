-- Shapes: what a surface is built from.
use Rattle.std.specs.Prelude.{◌≡◌, ℕ, pos, ◌<◌, ◌≤◌, List, ◌∷◌, [], Some, length, map, sum_by, unsigned_abs}
use Rattle.std.specs.List.{AllByRecursion, flat_map}
use Rattle.fs_fraction.specs.Fraction.{HasValue}
use Rattle.fs_plane.specs.Vector.{PlaneVector}
use Rattle.fs_plane.specs.declared.corners.Corner.{Corner}
use Rattle.fs_gluing.specs.Limits.{most_polygons, most_sides}
use Rattle.fs_gluing.specs.declared.shapes.Glue.{Glue}
use Rattle.fs_gluing.specs.declared.shapes.Point.{Point}
use Rattle.fs_gluing.specs.declared.shapes.Shape.{Shape}
use Rattle.fs_gluing.specs.declared.surfaces.Side.{Side}
use Rattle.fs_gluing.specs.Polygons.{at_side}
use Rattle.fs_gluing.specs.Scaling.{scaled, common_den, IsLeastCommonMultiple}
use Rattle.fs_gluing.specs.Surface.{GluedPolygons, side_vectors}

-- the vectors of a shape's polygons, times their common denominator
abbrev pub polygons_of : Shape → List (List PlaneVector)
polygons_of shape = scaled shape.polygons

-- the sides on the glue lines, in order
abbrev pub glued_sides : List Glue → List Corner
glued_sides glues = flat_map (λ g. g.one ∷ g.two ∷ []) glues

-- there are 1 to 256 polygons, and at most 1,024 sides
pub record IsWithinLimits (shape : Shape) : Type 0 where
  pub some_polygon : 0 < length shape.polygons
  pub polygons : length shape.polygons ≤ most_polygons
  pub sides : sum_by length shape.polygons ≤ most_sides

-- the two sides are glued to each other
pub record AreGlued (polygons : List (List Side)) (one two : Corner) : Type 0 where
  pub forth : (side : Side) × (at_side polygons one ≡ Some side) × (side.partner ≡ two)
  pub back : (side : Side) × (at_side polygons two ≡ Some side) × (side.partner ≡ one)

-- the vector over den is the unscaled one
abbrev pub IsScaledVector : ℕ → Point → PlaneVector → Type 0
IsScaledVector den point vector = HasValue point.x vector.x den × HasValue point.y vector.y den

-- the surface has the shape's mark of straight corners and its polygons, times the common denominator, which is the least common multiple of the denominators, and the sides on each glue line are glued
pub record HasShape (d : ℕ) (shape : Shape) (s : GluedPolygons) : Type 0 where
  pub field : s.d ≡ d
  pub straight : s.straight ≡ shape.straight
  pub denominator : s.den ≡ pos (common_den shape.polygons)
  pub least : IsLeastCommonMultiple shape.polygons (unsigned_abs s.den)
  pub same_vectors : map side_vectors s.polygons ≡ polygons_of shape
  pub each_scaled : (c : Corner) (point : Point) (side : Side) → at_side shape.polygons c ≡ Some point → at_side s.polygons c ≡ Some side
      → IsScaledVector (unsigned_abs s.den) point side.vector
  pub as_the_lines : AllByRecursion (λ g. AreGlued s.polygons g.one g.two) shape.glues
