-- The triangles into which the polygons of a surface are cut first, by the corners of the polygons.
use Rattle.std.specs.Prelude.{◌≡◌, ℕ, ◌+◌, ◌-◌, cond, eqb, Some, List, [], ◌∷◌, ◌++◌, length, map, slice_index_or}
use Rattle.std.specs.List.{slice_get, flat_map, range_with_len}
use Rattle.fs_ring.specs.Vector.{sub_vector}
use Rattle.fs_quadratic.specs.Ring.{quadratic}
use Rattle.fs_plane.specs.declared.corners.Corner.{Corner}
use Rattle.fs_plane.specs.Vector.{PlaneVector}
use Rattle.fs_gluing.specs.declared.surfaces.Side.{Side}
use Rattle.fs_gluing.specs.declared.triangulations.Triangles.{Triangles}
use Rattle.fs_gluing.specs.declared.triangulations.Way.{Way}
use Rattle.fs_gluing.specs.Convex.{corner_position}
use Rattle.fs_gluing.specs.Surface.{GluedPolygons, side_vectors}
use Rattle.fs_gluing.specs.NextCorner.{corner_after}
use Rattle.fs_gluing.specs.SurfaceSides.{partner}

-- a triangle of three corners of a polygon, counterclockwise
pub record CornerTriangle : Type 0 where
  pub polygon : ℕ
  pub one : ℕ
  pub two : ℕ
  pub three : ℕ

-- its three sides
abbrev pub ways_of : CornerTriangle → List Way
ways_of t = record { polygon = t.polygon; from = t.one; to = t.two } ∷ record { polygon = t.polygon; from = t.two; to = t.three }
    ∷ record { polygon = t.polygon; from = t.three; to = t.one } ∷ []

-- the sides of all triangles, in order
abbrev pub all_ways : List CornerTriangle → List Way
all_ways triangles = flat_map ways_of triangles

-- the corner at which a way begins
abbrev pub way_start : Way → Corner
way_start w = record { polygon = w.polygon; side = w.from }

-- the position of a corner in its polygon
abbrev pub position_in : GluedPolygons → ℕ → ℕ → PlaneVector
position_in s i j = corner_position (side_vectors (slice_index_or s.polygons i [])) j

-- the vector of a way
abbrev pub way_vector : GluedPolygons → Way → PlaneVector
way_vector s w = sub_vector (quadratic s.d) (position_in s w.polygon w.to) (position_in s w.polygon w.from)

-- the way along a side
abbrev pub side_way : List (List Side) → Corner → Way
side_way polygons c = record { polygon = c.polygon; from = c.side; to = (corner_after polygons c).side }

-- the way that is glued to it: a side to its partner, a diagonal to itself, the other way
abbrev pub glued_way : List (List Side) → Way → Way
glued_way polygons w =
    cond (eqb (corner_after polygons (way_start w)).side w.to) (side_way polygons (partner polygons (way_start w))) (record { polygon = w.polygon; from = w.to; to = w.from })

-- the triangles have these corners: with the vectors of their sides, the twin of each side, and the corner at which each begins
pub record IsCutInto (s : GluedPolygons) (corners : List CornerTriangle) (triangles : Triangles) : Type 0 where
  pub faces : triangles.faces ≡ map (λ t. map (way_vector s) (ways_of t)) corners
  pub homes : triangles.homes ≡ map way_start (all_ways corners)
  pub as_many_twins : length triangles.twins ≡ length (all_ways corners)
  pub twins : (h : ℕ) (w : Way) → slice_get (all_ways corners) h ≡ Some w → slice_get (all_ways corners) (slice_index_or triangles.twins h 0) ≡ Some (glued_way s.polygons w)

-- the triangles into which the diagonals from corner 0 cut polygon i of n sides, in order
abbrev pub fan_of : ℕ → ℕ → List CornerTriangle
fan_of i n = map (λ t. record { polygon = i; one = 0; two = t + 1; three = t + 2 }) (range_with_len 0 (n - 2))

-- those of all polygons, of which the first has the number i
abbrev pub fans_from : ℕ → List (List Side) → List CornerTriangle
fans_from i [] = []
fans_from i (polygon ∷ polygons) = fan_of i (length polygon) ++ fans_from (i + 1) polygons

-- the first cut of a surface: each polygon is cut along its diagonals from corner 0
abbrev pub IsFirstCut : GluedPolygons → Triangles → Type 0
IsFirstCut s triangles = IsCutInto s (fans_from 0 s.polygons) triangles
