-- The corners of a surface at which the half-edges of a triangulation begin, and how the corner of a vector is found.
use Rattle.std.specs.Prelude.{◌≡◌, ℕ, ◌+◌, ◌*◌, ◌<◌, Bool, true, false, Result, Ok, Err, List, length, slice_index_or}
use Rattle.fs_quadratic.specs.Ring.{quadratic, IsPositive}
use Rattle.fs_quadratic.specs.declared.steps.Place.{Place}
use Rattle.fs_plane.specs.declared.corners.Corner.{Corner}
use Rattle.fs_plane.specs.Formulas.{in_sector_after}
use Rattle.fs_plane.specs.Vector.{PlaneVector}
use Rattle.fs_paths.specs.NextCorners as corners
use Rattle.fs_paths.specs.SideGluing.{InSectorOf}
use Rattle.fs_gluing.specs.NextCorner.{side_before}
use Rattle.fs_gluing.specs.Polygons.{HasSide}
use Rattle.fs_gluing.specs.Surface.{GluedPolygons}
use Rattle.fs_gluing.specs.SurfaceSides.{polygon_sides, vector_of}
use Rattle.fs_gluing.specs.Triangulation.{Triangulation, edge_vector}

-- ---- homes

-- the home of half-edge h, or 0.0 where there is none
abbrev pub home_of : List Corner → ℕ → Corner
home_of homes h = slice_index_or homes h (record { polygon = 0; side = 0 })

-- v is in the sector of the corner c of a surface
abbrev pub IsInCorner : GluedPolygons → Corner → PlaneVector → Type 0
IsInCorner s c v = InSectorOf (quadratic s.d) (IsPositive s.d) (polygon_sides s.polygons) c v

-- each half-edge has a home: a corner of the surface, in whose sector its vector is
pub record HasHomes (s : GluedPolygons) (t : Triangulation) (homes : List Corner) : Type 0 where
  pub as_many : length homes ≡ length t.vectors
  pub corner : (h : ℕ) → h < length t.vectors → HasSide s.polygons (home_of homes h)
  pub holds : (h : ℕ) → h < length t.vectors → IsInCorner s (home_of homes h) (edge_vector t h)

-- ---- the search for the corner of a vector

-- the n-th corner after c, counterclockwise round its vertex
abbrev pub nth_corner : GluedPolygons → Corner → ℕ → Corner
nth_corner s c n = corners.nth_corner (polygon_sides s.polygons) c n

-- e is the first corner of the surface whose sector holds v, from the corner c on, counterclockwise round its vertex
abbrev pub IsFirstCorner : GluedPolygons → Corner → PlaneVector → Corner → Type 0
IsFirstCorner s c v e = corners.IsFirstCorner (quadratic s.d) (IsPositive s.d) (polygon_sides s.polygons) c v e

-- whether v is in the sector of the corner c, by its formula
abbrev pub corner_test_after : ℕ → GluedPolygons → Corner → PlaneVector → Result Bool Place
corner_test_after before s c v = in_sector_after before s.d (vector_of s.polygons c) (vector_of s.polygons (side_before s.polygons c)) v

-- from the corner c on, corner after corner is tested up to the first whose sector holds v, or up to the first whose test overflows; the places of test number t follow `before` and t strides
pub data FindsCorner (s : GluedPolygons) (c : Corner) (v : PlaneVector) (before stride : ℕ) : Result Corner Place → Type 0 where
  found : (t : ℕ) → ((n : ℕ) → n < t → corner_test_after (before + stride * n) s (nth_corner s c n) v ≡ Ok false)
      → corner_test_after (before + stride * t) s (nth_corner s c t) v ≡ Ok true → FindsCorner s c v before stride (Ok (nth_corner s c t))
  overflows : (t : ℕ) (stop : Place) → ((n : ℕ) → n < t → corner_test_after (before + stride * n) s (nth_corner s c n) v ≡ Ok false)
      → corner_test_after (before + stride * t) s (nth_corner s c t) v ≡ Err stop → FindsCorner s c v before stride (Err stop)
