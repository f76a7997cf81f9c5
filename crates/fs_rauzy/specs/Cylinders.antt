-- Cylinders: bands of closed leaves of a flow, with a vertex on either side.
use Rattle.std.specs.Prelude.{ℕ, ◌+◌, ◌<◌, ◌≡◌, length}
use Rattle.fs_ring.specs.Direction.{IsAlong}
use Rattle.fs_ring.specs.OrderedRing.{IsAtMost}
use Rattle.fs_quadratic.specs.Ring.{Quadratic, quadratic, IsPositive, zero, add}
use Rattle.fs_plane.specs.declared.corners.Corner.{Corner}
use Rattle.fs_plane.specs.Vector.{PlaneVector}
use Rattle.fs_gluing.specs.CrossingMap.{block_start, measure, Orbit}
use Rattle.fs_gluing.specs.Polygons.{HasSide}
use Rattle.fs_gluing.specs.Surface.{GluedPolygons}
use Rattle.fs_iet.specs.FirstReturns.{IsBetween}

module _ (s : GluedPolygons) (v : PlaneVector) where
  -- within m crossings from x the flow enters a polygon at a position y such that a corner of that polygon is as far to the right of y
  pub record MeetsCorner (m : ℕ) (x right : Quadratic) : Type 0 where
    pub n : ℕ
    pub before : n < m
    pub y : Quadratic
    pub h : PlaneVector
    pub orbit : Orbit s v n x y h
    pub corner : Corner
    pub there : HasSide s.polygons corner
    pub same_polygon : IsBetween s.d (block_start s v corner.polygon) (block_start s v (corner.polygon + 1)) y
    pub at : measure s v corner ≡ add y right

  -- the positions from x on, as many as the width is long, come back to themselves after m crossings and not before, by the vector h, which is along the direction; and a corner is on the left side of the band, and one on its right side
  pub record IsCylinder (x width : Quadratic) (m : ℕ) (h : PlaneVector) : Type 0 where
    pub some : 0 < m
    pub wide : IsPositive s.d width
    pub from_zero : IsAtMost (quadratic s.d) (IsPositive s.d) zero x
    pub to_total : IsAtMost (quadratic s.d) (IsPositive s.d) (add x width) (block_start s v (length s.polygons))
    pub closes : (y : Quadratic) → IsBetween s.d x (add x width) y → Orbit s v m y y h
    pub not_before : (y : Quadratic) (i : ℕ) (g : PlaneVector) → IsBetween s.d x (add x width) y → 0 < i → i < m → ¬ Orbit s v i y y g
    pub along : IsAlong (quadratic s.d) (IsPositive s.d) v h
    pub left : MeetsCorner m x zero
    pub right : MeetsCorner m x width
