-- First returns of the crossing map to an interval of positions.
use Rattle.std.specs.Prelude.{ℕ, ◌<◌}
use Rattle.fs_ring.specs.OrderedRing.{IsAtMost}
use Rattle.fs_quadratic.specs.Ring.{Quadratic, quadratic, IsPositive, IsLess}
use Rattle.fs_plane.specs.Vector.{PlaneVector}
use Rattle.fs_gluing.specs.CrossingMap.{Orbit}
use Rattle.fs_gluing.specs.Surface.{GluedPolygons}

-- y is from l on, and below r
pub record IsBetween (d : ℕ) (l r y : Quadratic) : Type 0 where
  pub from_left : IsAtMost (quadratic d) (IsPositive d) l y
  pub before_right : IsLess d y r

-- after m crossings the flow is back between l and r for the first time, from y at z, and the gluing vectors sum to h
pub record IsFirstReturn (s : GluedPolygons) (v : PlaneVector) (l r : Quadratic) (m : ℕ) (y z : Quadratic) (h : PlaneVector) : Type 0 where
  pub some : 0 < m
  pub orbit : Orbit s v m y z h
  pub returned : IsBetween s.d l r z
  pub not_before : (i : ℕ) (u : Quadratic) (g : PlaneVector) → 0 < i → i < m → Orbit s v i y u g → ¬ IsBetween s.d l r u
