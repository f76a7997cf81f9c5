-- Vectors that are kept in lists, and their order.
use Rattle.std.specs.Prelude.{ℕ, ℤ, ◌^◌, ◌≤◌, nat_le, Bool, cond, Result, Ok, Err, unsigned_abs}
use Rattle.std.specs.Ordering.{bool_cmp, nat_cmp, ordering_then}
use Rattle.std.specs.declared.cmp.Ordering.{Ordering}
use Rattle.fs_ring.specs.Direction.{IsBefore, IsAlong}
use Rattle.fs_quadratic.specs.Ring.{quadratic, IsPositive, IsLess, sign, compare}
use Rattle.fs_quadratic.specs.Checked.{place}
use Rattle.fs_quadratic.specs.declared.steps.Place.{Place}
use Rattle.fs_plane.specs.declared.corners.Corner.{Corner}
use Rattle.fs_plane.specs.Vector.{PlaneVector, cross, norm, is_upper}

-- ---- which vectors are kept

-- a part of at most 2^57 in size
abbrev pub is_keepable : ℤ → Bool
is_keepable part = nat_le (unsigned_abs part) (2 ^ 57)

-- all four parts are
pub record IsKeepable (v : PlaneVector) : Type 0 where
  pub x_p : unsigned_abs v.x.p ≤ 2 ^ 57
  pub x_q : unsigned_abs v.x.q ≤ 2 ^ 57
  pub y_p : unsigned_abs v.y.p ≤ 2 ^ 57
  pub y_q : unsigned_abs v.y.q ≤ 2 ^ 57

-- the vector, or the place of its first part that isn't
abbrev pub keep : PlaneVector → Result PlaneVector Place
keep v =
    cond (is_keepable v.x.p) (cond (is_keepable v.x.q) (cond (is_keepable v.y.p) (cond (is_keepable v.y.q) (Ok v) (Err (place 4))) (Err (place 3))) (Err (place 2))) (Err (place 1))

-- ---- their order

-- by direction, counterclockwise from (1,0): the upper half is first, and in a half the vector to whose left the other is
abbrev pub direction_cmp : ℕ → PlaneVector → PlaneVector → Ordering
direction_cmp d v w = ordering_then (bool_cmp (is_upper d w) (is_upper d v)) (sign d (cross d w v))

-- by direction, then by length
abbrev pub vector_cmp : ℕ → PlaneVector → PlaneVector → Ordering
vector_cmp d v w = ordering_then (direction_cmp d v w) (compare d (norm d v) (norm d w))

-- by polygon, then by side
abbrev pub corner_cmp : Corner → Corner → Ordering
corner_cmp c e = ordering_then (nat_cmp c.polygon e.polygon) (nat_cmp c.side e.side)

-- what this order of vectors is: the direction of v is before that of w, counterclockwise from (1,0), or they have one direction and v is shorter
pub data IsVectorBefore (d : ℕ) (v w : PlaneVector) : Type 0 where
  by_direction : IsBefore (quadratic d) (IsPositive d) v w → IsVectorBefore d v w
  by_length : IsAlong (quadratic d) (IsPositive d) v w → IsLess d (norm d v) (norm d w) → IsVectorBefore d v w
