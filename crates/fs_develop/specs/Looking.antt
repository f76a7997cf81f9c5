-- What a straight path finds at a corner of a polygon through which it runs, as a checked computation.
use Rattle.std.specs.Prelude.{ℕ, ◌+◌, ◌*◌, if◌then◌else◌, Result, Ok}
use Rattle.std.specs.Ordering.{is_lt}
use Rattle.std.specs.declared.cmp.Ordering.{Ordering}
use Rattle.std.specs.declared.cmp.Ordering.TheVariants.{Less, Equal, Greater}
use Rattle.fs_quadratic.specs.Ring.{sign, compare}
use Rattle.fs_quadratic.specs.Checked.{◌>>=◌}
use Rattle.fs_quadratic.specs.declared.steps.Place.{Place}
use Rattle.fs_plane.specs.Vector.{PlaneVector, is_same_vector}
use Rattle.fs_plane.specs.Formulas.{cross_after, dot_after, norm_after, vector_sum_after, vector_difference_after}
use Rattle.fs_develop.specs.declared.looking.Finding.{Finding}
use Rattle.fs_develop.specs.declared.looking.Finding.TheVariants.{RightOfPath, Last}
use Rattle.fs_develop.specs.declared.looking.Departure.TheVariants.{EndsAtCorner, MeetsCorner, EndsBefore, Crosses}

-- the corner is on the line of the path: the path ends there, meets it before its end, or ends before it
unfoldable pub look_at_corner : ℕ → PlaneVector → PlaneVector → Result Finding Place
look_at_corner d v corner = if is_same_vector corner v then Ok (Last EndsAtCorner) else do
  reach ← dot_after 6000 d v corner
  length ← norm_after 6003 d v
  Ok (Last (if is_lt (compare d reach length) then MeetsCorner else EndsBefore))

-- the corner is the first to the left of the line: the path crosses the side that leads to it, or ends before the side
unfoldable pub look_at_side : ℕ → PlaneVector → PlaneVector → PlaneVector → Result Finding Place
look_at_side d v from side = do
  rest ← vector_difference_after 6010 v from
  turn ← cross_after 6012 d side rest
  Ok (Last (if is_lt (sign d turn) then Crosses else EndsBefore))

-- by the sign of the cross product of v and the position of the corner
abbrev pub by_side : Ordering → PlaneVector → (on_line left : Result Finding Place) → Result Finding Place
by_side Less corner on_line left = Ok (RightOfPath corner)
by_side Equal corner on_line left = on_line
by_side Greater corner on_line left = left

-- the corner to which a side leads from a position: the corner number t, from 0, with which the path along v is compared in its polygon
unfoldable pub look : ℕ → ℕ → PlaneVector → PlaneVector → PlaneVector → Result Finding Place
look t d v from side = do
  corner ← vector_sum_after (5 * t) from side
  turn ← cross_after (5 * t + 2) d v corner
  by_side (sign d turn) corner (look_at_corner d v corner) (look_at_side d v from side)
