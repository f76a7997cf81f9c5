-- How a straight path begins at a corner, as a checked computation.
use Rattle.std.specs.Prelude.{ℕ, if◌then◌else◌, Result, Ok}
use Rattle.std.specs.Ordering.{is_lt}
use Rattle.std.specs.declared.cmp.Ordering.{Ordering}
use Rattle.std.specs.declared.cmp.Ordering.TheVariants.{Less, Equal, Greater}
use Rattle.fs_quadratic.specs.Ring.{sign, compare}
use Rattle.fs_quadratic.specs.Checked.{◌>>=◌}
use Rattle.fs_quadratic.specs.declared.steps.Place.{Place}
use Rattle.fs_plane.specs.Vector.{PlaneVector, vector_neg, is_same_vector}
use Rattle.fs_plane.specs.Formulas.{cross_after, dot_after, norm_after, is_above_zero}
use Rattle.fs_develop.specs.declared.entering.Entry.{Entry}
use Rattle.fs_develop.specs.declared.entering.Entry.TheVariants.{Outside, WholeSide, WithinSide, BeyondSide, Inside}

-- by the cross product of the outgoing side and v, whose sign is given: to its right the path isn't in the sector, on its line and to its left a test decides
abbrev pub by_turn : Ordering → (along left : Result Entry Place) → Result Entry Place
by_turn Less along left = Ok Outside
by_turn Equal along left = along
by_turn Greater along left = left

-- the path runs along the outgoing side: it ends with the side, before its end, or after it
unfoldable pub enter_along : ℕ → PlaneVector → PlaneVector → Result Entry Place
enter_along d outgoing v = if is_same_vector v outgoing then Ok WholeSide else do
  path ← norm_after 9 d v
  side ← norm_after 12 d outgoing
  Ok (if is_lt (compare d path side) then WithinSide else BeyondSide)

-- how the path along v begins at a corner with these sides
unfoldable pub enter : ℕ → PlaneVector → PlaneVector → PlaneVector → Result Entry Place
enter d outgoing incoming v = do
  turn ← cross_after 0 d outgoing v
  by_turn (sign d turn)
      (do
        ahead ← is_above_zero d (dot_after 3 d outgoing v)
        if ahead then enter_along d outgoing v else Ok Outside)
      (do
        inside ← is_above_zero d (cross_after 6 d v (vector_neg incoming))
        Ok (if inside then Inside else Outside))
