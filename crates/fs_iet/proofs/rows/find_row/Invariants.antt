-- The chains of the polygons before i are added.
use Rattle.fs_gluing.specs.Exchanges.{AreChainsIn}
use Rattle.fs_iet.specs.Rows.{IsInRow, to_right_in}
use Rattle.fs_iet.proofs.rows.find_row.Given as goal

abbrev pub invariant-loop-i : goal.invariant-loop-i
invariant-loop-i l = AreChainsIn (to_right_in l.surface l.row) (IsInRow l.surface l.v l.row) l.i l.sides
