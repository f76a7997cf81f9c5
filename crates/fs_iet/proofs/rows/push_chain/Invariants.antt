-- So many sides from the leftmost one to the right are added, all of which are in the row.
use Rattle.std.proofs.Common.{◌≡◌, ℕ, ◌+◌, ◌-◌, ◌<◌, ◌++◌, length}
use Rattle.fs_cycles.specs.Cycles.{iterate}
use Rattle.fs_gluing.specs.NextCorner.{side_count}
use Rattle.fs_gluing.specs.Polygons.{HasSide}
use Rattle.fs_iet.specs.Rows.{IsInRow, to_right_in}
use Rattle.fs_iet.proofs.ItemRuns.{walk}
use Rattle.fs_iet.proofs.rows.push_chain.Given as goal

abbrev pub invariant-loop-v : goal.invariant-loop-v
invariant-loop-v l = record {
  k : ℕ;
  added : l.sides ≡ l.initial.sides ++ walk (to_right_in l.surface l.row) k l.initial.e;
  at : l.e ≡ iterate (to_right_in l.surface l.row) k l.initial.e;
  all : (j : ℕ) → j < k → IsInRow l.surface l.v l.row (iterate (to_right_in l.surface l.row) j l.initial.e);
  there : HasSide l.surface.polygons l.e;
}

abbrev pub decreases-loop-v : goal.decreases-loop-v
decreases-loop-v l = length l.initial.sides + side_count l.surface.polygons l.i - length l.sides
