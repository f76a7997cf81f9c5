-- No side so far is the leftmost one.
use Rattle.std.proofs.Common.{ℕ, ◌<◌}
use Rattle.fs_gluing.proofs.Sides.AllSides.{corner}
use Rattle.fs_iet.specs.Rows.{IsLeftmost}
use Rattle.fs_iet.proofs.rows.find_leftmost.Given as goal

abbrev pub invariant-loop-j : goal.invariant-loop-j
invariant-loop-j l = (k : ℕ) → k < l.j → ¬ IsLeftmost l.surface l.v l.row l.i (corner l.i k)
