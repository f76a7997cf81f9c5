use Rattle.std.proofs.Common.{ℕ, ◌*◌, ◌%◌, ◌<◌, ◌≤◌, ◌≢◌}
use Rattle.fs_quadratic.proofs.radicand.Field.new.Given as goal

-- no square of a number tried so far divides d
abbrev pub invariant-loop-k : goal.invariant-loop-k
invariant-loop-k l = (j : ℕ) → 2 ≤ j → j < l.k → l.d % (j * j) ≢ 0
