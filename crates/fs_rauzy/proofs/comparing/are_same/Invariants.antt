-- From n on the rows are the same.
use Rattle.std.proofs.Common.{◌≡◌, ◌≤◌, length, drop}
use Rattle.fs_rauzy.proofs.comparing.are_same.Given as goal

abbrev pub invariant-loop-n : goal.invariant-loop-n
invariant-loop-n l = (l.n ≤ length l.row) × (drop l.n l.row ≡ drop l.n l.other)

abbrev pub decreases-loop-n : goal.decreases-loop-n
decreases-loop-n l = l.n
