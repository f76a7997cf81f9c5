-- From n on the letters have these names.
use Rattle.std.proofs.Common.{◌≡◌, ◌≤◌, length, drop}
use Rattle.fs_gluing.specs.Exchanges.{names_of}
use Rattle.fs_rauzy.proofs.comparing.are_named.Given as goal

abbrev pub invariant-loop-n : goal.invariant-loop-n
invariant-loop-n l = (l.n ≤ length l.names) × (drop l.n (names_of l.letters) ≡ drop l.n l.names)

abbrev pub decreases-loop-n : goal.decreases-loop-n
decreases-loop-n l = l.n
