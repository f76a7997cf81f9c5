-- The sum so far, to which the lengths of the other letters are still added.
use Rattle.std.proofs.Common.{◌≡◌, ◌+◌, drop}
use Rattle.fs_rauzy.specs.Rule.{checked_lengths}
use Rattle.fs_rauzy.specs.StatesInPlace.{letters_at}
use Rattle.fs_rauzy.proofs.numbers.add_lengths.Given as goal

abbrev pub invariant-loop-n : goal.invariant-loop-n
invariant-loop-n l = checked_lengths (1 + l.n) l.sum (letters_at l.letters (drop l.n l.names)) ≡ checked_lengths 1 l.fn.first (letters_at l.letters l.names)
