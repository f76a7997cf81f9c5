-- The letters so far.
use Rattle.std.proofs.Common.{◌≡◌, take}
use Rattle.fs_rauzy.proofs.letters.read_letters.Given as goal

abbrev pub invariant-loop-n : goal.invariant-loop-n
invariant-loop-n l = l.letters.items ≡ take l.n l.exchange.component.top
