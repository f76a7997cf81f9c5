-- The letters so far.
use Rattle.std.proofs.Common.{◌≡◌, take}
use Rattle.fs_rauzy.specs.StatesInPlace.{letters_at}
use Rattle.fs_rauzy.proofs.reading.copy_letters.Given as goal

abbrev pub invariant-loop-name : goal.invariant-loop-name
invariant-loop-name l = l.list.items ≡ letters_at l.letters (take l.name-index l.names)
