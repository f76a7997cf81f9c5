-- The connections so far are kept.
use Rattle.std.proofs.Common.{take}
use Rattle.fs_components.specs.Gathering.{AreKept}
use Rattle.fs_components.proofs.along.keep_all.Given as goal

abbrev pub invariant-loop-n : goal.invariant-loop-n
invariant-loop-n l = AreKept l.field.d (take l.n l.connections) l.list.items
