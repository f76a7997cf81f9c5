-- The names so far are among the first k of the top row.
use Rattle.std.proofs.Common.{take}
use Rattle.fs_rauzy.proofs.Prefixes.{AreAmong}
use Rattle.fs_rauzy.proofs.splits.is_same_prefix.Given as goal

abbrev pub invariant-loop-name : goal.invariant-loop-name
invariant-loop-name l = AreAmong (take l.name-index (take l.k l.bottom)) (take l.k l.top)
