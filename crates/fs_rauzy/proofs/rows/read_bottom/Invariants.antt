-- The names so far.
use Rattle.std.proofs.Common.{◌≡◌, take}
use Rattle.fs_rauzy.proofs.rows.read_bottom.Given as goal

abbrev pub invariant-loop-n : goal.invariant-loop-n
invariant-loop-n l = l.row.items ≡ take l.n l.exchange.component.bottom
