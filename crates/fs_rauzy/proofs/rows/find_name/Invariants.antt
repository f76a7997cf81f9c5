-- The name is at the place or before it; the place falls.
use Rattle.fs_rauzy.proofs.RowMoves.{IsUpTo}
use Rattle.fs_rauzy.proofs.rows.find_name.Given as goal

abbrev pub invariant-loop-place : goal.invariant-loop-place
invariant-loop-place l = IsUpTo l.name l.row l.place

abbrev pub decreases-loop-place : goal.decreases-loop-place
decreases-loop-place l = l.place
