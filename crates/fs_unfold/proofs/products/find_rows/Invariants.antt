-- The matrix isn't one of those before.
use Rattle.std.proofs.Common.{take}
use Rattle.fs_lists.specs.Members.{IsIn}
use Rattle.fs_unfold.specs.InPlace.{rows_of}
use Rattle.fs_unfold.proofs.products.find_rows.Given as goal

abbrev pub invariant-loop-k : goal.invariant-loop-k
invariant-loop-k l = ¬ IsIn l.rows (rows_of (take l.k l.list))
