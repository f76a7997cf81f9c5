-- The sides before this one are made.
use Rattle.std.proofs.Common.{take}
use Rattle.fs_unfold.proofs.SidesInTurn.{HaveSides}
use Rattle.fs_unfold.proofs.copies.find_copy.Given as goal

abbrev pub invariant-loop-i : goal.invariant-loop-i
invariant-loop-i l = HaveSides l.field.d l.product.turned l.product.rows (take l.i l.table) l.sides
