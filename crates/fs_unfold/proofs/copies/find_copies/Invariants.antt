-- The copies before this one are made.
use Rattle.std.proofs.Common.{take}
use Rattle.fs_unfold.proofs.SidesInTurn.{HaveCopies}
use Rattle.fs_unfold.proofs.copies.find_copies.Given as goal

abbrev pub invariant-loop-k : goal.invariant-loop-k
invariant-loop-k l = HaveCopies l.field.d l.table (take l.k l.products) l.copies
