-- The reflections in the sides before this one are made.
use Rattle.std.proofs.Common.{take}
use Rattle.fs_unfold.specs.Unfolding.{AreMirrors}
use Rattle.fs_unfold.proofs.products.find_mirrors.Given as goal

abbrev pub invariant-loop-i : goal.invariant-loop-i
invariant-loop-i l = AreMirrors l.field.d (take l.i l.table) l.mirrors.items
