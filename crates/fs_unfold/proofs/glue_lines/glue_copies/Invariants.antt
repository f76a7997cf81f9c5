-- The lines of the copies before this one are there.
use Rattle.fs_unfold.specs.InPlace.{HaveLines, sides_of_copies}
use Rattle.fs_unfold.proofs.glue_lines.glue_copies.Given as goal

abbrev pub invariant-loop-g : goal.invariant-loop-g
invariant-loop-g l = HaveLines l.n l.products.list l.products.neighbours (sides_of_copies l.n 0 l.g) l.lines
