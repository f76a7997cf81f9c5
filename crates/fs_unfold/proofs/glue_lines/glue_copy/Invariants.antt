-- The lines of the sides before this one are added.
use Rattle.std.proofs.Common.{◌++◌, List}
use Rattle.fs_plane.specs.declared.corners.Corner.{Corner}
use Rattle.fs_gluing.specs.Gluing.{sides_between}
use Rattle.fs_unfold.specs.InPlace.{HaveLines}
use Rattle.fs_unfold.proofs.glue_lines.glue_copy.Given as goal

abbrev pub invariant-loop-side : goal.invariant-loop-side
invariant-loop-side l = (sides : List Corner) → HaveLines l.n l.products.list l.products.neighbours sides l.initial.lines → HaveLines l.n l.products.list l.products.neighbours (sides ++ sides_between l.g 0 l.side) l.lines
