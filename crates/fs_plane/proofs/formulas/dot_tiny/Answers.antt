use Rattle.std.proofs.Common.{sym, subst}
use Rattle.fs_plane.specs.Vector.{IsSmallVector}
use Rattle.fs_plane.proofs.SmallVectors.{fits_add, small_dot_fits, small_of_tiny_vector}
use Rattle.fs_plane.proofs.formulas.dot_tiny.Goals as goal

pub add_fitting-requires : goal.add_fitting-requires
add_fitting-requires c =
    let left = subst IsSmallVector (sym c.a.view_is) (small_of_tiny_vector c.args.a c.requires.left) in
    let right = subst IsSmallVector (sym c.b.view_is) (small_of_tiny_vector c.args.b c.requires.right) in
    fits_add c.mul_tiny-left.ensures c.mul_tiny.ensures (small_dot_fits c.args.field _ _ left right)
