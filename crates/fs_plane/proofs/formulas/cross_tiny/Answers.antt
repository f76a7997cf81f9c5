use Rattle.std.proofs.Common.{sym, subst}
use Rattle.fs_plane.specs.Vector.{IsSmallVector}
use Rattle.fs_plane.proofs.SmallVectors.{fits_sub, small_cross_fits, small_of_tiny_vector}
use Rattle.fs_plane.proofs.formulas.cross_tiny.Goals as goal

pub sub_fitting-requires : goal.sub_fitting-requires
sub_fitting-requires c =
    let left = subst IsSmallVector (sym c.a.view_is) (small_of_tiny_vector c.args.a c.requires.left) in
    let right = subst IsSmallVector (sym c.b.view_is) (small_of_tiny_vector c.args.b c.requires.right) in
    fits_sub c.mul_tiny-left.ensures c.mul_tiny.ensures (small_cross_fits c.args.field _ _ left right)
