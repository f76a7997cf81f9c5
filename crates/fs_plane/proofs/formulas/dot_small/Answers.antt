use Rattle.std.proofs.Common.{sym, subst}
use Rattle.fs_plane.specs.Vector.{IsSmallVector}
use Rattle.fs_plane.proofs.SmallVectors.{fits_add, small_dot_fits}
use Rattle.fs_plane.proofs.formulas.dot_small.Goals as goal

pub add_fitting-requires : goal.add_fitting-requires
add_fitting-requires c =
    let left = subst IsSmallVector (sym c.a.view_is) c.requires.left in
    let right = subst IsSmallVector (sym c.b.view_is) c.requires.right in
    fits_add c.mul_small-left.ensures c.mul_small.ensures (small_dot_fits c.args.field _ _ left right)
