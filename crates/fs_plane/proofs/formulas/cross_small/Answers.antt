use Rattle.std.proofs.Common.{sym, subst}
use Rattle.fs_plane.specs.Vector.{IsSmallVector}
use Rattle.fs_plane.proofs.SmallVectors.{fits_sub, small_cross_fits}
use Rattle.fs_plane.proofs.formulas.cross_small.Goals as goal

pub sub_fitting-requires : goal.sub_fitting-requires
sub_fitting-requires c =
    let left = subst IsSmallVector (sym c.a.view_is) c.requires.left in
    let right = subst IsSmallVector (sym c.b.view_is) c.requires.right in
    fits_sub c.mul_small-left.ensures c.mul_small.ensures (small_cross_fits c.args.field _ _ left right)
