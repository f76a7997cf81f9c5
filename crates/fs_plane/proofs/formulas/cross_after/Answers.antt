use Rattle.std.proofs.Common.{◌∙◌, ap, sym, Ok}
use Rattle.fs_plane.proofs.SmallVectors.{small_cross, small_of_tiny_vector}
use Rattle.fs_plane.proofs.formulas.cross_after.Goals as goal

pub returns-then-is_tiny-2 : goal.returns-then-is_tiny-2
returns-then-is_tiny-2 c =
    ap Ok c.cross_tiny.ensures
    ∙ sym (small_cross c.args.field c.args.a c.args.b (small_of_tiny_vector c.args.a (c.is_tiny.ensures.0 c.if-is_tiny.true)) (small_of_tiny_vector c.args.b (c.is_tiny-then-is_tiny.ensures.0 c.if-is_tiny-2.true)) c.args.before)
