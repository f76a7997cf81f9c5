use Rattle.std.proofs.Common.{◌∙◌, ap, sym, Ok}
use Rattle.fs_plane.proofs.SmallVectors.{small_dot, small_of_tiny_vector}
use Rattle.fs_plane.proofs.formulas.dot_after.Goals as goal

pub returns-then-is_tiny-2 : goal.returns-then-is_tiny-2
returns-then-is_tiny-2 c =
    ap Ok c.dot_tiny.ensures
    ∙ sym (small_dot c.args.field c.args.a c.args.b (small_of_tiny_vector c.args.a (c.is_tiny.ensures.0 c.if-is_tiny.true)) (small_of_tiny_vector c.args.b (c.is_tiny-then-is_tiny.ensures.0 c.if-is_tiny-2.true)) c.args.before)
