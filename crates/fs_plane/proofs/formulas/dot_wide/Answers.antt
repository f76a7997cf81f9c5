use Rattle.std.proofs.Common.{◌∙◌, ap, sym, Ok}
use Rattle.fs_plane.proofs.SmallVectors.{small_dot}
use Rattle.fs_plane.proofs.formulas.dot_wide.Goals as goal

pub returns-then-is_small-2 : goal.returns-then-is_small-2
returns-then-is_small-2 c =
    ap Ok c.dot_small.ensures
    ∙ sym (small_dot c.args.field c.args.a c.args.b (c.is_small.ensures.0 c.if-is_small.true) (c.is_small-then-is_small.ensures.0 c.if-is_small-2.true) c.args.before)
