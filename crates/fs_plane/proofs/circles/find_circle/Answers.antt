use Rattle.std.proofs.Common.{◌∙◌, ap, sym, Ok}
use Rattle.fs_plane.proofs.CircleLaws.{tiny_circle}
use Rattle.fs_plane.proofs.circles.find_circle.Goals as goal

pub returns-then-is_tiny-4 : goal.returns-then-is_tiny-4
returns-then-is_tiny-4 c =
    ap Ok c.circle_tiny.ensures
    ∙ sym (tiny_circle c.args.field 0 c.args.a c.args.b c.args.c c.args.g (c.is_tiny.ensures.0 c.if-is_tiny.true) (c.is_tiny-then-is_tiny.ensures.0 c.if-is_tiny-2.true)
    (c.is_tiny-then-is_tiny-2.ensures.0 c.if-is_tiny-3.true) (c.is_tiny-then-is_tiny-3.ensures.0 c.if-is_tiny-4.true))
