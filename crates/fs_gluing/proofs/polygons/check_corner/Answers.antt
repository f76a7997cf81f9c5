-- A corner isn't allowed, or its test overflows.
use Rattle.std.proofs.Common.{sym, ap, ◌∙◌, Ok, IsTrue, ◌↔◌, subst}
use Rattle.fs_plane.specs.Vector.{IsAllowedCorner}
use Rattle.fs_gluing.proofs.Polygon.ConvexCorners.{corner_not_convex, corner_overflows}
use Rattle.fs_gluing.proofs.polygons.check_corner.Goals as goal

pub returns-in-Ok-false-clause-failed : goal.returns-in-Ok-false-clause-failed
returns-in-Ok-false-clause-failed c = λ sides.
    corner_not_convex c.args.straight c.args.field.d sides c.args.corner.side (record { before = c.args.before; after = c.args.after }) c.args.corner.polygon
    (sym c.is_convex.ensures.formula ∙ c.in-Ok-false.is ∙ ap Ok c.in-Ok-false.field-0-test) (subst (λ held. IsTrue held ↔ IsAllowedCorner c.args.straight c.args.field.d c.args.before c.args.after) c.in-Ok-false.field-0-test c.in-Ok-false.ensures.convex)

pub returns-in-Err-clause-failed : goal.returns-in-Err-clause-failed
returns-in-Err-clause-failed c = λ sides.
    corner_overflows c.args.straight c.args.field.d sides c.args.corner.side (record { before = c.args.before; after = c.args.after })
    c.args.corner.polygon c.in-Err.field-0.0 c.convexity.result c.convexity.ensures (sym c.is_convex.ensures.formula ∙ c.in-Err.is)
