use Rattle.fs_plane.proofs.ConvexCorners.{convex_of_formula}
use Rattle.fs_plane.proofs.formulas.is_convex.Goals as goal

pub returns-clause-convex : goal.returns-clause-convex
returns-clause-convex c =
    convex_of_formula c.args.field.radicand 0 c.args.a c.args.b c.args.straight c.test_convex.result c.test_convex.ensures
