-- The corners before j pass.
use Rattle.fs_gluing.proofs.Polygon.ConvexCorners.{PassesCornersUpTo}
use Rattle.fs_gluing.proofs.polygons.check_corners.Given as goal

abbrev pub invariant-loop-j : goal.invariant-loop-j
invariant-loop-j l = PassesCornersUpTo l.straight l.field.d l.sides l.j l.before
