-- The rises at the corners before this one are counted.
use Rattle.fs_gluing.proofs.Polygon.ConvexCorners.{CountsRisesUpTo}
use Rattle.fs_gluing.proofs.polygons.count_rises.Given as goal

abbrev pub invariant-loop-after : goal.invariant-loop-after
invariant-loop-after l = CountsRisesUpTo l.field.d l.sides l.after-index l.before l.rises
