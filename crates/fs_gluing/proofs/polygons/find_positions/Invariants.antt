-- The sides before j pass, and the positions of their corners are in the list.
use Rattle.fs_gluing.proofs.Polygon.Boundary.{HasPositionsUpTo}
use Rattle.fs_gluing.proofs.polygons.find_positions.Given as goal

abbrev pub invariant-loop-j : goal.invariant-loop-j
invariant-loop-j l = HasPositionsUpTo l.sides l.j l.position l.positions
