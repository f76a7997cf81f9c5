-- The polygons before i pass, and the list has the positions of their corners.
use Rattle.fs_gluing.proofs.Polygon.PolygonsInTurn.{PassesPolygonsUpTo}
use Rattle.fs_gluing.proofs.building.check_polygons.Given as goal

abbrev pub invariant-loop-i : goal.invariant-loop-i
invariant-loop-i l = PassesPolygonsUpTo l.straight l.field.d l.polygons l.i l.positions
