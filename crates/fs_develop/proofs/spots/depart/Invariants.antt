-- The corners so far were passed, and the path is at a spot of the polygon.
use Rattle.std.proofs.Common.{◌-◌}
use Rattle.fs_gluing.specs.Limits.{most_sides}
use Rattle.fs_gluing.specs.SurfaceSides.{polygon_sides}
use Rattle.fs_develop.specs.declared.spots.Spot.{Spot}
use Rattle.fs_develop.specs.Spots.{IsSpot, Passes}
use Rattle.fs_develop.proofs.spots.depart.Given as goal

abbrev pub invariant-loop-finding : goal.invariant-loop-finding
invariant-loop-finding l =
    let at : Spot = record { corners = l.corners; side = l.side; from = l.from } in
    Passes l.surface.d (polygon_sides l.surface.polygons) l.v l.fn.first at × IsSpot l.surface.d (polygon_sides l.surface.polygons) l.v at

abbrev pub decreases-loop-finding : goal.decreases-loop-finding
decreases-loop-finding l = most_sides - l.corners
