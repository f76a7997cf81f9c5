-- The sides along the direction of the polygons before i are listed.
use Rattle.std.proofs.Common.{take}
use Rattle.fs_gluing.specs.Polygons.{sides_from}
use Rattle.fs_components.specs.Gathering.{AreSidesAlong}
use Rattle.fs_components.proofs.along.gather.Given as goal

abbrev pub invariant-loop-i : goal.invariant-loop-i
invariant-loop-i l = AreSidesAlong l.surface l.v (sides_from 0 (take l.i l.surface.polygons)) l.connections.items
