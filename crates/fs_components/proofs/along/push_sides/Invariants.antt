-- Those of the sides before j are added.
use Rattle.std.proofs.Common.{List, ◌++◌}
use Rattle.fs_plane.specs.declared.corners.Corner.{Corner}
use Rattle.fs_gluing.specs.Gluing.{sides_between}
use Rattle.fs_components.specs.Gathering.{AreSidesAlong}
use Rattle.fs_components.proofs.along.push_sides.Given as goal

abbrev pub invariant-loop-j : goal.invariant-loop-j
invariant-loop-j l = (sides : List Corner) → AreSidesAlong l.surface l.v sides l.initial.connections.items → AreSidesAlong l.surface l.v (sides ++ sides_between l.i 0 l.j) l.connections.items
