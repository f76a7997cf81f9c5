-- The sides of the polygons before i are listed.
use Rattle.std.proofs.Common.{◌≡◌, take}
use Rattle.fs_gluing.specs.Polygons.{sides_from}
use Rattle.fs_iet.proofs.widths.list_sides.Given as goal

abbrev pub invariant-loop-i : goal.invariant-loop-i
invariant-loop-i l = l.sides ≡ sides_from 0 (take l.i l.surface.polygons)
