-- The rows of the polygons before i have a number for each side.
use Rattle.std.proofs.Common.{◌≡◌, ◌<◌, length, map}
use Rattle.fs_plane.specs.declared.corners.Corner.{Corner}
use Rattle.fs_gluing.specs.Polygons.{HasSide}
use Rattle.fs_iet.proofs.numbers.Numbers.new.Given as goal

abbrev pub invariant-loop-i : goal.invariant-loop-i
invariant-loop-i l = record {
  as_many : length l.rows.items ≡ l.i;
  there : (c : Corner) → c.polygon < l.i → HasSide l.surface.polygons c → HasSide (map (λ row. row.items) l.rows.items) c;
}
