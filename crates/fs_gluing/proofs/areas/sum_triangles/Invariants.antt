-- The triangles of the polygons before i are in the sum.
use Rattle.std.proofs.Common.{◌≡◌, List, map}
use Rattle.fs_gluing.specs.declared.surfaces.Side.{Side}
use Rattle.fs_gluing.specs.Positions.{all_positions}
use Rattle.fs_gluing.specs.Surface.{side_vectors}
use Rattle.fs_gluing.proofs.SurfaceCalls.AreaSums.{SumsPolygonsUpTo}
use Rattle.fs_gluing.proofs.areas.sum_triangles.Given as goal

abbrev pub invariant-loop-i : goal.invariant-loop-i
invariant-loop-i l = (polygons : List (List Side)) → l.positions ≡ all_positions (map side_vectors polygons) → SumsPolygonsUpTo l.field.d polygons l.i l.sum
