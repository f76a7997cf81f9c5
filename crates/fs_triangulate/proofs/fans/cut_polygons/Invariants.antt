-- The triangles are those of the polygons before i.
use Rattle.std.proofs.Common.{take}
use Rattle.fs_gluing.specs.FirstCut.{fans_from}
use Rattle.fs_triangulate.specs.Fans.{HasTriangles}
use Rattle.fs_triangulate.proofs.fans.cut_polygons.Given as goal

abbrev pub invariant-loop-i : goal.invariant-loop-i
invariant-loop-i l = HasTriangles l.surface (fans_from 0 (take l.i l.surface.polygons)) l.triangles
