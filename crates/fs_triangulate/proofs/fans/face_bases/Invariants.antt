-- The numbers of the polygons before i are in the list.
use Rattle.fs_triangulate.proofs.FaceBases.{AreBasesUpTo}
use Rattle.fs_triangulate.proofs.fans.face_bases.Given as goal

abbrev pub invariant-loop-i : goal.invariant-loop-i
invariant-loop-i l = AreBasesUpTo l.surface.polygons l.i l.bases.items l.faces
