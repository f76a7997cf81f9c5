-- The faces before this one have numbers, and there are no more numbers than these faces.
use Rattle.std.proofs.Common.{◌≤◌, []}
use Rattle.fs_delaunay.specs.CellNumbers.{AreNumbered}
use Rattle.fs_delaunay.proofs.classes.number_faces.Given as goal

abbrev pub invariant-loop-face : goal.invariant-loop-face
invariant-loop-face l = AreNumbered l.mesh.surface.d l.mesh.triangles l.face l.count l.count l.numbers.items [] 0 0 × l.count ≤ l.face
