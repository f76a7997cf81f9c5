-- The triangles before the corners j - 1 and j are in the sum.
use Rattle.fs_gluing.proofs.SurfaceCalls.AreaSums.{AddsTrianglesUpTo}
use Rattle.fs_gluing.proofs.areas.add_triangles.Given as goal

abbrev pub invariant-loop-j : goal.invariant-loop-j
invariant-loop-j l = AddsTrianglesUpTo l.field.d l.fn.sum l.i l.positions l.j l.total
