-- The cell's faces so far have its number; a visit lowers the number of faces that wait plus that of faces without a number.
use Rattle.std.proofs.Common.{◌≡◌, ◌+◌, Some, length, count_by}
use Rattle.std.specs.Option.{is_none}
use Rattle.fs_delaunay.specs.CellNumbers.{number_of, AreNumbered}
use Rattle.fs_delaunay.proofs.classes.number_cell.Given as goal

abbrev pub invariant-loop-face : goal.invariant-loop-face
invariant-loop-face l = AreNumbered l.mesh.surface.d l.mesh.triangles l.first l.number (l.number + 1) l.numbers.items l.waiting.items 0 0 × (number_of l.numbers.items l.first ≡ Some l.number)

abbrev pub decreases-loop-face : goal.decreases-loop-face
decreases-loop-face l = length l.waiting.items + count_by is_none l.numbers.items
