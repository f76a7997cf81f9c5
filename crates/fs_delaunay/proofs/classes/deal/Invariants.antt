-- The faces before this one are dealt out.
use Rattle.fs_delaunay.specs.CellNumbers.{AreDealt}
use Rattle.fs_delaunay.proofs.classes.deal.Given as goal

abbrev pub invariant-loop-face : goal.invariant-loop-face
invariant-loop-face l = AreDealt l.numbers l.face l.cells.items
