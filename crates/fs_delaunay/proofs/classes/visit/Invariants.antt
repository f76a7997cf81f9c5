-- The half-edges of the face before this one are crossed.
use Rattle.std.proofs.Common.{ℕ, ◌+◌, ◌*◌}
use Rattle.fs_delaunay.specs.CellNumbers.{AreNumbered, GetNumbers}
use Rattle.fs_delaunay.proofs.classes.visit.Given as goal

abbrev pub invariant-loop-h : goal.invariant-loop-h
invariant-loop-h l =
    GetNumbers l.initial.numbers.items l.numbers.items l.initial.waiting.items l.waiting.items
    × ((n : ℕ) → AreNumbered l.mesh.surface.d l.mesh.triangles n l.number (l.number + 1) l.initial.numbers.items l.initial.waiting.items (3 * l.face) (3 * l.face + 3)
    → AreNumbered l.mesh.surface.d l.mesh.triangles n l.number (l.number + 1) l.numbers.items l.waiting.items l.h (3 * l.face + 3))
