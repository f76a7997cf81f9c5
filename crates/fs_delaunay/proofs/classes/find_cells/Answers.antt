-- The lists that are dealt out by the numbers are the cells.
use Rattle.std.proofs.Common.{◌≡◌, ◌<◌, ℕ, Option, Some, List, length, sym, subst}
use Rattle.fs_delaunay.specs.Cells.{AreCells}
use Rattle.fs_delaunay.specs.CellNumbers.{number_of, AreDealt}
use Rattle.fs_delaunay.proofs.CellClasses.{dealt_cells}
use Rattle.fs_delaunay.proofs.classes.find_cells.Goals as goal

pub deal-requires-clause-each : goal.deal-requires-clause-each
deal-requires-clause-each c = subst (λ (ns : List (Option ℕ)). (x : ℕ) → x < length ns → (j : ℕ) × (number_of ns x ≡ Some j)) (sym c.deref.ensures.value) c.in_ok-numbers.ensures.numbers.each

pub deal-requires-clause-order : goal.deal-requires-clause-order
deal-requires-clause-order c =
    subst (λ (ns : List (Option ℕ)). (x j i : ℕ) → number_of ns x ≡ Some j → i < j → (y : ℕ) × y < x × (number_of ns y ≡ Some i)) (sym c.deref.ensures.value) c.in_ok-numbers.ensures.numbers.order

pub returns : goal.returns
returns c = record {
  cells = subst (AreCells c.args.mesh.now.surface.d c.args.mesh.now.triangles) (sym c.from_vec.ensures)
      (dealt_cells c.in_ok-numbers.numbers.items c.in_ok-cells.cells.items c.in_ok-numbers.ensures.numbers
      (subst (λ (ns : List (Option ℕ)). AreDealt ns (length ns) c.in_ok-cells.cells.items) c.deref.ensures.value c.in_ok-cells.ensures));
}
