-- The lists that are dealt out by the numbers of cells are the cells.
use Rattle.std.proofs.Common.{◌↔◌, ℕ, ◌<◌, Option, List, [], length, sym, subst, arith}
use Rattle.std.proofs.lemmas.Option.{slice_get_within, get_or_from_slice_get}
use Rattle.fs_lists.specs.Members.{IsIn}
use Rattle.fs_lists.proofs.All.{All-of_each}
use Rattle.fs_gluing.specs.Triangulation.{Triangulation}
use Rattle.fs_delaunay.specs.Cells.{AreOfOneCell, AreCells, IsAscending, first_of, IsFace}
use Rattle.fs_delaunay.specs.CellNumbers.{cell_at, AreCellNumbers, AreDealt}
use Rattle.fs_delaunay.proofs.CellLists.{index_of, cell_in}

module _ {d : ℕ} {t : Triangulation} (numbers : List (Option ℕ)) (cells : List (List ℕ)) (a : AreCellNumbers d t numbers) (b : AreDealt numbers (length numbers) cells) where
  face_below : (x : ℕ) → IsFace t x → x < length numbers
  face_below x f = let e = a.long in omega (arith, e, f)

  below_face : (x : ℕ) → x < length numbers → IsFace t x
  below_face x l = let e = a.long in omega (arith, e, l)

  -- list j has the faces that are of one cell with its first one
  whole_at : (j : ℕ) → j < length cells → (f : ℕ) → IsIn f (cell_at cells j) ↔ (IsFace t f × AreOfOneCell d t (first_of (cell_at cells j)) f)
  whole_at j l f =
      let first = (b.members j (first_of (cell_at cells j)) l).0 (b.first j l) in (
        (λ h. let r = (b.members j f l).0 h in (below_face f r.0, a.one_cell (first_of (cell_at cells j)) f j first.1 r.1)),
        (λ h. (b.members j f l).1 (face_below f h.0, a.one_number (first_of (cell_at cells j)) f j first.1 h.1)),
      )

  some_face_at : (j : ℕ) → j < length cells → IsFace t (first_of (cell_at cells j)) × IsIn (first_of (cell_at cells j)) (cell_at cells j)
  some_face_at j l = (below_face (first_of (cell_at cells j)) ((b.members j (first_of (cell_at cells j)) l).0 (b.first j l)).0, b.first j l)

  -- the lists are the cells
  pub dealt_cells : AreCells d t cells
  dealt_cells = record {
    some_face = λ cell m. let i = index_of cells cell m in subst (λ c. IsFace t (first_of c) × IsIn (first_of c) c) (sym i.2) (some_face_at i.0 i.1);
    whole = λ cell m. let i = index_of cells cell m in subst (λ c. (f : ℕ) → IsIn f c ↔ (IsFace t f × AreOfOneCell d t (first_of c) f)) (sym i.2) (whole_at i.0 i.1);
    each_face = λ f is.
        let l = face_below f is in
        let j = a.each f l in
        let there = b.each f j.0 l j.1 in
        (cell_at cells j.0, cell_in cells j.0 there, (b.members j.0 f there).1 (l, j.1));
    ascending = All-of_each IsAscending cells (λ j cell at. let l = slice_get_within cells j cell at in subst IsAscending (get_or_from_slice_get cells j cell [] at) (b.ascending j l));
    in_order = b.in_order;
  }
