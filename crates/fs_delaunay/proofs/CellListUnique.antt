-- A triangulation has one list of cells at most.
use Rattle.std.proofs.Common.{◌≡◌, ℕ, List, [], ◌∷◌, map, refl, sym, subst, inl, inr, arith}
use Rattle.fs_lists.specs.Members.{IsIn}
use Rattle.fs_lists.proofs.Equal.{heads_equal, tails_equal}
use Rattle.fs_lists.proofs.Members.{All-member, in_map, in_map_cases}
use Rattle.fs_gluing.specs.Triangulation.{Triangulation}
use Rattle.fs_delaunay.specs.Cells.{AreCells, AreOfOneCell, IsAscending, first_of}
use Rattle.fs_delaunay.proofs.AscendingLists.{first_least, ascending_equal}

module _ (d : ℕ) (t : Triangulation) where
  -- a cell of the one list, and the cell of the other that has its first face
  module _ (a b : List (List ℕ)) (is : AreCells d t a) (is' : AreCells d t b) (cell : List ℕ) (there : IsIn cell a) where
    abbrev first : ℕ
    first = first_of cell

    abbrev other : List ℕ
    other = (is'.each_face first (is.some_face cell there).0).0

    in_other : IsIn other b
    in_other = (is'.each_face first (is.some_face cell there).0).1

    has_first : IsIn first other
    has_first = (is'.each_face first (is.some_face cell there).0).2

    one_cell : AreOfOneCell d t (first_of other) first
    one_cell = ((is'.whole other in_other first).0 has_first).1

    -- it begins with the same face
    same_first : first_of other ≡ first
    same_first =
        let below = first_least other first (All-member IsAscending b other is'.ascending in_other) has_first in
        let back = (is.whole cell there (first_of other)).1 ((is'.some_face other in_other).0, λ held steps. sym (one_cell held steps)) in
        let above = first_least cell (first_of other) (All-member IsAscending a cell is.ascending there) back in
        omega arith

    first_in_firsts : IsIn first (map first_of b)
    first_in_firsts = subst (λ n. IsIn n (map first_of b)) same_first (in_map first_of other b in_other)

  -- the first faces of the one list are those of the other
  firsts_in : (a b : List (List ℕ)) → AreCells d t a → AreCells d t b → (n : ℕ) → IsIn n (map first_of a) → IsIn n (map first_of b)
  firsts_in a b is is' n i = let at = in_map_cases first_of n a i in subst (λ m. IsIn m (map first_of b)) (sym at.2) (first_in_firsts a b is is' at.0 at.1)

  -- cells that begin with the same face are equal
  module _ (a b : List (List ℕ)) (is : AreCells d t a) (is' : AreCells d t b) where
    members_in : (c e : List ℕ) → IsIn c a → IsIn e b → first_of c ≡ first_of e → (n : ℕ) → IsIn n c → IsIn n e
    members_in c e i j same n h = let at = (is.whole c i n).0 h in (is'.whole e j n).1 (at.0, subst (λ m. AreOfOneCell d t m n) same at.1)

  cells_equal : (a b : List (List ℕ)) → AreCells d t a → AreCells d t b → (c e : List ℕ) → IsIn c a → IsIn e b → first_of c ≡ first_of e → c ≡ e
  cells_equal a b is is' c e i j same =
      ascending_equal c e (All-member IsAscending a c is.ascending i) (All-member IsAscending b e is'.ascending j) (members_in a b is is' c e i j same)
      (members_in b a is' is e c j i (sym same))

-- lists whose items are equal wherever their first numbers are
by_firsts : (a b : List (List ℕ)) → map first_of a ≡ map first_of b → ((c e : List ℕ) → IsIn c a → IsIn e b → first_of c ≡ first_of e → c ≡ e) → a ≡ b
by_firsts [] [] firsts each = refl
by_firsts [] (e ∷ b) firsts each = cc
by_firsts (c ∷ a) [] firsts each = cc
by_firsts (c ∷ a) (e ∷ b) firsts each =
    let head = each c e (inl refl) (inl refl) (heads_equal (first_of c) (first_of e) (map first_of a) (map first_of b) firsts) in
    let rest = by_firsts a b (tails_equal (first_of c) (first_of e) (map first_of a) (map first_of b) firsts) (λ x y i j. each x y (inr i) (inr j)) in
    λ i. head i ∷ rest i

-- a triangulation has one list of cells at most
pub cell_list_unique : (d : ℕ) (t : Triangulation) (a b : List (List ℕ)) → AreCells d t a → AreCells d t b → a ≡ b
cell_list_unique d t a b is is' =
    by_firsts a b (ascending_equal (map first_of a) (map first_of b) is.in_order is'.in_order (firsts_in d t a b is is') (firsts_in d t b a is' is)) (cells_equal d t a b is is')
