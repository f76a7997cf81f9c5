-- A triangulation has a list of cells.
use Rattle.std.proofs.Common.{◌≡◌, ◌⊎◌, ℕ, zero, suc, ◌+◌, ◌<◌, ◌≤◌, List, [], ◌∷◌, map, refl, sym, ◌∙◌, subst, inl, inr, arith}
use Rattle.std.specs.List.{AllByRecursion, range_with_len}
use Rattle.fs_lists.specs.Members.{IsIn}
use Rattle.fs_lists.proofs.Members.{in_map_cases}
use Rattle.fs_lists.proofs.Ranges.{in_range, range_bounds}
use Rattle.fs_gluing.specs.Triangulation.{Triangulation, IsTriangulation}
use Rattle.fs_delaunay.specs.Cells.{AreCells, AreOfOneCell, IsAscending, IsFace, first_of}
use Rattle.fs_delaunay.proofs.AscendingLists.{first_least, first_in, range_ascending, Selects, select, collect}

below_or_equal : (m n : ℕ) → m ≤ n → (m < n) ⊎ (m ≡ n)
below_or_equal m n h = grind arith

module _ (d : ℕ) (t : Triangulation) (is : IsTriangulation d t) where
  abbrev faces : List ℕ
  faces = range_with_len 0 is.faces

  face_in : (f : ℕ) → IsFace t f → IsIn f faces
  face_in f face = let all = is.vectors in in_range 0 is.faces f (omega arith) (omega arith)

  in_face : (f : ℕ) → IsIn f faces → IsFace t f
  in_face f i = let bounds = range_bounds 0 is.faces f i in let below = bounds.1 in let all = is.vectors in omega arith

  -- no face before it is of one cell with it
  abbrev IsLeast : ℕ → Type 0
  IsLeast l = (g : ℕ) → IsIn g faces → g < l → ¬ AreOfOneCell d t g l

  -- the ascending list of the faces that are of one cell with its first face
  record IsCell (cell : List ℕ) : Type 0 where
    pub up : IsAscending cell
    pub members : Selects (AreOfOneCell d t (first_of cell)) faces cell
    pub own : IsIn (first_of cell) cell

  -- the cell of a least face begins with it
  begins : (l : ℕ) (cell : List ℕ) → IsIn l faces → IsLeast l → IsAscending cell → Selects (AreOfOneCell d t l) faces cell → first_of cell ≡ l
  begins l cell there least up members =
      let own = (members l).1 (there, λ held steps. refl) in
      let first = (members (first_of cell)).0 (first_in cell l own) in
      elim (below_or_equal (first_of cell) l (first_least cell l up own)) [
        | inl below ↦ absurd (least (first_of cell) first.0 below (λ held steps. sym (first.1 held steps)))
        | inr same ↦ same
      ]

  cell_of : (l : ℕ) (cell : List ℕ) → IsIn l faces → IsLeast l → IsAscending cell → Selects (AreOfOneCell d t l) faces cell → IsCell cell
  cell_of l cell there least up members =
      let same = begins l cell there least up members in
      record {
        up = up;
        members = subst (λ m. Selects (AreOfOneCell d t m) faces cell) (sym same) members;
        own = first_in cell l ((members l).1 (there, λ held steps. refl));
      }

  -- the cells of least faces
  cells_of : (ls : List ℕ) → ((l : ℕ) → IsIn l ls → IsIn l faces × IsLeast l) → ((cells : List (List ℕ)) → map first_of cells ≡ ls → ((cell : List ℕ) → IsIn cell cells → IsCell cell) → ⊥) → ⊥
  cells_of [] lead none = none [] refl (λ cell i. absurd i)
  cells_of (l ∷ ls) lead none =
      select (AreOfOneCell d t l) faces (range_ascending 0 is.faces) (λ cell up members. cells_of ls (λ m i. lead m (inr i)) (λ cells firsts each.
      none (cell ∷ cells) (λ i. begins l cell (lead l (inl refl)).0 (lead l (inl refl)).1 up members i ∷ firsts i)
      (λ c i. elim i [ inl e ↦ subst IsCell (sym e) (cell_of l cell (lead l (inl refl)).0 (lead l (inl refl)).1 up members) | inr j ↦ each c j ])))

  all_of_each : (P : List ℕ → Type 0) (cells : List (List ℕ)) → ((cell : List ℕ) → IsIn cell cells → P cell) → AllByRecursion P cells
  all_of_each P [] h = tt
  all_of_each P (cell ∷ cells) h = (h cell (inl refl), all_of_each P cells (λ c i. h c (inr i)))

  module _ (leaders : List ℕ) (lead_up : IsAscending leaders) (lead : Selects IsLeast faces leaders) where
    -- each face is of one cell with a least one
    has_leader : (k f : ℕ) → f < k → IsIn f faces → ((l : ℕ) → IsIn l leaders → AreOfOneCell d t l f → ⊥) → ⊥
    has_leader zero f less i none = absurd (omega arith)
    has_leader (suc k) f less i none =
        none f
        ((lead f).1
        (i, λ g j below one. has_leader k g (omega arith) j (λ l at other. none l at (λ held steps. other held steps ∙ one held steps))))
        (λ held steps. refl)

    module _ (cells : List (List ℕ)) (firsts : map first_of cells ≡ leaders) (each : (cell : List ℕ) → IsIn cell cells → IsCell cell) where
      abbrev HasCell : ℕ → Type 0
      HasCell f = (cell : List ℕ) × IsIn cell cells × IsIn f cell

      cell_with : (f l : ℕ) → IsIn f faces → IsIn l leaders → AreOfOneCell d t l f → HasCell f
      cell_with f l i at one =
          let c = in_map_cases first_of l cells (subst (λ ls. IsIn l ls) (sym firsts) at) in
          (c.0, c.1, ((each c.0 c.1).members f).1 (i, subst (λ m. AreOfOneCell d t m f) c.2 one))

      cells_are : ((f : ℕ) → IsIn f faces → HasCell f) → AreCells d t cells
      cells_are all = record {
        some_face = λ cell i. (in_face (first_of cell) (((each cell i).members (first_of cell)).0 (each cell i).own).0, (each cell i).own);
        whole = λ cell i f. (
          λ h. let at = ((each cell i).members f).0 h in (in_face f at.0, at.1),
          λ h. ((each cell i).members f).1 (face_in f h.0, h.1),
        );
        each_face = λ f face. all f (face_in f face);
        ascending = all_of_each IsAscending cells (λ cell i. (each cell i).up);
        in_order = subst IsAscending (sym firsts) lead_up;
      }

  -- a triangulation has a list of cells
  pub cell_list_exists : ((cells : List (List ℕ)) → ¬ AreCells d t cells) → ⊥
  cell_list_exists none =
      select IsLeast faces (range_ascending 0 is.faces) (λ leaders up lead. cells_of leaders (λ l i. (lead l).0 i) (λ cells firsts each.
      collect (HasCell leaders up lead cells firsts each) faces
      (λ f i no. has_leader leaders up lead (f + 1) f (omega arith) i (λ l at one. no (cell_with leaders up lead cells firsts each f l i at one)))
      (λ all. none cells (cells_are leaders up lead cells firsts each all))))
