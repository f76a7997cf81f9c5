-- The numbers of cells as the search for cells gives them to faces, and the lists of faces that are dealt out by them. Public contracts don't cite this file.
use Rattle.std.specs.Prelude.{◌≡◌, ◌⊎◌, ◌↔◌, ℕ, ◌+◌, ◌*◌, ◌/◌, ◌<◌, ◌≤◌, Option, Some, None, List, [], Contains, length, map, count_by, slice_index_or}
use Rattle.std.specs.Option.{is_none}
use Rattle.fs_lists.specs.Members.{IsIn}
use Rattle.fs_quadratic.specs.Ring.{zero}
use Rattle.fs_gluing.specs.Triangulation.{Triangulation, edge_twin}
use Rattle.fs_mesh.specs.Meshes.{edge_circle}
use Rattle.fs_delaunay.specs.Cells.{AreOfOneCell, IsAscending, first_of}

-- the number of face x, where it has one
abbrev pub number_of : List (Option ℕ) → ℕ → Option ℕ
number_of numbers x = slice_index_or numbers x None

-- the edge of half-edge h joins its two faces
pub record JoinsFaces (d : ℕ) (t : Triangulation) (h : ℕ) : Type 0 where
  pub there : h < length t.vectors
  pub zero : edge_circle d t h ≡ zero

-- half-edge h is still to be crossed: its face waits, or it is one of those from one number to another
abbrev pub IsPending : List ℕ → ℕ → ℕ → ℕ → Type 0
IsPending waiting from to h = Contains waiting (h / 3) ⊎ (from ≤ h × h < to)

-- the faces below n have numbers, those below m are in use, and some faces have number k, of which some wait: faces of one number are of one cell, smaller numbers come first, and only across edges that are pending does a number not go on
pub record AreNumbered (d : ℕ) (t : Triangulation) (n k m : ℕ) (numbers : List (Option ℕ)) (waiting : List ℕ) (from to : ℕ) : Type 0 where
  pub long : 3 * length numbers ≡ length t.vectors
  pub below : (x : ℕ) → x < n → (j : ℕ) × (number_of numbers x ≡ Some j)
  pub small : (x j : ℕ) → number_of numbers x ≡ Some j → j < m
  pub used : (i : ℕ) → i < k → (y : ℕ) × y < n × (number_of numbers y ≡ Some i)
  pub one_cell : (x y j : ℕ) → number_of numbers x ≡ Some j → number_of numbers y ≡ Some j → AreOfOneCell d t x y
  pub order : (x j i : ℕ) → number_of numbers x ≡ Some j → i < j → (y : ℕ) × y < x × (number_of numbers y ≡ Some i)
  pub wait : (x : ℕ) → Contains waiting x → number_of numbers x ≡ Some k
  pub closed : (h j : ℕ) → JoinsFaces d t h → number_of numbers (h / 3) ≡ Some j → ((j ≡ k) × IsPending waiting from to h) ⊎ (number_of numbers (edge_twin t h / 3) ≡ Some j)

-- faces got numbers: those that had one keep it, and each that got one waits
pub record GetNumbers (numbers more : List (Option ℕ)) (waiting longer : List ℕ) : Type 0 where
  pub long : length more ≡ length numbers
  pub kept : (x j : ℕ) → number_of numbers x ≡ Some j → number_of more x ≡ Some j
  pub count : length longer + count_by is_none more ≡ length waiting + count_by is_none numbers

-- each face has a number, faces of one number are those of one cell, and smaller numbers come first
pub record AreCellNumbers (d : ℕ) (t : Triangulation) (numbers : List (Option ℕ)) : Type 0 where
  pub long : 3 * length numbers ≡ length t.vectors
  pub each : (x : ℕ) → x < length numbers → (j : ℕ) × (number_of numbers x ≡ Some j)
  pub one_cell : (x y j : ℕ) → number_of numbers x ≡ Some j → number_of numbers y ≡ Some j → AreOfOneCell d t x y
  pub one_number : (x y j : ℕ) → number_of numbers x ≡ Some j → AreOfOneCell d t x y → number_of numbers y ≡ Some j
  pub order : (x j i : ℕ) → number_of numbers x ≡ Some j → i < j → (y : ℕ) × y < x × (number_of numbers y ≡ Some i)

-- list j, or the empty one
abbrev pub cell_at : List (List ℕ) → ℕ → List ℕ
cell_at cells j = slice_index_or cells j []

-- the faces below n are dealt out: list j has those of number j, ascending, and the first faces ascend
pub record AreDealt (numbers : List (Option ℕ)) (n : ℕ) (cells : List (List ℕ)) : Type 0 where
  pub each : (x j : ℕ) → x < n → number_of numbers x ≡ Some j → j < length cells
  pub members : (j x : ℕ) → j < length cells → IsIn x (cell_at cells j) ↔ (x < n × (number_of numbers x ≡ Some j))
  pub first : (j : ℕ) → j < length cells → IsIn (first_of (cell_at cells j)) (cell_at cells j)
  pub ascending : (j : ℕ) → j < length cells → IsAscending (cell_at cells j)
  pub in_order : IsAscending (map first_of cells)
