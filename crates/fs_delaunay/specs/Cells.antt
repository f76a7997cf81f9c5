-- Cells of a triangulation: faces that are joined by edges of circle value 0.
use Rattle.std.specs.Prelude.{◌≡◌, ℕ, ◌*◌, ◌/◌, ◌<◌, ◌↔◌, Bool, List, [], ◌∷◌, length, map}
use Rattle.std.specs.List.{AllByRecursion}
use Rattle.fs_lists.specs.Members.{IsIn}
use Rattle.fs_quadratic.specs.Ring.{zero}
use Rattle.fs_gluing.specs.Triangulation.{Triangulation, edge_twin}
use Rattle.fs_mesh.specs.Meshes.{edge_circle}

-- half-edge h is a side of face f
pub record IsSideOf (t : Triangulation) (f h : ℕ) : Type 0 where
  pub there : h < length t.vectors
  pub of : h / 3 ≡ f

-- f is a face
abbrev pub IsFace : Triangulation → ℕ → Type 0
IsFace t f = 3 * f < length t.vectors

-- an edge between the faces f and g has the circle value 0
pub record AreJoined (d : ℕ) (t : Triangulation) (f g : ℕ) : Type 0 where
  pub half_edge : ℕ
  pub side : IsSideOf t f half_edge
  pub twin : IsSideOf t g (edge_twin t half_edge)
  pub zero : edge_circle d t half_edge ≡ zero

-- f and g are in one class of the least equivalence that has all joined faces: each set of faces that has both or none of two joined ones has both or none of f and g
abbrev pub AreOfOneCell : ℕ → Triangulation → ℕ → ℕ → Type 0
AreOfOneCell d t f g = (held : ℕ → Bool) → ((i j : ℕ) → AreJoined d t i j → held i ≡ held j) → held f ≡ held g

-- each number is below the next one
abbrev pub IsAscending : List ℕ → Type 0
IsAscending [] = Unit {0}
IsAscending (n ∷ ns) = AllByRecursion (λ m. n < m) ns × IsAscending ns

-- the first number of each list, or 0 where there is none
abbrev pub first_of : List ℕ → ℕ
first_of [] = 0
first_of (n ∷ ns) = n

-- the cells: each is the ascending list of the faces of one class, and they are in the order of their first faces
pub record AreCells (d : ℕ) (t : Triangulation) (cells : List (List ℕ)) : Type 0 where
  pub some_face : (cell : List ℕ) → IsIn cell cells → IsFace t (first_of cell) × IsIn (first_of cell) cell
  pub whole : (cell : List ℕ) → IsIn cell cells → (f : ℕ) → IsIn f cell ↔ (IsFace t f × AreOfOneCell d t (first_of cell) f)
  pub each_face : (f : ℕ) → IsFace t f → (cell : List ℕ) × IsIn cell cells × IsIn f cell
  pub ascending : AllByRecursion IsAscending cells
  pub in_order : IsAscending (map first_of cells)
