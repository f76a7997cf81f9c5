-- The search through glued sides: which polygons are marked as reached, and which wait to be visited. Only proofs of this crate cite it; the contract of `flat` doesn't rest on it.
use Rattle.std.specs.Prelude.{◌≡◌, ◌↔◌, ◌⊎◌, ℕ, ◌+◌, Bool, false, not, IsTrue, List, Contains, length, map, count_by, slice_index_or}
use Rattle.fs_gluing.specs.declared.surfaces.Side.{Side}
use Rattle.fs_gluing.specs.Reached.{IsReached}
use Rattle.fs_gluing.specs.Surface.{AreNeighbours}

-- polygon k is marked
abbrev pub IsMarked : List Bool → ℕ → Type 0
IsMarked marks k = IsTrue (slice_index_or marks k false)

-- the polygons that these sides are glued to
abbrev pub partner_polygons : List Side → List ℕ
partner_polygons sides = map (λ side. side.partner.polygon) sides

-- from `marks` to `more` these polygons become marked, and from `waiting` to `longer` those that weren't marked before are added
pub record MarksPolygons (polygons : List ℕ) (marks more : List Bool) (waiting longer : List ℕ) : Type 0 where
  pub long : length more ≡ length marks
  pub marked : (k : ℕ) → IsMarked more k ↔ (IsMarked marks k ⊎ Contains polygons k)
  pub wait : (k : ℕ) → Contains longer k ↔ (Contains waiting k ⊎ (IsMarked more k × (¬ IsMarked marks k)))
  pub count : length longer + count_by not more ≡ length waiting + count_by not marks

-- each polygon has a mark, which tells whether it is reached from polygon 0
pub record AreReachedMarks (polygons : List (List Side)) (marks : List Bool) : Type 0 where
  pub long : length marks ≡ length polygons
  pub exact : (k : ℕ) → IsMarked marks k ↔ IsReached (AreNeighbours polygons) k
