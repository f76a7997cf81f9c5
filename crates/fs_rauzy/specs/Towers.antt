-- The towers of a component: how the flow leads from its base back to it, and what it meets on the way. The contracts of this crate don't rest on this file; those of the crates above it do.
use Rattle.std.specs.Prelude.{◌≡◌, ◌⊎◌, ℕ, ◌<◌, List, length}
use Rattle.fs_lists.specs.Members.{IsIn}
use Rattle.fs_ring.specs.OrderedRing.{IsAtMost}
use Rattle.fs_quadratic.specs.Ring.{Quadratic, quadratic, IsPositive, IsLess, zero, add}
use Rattle.fs_plane.specs.declared.corners.Corner.{Corner}
use Rattle.fs_plane.specs.Vector.{PlaneVector}
use Rattle.fs_gluing.specs.CrossingMap.{block_start, IsPosition, Orbit, IsOutMark, IsInMark}
use Rattle.fs_gluing.specs.Exchanges.{Letter, Component, Takes, top_left, bottom_left}
use Rattle.fs_gluing.specs.Surface.{GluedPolygons}
use Rattle.fs_iet.specs.FirstReturns.{IsBetween, IsFirstReturn}

-- where a base begins, and how long it is
pub record Base : Type 0 where
  pub start : Quadratic
  pub width : Quadratic

-- the base of a component
abbrev pub base_of : Component → Base
base_of c = record { start = c.base; width = c.total }

module _ (s : GluedPolygons) (v : PlaneVector) where
  -- the flow from all positions of a letter is back on the base for the first time after the same number of crossings, and no position strictly inside the letter meets the left end of an outgoing side before
  pub record IsTower (c : Component) (letter : Letter) (m : ℕ) : Type 0 where
    pub some : 0 < m
    pub returns : (y z : Quadratic) → Takes s.d c letter y z → IsFirstReturn s v c.base (add c.base c.total) m y z letter.back
    pub clear : (i : ℕ) (y u : Quadratic) (g : PlaneVector) → i < m → IsLess s.d (top_left c letter.name) y → IsLess s.d y (add (top_left c letter.name) letter.length)
        → Orbit s v i y u g → ¬ ((f : Corner) × IsOutMark s v u f)

  -- the base is among the positions, and each letter has its tower
  pub record HasTowers (c : Component) : Type 0 where
    pub from_zero : IsAtMost (quadratic s.d) (IsPositive s.d) zero c.base
    pub to_total : IsAtMost (quadratic s.d) (IsPositive s.d) (add c.base c.total) (block_start s v (length s.polygons))
    pub tower : (letter : Letter) → IsIn letter c.top → (m : ℕ) × IsTower c letter m

  -- the flow from y meets the left end of an outgoing side
  abbrev pub MeetsOutMark : Quadratic → Type 0
  MeetsOutMark y = (n : ℕ) × (u : Quadratic) × (g : PlaneVector) × (f : Corner) × Orbit s v n y u g × IsOutMark s v u f

  -- the flow comes to y from the left end of an incoming side
  abbrev pub ComesFromInMark : Quadratic → Type 0
  ComesFromInMark y = (n : ℕ) × (u : Quadratic) × (g : PlaneVector) × (e : Corner) × Orbit s v n u y g × IsInMark s v u e

  -- the flow from each left end in the top row meets a vertex, and that to each left end in the bottom row comes from one; and so it is with the right end of the base, or the positions end there
  pub record IsTouched (c : Component) : Type 0 where
    pub top : (letter : Letter) → IsIn letter c.top → MeetsOutMark (top_left c letter.name)
    pub bottom : (letter : Letter) → IsIn letter c.top → ComesFromInMark (bottom_left c letter.name)
    pub right : (add c.base c.total ≡ block_start s v (length s.polygons)) ⊎ (MeetsOutMark (add c.base c.total) ⊎ ComesFromInMark (add c.base c.total))

  -- the flow from y meets a base, at y itself or later
  pub record MeetsBase (y : Quadratic) (b : Base) : Type 0 where
    pub m : ℕ
    pub z : Quadratic
    pub h : PlaneVector
    pub orbit : Orbit s v m y z h
    pub there : IsBetween s.d b.start (add b.start b.width) z

  -- the flow from each position meets exactly one of these bases
  pub record AreMet (bases : List Base) : Type 0 where
    pub some : (y : Quadratic) → IsPosition s v y → (b : Base) × IsIn b bases × MeetsBase y b
    pub only_one : (y : Quadratic) (a b : Base) → IsIn a bases → IsIn b bases → MeetsBase y a → MeetsBase y b → a ≡ b
