-- Polygons that are glued along their sides, by names of sides. The polygons of a surface are one instance, the faces of a triangulation another.
use Rattle.std.specs.Prelude.{◌≡◌, ◌≢◌, ℕ, Bool, IsTrue}
use Rattle.fs_cycles.specs.Cycles.{iterate}
use Rattle.fs_ring.specs.Operations.{Operations}
use Rattle.fs_ring.specs.Vector.{Vector, add_vector, neg_vector, unit_vector}
use Rattle.fs_ring.specs.Direction.{InHalfPlane, InSector}
use Rattle.fs_ring.specs.Vector.{cross}
use Rattle.fs_convex.specs.Turning.{rises}

-- which names are sides; the next side of the polygon and the one before; the side that a side is glued to; the vector of a side. The corner at the start of a side has the side's name
pub record SideGluing (X A : Type 0) : Type 0 where
  pub has : X → Bool
  pub next : X → X
  pub prev : X → X
  pub twin : X → X
  pub vector : X → Vector A

module _ {X A : Type 0} (G : SideGluing X A) where
  -- x is the name of a side
  abbrev pub IsSide : X → Type 0
  IsSide x = IsTrue (G.has x)

  -- side k of the polygon of b, which is side 0
  abbrev pub nth_side : X → ℕ → X
  nth_side b k = iterate G.next k b

  -- the vectors of the sides from b on
  abbrev pub sides_from : X → ℕ → Vector A
  sides_from b k = G.vector (nth_side b k)

module _ {A : Type 0} (R : Operations A) (IsPositive : A → Type 0) (is_ahead : Vector A → Vector A → Bool) where
  -- the polygons close, no corner bends right, and each has turning number 1; each side is glued to another, which has the opposite vector and is glued to it
  pub record AreGluedPolygons {X : Type 0} (G : SideGluing X A) : Type 0 where
    pub next_side : (x : X) → IsSide G x → IsSide G (G.next x)
    pub prev_side : (x : X) → IsSide G x → IsSide G (G.prev x)
    pub twin_side : (x : X) → IsSide G x → IsSide G (G.twin x)
    pub next_prev : (x : X) → IsSide G x → G.next (G.prev x) ≡ x
    pub prev_next : (x : X) → IsSide G x → G.prev (G.next x) ≡ x
    pub twin_twin : (x : X) → IsSide G x → G.twin (G.twin x) ≡ x
    pub twin_other : (x : X) → IsSide G x → G.twin x ≢ x
    pub twin_opposite : (x : X) → IsSide G x → G.vector (G.twin x) ≡ neg_vector R (G.vector x)
    pub convex : (x : X) → IsSide G x → InHalfPlane R IsPositive (G.vector x) (G.vector (G.next x))
    -- a position for each corner, in each polygon by itself, such that each side leads from its corner to the next
    pub position : X → Vector A
    pub position_next : (x : X) → IsSide G x → position (G.next x) ≡ add_vector R (position x) (G.vector x)
    -- so many sides lead from x back to x, and the turning number of the boundary that they make is 1
    pub sides : X → ℕ
    pub returns : (x : X) → IsSide G x → nth_side G x (sides x) ≡ x
    pub turning_number : (x : X) → IsSide G x → rises R is_ahead (unit_vector R) (sides_from G x) (sides x) ≡ 1

module _ {A : Type 0} (R : Operations A) (IsPositive : A → Type 0) {X : Type 0} (G : SideGluing X A) where
  -- v is in the sector of the corner c, from the side that begins there, included, to the opposite of the side that ends there, excluded
  abbrev pub InSectorOf : X → Vector A → Type 0
  InSectorOf c v = InSector R IsPositive (G.vector c) (neg_vector R (G.vector (G.prev c))) v

  -- v is strictly inside that sector
  pub record StrictlyInSectorOf (c : X) (v : Vector A) : Type 0 where
    pub left_of_start : IsPositive (cross R (G.vector c) v)
    pub right_of_end : IsPositive (cross R v (neg_vector R (G.vector (G.prev c))))
