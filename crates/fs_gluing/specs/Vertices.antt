-- The vertices of a surface: the corners of each, and its cone number.
use Rattle.std.specs.Prelude.{◌≡◌, ℕ, zero, suc, ◌⊎◌, List, [], ◌∷◌, Some}
use Rattle.fs_plane.specs.declared.corners.Corner.{Corner}
use Rattle.fs_plane.specs.Vector.{east, IsInSector}
use Rattle.fs_gluing.specs.declared.surfaces.Side.{Side}
use Rattle.fs_gluing.specs.Polygons.{at_side, all_sides}
use Rattle.fs_gluing.specs.Surface.{GluedPolygons}
use Rattle.fs_gluing.specs.NextCorner.{IsNextCorner, side_before}

-- e is the n-th corner after c round the vertex
abbrev pub IsNthNextCorner : List (List Side) → ℕ → Corner → Corner → Type 0
IsNthNextCorner polygons zero c e = c ≡ e
IsNthNextCorner polygons (suc n) c e = (next : Corner) × IsNextCorner polygons c next × IsNthNextCorner polygons n next e

-- both corners are of one vertex: some number of steps to the next corner leads from c to e
abbrev pub AreOneVertex : List (List Side) → Corner → Corner → Type 0
AreOneVertex polygons c e = (n : ℕ) × IsNthNextCorner polygons n c e

-- the corner's sector, which the sides that end and begin there bound, holds (1,0)
pub record HoldsEast (s : GluedPolygons) (c : Corner) : Type 0 where
  pub before : Side
  pub after : Side
  pub ends : at_side s.polygons (side_before s.polygons c) ≡ Some before
  pub begins : at_side s.polygons c ≡ Some after
  pub holds : IsInSector s.d after.vector before.vector east

-- k of these corners have P
abbrev pub IsCount : (Corner → Type 0) → List Corner → ℕ → Type 0
IsCount P [] k = k ≡ 0
IsCount P (c ∷ corners) k = (P c × ((less : ℕ) × (k ≡ suc less) × IsCount P corners less)) ⊎ ((¬ P c) × IsCount P corners k)

-- k is the cone number of the vertex of c: k of its corners hold (1,0), and its cone angle is 2πk
abbrev pub IsConeNumber : GluedPolygons → Corner → ℕ → Type 0
IsConeNumber s c k = IsCount (λ e. AreOneVertex s.polygons c e × HoldsEast s e) (all_sides s.polygons) k
