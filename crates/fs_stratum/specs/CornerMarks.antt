-- Marks on the corners of polygons. Only proofs and inner calls of this crate cite it; the contract of `flat` doesn't rest on it.
use Rattle.std.specs.Prelude.{◌≡◌, ◌≢◌, ◌⊎◌, ◌↔◌, Bool, true, false, IsTrue, List, unwrap_or}
use Rattle.fs_plane.specs.declared.corners.Corner.{Corner}
use Rattle.fs_gluing.specs.declared.surfaces.Side.{Side}
use Rattle.fs_gluing.specs.Polygons.{at_side, HasSide}
use Rattle.fs_gluing.specs.Vertices.{AreOneVertex}

-- the corner is marked
abbrev pub is_marked : List (List Bool) → Corner → Bool
is_marked marks c = unwrap_or (at_side marks c) false

-- there is a mark for each corner of the polygons
pub record Covers {X : Type 0} (polygons : List (List X)) (marks : List (List Bool)) : Type 0 where
  pub each : (c : Corner) → HasSide polygons c → HasSide marks c

-- there is a mark for each corner, and none is set
pub record AreUnmarked {X : Type 0} (polygons : List (List X)) (marks : List (List Bool)) : Type 0 where
  pub covers : Covers polygons marks
  pub none : (c : Corner) → is_marked marks c ≡ false

-- corner c becomes marked, and the marks of all others are unchanged
pub record MarksCorner (c : Corner) (old new : List (List Bool)) : Type 0 where
  pub covers : Covers old new
  pub here : is_marked new c ≡ true
  pub others : (e : Corner) → e ≢ c → is_marked new e ≡ is_marked old e

-- the corners of the vertex of c become marked, and the marks of all others are unchanged
pub record MarksVertex (polygons : List (List Side)) (c : Corner) (old new : List (List Bool)) : Type 0 where
  pub covers : Covers polygons new
  pub marked : (e : Corner) → IsTrue (is_marked new e) ↔ (IsTrue (is_marked old e) ⊎ AreOneVertex polygons c e)
