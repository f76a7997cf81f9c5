-- The test whether a vector is in the sector of a corner, as it is read from a surface, and the steps of the search by it.
use Rattle.std.proofs.Common.{◌≡◌, ◌⊎◌, ℕ, suc, ◌+◌, ◌*◌, ◌<◌, ◌≤◌, Bool, false, List, Option, Some, None, Result, Ok, sym, ap, ◌∙◌, subst, inl, inr, arith}
use Rattle.std.specs.Option.{IsSome, IfSome}
use Rattle.std.proofs.lemmas.Nat.{mul-le}
use Rattle.fs_cycles.proofs.Iterates.{iterate_after}
use Rattle.fs_quadratic.specs.Checked.{shifted}
use Rattle.fs_quadratic.specs.declared.steps.Place.{Place}
use Rattle.fs_plane.specs.declared.corners.Corner.{Corner}
use Rattle.fs_plane.specs.Formulas.{in_sector_after}
use Rattle.fs_plane.specs.Vector.{PlaneVector}
use Rattle.fs_paths.specs.NextCorners.{next_corner}
use Rattle.fs_gluing.specs.declared.surfaces.Side.{Side}
use Rattle.fs_gluing.specs.Homes.{nth_corner, corner_test_after}
use Rattle.fs_gluing.specs.NextCorner.{side_before, IsNextCorner}
use Rattle.fs_gluing.specs.Polygons.{at_side, HasSide}
use Rattle.fs_gluing.specs.Surface.{GluedPolygons}
use Rattle.fs_gluing.specs.SurfaceSides.{polygon_sides, partner_or, vector_or, vector_of}
use Rattle.fs_gluing.proofs.Sides.CornerSearch.{AreRejected, nth_test}
use Rattle.fs_gluing.proofs.SurfaceCalls.NextCorner.{has_before}
use Rattle.fs_mesh.proofs.SectorPlaces.{in_sector_after-shifted}

read_by : (o : Option Side) (x : PlaneVector) → IsSome o → IfSome o (λ side. x ≡ side.vector) → x ≡ vector_or o
read_by None x h e = cc
read_by (Some side) x h e = e

vector_read : (polygons : List (List Side)) (c : Corner) (x : PlaneVector) → HasSide polygons c → IfSome (at_side polygons c) (λ side. x ≡ side.vector) → x ≡ vector_of polygons c
vector_read polygons c x h e = read_by (at_side polygons c) x h e

-- the sector test of the sides that are read at a corner is that of the corner, with its places counted on
pub test_read : (s : GluedPolygons) (c : Corner) (v : PlaneVector) (d : ℕ) (c_before : Corner) (outgoing incoming : PlaneVector) (before : ℕ) (r answer : Result Bool Place) → HasSide s.polygons c → d ≡ s.d
    → c_before ≡ side_before s.polygons c → IfSome (at_side s.polygons c) (λ side. outgoing ≡ side.vector) → IfSome (at_side s.polygons c_before) (λ side. incoming ≡ side.vector)
    → r ≡ in_sector_after 0 d outgoing incoming v → r ≡ answer → shifted before answer ≡ corner_test_after before s c v
test_read s c v d c_before outgoing incoming before r answer has same_d back out into e is =
    let starts = vector_read s.polygons c outgoing has out in
    let ends = vector_read s.polygons c_before incoming (subst (HasSide s.polygons) (sym back) (has_before s.polygons c has)) into ∙ ap (vector_of s.polygons) back in
    ap (shifted before) (sym is ∙ e ∙ (λ i. in_sector_after 0 (same_d i) (starts i) (ends i) v))
    ∙ sym (in_sector_after-shifted s.d (vector_of s.polygons c) (vector_of s.polygons (side_before s.polygons c)) v before)

-- the corner after the n-th is the next one
pub nth_corner_next : (s : GluedPolygons) (c e : Corner) (n : ℕ) → IsNextCorner s.polygons (nth_corner s c n) e → e ≡ nth_corner s c (n + 1)
nth_corner_next s c e n t =
    let one_more : suc n ≡ n + 1 = omega arith in
    sym t.is ∙ sym (ap (partner_or (side_before s.polygons (nth_corner s c n))) t.there) ∙ sym (iterate_after (next_corner (polygon_sides s.polygons)) n c) ∙ ap (nth_corner s c) one_more

below_or_same : (k n : ℕ) → k < n + 1 → (k < n) ⊎ (k ≡ n)
below_or_same k n l = grind arith

-- one rejected corner more
pub rejected_more : (s : GluedPolygons) (c : Corner) (v : PlaneVector) (before stride n : ℕ) → AreRejected s c v before stride n → nth_test s c v before stride n ≡ Ok false → AreRejected s c v before stride (n + 1)
rejected_more s c v before stride n none more k l = elim (below_or_same k n l) [
  | inl below ↦ none k below
  | inr same ↦ ap (nth_test s c v before stride) same ∙ more
]

-- the places before a test of a search are few
pub few_places : (before stride n : ℕ) → before ≤ 100 → stride ≤ 100 → n < 1024 → before + stride * n ≤ 102400
few_places before stride n few short below = let product = mul-le stride n 100 1023 short (omega arith) in omega arith
