-- The half-edges of the first cut, by the ways along which they run. Only proofs and inner calls of this crate cite it; the contract of `flat` doesn't rest on it.
use Rattle.std.specs.Prelude.{◌≡◌, ℕ, zero, suc, ◌+◌, ◌-◌, ◌*◌, ◌<◌, ◌≤◌, cond, eqb, List, [], ◌∷◌, ◌++◌, length, map}
use Rattle.std.specs.List.{range_with_len}
use Rattle.fs_gluing.specs.declared.surfaces.Side.{Side}
use Rattle.fs_gluing.specs.declared.triangulations.Triangles.{Triangles}
use Rattle.fs_gluing.specs.declared.triangulations.Way.{Way}
use Rattle.fs_gluing.specs.Surface.{GluedPolygons}
use Rattle.fs_gluing.specs.NextCorner.{side_count}
use Rattle.fs_gluing.specs.FirstCut.{CornerTriangle, all_ways, ways_of, way_vector, way_start, glued_way}

-- the way is a half-edge of the fan of a polygon with n sides: from corner 0 to another, along a side between two others, or back to corner 0
pub data IsInFan (n : ℕ) (w : Way) : Type 0 where
  from_first : w.from ≡ 0 → 1 ≤ w.to → w.to + 2 ≤ n → IsInFan n w
  between : 1 ≤ w.from → w.to ≡ w.from + 1 → w.from + 2 ≤ n → IsInFan n w
  to_first : w.to ≡ 0 → 2 ≤ w.from → w.from + 1 ≤ n → IsInFan n w

-- the way is a half-edge of the fan of its polygon
pub record IsFanWay (polygons : List (List Side)) (w : Way) : Type 0 where
  pub there : w.polygon < length polygons
  pub fan : IsInFan (side_count polygons w.polygon) w

-- how many faces the polygons before polygon k give
abbrev pub faces_before : List (List Side) → ℕ → ℕ
faces_before [] k = 0
faces_before (polygon ∷ polygons) zero = 0
faces_before (polygon ∷ polygons) (suc k) = (length polygon - 2) + faces_before polygons k

-- the half-edge along a way of a polygon whose first face has this number
abbrev pub half_edge_along : ℕ → Way → ℕ
half_edge_along base w = cond (eqb w.from 0) (3 * (base + w.to - 1)) (cond (eqb w.to 0) (3 * (base + w.from - 2) + 2) (3 * (base + w.from - 1) + 1))

-- the half-edge along a way
abbrev pub half_edge_of : List (List Side) → Way → ℕ
half_edge_of polygons w = half_edge_along (faces_before polygons w.polygon) w

-- the number of the first face of each polygon
abbrev pub face_bases : List (List Side) → List ℕ
face_bases polygons = map (faces_before polygons) (range_with_len 0 (length polygons))

-- triangle t of the fan of polygon i
abbrev pub fan_triangle : ℕ → ℕ → CornerTriangle
fan_triangle i t = record { polygon = i; one = 0; two = t + 1; three = t + 2 }

-- the home and the twin of the half-edge along a way were added
pub record AddsHalfEdge (polygons : List (List Side)) (w : Way) (before after : Triangles) : Type 0 where
  pub faces : after.faces ≡ before.faces
  pub homes : after.homes ≡ before.homes ++ way_start w ∷ []
  pub twins : after.twins ≡ before.twins ++ half_edge_of polygons (glued_way polygons w) ∷ []

-- these triangles of the first cut were added
pub record AddsTriangles (s : GluedPolygons) (corners : List CornerTriangle) (before after : Triangles) : Type 0 where
  pub faces : after.faces ≡ before.faces ++ map (λ t. map (way_vector s) (ways_of t)) corners
  pub homes : after.homes ≡ before.homes ++ map way_start (all_ways corners)
  pub twins : after.twins ≡ before.twins ++ map (λ w. half_edge_of s.polygons (glued_way s.polygons w)) (all_ways corners)

-- the triangles are those of the first cut into these, in order, with the twin of each half-edge by its number
pub record HasTriangles (s : GluedPolygons) (corners : List CornerTriangle) (triangles : Triangles) : Type 0 where
  pub faces : triangles.faces ≡ map (λ t. map (way_vector s) (ways_of t)) corners
  pub homes : triangles.homes ≡ map way_start (all_ways corners)
  pub twins : triangles.twins ≡ map (λ w. half_edge_of s.polygons (glued_way s.polygons w)) (all_ways corners)
