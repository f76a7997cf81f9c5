-- How many faces the first cut has, which triangle of which polygon each of them is, and which ways its half-edges run along.
use Rattle.std.proofs.Common.{◌≡◌, ◌⊎◌, ℕ, zero, suc, ◌+◌, ◌-◌, ◌*◌, ◌<◌, ◌≤◌, List, [], ◌∷◌, ◌++◌, length, ap, ◌∙◌, inl, inr, arith}
use Rattle.std.specs.List.{slice_get}
use Rattle.fs_gluing.specs.declared.surfaces.Side.{Side}
use Rattle.fs_gluing.specs.declared.triangulations.Way.{Way}
use Rattle.fs_gluing.specs.FirstCut.{all_ways, ways_of, fans_from}
use Rattle.fs_gluing.specs.NextCorner.{side_count}
use Rattle.fs_triangulate.specs.Fans.{faces_before, fan_triangle}
use Rattle.fs_triangulate.proofs.FanPlaces.{ways_between, fans_split, at_face_of}

-- way r of triangle t of polygon k
pub way_of_face : (polygons : List (List Side)) (k t r : ℕ) → t + 2 < side_count polygons k → r < 3
    → slice_get (all_ways (fans_from 0 polygons)) (3 * (faces_before polygons k + t) + r) ≡ slice_get (ways_of (fan_triangle k t)) r
way_of_face polygons k t r l m =
    let here : 0 + k ≡ k = omega arith in
    at_face_of 0 polygons k t r l m ∙ ap (λ i. slice_get (ways_of (fan_triangle i t)) r) here

-- the number of faces
abbrev pub all_faces : List (List Side) → ℕ
all_faces polygons = faces_before polygons (length polygons)

length_fan : (i a m : ℕ) (rest : List Way) → length (ways_between i a m ++ rest) ≡ 3 * m + length rest
length_fan i a zero rest = omega arith
length_fan i a (suc m) rest = let more = length_fan i (a + 1) m rest in omega arith

length_from : (i : ℕ) (polygons : List (List Side)) → length (all_ways (fans_from i polygons)) ≡ 3 * all_faces polygons
length_from i [] = omega arith
length_from i (polygon ∷ polygons) =
    let rest = length_from (i + 1) polygons in
    let whole = ap length (fans_split i polygon polygons) ∙ length_fan i 0 (length polygon - 2) (all_ways (fans_from (i + 1) polygons)) in
    omega arith

-- three for each face
pub length-all_ways : (polygons : List (List Side)) → length (all_ways (fans_from 0 polygons)) ≡ 3 * all_faces polygons
length-all_ways polygons = length_from 0 polygons

-- ---- which triangle a face is

-- face f is triangle t of polygon i
pub record IsTriangleOf (polygons : List (List Side)) (f : ℕ) : Type 0 where
  pub polygon : ℕ
  pub triangle : ℕ
  pub there : polygon < length polygons
  pub inside : triangle < side_count polygons polygon - 2
  pub is : f ≡ faces_before polygons polygon + triangle

below_or_after : (f m : ℕ) → (f < m) ⊎ (m ≤ f)
below_or_after f m = grind arith

-- each face is a triangle of a polygon
pub triangle_of : (polygons : List (List Side)) (f : ℕ) → f < all_faces polygons → IsTriangleOf polygons f
triangle_of [] f l = absurd (omega arith)
triangle_of (polygon ∷ polygons) f l = elim (below_or_after f (length polygon - 2)) [
  | inl m ↦ record { polygon = 0; triangle = f; there = omega arith; inside = m; is = omega arith }
  | inr m ↦
      let t = triangle_of polygons (f - (length polygon - 2)) (omega arith) in
      let at = t.is in
      let there = t.there in
      record { polygon = suc t.polygon; triangle = t.triangle; there = omega arith; inside = t.inside; is = omega arith }
]

-- and the triangles of the polygons are faces
pub face_below : (polygons : List (List Side)) (k t : ℕ) → t < side_count polygons k - 2 → faces_before polygons k + t < all_faces polygons
face_below [] k t l = absurd (omega arith)
face_below (polygon ∷ polygons) zero t l = omega arith
face_below (polygon ∷ polygons) (suc k) t l = let rest = face_below polygons k t l in omega arith
