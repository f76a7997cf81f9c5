-- The number of the first face of each polygon: one polygon more, and how large it gets.
use Rattle.std.proofs.Common.{◌≡◌, ℕ, zero, suc, ◌+◌, ◌-◌, ◌<◌, ◌≤◌, List, [], ◌∷◌, ◌++◌, length, map, sum_by, get_or, refl, sym, ap, ◌∙◌, subst, arith}
use Rattle.std.specs.Option.{IfSome}
use Rattle.std.specs.List.{slice_get, range_with_len}
use Rattle.std.proofs.lemmas.List.FromFn.{map-range_with_len_more, get_or-map-range_with_len, length-map-range_with_len}
use Rattle.std.proofs.lemmas.List.Sums.{sum_by-cons}
use Rattle.fs_gluing.specs.declared.surfaces.Side.{Side}
use Rattle.fs_gluing.specs.Limits.{most_sides}
use Rattle.fs_gluing.specs.NextCorner.{side_count}
use Rattle.fs_gluing.specs.Surface.{GluedPolygons, IsSurface}
use Rattle.fs_triangulate.specs.Fans.{faces_before, face_bases}

-- the number of sides that `sides` returns
pub count_of : (polygons : List (List Side)) (i n : ℕ) → i < length polygons → IfSome (slice_get polygons i) (λ polygon. n ≡ length polygon) → n ≡ side_count polygons i
count_of [] i n l h = absurd (omega arith)
count_of (polygon ∷ polygons) zero n l h = h
count_of (polygon ∷ polygons) (suc i) n l h = count_of polygons i n (omega arith) h

-- no polygon is before polygon 0
pub no_faces : (polygons : List (List Side)) → faces_before polygons 0 ≡ 0
no_faces [] = refl
no_faces (polygon ∷ polygons) = refl

-- the faces of one polygon more
pub faces_more : (polygons : List (List Side)) (k : ℕ) → k < length polygons → faces_before polygons (k + 1) ≡ faces_before polygons k + (side_count polygons k - 2)
faces_more [] k l = absurd (omega arith)
faces_more (polygon ∷ polygons) zero l = let e = no_faces polygons in omega arith
faces_more (polygon ∷ polygons) (suc k) l =
    let e = faces_more polygons k (omega arith) in
    let one : suc k + 1 ≡ suc (k + 1) = omega arith in
    let more : length polygon - 2 + faces_before polygons (k + 1) ≡ length polygon - 2 + faces_before polygons k + (side_count polygons k - 2) = omega arith in
    ap (faces_before (polygon ∷ polygons)) one ∙ more

-- there are fewer faces than sides
faces_few : (polygons : List (List Side)) (k : ℕ) → faces_before polygons k ≤ sum_by length polygons
faces_few [] k = omega arith
faces_few (polygon ∷ polygons) zero = omega arith
faces_few (polygon ∷ polygons) (suc k) =
    let rest = faces_few polygons k in
    omega (arith, sum_by-cons length polygon polygons)

-- no number of a face is above the number of sides
pub base_few : (s : GluedPolygons) → IsSurface s → (k : ℕ) → faces_before s.polygons k ≤ most_sides
base_few s surface k = let few = faces_few s.polygons k in let sides = surface.sides in omega (arith, few, sides)

-- no polygon has more sides
count_few : (polygons : List (List Side)) (k : ℕ) → side_count polygons k ≤ sum_by length polygons
count_few [] k = omega arith
count_few (polygon ∷ polygons) zero = omega (arith, sum_by-cons length polygon polygons)
count_few (polygon ∷ polygons) (suc k) =
    let rest = count_few polygons k in
    omega (arith, sum_by-cons length polygon polygons)

pub sides_few : (s : GluedPolygons) → IsSurface s → (k : ℕ) → side_count s.polygons k ≤ most_sides
sides_few s surface k = let few = count_few s.polygons k in let sides = surface.sides in omega (arith, few, sides)

-- the list of the numbers of polygons before k
pub record AreBasesUpTo (polygons : List (List Side)) (k : ℕ) (bases : List ℕ) (faces : ℕ) : Type 0 where
  pub bases_are : bases ≡ map (faces_before polygons) (range_with_len 0 k)
  pub faces_are : faces ≡ faces_before polygons k

pub bases_none : (polygons : List (List Side)) (bases : List ℕ) → bases ≡ [] → AreBasesUpTo polygons 0 bases 0
bases_none polygons bases e = record { bases_are = e; faces_are = sym (no_faces polygons) }

pub bases_more : (polygons : List (List Side)) (k : ℕ) (bases bases' : List ℕ) (faces n : ℕ) → k < length polygons → n ≡ side_count polygons k → bases' ≡ bases ++ faces ∷ []
    → AreBasesUpTo polygons k bases faces → AreBasesUpTo polygons (k + 1) bases' (faces + (n - 2))
bases_more polygons k bases bases' faces n l count pushed u = record {
  bases_are = pushed ∙ ap (λ f. bases ++ f ∷ []) u.faces_are ∙ ap (λ bs. bs ++ faces_before polygons k ∷ []) u.bases_are ∙ sym (map-range_with_len_more (faces_before polygons) 0 k k (omega arith));
  faces_are = let e = faces_more polygons k l in let f = u.faces_are in omega (arith, e, f, count);
}

-- the list has a number for each polygon
pub bases_long : (polygons : List (List Side)) (bases : List ℕ) (k : ℕ) → bases ≡ face_bases polygons → k < length polygons → k < length bases
bases_long polygons bases k e l = subst (λ n. k < n) (sym (ap length e ∙ length-map-range_with_len (faces_before polygons) 0 (length polygons))) l

-- the number that is read
pub base_is : (polygons : List (List Side)) (bases : List ℕ) (k d : ℕ) → bases ≡ face_bases polygons → k < length polygons → get_or bases k d ≡ faces_before polygons k
base_is polygons bases k d e l = ap (λ bs. get_or bs k d) e ∙ get_or-map-range_with_len (faces_before polygons) 0 (length polygons) k k d l (omega arith)
