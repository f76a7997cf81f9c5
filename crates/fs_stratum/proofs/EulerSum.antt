-- The genus from the cone numbers, where the number of vertices, polygons and edges is even.
use Rattle.std.proofs.Common.{◌≡◌, ℕ, ◌+◌, ◌*◌, ◌-◌, ◌≤◌, List, [], ◌∷◌, length, sum_by, ◌∙◌, arith}
use Rattle.std.proofs.lemmas.List.Sums.{sum_by-cons}
use Rattle.std.specs.List.{AllByRecursion}
use Rattle.fs_lists.proofs.Counts.{tally}
use Rattle.fs_gluing.specs.Polygons.{all_sides}
use Rattle.fs_gluing.specs.Surface.{GluedPolygons, IsTranslationSurface}
use Rattle.fs_gluing.specs.Vertices.{HoldsEast, IsCount}
use Rattle.fs_stratum.specs.declared.cones.Cone.{Cone}
use Rattle.fs_stratum.specs.VertexList.{HasGenus}
use Rattle.fs_gluing.proofs.Sides.AllSides.{length-all_sides}
use Rattle.fs_stratum.proofs.HeldCorners.{low_at}
use Rattle.fs_stratum.proofs.RaisedSides.{low-half, held-half}

at_least : (cones : List Cone) → AllByRecursion (λ cone. 1 ≤ cone.k) cones → length cones ≤ sum_by (λ (cone : Cone). cone.k) cones
at_least [] all = omega arith
at_least (cone ∷ cones) all =
    let rest = at_least cones all.1 in
    let here = all.0 in
    let sum = sum_by-cons (λ (cone : Cone). cone.k) cone cones in
    omega arith

genus_from : (v k f h n m : ℕ) → v ≤ k → k + f ≡ h → h + h ≡ n → f + v + h ≡ 2 * m → (g : ℕ) × (k + 2 ≡ v + 2 * g) × (2 * v + 2 * f + 4 * g ≡ n + 4)
genus_from v k f h n m l a b e = (m + 1 - (f + v), omega arith, omega arith)

-- the number of polygons, vertices and edges is even; the edges are as many as the sides that aren't raised
abbrev pub HasEvenSum : GluedPolygons → List Cone → Type 0
HasEvenSum s cones = (m : ℕ) × (length s.polygons + length cones + tally (low_at s.d s.polygons) (all_sides s.polygons) ≡ 2 * m)

-- cone numbers above 0 whose sum is the count of held corners have a genus, where the sum of the three numbers is even
pub has_genus : (s : GluedPolygons) → IsTranslationSurface s → (cones : List Cone) → AllByRecursion (λ cone. 1 ≤ cone.k) cones → IsCount (HoldsEast s) (all_sides s.polygons) (sum_by (λ (cone : Cone). cone.k) cones)
    → HasEvenSum s cones → (g : ℕ) × HasGenus s cones g
has_genus s surface cones positive total even =
    let r = genus_from (length cones) (sum_by (λ (cone : Cone). cone.k) cones) (length s.polygons) (tally (low_at s.d s.polygons) (all_sides s.polygons)) (sum_by length s.polygons) even.0
    (at_least cones positive) (held-half s surface _ total) (low-half s surface ∙ length-all_sides s.polygons) even.1 in
    (r.0, record { positive = positive; sum = r.1; genus = r.2 })
