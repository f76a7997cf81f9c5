-- The ways of all fans in order: which ones they are, and at which place of the list each of them is.
use Rattle.std.proofs.Common.{◌≡◌, ℕ, zero, suc, ◌+◌, ◌-◌, ◌*◌, ◌<◌, ◌≤◌, Some, List, [], ◌∷◌, ◌++◌, length, map, refl, sym, ap, ◌∙◌, subst, arith}
use Rattle.std.specs.List.{AllByRecursion, slice_get, range_with_len}
use Rattle.std.proofs.lemmas.List.Concat.{flat_map-append}
use Rattle.fs_lists.proofs.All.{All-append}
use Rattle.fs_gluing.specs.declared.surfaces.Side.{Side}
use Rattle.fs_gluing.specs.declared.triangulations.Way.{Way}
use Rattle.fs_gluing.specs.FirstCut.{all_ways, ways_of, fan_of, fans_from}
use Rattle.fs_gluing.specs.NextCorner.{side_count}
use Rattle.fs_triangulate.specs.Fans.{from_first, between, to_first, IsFanWay, faces_before, half_edge_of, fan_triangle}
use Rattle.fs_triangulate.proofs.FanWays.{place_of}

-- the ways of m faces of the fan of polygon i, from face s on
abbrev pub ways_between : ℕ → ℕ → ℕ → List Way
ways_between i s m = all_ways (map (fan_triangle i) (range_with_len s m))

-- the ways of all fans are those of the first and then those of the others
pub fans_split : (i : ℕ) (polygon : List Side) (polygons : List (List Side))
    → all_ways (fans_from i (polygon ∷ polygons)) ≡ ways_between i 0 (length polygon - 2) ++ all_ways (fans_from (i + 1) polygons)
fans_split i polygon polygons = flat_map-append ways_of (fan_of i (length polygon)) (fans_from (i + 1) polygons)

-- ---- which ways they are

in_fan : (P : Way → Type 0) (i s m : ℕ) → ((t : ℕ) → s ≤ t → t < s + m → AllByRecursion P (ways_of (fan_triangle i t))) → AllByRecursion P (ways_between i s m)
in_fan P i s zero h = tt
in_fan P i s (suc m) h =
    let first = h s (omega arith) (omega arith) in
    (first.0, (first.1.0, (first.1.1.0, in_fan P i (s + 1) m (λ t l k. h t (omega arith) (omega arith)))))

-- what holds of the sides of each triangle holds of all ways
in_fans : (P : Way → Type 0) (i : ℕ) (polygons : List (List Side))
    → ((k t : ℕ) → t + 2 < side_count polygons k → AllByRecursion P (ways_of (fan_triangle (i + k) t))) → AllByRecursion P (all_ways (fans_from i polygons))
in_fans P i [] h = tt
in_fans P i (polygon ∷ polygons) h =
    subst (AllByRecursion P) (sym (fans_split i polygon polygons))
    (All-append P (ways_between i 0 (length polygon - 2)) (all_ways (fans_from (i + 1) polygons))
    (in_fan P i 0 (length polygon - 2) (λ t l k. let same : i + 0 ≡ i = omega arith in subst (λ j. AllByRecursion P (ways_of (fan_triangle j t))) same (h 0 t (omega arith))))
    (in_fans P (i + 1) polygons (λ k t l. let same : i + suc k ≡ i + 1 + k = omega arith in subst (λ j. AllByRecursion P (ways_of (fan_triangle j t))) same (h (suc k) t l))))

-- a polygon with sides exists
pub polygon_there : (polygons : List (List Side)) (k : ℕ) → 0 < side_count polygons k → k < length polygons
polygon_there [] k l = absurd (omega arith)
polygon_there (polygon ∷ polygons) zero l = omega arith
polygon_there (polygon ∷ polygons) (suc k) l = let there = polygon_there polygons k l in omega arith

-- the sides of a triangle of a fan are ways of this fan
sides_of_face : (polygons : List (List Side)) (k t : ℕ) → t + 2 < side_count polygons k → AllByRecursion (IsFanWay polygons) (ways_of (fan_triangle k t))
sides_of_face polygons k t l =
    let there = polygon_there polygons k (omega arith) in (
      record { there = there; fan = from_first refl (omega arith) (omega arith) },
      (
        record { there = there; fan = between (omega arith) (omega arith) (omega arith) },
        (record { there = there; fan = to_first refl (omega arith) (omega arith) }, tt),
      ),
    )

-- all ways are ways of fans
pub all_fan_ways : (polygons : List (List Side)) → AllByRecursion (IsFanWay polygons) (all_ways (fans_from 0 polygons))
all_fan_ways polygons =
    in_fans (IsFanWay polygons) 0 polygons (λ k t l. let same : k ≡ 0 + k = omega arith in subst (λ j. AllByRecursion (IsFanWay polygons) (ways_of (fan_triangle j t))) same (sides_of_face polygons k t l))

-- ---- at which places they are

first_face : (i s m : ℕ) (rest : List Way) (j : ℕ) → j < 3 → slice_get (ways_between i s (suc m) ++ rest) j ≡ slice_get (ways_of (fan_triangle i s)) j
first_face i s m rest zero l = refl
first_face i s m rest (suc zero) l = refl
first_face i s m rest (suc (suc zero)) l = refl
first_face i s m rest (suc (suc (suc j))) l = absurd (omega arith)

-- face t of a fan has the three places from 3·t on
at_face : (i s m : ℕ) (rest : List Way) (t j : ℕ) → t < m → j < 3 → slice_get (ways_between i s m ++ rest) (3 * t + j) ≡ slice_get (ways_of (fan_triangle i (s + t))) j
at_face i s zero rest t j l k = absurd (omega arith)
at_face i s (suc m) rest zero j l k =
    let here : 3 * 0 + j ≡ j = omega arith in
    let same : s ≡ s + 0 = omega arith in
    ap (slice_get (ways_between i s (suc m) ++ rest)) here
    ∙ first_face i s m rest j k
    ∙ ap (λ u. slice_get (ways_of (fan_triangle i u)) j) same
at_face i s (suc m) rest (suc t) j l k =
    let here : 3 * suc t + j ≡ suc (suc (suc (3 * t + j))) = omega arith in
    let same : s + 1 + t ≡ s + suc t = omega arith in
    ap (slice_get (ways_between i s (suc m) ++ rest)) here
    ∙ at_face i (s + 1) m rest t j (omega arith) k
    ∙ ap (λ u. slice_get (ways_of (fan_triangle i u)) j) same

-- what is after a fan of m faces is 3·m places later
after_fan : (i s m : ℕ) (rest : List Way) (h : ℕ) → slice_get (ways_between i s m ++ rest) (3 * m + h) ≡ slice_get rest h
after_fan i s zero rest h = ap (slice_get rest) (omega arith)
after_fan i s (suc m) rest h =
    let here : 3 * suc m + h ≡ suc (suc (suc (3 * m + h))) = omega arith in
    ap (slice_get (ways_between i s (suc m) ++ rest)) here ∙ after_fan i (s + 1) m rest h

-- face t of polygon k has the three places after those of all faces before it
pub at_face_of : (i : ℕ) (polygons : List (List Side)) (k t j : ℕ) → t + 2 < side_count polygons k → j < 3
    → slice_get (all_ways (fans_from i polygons)) (3 * (faces_before polygons k + t) + j) ≡ slice_get (ways_of (fan_triangle (i + k) t)) j
at_face_of i [] k t j l m = absurd (omega arith)
at_face_of i (polygon ∷ polygons) zero t j l m =
    let here : 3 * (0 + t) + j ≡ 3 * t + j = omega arith in
    let same : 0 + t ≡ t = omega arith in
    let first : i ≡ i + 0 = omega arith in
    ap (λ ways. slice_get ways (3 * (0 + t) + j)) (fans_split i polygon polygons)
    ∙ ap (slice_get (ways_between i 0 (length polygon - 2) ++ all_ways (fans_from (i + 1) polygons))) here
    ∙ at_face i 0 (length polygon - 2) (all_ways (fans_from (i + 1) polygons)) t j (omega arith) m
    ∙ ap (λ u. slice_get (ways_of (fan_triangle i u)) j) same
    ∙ ap (λ u. slice_get (ways_of (fan_triangle u t)) j) first
at_face_of i (polygon ∷ polygons) (suc k) t j l m =
    let n = length polygon - 2 in
    let b = faces_before polygons k in
    let here : 3 * (n + b + t) + j ≡ 3 * n + (3 * (b + t) + j) = omega arith in
    let same : i + 1 + k ≡ i + suc k = omega arith in
    ap (λ ways. slice_get ways (3 * (n + b + t) + j)) (fans_split i polygon polygons)
    ∙ ap (slice_get (ways_between i 0 n ++ all_ways (fans_from (i + 1) polygons))) here
    ∙ after_fan i 0 n (all_ways (fans_from (i + 1) polygons)) (3 * (b + t) + j)
    ∙ at_face_of (i + 1) polygons k t j l m
    ∙ ap (λ u. slice_get (ways_of (fan_triangle u t)) j) same

-- the half-edge along a way has the number of its place
pub way_at : (polygons : List (List Side)) (w : Way) → IsFanWay polygons w → slice_get (all_ways (fans_from 0 polygons)) (half_edge_of polygons w) ≡ Some w
way_at polygons w f =
    let p = place_of (side_count polygons w.polygon) w f.fan in
    let same : 0 + w.polygon ≡ w.polygon = omega arith in
    ap (slice_get (all_ways (fans_from 0 polygons))) (p.number (faces_before polygons w.polygon))
    ∙ at_face_of 0 polygons w.polygon p.face p.side p.inside p.third
    ∙ ap (λ u. slice_get (ways_of (fan_triangle u p.face)) p.side) same
    ∙ p.is
