-- How many corners of a polygon hold (1,0): one less than its sides that aren't raised.
use Rattle.std.proofs.Common.{◌≡◌, ℕ, suc, ◌+◌, ◌-◌, Bool, false, cond, not, Option, Some, None, List, [], ◌∷◌, length, count_by, sym, ap, ◌∙◌, refl, arith}
use Rattle.std.proofs.lemmas.List.Sums.{sum_by-cons}
use Rattle.std.proofs.lemmas.List.{length-map}
use Rattle.std.specs.Option.{option_and_then}
use Rattle.std.specs.List.{slice_get, range_with_len, AllByRecursion}
use Rattle.fs_lists.proofs.Counts.{tally, one_if, tally-append, tally-agree, tally-map}
use Rattle.fs_lists.proofs.Items.{some_of_inside, value_of}
use Rattle.fs_quadratic.specs.Radicand.{IsRadicand}
use Rattle.fs_plane.specs.declared.corners.Corner.{Corner}
use Rattle.fs_plane.specs.Vector.{is_raised, BendsNoRight, PlaneVector}
use Rattle.fs_gluing.specs.Gluing.{sides_between}
use Rattle.fs_gluing.specs.declared.surfaces.Side.{Side}
use Rattle.fs_gluing.specs.Convex.{corners_from, last_side, is_rise}
use Rattle.fs_gluing.specs.Polygons.{at_side, sides_from, all_sides}
use Rattle.fs_gluing.specs.Surface.{GluedPolygons, IsTranslationSurface, IsPolygon, side_vectors}
use Rattle.fs_gluing.specs.NextCorner.{side_before, length_or_0}
use Rattle.fs_gluing.proofs.SurfaceCalls.NextCorner.{before, before_zero, before_suc}
use Rattle.fs_gluing.proofs.Sides.AllSides.{corner}
use Rattle.fs_gluing.proofs.Polygon.CornersBend.{bends_no_right}
use Rattle.fs_gluing.proofs.Sides.CornerRays.{last_is}
use Rattle.fs_stratum.proofs.SectorOfEast.{is_held, is_east, counted}

-- ---- along the boundary of a polygon, by its vectors

-- the side isn't raised
abbrev pub is_low : ℕ → PlaneVector → Bool
is_low d v = not (is_raised d v)

-- how many of the corners at which these sides begin hold (1,0); b is the side before them
abbrev held_from : ℕ → PlaneVector → List PlaneVector → ℕ
held_from d b [] = 0
held_from d b (s ∷ sides) = one_if (is_held d b s) + held_from d s sides

rises-next : (d : ℕ) (b s : PlaneVector) (sides : List PlaneVector) → count_by (is_rise d) (corners_from b (s ∷ sides)) ≡ one_if (is_rise d (record { before = b; after = s })) + count_by (is_rise d) (corners_from s sides)
rises-next d b s sides = sum_by-cons (λ corner_sides. cond (is_rise d corner_sides) 1 0) (record { before = b; after = s }) (corners_from s sides)

sum_more : (h r e l a hs rs rss n el ll ts : ℕ) → h + r + e ≡ l + a → rss ≡ r + rs → hs + rs + a + ll ≡ n + ts + el → h + hs + rss + e + ll ≡ l + (n + ts) + el
sum_more h r e l a hs rs rss n el ll ts p q s = omega arith

-- along sides that don't bend right: held corners and rises by the sides that aren't raised
held-path : {d : ℕ} → IsRadicand d → (b : PlaneVector) (sides : List PlaneVector) → AllByRecursion (λ corner_sides. BendsNoRight d corner_sides.before corner_sides.after) (corners_from b sides)
    → held_from d b sides + count_by (is_rise d) (corners_from b sides) + one_if (is_east d b) + one_if (is_low d (last_side (b ∷ sides)))
    ≡ one_if (is_low d b) + tally (is_low d) sides + one_if (is_east d (last_side (b ∷ sides)))
held-path {d} radicand b [] all = sum_none (one_if (is_east d b)) (one_if (is_low d b))
  where
    sum_none : (e l : ℕ) → 0 + 0 + e + l ≡ l + 0 + e
    sum_none e l = omega arith
held-path {d} radicand b (s ∷ sides) all =
    sum_more _ _ _ _ _ _ _ _ _ _ _ _ (counted radicand b s all.0) (rises-next d b s sides) (held-path radicand s sides all.1)

held-round : {straight : Bool} {d : ℕ} → IsRadicand d → (sides : List PlaneVector) → IsPolygon straight d sides → held_from d (last_side sides) sides + 1 ≡ tally (is_low d) sides
held-round radicand [] p = let l = p.three in absurd (omega arith)
held-round {straight} {d} radicand (s ∷ sides) p =
    sum_round (held_from d (last_side (s ∷ sides)) (s ∷ sides)) _ (one_if (is_east d (last_side (s ∷ sides)))) (one_if (is_low d (last_side (s ∷ sides)))) (tally (is_low d) (s ∷ sides))
    (held-path radicand (last_side (s ∷ sides)) (s ∷ sides) (bends_no_right (s ∷ sides) p)) p.turning_number
  where
    sum_round : (h r e l t : ℕ) → h + r + e + l ≡ l + t + e → r ≡ 1 → h + 1 ≡ t
    sum_round h r e l t p q = omega arith

-- ---- by the numbers of the sides

-- neither side at a corner is raised; false where one is missing
abbrev pub held_or : ℕ → Option Side → Option Side → Bool
held_or d None a = false
held_or d (Some b) None = false
held_or d (Some b) (Some a) = is_held d b.vector a.vector

-- the side isn't raised; false where it is missing
abbrev pub low_or : ℕ → Option Side → Bool
low_or d None = false
low_or d (Some a) = is_low d a.vector

-- corner j of the polygon holds (1,0)
abbrev held_in : ℕ → List Side → ℕ → Bool
held_in d polygon j = held_or d (slice_get polygon (before (length polygon) j)) (slice_get polygon j)

-- side j of the polygon isn't raised
abbrev low_in : ℕ → List Side → ℕ → Bool
low_in d polygon j = low_or d (slice_get polygon j)

held_in-from : (d : ℕ) (whole rest : List Side) (j : ℕ) (b : Side) → slice_get whole (before (length whole) j) ≡ Some b → ((k : ℕ) → slice_get whole (j + k) ≡ slice_get rest k)
    → tally (held_in d whole) (range_with_len j (length rest)) ≡ held_from d b.vector (side_vectors rest)
held_in-from d whole [] j b ends same = refl
held_in-from d whole (s ∷ rest) j b ends same =
    let plus : j ≡ j + 0 = omega arith in
    let here : slice_get whole j ≡ Some s = ap (slice_get whole) plus ∙ same 0 in
    let next : suc j ≡ j + 1 = omega arith in
    let rec = held_in-from d whole rest (j + 1) s (ap (λ n. slice_get whole (before (length whole) n)) (sym next) ∙ ap (slice_get whole) (before_suc (length whole) j) ∙ here)
    (λ k. ap (slice_get whole) (let e : j + 1 + k ≡ j + suc k = omega arith in e) ∙ same (suc k)) in
    λ i. one_if (held_or d (ends i) (here i)) + rec i

low_in-from : (d : ℕ) (whole rest : List Side) (j : ℕ) → ((k : ℕ) → slice_get whole (j + k) ≡ slice_get rest k) → tally (low_in d whole) (range_with_len j (length rest)) ≡ tally (is_low d) (side_vectors rest)
low_in-from d whole [] j same = refl
low_in-from d whole (s ∷ rest) j same =
    let plus : j ≡ j + 0 = omega arith in
    let here : slice_get whole j ≡ Some s = ap (slice_get whole) plus ∙ same 0 in
    let rec = low_in-from d whole rest (j + 1) (λ k. ap (slice_get whole) (let e : j + 1 + k ≡ j + suc k = omega arith in e) ∙ same (suc k)) in
    λ i. one_if (low_or d (here i)) + rec i

held-polygon : {straight : Bool} {d : ℕ} → IsRadicand d → (polygon : List Side) → IsPolygon straight d (side_vectors polygon)
    → tally (held_in d polygon) (range_with_len 0 (length polygon)) + 1 ≡ tally (low_in d polygon) (range_with_len 0 (length polygon))
held-polygon {straight} {d} radicand polygon p =
    let three = p.three in
    let long = length-map polygon (λ (s : Side). s.vector) in
    let b = value_of (slice_get polygon (length polygon - 1)) (some_of_inside polygon (length polygon - 1) (omega arith)) in
    let none : (k : ℕ) → slice_get polygon (0 + k) ≡ slice_get polygon k = λ k. ap (slice_get polygon) (let e : 0 + k ≡ k = omega arith in e) in
    let h : tally (held_in d polygon) (range_with_len 0 (length polygon)) ≡ held_from d b.value.vector (side_vectors polygon) =
    held_in-from d polygon polygon 0 b.value (ap (slice_get polygon) (before_zero (length polygon) 0 refl) ∙ b.is) none in
    let last : held_from d b.value.vector (side_vectors polygon) ≡ held_from d (last_side (side_vectors polygon)) (side_vectors polygon) = ap (λ v. held_from d v (side_vectors polygon)) (sym (last_is polygon b.value b.is)) in
    ap (λ n. n + 1) (h ∙ last) ∙ held-round radicand (side_vectors polygon) p ∙ sym (low_in-from d polygon polygon 0 none)

-- ---- over all polygons

-- the corner holds (1,0)
abbrev pub held_at : ℕ → List (List Side) → Corner → Bool
held_at d polygons c = held_or d (at_side polygons (side_before polygons c)) (at_side polygons c)

-- the side isn't raised
abbrev pub low_at : ℕ → List (List Side) → Corner → Bool
low_at d polygons c = low_or d (at_side polygons c)

held_at-in : (d : ℕ) (polygons : List (List Side)) (i j : ℕ) (polygon : List Side) → slice_get polygons i ≡ Some polygon → held_at d polygons (corner i j) ≡ held_in d polygon j
held_at-in d polygons i j polygon is =
    λ k. held_or d (option_and_then (λ p. slice_get p (before (length_or_0 (is k)) j)) (is k)) (option_and_then (λ p. slice_get p j) (is k))

low_at-in : (d : ℕ) (polygons : List (List Side)) (i j : ℕ) (polygon : List Side) → slice_get polygons i ≡ Some polygon → low_at d polygons (corner i j) ≡ low_in d polygon j
low_at-in d polygons i j polygon is = λ k. low_or d (option_and_then (λ p. slice_get p j) (is k))

held-row : {straight : Bool} {d : ℕ} → IsRadicand d → (polygons : List (List Side)) (i : ℕ) (polygon : List Side) → slice_get polygons i ≡ Some polygon → IsPolygon straight d (side_vectors polygon)
    → tally (held_at d polygons) (sides_between i 0 (length polygon)) + 1 ≡ tally (low_at d polygons) (sides_between i 0 (length polygon))
held-row {straight} {d} radicand polygons i polygon is p =
    ap (λ n. n + 1) (tally-map (held_at d polygons) (corner i) (range_with_len 0 (length polygon)) ∙ tally-agree _ _ (range_with_len 0 (length polygon)) (λ j h. held_at-in d polygons i j polygon is))
    ∙ held-polygon radicand polygon p
    ∙ sym (tally-map (low_at d polygons) (corner i) (range_with_len 0 (length polygon)) ∙ tally-agree _ _ (range_with_len 0 (length polygon)) (λ j h. low_at-in d polygons i j polygon is))

held-sides_from : (straight : Bool) {d : ℕ} → IsRadicand d → (polygons rest : List (List Side)) (i : ℕ) → ((k : ℕ) → slice_get polygons (i + k) ≡ slice_get rest k) → AllByRecursion (λ polygon. IsPolygon straight d (side_vectors polygon)) rest
    → tally (held_at d polygons) (sides_from i rest) + length rest ≡ tally (low_at d polygons) (sides_from i rest)
held-sides_from straight radicand polygons [] i same all = refl
held-sides_from straight {d} radicand polygons (polygon ∷ rest) i same all =
    let plus : i ≡ i + 0 = omega arith in
    let here : slice_get polygons i ≡ Some polygon = ap (slice_get polygons) plus ∙ same 0 in
    let first = held-row radicand polygons i polygon here all.0 in
    let rec = held-sides_from straight radicand polygons rest (i + 1) (λ k. ap (slice_get polygons) (let e : i + 1 + k ≡ i + suc k = omega arith in e) ∙ same (suc k)) all.1 in
    sum_rows _ _ _ _ _ _ _ (tally-append (held_at d polygons) (sides_between i 0 (length polygon)) (sides_from (i + 1) rest)) (tally-append (low_at d polygons) (sides_between i 0 (length polygon)) (sides_from (i + 1) rest)) first rec
  where
    sum_rows : (h a b l x y n : ℕ) → h ≡ a + b → l ≡ x + y → a + 1 ≡ x → b + n ≡ y → h + suc n ≡ l
    sum_rows h a b l x y n p q r s = omega arith

-- the corners that hold (1,0) and the polygons are as many as the sides that aren't raised
pub held-all : (s : GluedPolygons) → IsTranslationSurface s → tally (held_at s.d s.polygons) (all_sides s.polygons) + length s.polygons ≡ tally (low_at s.d s.polygons) (all_sides s.polygons)
held-all s surface = held-sides_from s.straight surface.radicand s.polygons s.polygons 0 (λ k. ap (slice_get s.polygons) (let e : 0 + k ≡ k = omega arith in e)) surface.each
