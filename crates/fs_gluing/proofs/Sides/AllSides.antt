-- The list of all sides of polygons has each side exactly once.
use Rattle.std.proofs.Common.{◌≡◌, inl, inr, ℕ, zero, suc, ◌+◌, ◌<◌, ◌≤◌, List, [], ◌∷◌, length, sum_by, sym, ap, ◌∙◌, refl, subst, arith}
use Rattle.std.proofs.lemmas.List.{length-append}
use Rattle.std.proofs.lemmas.List.FromFn.{length-map-range_with_len}
use Rattle.std.proofs.lemmas.List.Sums.{sum_by-cons}
use Rattle.std.specs.List.{range_with_len}
use Rattle.fs_lists.specs.Members.{IsIn, IsDistinct}
use Rattle.fs_lists.proofs.Items.{inside_of_some, some_of_inside}
use Rattle.fs_lists.proofs.Members.{in_append_left, in_append_right, in_append_cases, apart_append, in_map, in_map_cases, apart_map}
use Rattle.fs_lists.proofs.Ranges.{in_range, range_bounds, range_distinct}
use Rattle.fs_plane.specs.declared.corners.Corner.{Corner}
use Rattle.fs_gluing.specs.Gluing.{sides_between}
use Rattle.fs_gluing.specs.Polygons.{HasSide, sides_from, all_sides}

-- the corner with these numbers
abbrev pub corner : ℕ → ℕ → Corner
corner i j = record { polygon = i; side = j }

-- a corner between the bounds is in the row
in_row : (i a n j : ℕ) → a ≤ j → j < a + n → IsIn (corner i j) (sides_between i a n)
in_row i a n j l m = in_map (corner i) j (range_with_len a n) (in_range a n j l m)

-- a corner of the row is between the bounds
pub row_in : (i a n : ℕ) (c : Corner) → IsIn c (sides_between i a n) → (c.polygon ≡ i) × (a ≤ c.side) × (c.side < a + n)
row_in i a n c h =
    let r = in_map_cases (corner i) c (range_with_len a n) h in
    let side : c.side ≡ r.0 = ap (λ (c : Corner). c.side) r.2 in
    let bounds = range_bounds a n r.0 r.1 in
    (ap (λ (c : Corner). c.polygon) r.2, omega (arith, bounds.0), omega (arith, bounds.1))

row_distinct : (i a n : ℕ) → IsDistinct (sides_between i a n)
row_distinct i a n = apart_map (corner i) (λ x y. x ≡ y) (λ x y. x ≡ y) (range_with_len a n) (λ x w h k e. ap (λ (c : Corner). c.side) e) (range_distinct a n)

in_sides_from : {X : Type 0} (i k j : ℕ) (polygons : List (List X)) → HasSide polygons (corner k j) → IsIn (corner (i + k) j) (sides_from i polygons)
in_sides_from i k j [] h = cc
in_sides_from i zero j (polygon ∷ polygons) h =
    let same : i ≡ i + 0 = omega arith in
    subst (λ n. IsIn (corner n j) (sides_from i (polygon ∷ polygons))) same
    (in_append_left (corner i j) (sides_between i 0 (length polygon)) (sides_from (i + 1) polygons) (in_row i 0 (length polygon) j (omega arith) (let l = inside_of_some polygon j h in omega arith)))
in_sides_from i (suc k) j (polygon ∷ polygons) h =
    let same : i + 1 + k ≡ i + suc k = omega arith in
    subst (λ n. IsIn (corner n j) (sides_from i (polygon ∷ polygons))) same
    (in_append_right (corner (i + 1 + k) j) (sides_between i 0 (length polygon)) (sides_from (i + 1) polygons) (in_sides_from (i + 1) k j polygons h))

-- a corner in the list of sides from polygon i on
pub record IsSideFrom {X : Type 0} (i : ℕ) (polygons : List (List X)) (c : Corner) : Type 0 where
  pub offset : ℕ
  pub is : c.polygon ≡ i + offset
  pub there : HasSide polygons (corner offset c.side)

-- a corner in the list of sides from polygon i on is one of these sides
pub sides_from_in : {X : Type 0} (i : ℕ) (polygons : List (List X)) (c : Corner) → IsIn c (sides_from i polygons) → IsSideFrom i polygons c
sides_from_in i [] c h = absurd h
sides_from_in i (polygon ∷ polygons) c h = elim (in_append_cases c (sides_between i 0 (length polygon)) (sides_from (i + 1) polygons) h) [
  | inl k ↦
      let r = row_in i 0 (length polygon) c k in
      let same = r.0 in
      let l = r.2 in
      record { offset = 0; is = omega arith; there = some_of_inside polygon c.side (omega arith) }
  | inr k ↦ let s = sides_from_in (i + 1) polygons c k in let is = s.is in record { offset = suc s.offset; is = omega arith; there = s.there }
]

sides_from_distinct : {X : Type 0} (i : ℕ) (polygons : List (List X)) → IsDistinct (sides_from i polygons)
sides_from_distinct i [] = tt
sides_from_distinct i (polygon ∷ polygons) =
    apart_append (λ x y. x ≡ y) (sides_between i 0 (length polygon)) (sides_from (i + 1) polygons) (row_distinct i 0 (length polygon)) (sides_from_distinct (i + 1) polygons)
    (λ c e h k same.
    let p = (row_in i 0 (length polygon) c h).0 in
    let q = (sides_from_in (i + 1) polygons e k).is in
    let one = ap (λ (c : Corner). c.polygon) same in
    absurd (omega arith))

-- no side is in the list twice
pub all_sides_distinct : {X : Type 0} (polygons : List (List X)) → IsDistinct (all_sides polygons)
all_sides_distinct polygons = sides_from_distinct 0 polygons

-- a side that exists is in the list
pub in_all_sides : {X : Type 0} (polygons : List (List X)) (c : Corner) → HasSide polygons c → IsIn c (all_sides polygons)
in_all_sides polygons c h =
    let same : 0 + c.polygon ≡ c.polygon = omega arith in
    subst (λ n. IsIn (corner n c.side) (all_sides polygons)) same (in_sides_from 0 c.polygon c.side polygons h)

-- a side in the list exists
pub all_sides_in : {X : Type 0} (polygons : List (List X)) (c : Corner) → IsIn c (all_sides polygons) → HasSide polygons c
all_sides_in polygons c h =
    let s = sides_from_in 0 polygons c h in
    let is = s.is in
    let same : s.offset ≡ c.polygon = omega arith in
    subst (λ n. HasSide polygons (corner n c.side)) same s.there

length-sides_from : {X : Type 0} (i : ℕ) (polygons : List (List X)) → length (sides_from i polygons) ≡ sum_by length polygons
length-sides_from i [] = refl
length-sides_from {X} i (polygon ∷ polygons) =
    length-append (sides_between i 0 (length polygon)) (sides_from (i + 1) polygons)
    ∙ (λ k. length-map-range_with_len (corner i) 0 (length polygon) k + length-sides_from (i + 1) polygons k)
    ∙ sym (sum_by-cons length polygon polygons)

-- the list has as many sides as the polygons together
pub length-all_sides : {X : Type 0} (polygons : List (List X)) → length (all_sides polygons) ≡ sum_by length polygons
length-all_sides polygons = length-sides_from 0 polygons
