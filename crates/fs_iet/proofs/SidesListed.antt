-- The list of all sides, polygon by polygon and side by side.
use Rattle.std.proofs.Common.{◌≡◌, ℕ, zero, suc, ◌+◌, ◌<◌, ◌≤◌, List, [], ◌∷◌, ◌++◌, IfSome, length, take, sym, ap, ◌∙◌, arith, append_assoc}
use Rattle.std.proofs.lemmas.List.{append-nil, take_all}
use Rattle.std.proofs.lemmas.List.FromFn.{map-range_with_len_more}
use Rattle.std.specs.List.{slice_get}
use Rattle.fs_lists.proofs.Items.{item_inside, value_holds}
use Rattle.fs_plane.specs.declared.corners.Corner.{Corner}
use Rattle.fs_gluing.specs.declared.surfaces.Side.{Side}
use Rattle.fs_gluing.specs.Gluing.{sides_between}
use Rattle.fs_gluing.specs.NextCorner.{side_count, length_or_0}
use Rattle.fs_gluing.specs.Polygons.{sides_from, all_sides}
use Rattle.fs_gluing.proofs.Sides.AllSides.{corner}

-- one side more of a polygon
pub sides_more : (before sides : List Corner) (i j : ℕ) → sides ≡ before ++ sides_between i 0 j → sides ++ corner i j ∷ [] ≡ before ++ sides_between i 0 (j + 1)
sides_more before sides i j e =
    ap (λ s. s ++ corner i j ∷ []) e
    ∙ append_assoc before (sides_between i 0 j) (corner i j ∷ [])
    ∙ ap (λ s. before ++ s) (sym (map-range_with_len_more (corner i) 0 j j (omega arith)))

-- how many sides a polygon has
pub counted : {X : Type 0} (polygons : List (List X)) (i n : ℕ) → i < length polygons → IfSome (slice_get polygons i) (λ polygon. n ≡ length polygon) → n ≡ side_count polygons i
counted polygons i n l h =
    let v = item_inside polygons i l in
    value_holds (slice_get polygons i) (λ polygon. n ≡ length polygon) v.value v.is h ∙ sym (ap length_or_0 v.is)

-- all sides of a polygon
pub sides_counted : (polygons : List (List Side)) (before sides : List Corner) (i j n : ℕ) → i < length polygons → IfSome (slice_get polygons i) (λ polygon. n ≡ length polygon) → j ≡ n
    → sides ≡ before ++ sides_between i 0 j → sides ≡ before ++ sides_between i 0 (side_count polygons i)
sides_counted polygons before sides i j n l h same e = e ∙ ap (λ (k : ℕ). before ++ sides_between i 0 k) (same ∙ counted polygons i n l h)

-- the sides of one polygon more
sides_from-more : {X : Type 0} (first i : ℕ) (polygons : List (List X)) → i < length polygons
    → sides_from first (take (i + 1) polygons) ≡ sides_from first (take i polygons) ++ sides_between (first + i) 0 (side_count polygons i)
sides_from-more first i [] l = absurd (omega arith)
sides_from-more first zero (polygon ∷ polygons) l =
    append-nil (sides_between first 0 (length polygon)) ∙ ap (λ (k : ℕ). sides_between k 0 (length polygon)) (let e : first ≡ first + 0 = omega arith in e)
sides_from-more first (suc i) (polygon ∷ polygons) l =
    let one_more : suc i + 1 ≡ suc (i + 1) = omega arith in
    ap (λ (k : ℕ). sides_from first (take k (polygon ∷ polygons))) one_more
    ∙ ap (λ s. sides_between first 0 (length polygon) ++ s)
    (sides_from-more (first + 1) i polygons (omega arith)
    ∙ ap (λ (k : ℕ). sides_from (first + 1) (take i polygons) ++ sides_between k 0 (side_count polygons i)) (let e : first + 1 + i ≡ first + suc i = omega arith in e))
    ∙ sym (append_assoc (sides_between first 0 (length polygon)) (sides_from (first + 1) (take i polygons)) (sides_between (first + suc i) 0 (side_count polygons i)))

-- and after the sides of the polygons before it
pub polygons_more : {X : Type 0} (polygons : List (List X)) (i : ℕ) (before sides : List Corner) → i < length polygons → before ≡ sides_from 0 (take i polygons)
    → sides ≡ before ++ sides_between i 0 (side_count polygons i) → sides ≡ sides_from 0 (take (i + 1) polygons)
polygons_more polygons i before sides l e f =
    f ∙ (λ k. e k ++ sides_between (let z : i ≡ 0 + i = omega arith in z k) 0 (side_count polygons i)) ∙ sym (sides_from-more 0 i polygons l)

-- all of them
pub polygons_all : {X : Type 0} (polygons : List (List X)) (n : ℕ) (sides : List Corner) → length polygons ≤ n → sides ≡ sides_from 0 (take n polygons) → sides ≡ all_sides polygons
polygons_all polygons n sides l e = e ∙ ap (sides_from 0) (take_all n polygons l)
