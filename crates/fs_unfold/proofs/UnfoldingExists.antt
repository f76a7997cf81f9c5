-- The unfolding of a table ends in some way: it can't be that it ends in none.
use Rattle.std.proofs.Common.{◌≡◌, ◌⊎◌, ℕ, zero, suc, ◌+◌, ◌<◌, ◌≤◌, Bool, true, false, IsTrue, Result, Ok, Err, Some, List, [], ◌∷◌, ◌++◌, length, map, refl, sym, ap, subst, inl, inr, arith, length-append}
use Rattle.std.proofs.lemmas.Bool.{cases_lt}
use Rattle.std.specs.List.{AllByRecursion, slice_get}
use Rattle.fs_lists.specs.Members.{IsIn}
use Rattle.fs_lists.proofs.First.{first_or_all}
use Rattle.fs_quadratic.specs.Radicand.{IsRadicand}
use Rattle.fs_quadratic.specs.declared.steps.Place.{Place}
use Rattle.fs_plane.specs.declared.corners.Corner.{Corner}
use Rattle.fs_gluing.specs.declared.faults.BuildStop.{BuildStop}
use Rattle.fs_gluing.specs.declared.shapes.Glue.{Glue}
use Rattle.fs_gluing.specs.declared.shapes.Point.{Point}
use Rattle.fs_gluing.specs.declared.shapes.Shape.{Shape}
use Rattle.fs_gluing.specs.FirstFault.{PassesOf}
use Rattle.fs_gluing.specs.Polygons.{all_sides}
use Rattle.fs_gluing.proofs.Sides.AllSides.{all_sides_in}
use Rattle.fs_unfold.specs.declared.matrices.Matrix.{Matrix}
use Rattle.fs_unfold.specs.declared.matrices.Mirror.{Mirror}
use Rattle.fs_unfold.specs.Copies.{copy, IsPair, AreLines, no_side, earlier, later}
use Rattle.fs_unfold.specs.Matrices.{checked_mirror, checked_times, checked_image}
use Rattle.fs_unfold.specs.Products.{mirrors, AreListed, first, known, added, next_product, AreProducts}
use Rattle.fs_unfold.specs.Tables.{HasLowest, IsTable}
use Rattle.fs_unfold.specs.Unfolding.{alone, table_tests, PassesAlone, AreMirrors, HaveImages, EndsUnfolding, table_fails, mirror_overflows, product_overflows, too_large, copy_overflows, unfolded}
use Rattle.fs_unfold.proofs.ComputedMatrices.{mirrors_are}
use Rattle.fs_unfold.proofs.EqualMatrices.{is_listed, Decides-is_listed}
use Rattle.fs_unfold.proofs.NoFault.{inside}
use Rattle.fs_unfold.proofs.Partners.{some_inside, pair_exists}
use Rattle.fs_unfold.proofs.ProductLists.{listed_few}

-- ---- reflections

-- the first side of these without a reflection
record LacksMirror (d : ℕ) (points : List Point) : Type 0 where
  pub before : List Point
  pub point : Point
  pub after : List Point
  pub is : points ≡ before ++ point ∷ after
  pub mirrors : List Mirror
  pub are : AreMirrors d before mirrors
  pub place : Place
  pub overflows : checked_mirror d point ≡ Err place

mirrors_or_stop : (d : ℕ) (points : List Point) → ((rs : List Mirror) × AreMirrors d points rs) ⊎ LacksMirror d points
mirrors_or_stop d [] = inl ([], tt)
mirrors_or_stop d (p ∷ points) = by (checked_mirror d p) refl (mirrors_or_stop d points)
  where
    by : (x : Result Mirror Place) → checked_mirror d p ≡ x → ((rs : List Mirror) × AreMirrors d points rs) ⊎ LacksMirror d points → ((rs : List Mirror) × AreMirrors d (p ∷ points) rs) ⊎ LacksMirror d (p ∷ points)
    by (Err stop) e rest = inr (record { before = []; point = p; after = points; is = refl; mirrors = []; are = tt; place = stop; overflows = e })
    by (Ok r) e (inl found) = inl (r ∷ found.0, (e, found.1))
    by (Ok r) e (inr lacks) = inr (record {
      before = p ∷ lacks.before;
      point = lacks.point;
      after = lacks.after;
      is = ap (λ ps. p ∷ ps) lacks.is;
      mirrors = r ∷ lacks.mirrors;
      are = (e, lacks.are);
      place = lacks.place;
      overflows = lacks.overflows;
    })

-- ---- images

-- the first side of these without an image
record LacksImage (d : ℕ) (points : List Point) (m : Matrix) : Type 0 where
  pub before : List Point
  pub point : Point
  pub after : List Point
  pub is : points ≡ before ++ point ∷ after
  pub images : HaveImages d before m
  pub place : Place
  pub overflows : checked_image d m point ≡ Err place

images_or_stop : (d : ℕ) (points : List Point) (m : Matrix) → HaveImages d points m ⊎ LacksImage d points m
images_or_stop d [] m = inl tt
images_or_stop d (p ∷ points) m = by (checked_image d m p) refl (images_or_stop d points m)
  where
    by : (x : Result Point Place) → checked_image d m p ≡ x → HaveImages d points m ⊎ LacksImage d points m → HaveImages d (p ∷ points) m ⊎ LacksImage d (p ∷ points) m
    by (Err stop) e rest = inr (record { before = []; point = p; after = points; is = refl; images = tt; place = stop; overflows = e })
    by (Ok q) e (inl found) = inl ((q, e), found)
    by (Ok q) e (inr lacks) = inr (record {
      before = p ∷ lacks.before;
      point = lacks.point;
      after = lacks.after;
      is = ap (λ ps. p ∷ ps) lacks.is;
      images = ((q, e), lacks.images);
      place = lacks.place;
      overflows = lacks.overflows;
    })

-- the first matrix under which a side has no image
record LackImages (d : ℕ) (points : List Point) (list : List Matrix) : Type 0 where
  pub earlier : List Matrix
  pub matrix : Matrix
  pub later : List Matrix
  pub is : list ≡ earlier ++ matrix ∷ later
  pub images : AllByRecursion (HaveImages d points) earlier
  pub lacks : LacksImage d points matrix

all_images_or_stop : (d : ℕ) (points : List Point) (list : List Matrix) → AllByRecursion (HaveImages d points) list ⊎ LackImages d points list
all_images_or_stop d points [] = inl tt
all_images_or_stop d points (m ∷ list) = by (images_or_stop d points m) (all_images_or_stop d points list)
  where
    by : HaveImages d points m ⊎ LacksImage d points m → AllByRecursion (HaveImages d points) list ⊎ LackImages d points list
        → AllByRecursion (HaveImages d points) (m ∷ list) ⊎ LackImages d points (m ∷ list)
    by (inr lacks) rest = inr (record { earlier = []; matrix = m; later = list; is = refl; images = tt; lacks = lacks })
    by (inl have) (inl rest) = inl (have, rest)
    by (inl have) (inr lack) = inr (record { earlier = m ∷ lack.earlier; matrix = lack.matrix; later = lack.later; is = ap (λ ms. m ∷ ms) lack.is; images = (have, lack.images); lacks = lack.lacks })

-- ---- glue lines

-- sides that each have a partner have lines
lines_exist : (P : Corner → Corner → Type 0) (sides : List Corner) → ((c : Corner) → IsIn c sides → (e : Corner) × P c e) → (lines : List Glue) × AreLines P sides lines
lines_exist P [] each = ([], no_side)
lines_exist P (c ∷ sides) each = by (each c (inl refl)) (lines_exist P sides (λ b h. each b (inr h)))
  where
    by : (e : Corner) × P c e → (lines : List Glue) × AreLines P sides lines → (lines : List Glue) × AreLines P (c ∷ sides) lines
    by e rest = elim (cases_lt c.polygon e.0.polygon) [
      | inl less ↦ (record { line = 0; one = c; two = e.0 } ∷ rest.0, earlier c e.0 sides rest.0 e.1 less rest.1)
      | inr most ↦ (rest.0, later c e.0 sides rest.0 e.1 most rest.1)
    ]

module _ (d : ℕ) (table : List Point) (radicand : IsRadicand d) (lowest : AllByRecursion HasLowest table) (few : length table ≤ 42) (none : (result : Result Shape BuildStop) → ¬ EndsUnfolding d table result) where
  module _ (passes : PassesAlone d table) (rs : List Mirror) (are : AreMirrors d table rs) where
    is_table : IsTable d table
    is_table = record { radicand = radicand; passes = passes; lowest = lowest; few = few }

    -- the whole list has copies, which have lines
    ends_whole : (list : List Matrix) → AreProducts d rs list → ⊥
    ends_whole list whole = by (all_images_or_stop d table list)
      where
        as_mirrors : rs ≡ mirrors d table
        as_mirrors = mirrors_are d table rs are

        paired : (c : Corner) → IsIn c (all_sides (map (copy d table) list)) → (e : Corner) × IsPair d (length table) rs list c e
        paired c c_in =
            let products = subst (λ qs. AreProducts d qs list) as_mirrors whole in
            let at = inside d table is_table list products c (all_sides_in (map (copy d table) list) c c_in) in
            let e = pair_exists d table is_table list products c at.0 at.1 in
            (e.0, subst (λ qs. IsPair d (length table) qs list c e.0) (sym as_mirrors) e.1)

        by : AllByRecursion (HaveImages d table) list ⊎ LackImages d table list → ⊥
        by (inr lack) =
            none _ (copy_overflows rs lack.earlier lack.later lack.matrix lack.lacks.before lack.lacks.after lack.lacks.point lack.lacks.place passes are (subst (AreProducts d rs) lack.is whole) lack.images
            lack.lacks.is lack.lacks.images lack.lacks.overflows)
        by (inl have) =
            let lines = lines_exist (IsPair d (length table) rs list) (all_sides (map (copy d table) list)) paired in
            none _ (unfolded rs list (record { polygons = map (copy d table) list; glues = lines.0; straight = false }) passes are whole have refl lines.1 refl)

    -- one product more: it overflows, or is too many, or the list is one for the next reflection
    ends_step : (g i : ℕ) (list : List Matrix) → AreListed d rs list g i → g < length list → i < length rs
        → ((longer : List Matrix) → AreListed d rs longer g (i + 1) → g < length longer → ⊥) → ⊥
    ends_step g i list listed inside_list inside_row next =
        let m = some_inside list g inside_list in
        let r = some_inside rs i inside_row in
        by m.0 m.1 r.0 r.1 (checked_times d m.0 r.0) refl
      where
        longer : (n : Matrix) → g < length (list ++ n ∷ [])
        longer n = let l = length-append list (n ∷ []) in omega (arith, l, inside_list)

        no_truth : IsTrue false → ⊥
        no_truth h = cc

        placed : (m : Matrix) → slice_get list g ≡ Some m → (r : Mirror) → slice_get rs i ≡ Some r → (n : Matrix) → checked_times d m r ≡ Ok n → (t : Bool) → is_listed n list ≡ t → ⊥
        placed m at_g r at_i n made true there = next list (known list g i m n r listed at_g at_i made ((Decides-is_listed n list).0 (subst IsTrue (sym there) refl))) inside_list
        placed m at_g r at_i n made false absent =
            let new : ¬ IsIn n list = λ n_in. no_truth (subst IsTrue absent ((Decides-is_listed n list).1 n_in)) in
            elim (cases_lt (length list) 24) [
              | inl room ↦ next (list ++ n ∷ []) (added list g i m n r listed at_g at_i made new room) (longer n)
              | inr most ↦
                  let all = listed_few list g i listed in
                  none _ (too_large rs list g i n passes are (record { listed = listed; product = m; mirror = r; of_product = at_g; of_side = at_i; is = sym made }) new (omega (arith, most, all)))
            ]

        by : (m : Matrix) → slice_get list g ≡ Some m → (r : Mirror) → slice_get rs i ≡ Some r → (x : Result Matrix Place) → checked_times d m r ≡ x → ⊥
        by m at_g r at_i (Err stop) made =
            none _ (product_overflows rs list g i stop passes are (record { listed = listed; product = m; mirror = r; of_product = at_g; of_side = at_i; is = sym made }))
        by m at_g r at_i (Ok n) made = placed m at_g r at_i n made (is_listed n list) refl

    -- the products of one row
    ends_row : (g : ℕ) → ((list : List Matrix) → AreListed d rs list (g + 1) 0 → g + 1 ≤ length list → ⊥)
        → (b i : ℕ) (list : List Matrix) → AreListed d rs list g i → g < length list → b + i ≡ length rs → ⊥
    ends_row g next zero i list listed inside_list e = next list (next_product list g (subst (AreListed d rs list g) (let z : 0 + i ≡ length rs = e in omega (arith, z)) listed)) (omega (arith, inside_list))
    ends_row g next (suc b) i list listed inside_list e =
        ends_step g i list listed inside_list (omega (arith, e)) (λ longer more l. ends_row g next b (i + 1) longer more l (omega (arith, e)))

    -- all rows
    ends_rows : (a g : ℕ) (list : List Matrix) → AreListed d rs list g 0 → g ≤ length list → 24 ≤ a + g → ⊥
    ends_rows zero g list listed most fuel =
        let all = listed_few list g 0 listed in
        let e : g ≡ length list = omega (arith, most, all, fuel) in
        ends_whole list (subst (λ k. AreListed d rs list k 0) e listed)
    ends_rows (suc a) g list listed most fuel = elim (cases_lt g (length list)) [
      | inl l ↦ ends_row g (λ longer row m. ends_rows a (g + 1) longer row m (omega (arith, fuel))) (length rs) 0 list listed l (let f : length rs + 0 ≡ length rs = omega arith in f)
      | inr above ↦ let e : g ≡ length list = omega (arith, most, above) in ends_whole list (subst (λ k. AreListed d rs list k 0) e listed)
    ]

    ends_products : ⊥
    ends_products = ends_rows 24 0 _ first (omega arith) (omega arith)

  ends_passed : PassesAlone d table → ⊥
  ends_passed passes = by (mirrors_or_stop d table)
    where
      by : ((rs : List Mirror) × AreMirrors d table rs) ⊎ LacksMirror d table → ⊥
      by (inl found) = ends_products passes found.0 found.1
      by (inr lacks) = none _ (mirror_overflows lacks.before lacks.after lacks.point lacks.mirrors lacks.place passes lacks.is lacks.are lacks.overflows)

  -- it ends
  pub unfolding_ends : ⊥
  unfolding_ends = first_or_all (PassesOf d (alone table)) (table_tests table) (λ test fails. none _ (table_fails test fails)) ends_passed
