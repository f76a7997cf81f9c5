-- The list of products, product after product and reflection after reflection, with the places that are noted.
use Rattle.std.proofs.Common.{◌≡◌, ◌⊎◌, ℕ, zero, suc, ◌+◌, ◌*◌, ◌<◌, ◌≤◌, Bool, false, not, Result, Ok, Err, Some, List, [], ◌∷◌, ◌++◌, length, take, refl, sym, ap, ◌∙◌, subst, inl, inr, arith, length-append}
use Rattle.std.proofs.lemmas.Bool.{cases_lt}
use Rattle.std.proofs.lemmas.List.{map-append, length-map}
use Rattle.std.proofs.lemmas.Option.{slice_get-map}
use Rattle.std.specs.List.{AllByRecursion, slice_get}
use Rattle.std.specs.Option.{option_map}
use Rattle.fs_lists.specs.Members.{IsIn}
use Rattle.fs_lists.proofs.All.{All-append}
use Rattle.fs_lists.proofs.Items.{IsItem}
use Rattle.fs_lists.proofs.Members.{in_append_cases}
use Rattle.fs_quadratic.specs.declared.steps.Place.{Place}
use Rattle.fs_quadratic.specs.Radicand.{IsNoSquare}
use Rattle.fs_quadratic.proofs.SquareRoot.{radicand_no_square}
use Rattle.fs_plane.specs.declared.sites.Site.TheVariants as sites
use Rattle.fs_gluing.specs.declared.faults.BuildStop.{BuildStop}
use Rattle.fs_gluing.specs.declared.faults.BuildStop.TheVariants as stops
use Rattle.fs_gluing.specs.declared.faults.Fault.TheVariants as faults
use Rattle.fs_gluing.specs.Scaling.{scaled_vector}
use Rattle.fs_unfold.specs.declared.matrices.Matrix.{Matrix}
use Rattle.fs_unfold.specs.declared.matrices.Mirror.{Mirror}
use Rattle.fs_unfold.specs.declared.products.TableCopy.{TableCopy}
use Rattle.fs_unfold.specs.Copies.{is_turned}
use Rattle.fs_unfold.specs.InPlace.{HaveTable, OrNoMemory, rows_of, AreNeighbours, IsUnderWay, IsPlaced, was_there, is_new, StopsAtProduct, overflows, full}
use Rattle.fs_unfold.specs.Matrices.{identity, times, checked_times}
use Rattle.fs_unfold.specs.Products.{most_products, mirrors, AreListed, first, known, added, next_product}
use Rattle.fs_unfold.specs.Unfolding.{IsNextProduct}
use Rattle.fs_unfold.proofs.ComputedMatrices.{times_is, mirrors_are}
use Rattle.fs_unfold.proofs.Frames.{frame_identity, frame_turned, times_turns}
use Rattle.fs_unfold.proofs.ListedFrames.{listed_framed, mirror_side}
use Rattle.fs_unfold.proofs.Partners.{get_last}
use Rattle.fs_unfold.proofs.ProductLists.{get_in, get_append, get_inside, earlier_inside, listed_few}
use Rattle.fs_unfold.proofs.SidesInTurn.{up_to_item}
use Rattle.fs_unfold.proofs.TableTests.{den_of, table_side}
use Rattle.fs_unfold.proofs.UnfoldingUnique.{mirrors_length, some_mirrors}

-- ---- items of lists

module _ {X : Type 0} where
  -- an item of a list
  pub item_some : (xs : List X) (i : ℕ) (x : X) → IsItem xs i x → slice_get xs i ≡ Some x
  item_some [] i x item = absurd (let none : i < 0 = item.inside in omega (arith, none))
  item_some (y ∷ xs) zero x item = ap Some (sym item.is)
  item_some (y ∷ xs) (suc i) x item = item_some xs i x (record { inside = (let l : suc i < suc (length xs) = item.inside in omega (arith, l)); is = item.is })

  last_item : (xs : List X) (n x : X) (k : ℕ) → k ≡ length xs → slice_get (xs ++ n ∷ []) k ≡ Some x → x ≡ n
  last_item [] n x zero e h = cc
  last_item [] n x (suc k) e h = absurd (omega (arith, e))
  last_item (y ∷ xs) n x zero e h = absurd (let f : 0 ≡ suc (length xs) = e in omega (arith, f))
  last_item (y ∷ xs) n x (suc k) e h = last_item xs n x k (let f : suc k ≡ suc (length xs) = e in omega (arith, f)) h

-- the number of an item in a row of n, and of its row
rows_apart : (n g h i j : ℕ) → i < n → j < n → g * n + i ≡ h * n + j → (g ≡ h) × (i ≡ j)
rows_apart n zero zero i j li lj e = (refl, (let f : 0 * n + i ≡ 0 * n + j = e in omega (arith, f)))
rows_apart n zero (suc h) i j li lj e = absurd (let f : 0 * n + i ≡ suc h * n + j = e in omega (arith, f, li))
rows_apart n (suc g) zero i j li lj e = absurd (let f : suc g * n + i ≡ 0 * n + j = e in omega (arith, f, lj))
rows_apart n (suc g) (suc h) i j li lj e =
    let f : suc g * n + i ≡ suc h * n + j = e in
    let r = rows_apart n g h i j li lj (omega (arith, f)) in
    (ap suc r.0, r.1)

-- the matrix of an item
pub rows_at : (list : List TableCopy) (g : ℕ) (c : TableCopy) → slice_get list g ≡ Some c → slice_get (rows_of list) g ≡ Some c.rows
rows_at list g c at = slice_get-map (λ (x : TableCopy). x.rows) list g ∙ ap (option_map (λ (x : TableCopy). x.rows)) at

-- ---- the first product

-- the identity doesn't turn the orientation
identity_unturned : {d : ℕ} → IsNoSquare d → is_turned d identity ≡ false
identity_unturned {d} no_square = let frame = frame_identity no_square in frame_turned no_square identity _ _ false frame

-- it is the only product at the start
pub under_way_first : (d : ℕ) (rs : List Mirror) → IsNoSquare d → IsUnderWay d rs 0 0 (record { rows = identity; turned = false } ∷ []) []
under_way_first d rs no_square = record {
  listed = first;
  turned = (sym (identity_unturned no_square), tt);
  noted = (let z : 0 ≡ 0 * length rs + 0 = omega arith in z);
  each = record { each = λ g i k l at. absurd (none g i k at) };
}
  where
    empty : List ℕ
    empty = []

    none : (g i k : ℕ) → slice_get empty (g * length rs + i) ≡ Some k → ⊥
    none g i k at = let l = get_inside empty (g * length rs + i) k at in omega (arith, l)

-- ---- one product more

module _ (d : ℕ) (rs : List Mirror) (have : HaveTable d rs) where
  rs_are : rs ≡ mirrors d have.table
  rs_are = mirrors_are d have.table rs have.mirrors

  -- a listed product times a reflection turns the orientation once more
  pub listed_turns : (list : List Matrix) (g i : ℕ) → AreListed d rs list g i → (m : Matrix) (r : Mirror) → IsIn m list → IsIn r rs → is_turned d (times d m r) ≡ not (is_turned d m)
  listed_turns list g i listed m r m_in r_in =
      let N = radicand_no_square have.is.radicand in
      let frame = listed_framed d have.table have.is list g i (subst (λ qs. AreListed d qs list g i) rs_are listed) m m_in in
      let side = mirror_side d have.table have.is r (subst (IsIn r) rs_are r_in) in
      subst (λ q. is_turned d (times d m q) ≡ not (is_turned d m)) (sym side.2)
      (times_turns N m frame.f frame.k frame.turned frame.frame (den_of have.table) side.0 (scaled_vector (den_of have.table) side.0) (table_side d have.table have.is side.0 side.1))

  module _ (g i : ℕ) (list : List TableCopy) (neighbours : List ℕ) (way : IsUnderWay d rs g i list neighbours) (c : TableCopy) (at_g : slice_get list g ≡ Some c) (r : Mirror) (item : IsItem rs i r) where
    at_i : slice_get rs i ≡ Some r
    at_i = item_some rs i r item

    at_rows : slice_get (rows_of list) g ≡ Some c.rows
    at_rows = rows_at list g c at_g

    c_turned : c.turned ≡ is_turned d c.rows
    c_turned = all list g way.turned at_g
      where
        all : (xs : List TableCopy) (k : ℕ) → AllByRecursion (λ c. c.turned ≡ is_turned d c.rows) xs → slice_get xs k ≡ Some c → c.turned ≡ is_turned d c.rows
        all [] k a e = absurd cc
        all (x ∷ xs) zero a e = subst (λ (y : TableCopy). y.turned ≡ is_turned d y.rows) (let h : x ≡ c = cc in h) a.0
        all (x ∷ xs) (suc k) a e = all xs k a.1 e

    next : (result : Result Matrix Place) → checked_times d c.rows r ≡ result → IsNextProduct d rs (rows_of list) g i result
    next result e = record { listed = way.listed; product = c.rows; mirror = r; of_product = at_rows; of_side = at_i; is = sym e }

    -- it overflows
    pub product_stops : (stop : Place) → checked_times d c.rows r ≡ Err stop → StopsAtProduct d rs (stops.Overflow (sites.Product g i stop.0))
    product_stops stop fails = overflows (rows_of list) g i stop (next (Err stop) fails)

    -- or the list is full
    list_full : (n : Matrix) → checked_times d c.rows r ≡ Ok n → ¬ IsIn n (rows_of list) → length list ≡ 24 → StopsAtProduct d rs (stops.Fault faults.GroupTooLarge)
    list_full n made new many = full (rows_of list) g i n (next (Ok n) made) new (length-map list (λ (x : TableCopy). x.rows) ∙ many)

    -- so the call of the list stops, or is out of memory
    pub full_or_no_memory : (n : Matrix) → checked_times d c.rows r ≡ Ok n → (stop : BuildStop)
        → OrNoMemory (λ s. (s ≡ stops.Fault faults.GroupTooLarge) × (¬ IsIn n (rows_of list)) × (length list ≡ 24)) stop → OrNoMemory (StopsAtProduct d rs) stop
    full_or_no_memory n made stops.NoMemory h = tt
    full_or_no_memory n made (stops.Fault fault) h = subst (StopsAtProduct d rs) (sym h.0) (list_full n made h.1 h.2)
    full_or_no_memory n made (stops.Overflow site) h = absurd (let e = h.0 in cc)

    module _ (n : Matrix) (made : checked_times d c.rows r ≡ Ok n) where
      n_is : n ≡ times d c.rows r
      n_is = times_is d c.rows r n made

      noted_before : (longer : List TableCopy) (place : ℕ) → slice_get (rows_of longer) place ≡ Some n → ((h : ℕ) (m : Matrix) → slice_get (rows_of list) h ≡ Some m → slice_get (rows_of longer) h ≡ Some m)
          → AreNeighbours d rs (rows_of longer) (neighbours ++ place ∷ [])
      noted_before longer place there kept = record { each = λ h j k l at. by h j k l at (cases_lt (h * length rs + j) (length neighbours)) }
        where
          by : (h j k : ℕ) → j < length rs → slice_get (neighbours ++ place ∷ []) (h * length rs + j) ≡ Some k → (h * length rs + j < length neighbours) ⊎ (length neighbours ≤ h * length rs + j)
              → (m : Matrix) × (q : Mirror) × (slice_get (rows_of longer) h ≡ Some m) × (slice_get rs j ≡ Some q) × (slice_get (rows_of longer) k ≡ Some (times d m q))
          by h j k l at (inl below) =
              let old = way.each.each h j k l (earlier_inside neighbours (h * length rs + j) place k below at) in
              (old.0, old.1, kept h old.0 old.2, old.3, kept k (times d old.0 old.1) old.4)
          by h j k l at (inr above) =
              let inside = get_inside (neighbours ++ place ∷ []) (h * length rs + j) k at in
              let longer_by_one = length-append neighbours (place ∷ []) in
              let last : h * length rs + j ≡ length neighbours = omega (arith, above, inside, longer_by_one) in
              let in_row = item.inside in
              let same = rows_apart (length rs) h g j i l in_row (last ∙ way.noted) in
              let is : k ≡ place = last_item neighbours place k (h * length rs + j) last at in (
                c.rows,
                r,
                ap (slice_get (rows_of longer)) same.0 ∙ kept g c.rows at_rows,
                ap (slice_get rs) same.1 ∙ at_i,
                ap (slice_get (rows_of longer)) is ∙ there ∙ ap Some n_is,
              )

      noted_length : (place : ℕ) → length (neighbours ++ place ∷ []) ≡ g * length rs + (i + 1)
      noted_length place = let e = length-append neighbours (place ∷ []) in let f = way.noted in omega (arith, e, f)

      -- it is listed, and its place noted
      pub under_way_next : (turned : Bool) (longer : List TableCopy) (place : ℕ) → turned ≡ not c.turned → slice_get (rows_of longer) place ≡ Some n → IsPlaced n turned list longer
          → IsUnderWay d rs g (i + 1) longer (neighbours ++ place ∷ [])
      under_way_next turned _ place flips there (was_there old) = record {
        listed = known (rows_of list) g i c.rows n r way.listed at_rows at_i made old;
        turned = way.turned;
        noted = noted_length place;
        each = noted_before list place there (λ h m at. at);
      }
      under_way_next turned _ place flips there (is_new new room) =
          let c_new : TableCopy = record { rows = n; turned = turned } in
          let longer = list ++ c_new ∷ [] in
          let rows_longer : rows_of longer ≡ rows_of list ++ n ∷ [] = map-append (λ (x : TableCopy). x.rows) list (c_new ∷ []) in
          let is : turned ≡ is_turned d n = flips ∙ ap not c_turned ∙ sym (listed_turns (rows_of list) g i way.listed c.rows r (get_in (rows_of list) g c.rows at_rows) (get_in rs i r at_i)) ∙ ap (is_turned d) (sym n_is) in
          record {
            listed =
                subst (λ ms. AreListed d rs ms g (i + 1)) (sym rows_longer)
                (added (rows_of list) g i c.rows n r way.listed at_rows at_i made new (subst (λ k. k < most_products) (sym (length-map list (λ (x : TableCopy). x.rows))) room));
            turned = All-append _ list (c_new ∷ []) way.turned (is, tt);
            noted = noted_length place;
            each = noted_before longer place there (λ h m at. subst (λ ms. slice_get ms h ≡ Some m) (sym rows_longer) (get_append (rows_of list) (n ∷ []) h m at));
          }

  -- ---- rows and the end

  -- after the last reflection comes the next product
  pub under_way_row : (g i : ℕ) (list : List TableCopy) (neighbours : List ℕ) → i ≡ length rs → IsUnderWay d rs g i list neighbours → IsUnderWay d rs (g + 1) 0 list neighbours
  under_way_row g i list neighbours last way = record {
    listed = next_product (rows_of list) g (subst (AreListed d rs (rows_of list) g) last way.listed);
    turned = way.turned;
    noted = let f = way.noted in omega (arith, f, last);
    each = way.each;
  }

-- there are at most 24 products
pub under_way_few : (d : ℕ) (rs : List Mirror) (g i : ℕ) (list : List TableCopy) (neighbours : List ℕ) → IsUnderWay d rs g i list neighbours → length list ≤ 24
under_way_few d rs g i list neighbours way = let l = listed_few (rows_of list) g i way.listed in let same = length-map list (λ (x : TableCopy). x.rows) in omega (arith, l, same)

-- the products that are multiplied are in the list
listed_up_to : {d : ℕ} {rs : List Mirror} (list : List Matrix) (g i : ℕ) → 0 < length rs → AreListed d rs list g i → (g ≤ length list) × (0 < i → g < length list)
listed_up_to _ _ _ some first = ((let l : 0 ≤ 1 = omega arith in l), (λ l. let none : 0 < 0 = l in absurd (omega (arith, none))))
listed_up_to _ _ _ some (known list g i m n r before at_g at_i made there) = let l = get_inside list g m at_g in ((omega (arith, l)), (λ more. l))
listed_up_to _ _ _ some (added list g i m n r before at_g at_i made new room) =
    let l = get_inside list g m at_g in
    let longer = length-append list (n ∷ []) in
    ((omega (arith, l, longer)), (λ more. omega (arith, l, longer)))
listed_up_to {d} {rs} _ _ _ some (next_product list g before) =
    let l = (listed_up_to list g (length rs) some before).1 some in
    ((omega (arith, l)), (λ none. absurd (omega (arith, none))))

-- and the next one is there, or all are multiplied
pub under_way_inside : (d : ℕ) (rs : List Mirror) → HaveTable d rs → (g i : ℕ) (list : List TableCopy) (neighbours : List ℕ) → IsUnderWay d rs g i list neighbours → g ≤ length list
under_way_inside d rs have g i list neighbours way =
    let l = (listed_up_to (rows_of list) g i (some_mirrors d have.table rs have.is.passes have.mirrors) way.listed).0 in
    let same = length-map list (λ (x : TableCopy). x.rows) in
    omega (arith, l, same)

-- ---- the place of a matrix

-- it is put at the end
pub placed_at_end : (list : List TableCopy) (c : TableCopy) → slice_get (rows_of (list ++ c ∷ [])) (length list) ≡ Some c.rows
placed_at_end list c = rows_at (list ++ c ∷ []) (length list) c (get_last list [] c)

-- one that isn't among those before, and isn't the next, isn't among those up to it
pub not_among : (n : Matrix) (list : List TableCopy) (k : ℕ) (c : TableCopy) → IsItem list k c → ¬ (c.rows ≡ n) → ¬ IsIn n (rows_of (take k list)) → ¬ IsIn n (rows_of (take (k + 1) list))
not_among n list k c item differs before h =
    elim (in_append_cases n (rows_of (take k list)) (c.rows ∷ []) (subst (IsIn n) (ap rows_of (up_to_item list k c item) ∙ map-append (λ (x : TableCopy). x.rows) (take k list) (c ∷ [])) h)) [
      | inl early ↦ before early
      | inr last ↦ only last
    ]
  where
    only : IsIn n (c.rows ∷ []) → ⊥
    only (inl e) = differs (sym e)
    only (inr none) = absurd none

-- what is listed stays where it is
pub still_there : (n : Matrix) (turned : Bool) (list longer : List TableCopy) (g : ℕ) (c : TableCopy) → IsPlaced n turned list longer → slice_get list g ≡ Some c → slice_get longer g ≡ Some c
still_there n turned list _ g c (was_there old) at = at
still_there n turned list _ g c (is_new new room) at = get_append list (record { rows = n; turned = turned } ∷ []) g c at

-- a table has at most 42 reflections
pub few_mirrors : (d : ℕ) (rs : List Mirror) → HaveTable d rs → length rs ≤ 42
few_mirrors d rs have = let same = mirrors_length d have.table rs have.mirrors in let few = have.is.few in omega (arith, same, few)
