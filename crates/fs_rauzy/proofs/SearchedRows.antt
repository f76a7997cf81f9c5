-- The rows of the current component, where it is searched for splits.
use Rattle.std.proofs.Common.{◌≡◌, ◌↔◌, ℕ, ◌-◌, ◌<◌, ◌≤◌, Bool, true, false, not, Option, Some, None, List, [], ◌∷◌, ◌++◌, length, take, drop, IfSome, IsPermutation, refl, sym, ap, ◌∙◌, subst}
use Rattle.std.proofs.lemmas.List.{take_rest, take_at}
use Rattle.std.specs.Option.{is_some}
use Rattle.fs_lists.specs.Members.{IsDistinct}
use Rattle.fs_gluing.specs.Exchanges.{Letter, Component}
use Rattle.fs_iet.proofs.Rearrangements.{distinct_permutation}
use Rattle.fs_rauzy.specs.declared.rows.Extent.{Extent}
use Rattle.fs_rauzy.specs.Events.{HasSplit}
use Rattle.fs_rauzy.specs.SplitsInPlace.{HaveSamePrefix}
use Rattle.fs_rauzy.specs.States.{IsState}
use Rattle.fs_rauzy.specs.StatesInPlace.{component_at, opened, IsInPlace, IsSearched}
use Rattle.fs_rauzy.specs.Steps.{AtCurrent}
use Rattle.fs_rauzy.proofs.OpenedRows.{now_named, now_length, now_apart, split_of_rows, rows_of_split}

-- the slice of a row from a place on
pub row_slice : (row top : List ℕ) (n : ℕ) → row ≡ top → take (length row - n) (drop n row) ≡ drop n top
row_slice row top n e = take_rest row n ∙ ap (drop n) e

-- rows that are equal to rows in another order are so too
pub same_permutation : {xs ys zs ws : List ℕ} → xs ≡ zs → ys ≡ ws → IsPermutation zs ws → IsPermutation xs ys
same_permutation {xs} {ys} {zs} {ws} e f h = subst (λ xs. IsPermutation xs ys) (sym e) (subst (λ ys. IsPermutation zs ys) (sym f) h)

-- a list that is written whole keeps its length
pub length-written : (n m : ℕ) (new old : List ℕ) → length new ≡ n → n ≡ m → length (take n (new ++ drop (length new) old)) ≡ m
length-written n m new old e f = ap length (take_at new (drop (length new) old) n e) ∙ e ∙ f

-- a component that was searched has no split where none was found
pub searched_now : (found : Option ℕ) (b : Bool) (components : List Component) → is_some found ≡ not b → (found ≡ None → AtCurrent (λ c. (k : ℕ) → ¬ HasSplit c k) components)
    → IsSearched b components
searched_now found false components e h = tt
searched_now found true [] e h = tt
searched_now None true (c ∷ rest) e h = h refl
searched_now (Some k) true (c ∷ rest) e h = absurd (differ e)
  where
    differ : true ≡ false → ⊥
    differ e = cc

module _ (letters : List Letter) (top bottom : List ℕ) {extents rest : List Extent} {e : Extent} (now : extents ≡ e ∷ rest) (in_place : IsInPlace letters top bottom extents) where
  here : IsInPlace letters top bottom (e ∷ rest)
  here = subst (λ x. IsInPlace letters top bottom x) now in_place

  open_here : (components : List Component) → opened letters top bottom extents ≡ components
      → component_at letters top bottom e ∷ opened letters (take e.first top) (take e.first bottom) rest ≡ components
  open_here components is = ap (λ (x : List Extent). opened letters top bottom x) (sym now) ∙ is

  -- the rows of the current component have the same names
  pub now_same : {d : ℕ} → IsState (record { d = d; components = opened letters top bottom extents }) → IsPermutation (drop e.first top) (drop e.first bottom)
  now_same {d} state =
      let current = subst (λ (x : List Extent). IsState (record { d = d; components = opened letters top bottom x })) now state in
      subst (λ names. IsPermutation names (drop e.first bottom)) (now_named here) current.lawful.0.rows

  -- no name is twice in its top row
  pub now_once : IsDistinct (drop e.first top)
  now_once = now_apart here

  -- and none in its bottom row
  pub below_once : {d : ℕ} → IsState (record { d = d; components = opened letters top bottom extents }) → IsDistinct (drop e.first bottom)
  below_once state = distinct_permutation (drop e.first top) (drop e.first bottom) (now_same state) now_once

  -- so many letters the component has
  pub letters_told : (n : ℕ) (row : List ℕ) → row ≡ drop e.first top → (components : List Component) → opened letters top bottom extents ≡ components
      → AtCurrent (λ c. n ≡ length c.top) components → n ≡ length row
  letters_told n row same components is h =
      subst (λ components. AtCurrent (λ c. n ≡ length c.top) components) (sym (open_here components is)) h ∙ now_length here ∙ ap length (sym same)

  module _ (row below : List ℕ) (same_row : row ≡ drop e.first top) (same_below : below ≡ drop e.first bottom) (components : List Component) (is : opened letters top bottom extents ≡ components) where
    -- the component can be split after the names that are found
    pub split_found : (found : Option ℕ) → IfSome found (λ k. (0 < k) × (k < length row) × HaveSamePrefix row below k) → IfSome found (λ k. AtCurrent (λ c. HasSplit c k) components)
    split_found None h = tt
    split_found (Some k) h =
        subst (λ components. AtCurrent (λ c. HasSplit c k) components) (open_here components is)
        (split_of_rows here k h.0 (subst (λ (names : List ℕ). k < length names) same_row h.1)
        (subst (λ names. HaveSamePrefix names (drop e.first bottom) k) same_row (subst (λ names. HaveSamePrefix row names k) same_below h.2)))

    -- what is found where the component can be split
    found_at : (j : ℕ) → HasSplit (component_at letters top bottom e) j → (0 < j) × (j < length row) × HaveSamePrefix row below j
    found_at j h =
        let rows = rows_of_split here j h in (
          h.some,
          subst (λ (names : List ℕ). j < length names) (sym same_row) rows.0,
          subst (λ names. HaveSamePrefix names below j) (sym same_row) (subst (λ names. HaveSamePrefix (drop e.first top) names j) (sym same_below) rows.1),
        )

    -- and after no more
    pub greatest_found : (found : Option ℕ) → IfSome found (λ k. (j : ℕ) → 0 < j → j < length row → HaveSamePrefix row below j → j ≤ k)
        → IfSome found (λ k. AtCurrent (λ c. (j : ℕ) → HasSplit c j → j ≤ k) components)
    greatest_found None h = tt
    greatest_found (Some k) h =
        subst (λ components. AtCurrent (λ c. (j : ℕ) → HasSplit c j → j ≤ k) components) (open_here components is)
        (λ j split. let at = found_at j split in h j at.0 at.1 at.2)

    -- where nothing is found it can't be split
    pub none_found : (found : Option ℕ) → (found ≡ None → (j : ℕ) → 0 < j → j < length row → ¬ HaveSamePrefix row below j)
        → found ≡ None → AtCurrent (λ c. (j : ℕ) → ¬ HasSplit c j) components
    none_found found h none =
        subst (λ components. AtCurrent (λ c. (j : ℕ) → ¬ HasSplit c j) components) (open_here components is)
        (λ j split. let at = found_at j split in h none j at.0 at.1 at.2)

    -- the rows begin with the same names exactly where it can be split
    pub split_told : (k : ℕ) (b : Bool) → (b ≡ true) ↔ HaveSamePrefix row below k → 0 < k → k < length row → (b ≡ true) ↔ AtCurrent (λ c. HasSplit c k) components
    split_told k b told some others = (
      λ h. split_found (Some k) (some, others, told.0 h),
      λ h. told.1 (found_at k (subst (λ components. AtCurrent (λ c. HasSplit c k) components) (sym (open_here components is)) h)).2,
    )
