-- The places of names in a row, as they are noted, and what std's search in a slice says.
use Rattle.std.proofs.Common.{◌≡◌, ◌⊎◌, ℕ, ◌+◌, ◌<◌, Bool, Decides, IsPermutation, eqb, Some, List, length, take, get_or, set, sym, ap, ◌∙◌, inl, inr, arith, [], ◌∷◌, subst}
use Rattle.std.proofs.lemmas.Bool.{cases_eq}
use Rattle.std.proofs.lemmas.Bool.Decides.{Decides-eqb}
use Rattle.std.proofs.lemmas.List.{take_more}
use Rattle.std.proofs.lemmas.List.Elements.{contains_decides, Decides-contains}
use Rattle.std.proofs.lemmas.List.Sorted.{IsPermutation-sym}
use Rattle.std.proofs.lemmas.Option.{slice_get-get_or, slice_get_within, get_or_from_slice_get}
use Rattle.std.specs.List.{slice_get, IsAnyAnswer}
use Rattle.fs_lists.specs.Members.{IsIn, IsDistinct}
use Rattle.fs_lists.proofs.Items.{slice_get-set_same, slice_get-set_other}
use Rattle.fs_lists.proofs.Members.{in_of_contains, in_append_cases}
use Rattle.fs_iet.proofs.ListsInTurn.{in_by_number, number_of_member, number_unique}
use Rattle.fs_iet.proofs.Rearrangements.{contains_of_in, in_permutation}
use Rattle.fs_rauzy.specs.SplitsInPlace.{ArePlaces}
use Rattle.fs_rauzy.proofs.Prefixes.{AreAmong}

-- the place of each of the first n names is noted
abbrev pub ArePlacesUpTo : List ℕ → List ℕ → ℕ → Type 0
ArePlacesUpTo row places n = (k name : ℕ) → k < n → slice_get row k ≡ Some name → slice_get places name ≡ Some k

-- that of one name more
pub places_more : (row places : List ℕ) (n d : ℕ) → IsDistinct row → n < length row → get_or row n d < length places → ArePlacesUpTo row places n → ArePlacesUpTo row (set places (get_or row n d) n) (n + 1)
places_more row places n d apart inside within before k name below e = go (cases_eq k n)
  where
    go : (k ≡ n) ⊎ (k ≡ n → ⊥) → slice_get (set places (get_or row n d) n) name ≡ Some k
    go (inl same) =
        let read : get_or row n d ≡ name = ap (λ (i : ℕ). get_or row i d) (sym same) ∙ get_or_from_slice_get row k name d e in
        ap (slice_get (set places (get_or row n d) n)) (sym read) ∙ slice_get-set_same places (get_or row n d) n within ∙ ap (λ (i : ℕ). Some i) (sym same)
    go (inr other) =
        let less : k < n = omega arith in
        slice_get-set_other places (get_or row n d) name n (λ h. other (number_unique row apart k n name e (slice_get-get_or row n d inside ∙ ap (λ (x : ℕ). Some x) (sym h)))) ∙ before k name less e

-- one more of the names is among others
pub among_more : (xs ys : List ℕ) (i d : ℕ) → i < length xs → AreAmong (take i xs) ys → IsIn (get_or xs i d) ys → AreAmong (take (i + 1) xs) ys
among_more xs ys i d inside before here x h = elim (in_append_cases x (take i xs) (get_or xs i d ∷ []) (subst (IsIn x) (take_more xs i d inside) h)) [
  | inl k ↦ before x k
  | inr k ↦ elim k [ inl e ↦ subst (λ z. IsIn z ys) (sym e) here | inr m ↦ absurd m ]
]

-- the answer of std's search for a number in a slice
pub contains_tells : (xs : List ℕ) (x : ℕ) (answer : Bool) → IsAnyAnswer (λ y t. eqb y x ≡ t) xs answer → Decides answer (IsIn x xs)
contains_tells xs x answer h =
    let d = Decides-contains xs x answer (contains_decides eqb Decides-eqb xs x answer h) in
    ((λ e. in_of_contains x xs (d.0 e)), (λ k. d.1 (contains_of_in x xs k)))

-- a name whose place is noted
pub record IsNoted (row places : List ℕ) (name : ℕ) : Type 0 where
  pub place : ℕ
  pub at : slice_get row place ≡ Some name
  pub noted : get_or places name 0 ≡ place
  pub inside : name < length places
  pub below : place < length row

-- each name of the other row is one
pub name_noted : (top bottom places : List ℕ) (n d : ℕ) → IsPermutation top bottom → ArePlaces top places → n < length bottom → IsNoted top places (get_or bottom n d)
name_noted top bottom places n d same noted inside =
    let name = get_or bottom n d in
    let there : IsIn name top = in_permutation name bottom top (IsPermutation-sym top bottom same) (in_by_number bottom n name (slice_get-get_or bottom n d inside)) in
    let number = number_of_member top name there in
    let read = noted number.0 name number.1 in
    record {
      place = number.0;
      at = number.1;
      noted = get_or_from_slice_get places name number.0 0 read;
      inside = slice_get_within places name number.0 read;
      below = slice_get_within top number.0 name number.1;
    }
