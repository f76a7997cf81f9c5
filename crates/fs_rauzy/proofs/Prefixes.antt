-- Equal beginnings of two rows of different names: where all names of the one are among as many places of the other, they are the same.
use Rattle.std.proofs.Common.{◌≡◌, ◌⊎◌, ◌↔◌, ℕ, zero, suc, ◌+◌, ◌<◌, ◌≤◌, max, Option, Some, None, List, [], ◌∷◌, ◌++◌, length, take, get_or, refl, sym, ◌∙◌, subst, inl, inr, arith}
use Rattle.std.proofs.lemmas.Bool.{cases_eq}
use Rattle.std.proofs.lemmas.List.{take_more, length-take-le, length-take}
use Rattle.std.proofs.lemmas.Option.{same_Some}
use Rattle.std.specs.List.{slice_get}
use Rattle.std.specs.Option.{IfSome}
use Rattle.fs_lists.specs.Members.{IsIn, IsDistinct}
use Rattle.fs_lists.proofs.Members.{in_append_left, in_append_right, in_append_cases}
use Rattle.fs_lists.proofs.Removal.{at_most_partners}
use Rattle.fs_iet.proofs.ListsInTurn.{in_by_number}
use Rattle.fs_rauzy.specs.SplitsInPlace.{HaveSamePrefix}

-- ---- members

-- of a number it can be decided whether it is in a list
pub in_or_not : (x : ℕ) (xs : List ℕ) → IsIn x xs ⊎ ¬ IsIn x xs
in_or_not x [] = inr (λ h. h)
in_or_not x (y ∷ ys) = elim (cases_eq x y) [
  | inl e ↦ inl (inl e)
  | inr n ↦ elim (in_or_not x ys) [
    | inl h ↦ inl (inr h)
    | inr m ↦ inr (λ h. elim h [ inl e ↦ n e | inr k ↦ m k ])
  ]
]

-- the first k items are items, and differ where all do
pub in_take : {X : Type 0} (k : ℕ) (xs : List X) (x : X) → IsIn x (take k xs) → IsIn x xs
in_take zero xs x h = absurd h
in_take (suc k) [] x h = absurd h
in_take (suc k) (y ∷ ys) x (inl e) = inl e
in_take (suc k) (y ∷ ys) x (inr h) = inr (in_take k ys x h)

pub take_distinct : {X : Type 0} (k : ℕ) (xs : List X) → IsDistinct xs → IsDistinct (take k xs)
take_distinct zero xs p = tt
take_distinct (suc k) [] p = tt
take_distinct (suc k) (x ∷ xs) p = ((λ y h. p.0 y (in_take k xs y h)), take_distinct k xs p.1)

-- all items of the one list are in the other
abbrev pub AreAmong : List ℕ → List ℕ → Type 0
AreAmong xs ys = (x : ℕ) → IsIn x xs → IsIn x ys

-- different numbers among others are no more than those
pub among_length : (xs ys : List ℕ) → IsDistinct xs → AreAmong xs ys → length xs ≤ length ys
among_length xs ys p all = at_most_partners (λ x w. x ≡ w) (λ x y. x ≡ y) xs ys (λ x h. (x, all x h, refl)) (λ x w y hx hw e f. e ∙ sym f) p

-- and if they are no fewer, they are all of them
pub among_back : (xs ys : List ℕ) → IsDistinct xs → length ys ≤ length xs → AreAmong xs ys → AreAmong ys xs
among_back xs ys p long all y h = elim (in_or_not y xs) [
  | inl k ↦ k
  | inr n ↦ absurd (
      let more : IsDistinct (y ∷ xs) = ((λ x k e. n (subst (λ z. IsIn z xs) (sym e) k)), p) in
      let all_more : AreAmong (y ∷ xs) ys = λ x k. elim k [ inl e ↦ subst (λ z. IsIn z ys) (sym e) h | inr m ↦ all x m ] in
      let short : suc (length xs) ≤ length ys = among_length (y ∷ xs) ys more all_more in
      omega arith
      )
]

-- ---- beginnings

-- both rows begin with the same k names where those of the bottom row are among those of the top row
pub same_of_among : (top bottom : List ℕ) (k : ℕ) → IsDistinct bottom → k ≤ length top → k ≤ length bottom → AreAmong (take k bottom) (take k top) → HaveSamePrefix top bottom k
same_of_among top bottom k p long_top long_bottom all name =
    let same : length (take k top) ≤ length (take k bottom) = let a = length-take-le k top long_top in let b = length-take-le k bottom long_bottom in omega arith in
    (among_back (take k bottom) (take k top) (take_distinct k bottom p) same all name, all name)

-- an item is among the first j where its number is below j
pub in_take_of_number : {X : Type 0} (xs : List X) (n j : ℕ) (x : X) → slice_get xs n ≡ Some x → n < j → IsIn x (take j xs)
in_take_of_number [] n j x e l = absurd (cc)
in_take_of_number (y ∷ ys) n zero x e l = absurd (omega arith)
in_take_of_number (y ∷ ys) zero (suc j) x e l = inl (sym (same_Some y x e))
in_take_of_number (y ∷ ys) (suc n) (suc j) x e l = inr (in_take_of_number ys n j x e (omega arith))

-- and only there, where the items differ
pub number_of_in_take : {X : Type 0} (xs : List X) (n j : ℕ) (x : X) → IsDistinct xs → slice_get xs n ≡ Some x → IsIn x (take j xs) → n < j
number_of_in_take xs n zero x p e h = absurd h
number_of_in_take [] n (suc j) x p e h = absurd h
number_of_in_take (y ∷ ys) zero (suc j) x p e h = omega arith
number_of_in_take (y ∷ ys) (suc n) (suc j) x p e (inl same) = absurd (p.0 x (in_by_number ys n x e) (sym same))
number_of_in_take (y ∷ ys) (suc n) (suc j) x p e (inr h) = let l = number_of_in_take ys n j x p.1 e h in omega arith

-- the first n names of the bottom row are among the first `end` of the top row, and among no fewer
abbrev pub EndsAt : List ℕ → List ℕ → ℕ → ℕ → Type 0
EndsAt top bottom n end = (j : ℕ) → AreAmong (take n bottom) (take j top) ↔ (end ≤ j)

-- one name more
pub ends_more : (top bottom : List ℕ) (n end place d : ℕ) → IsDistinct top → n < length bottom → slice_get top place ≡ Some (get_or bottom n d)
    → EndsAt top bottom n end → EndsAt top bottom (n + 1) (max end (place + 1))
ends_more top bottom n end place d p inside at ends j = go (get_or bottom n d) at (take_more bottom n d inside)
  where
    go : (name : ℕ) → slice_get top place ≡ Some name → take (n + 1) bottom ≡ take n bottom ++ name ∷ [] → AreAmong (take (n + 1) bottom) (take j top) ↔ (max end (place + 1) ≤ j)
    go name at whole = (
      (λ all.
          let before : end ≤ j = (ends j).0 (λ x h. all x (subst (IsIn x) (sym whole) (in_append_left x (take n bottom) (name ∷ []) h))) in
          let last : place < j = number_of_in_take top place j name p at (all name (subst (IsIn name) (sym whole) (in_append_right name (take n bottom) (name ∷ []) (inl refl)))) in
          omega arith),
      (λ l x h. elim (in_append_cases x (take n bottom) (name ∷ []) (subst (IsIn x) whole h)) [
        | inl k ↦ (ends j).1 (omega arith) x k
        | inr k ↦ elim k [ inl e ↦ subst (λ z. IsIn z (take j top)) (sym e) (in_take_of_number top place j name at (omega arith)) | inr m ↦ absurd m ]
      ]),
    )

-- such an end is no less than the number of names
pub ends_least : (top bottom : List ℕ) (n end : ℕ) → IsDistinct bottom → n ≤ length bottom → EndsAt top bottom n end → n ≤ end
ends_least top bottom n end p inside ends =
    let short = among_length (take n bottom) (take end top) (take_distinct n bottom p) ((ends end).1 (omega arith)) in
    let as_many = length-take-le n bottom inside in
    let most = length-take end top in
    omega arith

-- ---- the greatest beginning

-- both rows begin with the same k names, fewer than all
pub record IsProperPrefix (top bottom : List ℕ) (k : ℕ) : Type 0 where
  pub some : 0 < k
  pub others : k < length top
  pub same : HaveSamePrefix top bottom k

-- k, if there is one, is the greatest number up to n of which P holds
abbrev pub IsGreatestUpTo : (ℕ → Type 0) → ℕ → Option ℕ → Type 0
IsGreatestUpTo P n None = (j : ℕ) → j ≤ n → ¬ P j
IsGreatestUpTo P n (Some k) = P k × (k ≤ n) × ((j : ℕ) → j ≤ n → P j → j ≤ k)

-- where it holds of the next number, that is the greatest, and else the same one
pub greatest_next : (P : ℕ → Type 0) (n : ℕ) → P (n + 1) → IsGreatestUpTo P (n + 1) (Some (n + 1))
greatest_next P n here = (here, omega arith, (λ j l h. l))

pub greatest_same : (P : ℕ → Type 0) (n : ℕ) (greatest : Option ℕ) → ¬ P (n + 1) → IsGreatestUpTo P n greatest → IsGreatestUpTo P (n + 1) greatest
greatest_same P n None not_here before = λ j l h. elim (cases_eq j (n + 1)) [ inl e ↦ not_here (subst P e h) | inr m ↦ before j (omega arith) h ]
greatest_same P n (Some k) not_here before =
    let most = before.1 in (
      before.0,
      omega arith,
      (λ j l h. elim (cases_eq j (n + 1)) [ inl e ↦ absurd (not_here (subst P e h)) | inr m ↦ before.2 j (omega arith) h ]),
    )

module _ (top bottom : List ℕ) (apart_bottom : IsDistinct bottom) (as_long : length bottom ≡ length top) where
  -- the first n names are a beginning where they end at n
  pub proper_of_end : (n end : ℕ) → EndsAt top bottom n end → end ≡ n → 0 < n → n < length bottom → IsProperPrefix top bottom n
  proper_of_end n end ends same some others = record {
    some = some;
    others = omega arith;
    same = same_of_among top bottom n apart_bottom (omega arith) (omega arith) ((ends n).1 (omega arith));
  }

  -- and only there
  pub end_of_proper : (n end : ℕ) → EndsAt top bottom n end → IsProperPrefix top bottom n → (end ≡ n) × (n < length bottom)
  end_of_proper n end ends proper =
      let others = proper.others in
      let most : end ≤ n = (ends n).0 (λ x. (proper.same x).1) in
      let least : n ≤ end = ends_least top bottom n end apart_bottom (omega arith) ends in
      (omega arith, omega arith)

-- what is greatest up to the number of all names is greatest
pub greatest_of_all : (top bottom : List ℕ) (n : ℕ) (greatest : Option ℕ) → length top ≤ n → IsGreatestUpTo (IsProperPrefix top bottom) n greatest
    → IfSome greatest (λ k. (j : ℕ) → 0 < j → j < length top → HaveSamePrefix top bottom j → j ≤ k)
greatest_of_all top bottom n None all g = tt
greatest_of_all top bottom n (Some k) all g = λ j some others same. g.2 j (omega arith) (record { some = some; others = others; same = same })

-- and if there is none, there is none at all
pub none_of_all : (top bottom : List ℕ) (n : ℕ) (greatest : Option ℕ) → length top ≤ n → IsGreatestUpTo (IsProperPrefix top bottom) n greatest → greatest ≡ None
    → (j : ℕ) → 0 < j → j < length top → ¬ HaveSamePrefix top bottom j
none_of_all top bottom n None all g e j some others same = g j (omega arith) (record { some = some; others = others; same = same })
none_of_all top bottom n (Some k) all g e j some others same = absurd (cc)
