-- The rows of an exchange: they are equally long, and the bottom row has numbers of letters.
use Rattle.std.proofs.Common.{◌≡◌, ℕ, zero, suc, ◌+◌, ◌<◌, ◌≤◌, List, Some, length, get_or, sym, ap, ◌∙◌, subst, arith}
use Rattle.std.proofs.lemmas.List.{length-map}
use Rattle.std.proofs.lemmas.List.Elements.{All-from_recursion, recursion_from_All}
use Rattle.std.proofs.lemmas.List.Sorted.{All-permutation, length_permutation}
use Rattle.std.proofs.lemmas.Option.{slice_get-get_or}
use Rattle.std.specs.List.{slice_get, range_with_len, AllByRecursion}
use Rattle.fs_gluing.specs.Exchanges.{Letter, names_of}
use Rattle.fs_iet.specs.ExchangeValue.{ExchangeValue, IsExchangeValue, most_letters}

-- the numbers of a range are below what its end is at most
range_below : (i n most : ℕ) → i + n ≤ most → AllByRecursion (λ k. k < most) (range_with_len i n)
range_below i zero most l = tt
range_below i (suc n) most l = (omega arith, range_below (i + 1) n most (omega arith))

module _ (x : ExchangeValue) (is : IsExchangeValue x) where
  -- both rows are equally long
  pub rows_long : length x.component.bottom ≡ length x.component.top
  rows_long = length_permutation (names_of x.component.top) x.component.bottom is.lawful.rows ∙ length-map x.component.top (λ (letter : Letter). letter.name)

  -- the bottom row is short
  pub bottom_short : length x.component.bottom ≤ most_letters
  bottom_short = let same = rows_long in let few = is.few in omega arith

  -- each of its names is the number of a letter
  pub bottom_within : AllByRecursion (λ name. name < length x.component.top) x.component.bottom
  bottom_within =
      recursion_from_All (λ name. name < length x.component.top) x.component.bottom
      (All-permutation (λ name. name < length x.component.top) (names_of x.component.top) x.component.bottom is.lawful.rows
      (All-from_recursion (λ name. name < length x.component.top) (names_of x.component.top)
      (subst (AllByRecursion (λ name. name < length x.component.top)) (sym is.named) (range_below 0 (length x.component.top) (length x.component.top) (omega arith)))))

  -- so it is for lists that are equal to both rows
  pub rows_within : (letters : List Letter) (row : List ℕ) → letters ≡ x.component.top → row ≡ x.component.bottom → AllByRecursion (λ name. name < length letters) row
  rows_within letters row e f =
      subst (AllByRecursion (λ name. name < length letters)) (sym f) (subst (λ (l : List Letter). AllByRecursion (λ name. name < length l) x.component.bottom) (sym e) bottom_within)

  pub row_short : (row : List ℕ) → row ≡ x.component.bottom → length row ≤ most_letters
  row_short row f = subst (λ (r : List ℕ). length r ≤ most_letters) (sym f) bottom_short

  -- what is read of the bottom row
  pub bottom_read : (n : ℕ) (row : List ℕ) → row ≡ x.component.bottom → n < length x.component.top → slice_get x.component.bottom n ≡ Some (get_or row n 0)
  bottom_read n row e l =
      let inside : n < length x.component.bottom = let same = rows_long in omega arith in
      slice_get-get_or x.component.bottom n 0 inside ∙ ap (λ (r : List ℕ). Some (get_or r n 0)) (sym e)
