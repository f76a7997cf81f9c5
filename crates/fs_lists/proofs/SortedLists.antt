-- A list that is sorted by a total order, by which only equal items are equal, is determined by its items.
use Rattle.std.proofs.Common.{◌≡◌, ℕ, suc, ◌+◌, Bool, true, false, List, [], ◌∷◌, get_or, refl, sym, ap, ◌∙◌, subst, arith}
use Rattle.std.specs.Prelude.{IsSorted, IsPermutation}
use Rattle.std.specs.List.{AllByRecursion, sum_by}
use Rattle.std.specs.Ordering.{ordering_reverse, is_lt}
use Rattle.std.specs.Cmp.{IsTotalOrder}
use Rattle.std.specs.declared.cmp.Ordering.{Ordering}
use Rattle.std.specs.declared.cmp.Ordering.TheVariants.{Less, Equal, Greater}
use Rattle.std.proofs.lemmas.List.Sorted.{ranks_by, sum_by-IsPermutation}
use Rattle.std.proofs.lemmas.List.Sums.{sum_by-cons}
use Rattle.fs_lists.proofs.Equal.{cons_equal}

of_test : Bool → ℕ
of_test true = 1
of_test false = 0

equal_where_none_less : (r : Ordering) → is_lt r ≡ false → is_lt (ordering_reverse r) ≡ false → r ≡ Equal
equal_where_none_less Less p q = cc
equal_where_none_less Equal p q = refl
equal_where_none_less Greater p q = cc

module _ {X : Type 0} {R : X → X → Ordering} (order : IsTotalOrder R) (exact : (x y : X) → R x y ≡ Equal → x ≡ y) where
  -- 1 where z is before x
  before : X → X → ℕ
  before x z = of_test (is_lt (R z x))

  abbrev NoneBefore : X → List X → Type 0
  NoneBefore x zs = AllByRecursion (λ z. is_lt (R z x) ≡ false) zs

  -- both lists have the same sums
  abbrev HaveSameSums : List X → List X → Type 0
  HaveSameSums xs ys = (f : X → ℕ) → sum_by f xs ≡ sum_by f ys

  sum_of_none : (x : X) (zs : List X) → NoneBefore x zs → sum_by (before x) zs ≡ 0
  unfolding before of_test
  sum_of_none x [] none = refl
  sum_of_none x (z ∷ zs) none =
      let one = sum_by-cons (before x) z zs in
      let first : before x z ≡ 0 = ap of_test none.0 in
      let rest = sum_of_none x zs none.1 in
      omega (arith, one, first, rest)

  sorted_tail : (x : X) (xs : List X) → IsSorted R (x ∷ xs) → IsSorted R xs
  sorted_tail x xs s k d low high =
      subst (λ (n : ℕ). is_lt (R (get_or (x ∷ xs) n d) (get_or xs k d)) ≡ false) {x = suc k + 1} {y = suc (k + 1)} (omega arith) (s (suc k) d (omega arith) (omega arith))

  none_before : (x z : X) (zs : List X) → IsSorted R (z ∷ zs) → is_lt (R z x) ≡ false → NoneBefore x (z ∷ zs)
  none_before x z [] s n = (n, tt)
  none_before x z (w ∷ ws) s n = (n, none_before x w ws (sorted_tail z (w ∷ ws) s) ((ranks_by order (λ y. y)).chain w z x (s 0 z (omega arith) (omega arith)) n))

  not_before_itself : (x : X) → is_lt (R x x) ≡ false
  not_before_itself x = by (is_lt (R x x)) refl
    where
      by : (b : Bool) → is_lt (R x x) ≡ b → is_lt (R x x) ≡ false
      by false e = e
      by true e = (ranks_by order (λ y. y)).one_way x x e

  -- the first item of a sorted list isn't before that of another with the same sums
  first_not_before : (x y : X) (xs ys : List X) → IsSorted R (y ∷ ys) → HaveSameSums (x ∷ xs) (y ∷ ys) → is_lt (R x y) ≡ false
  unfolding before of_test
  first_not_before x y xs ys t same = by (is_lt (R x y)) refl
    where
      by : (b : Bool) → is_lt (R x y) ≡ b → is_lt (R x y) ≡ false
      by false e = e
      by true e =
          let one = sum_by-cons (before y) x xs in
          let first : before y x ≡ 1 = ap of_test e in
          let none = sum_of_none y (y ∷ ys) (none_before y y ys t (not_before_itself y)) in
          let equal = same (before y) in
          absurd (omega (arith, one, first, none, equal))

  firsts_equal : (x y : X) (xs ys : List X) → IsSorted R (x ∷ xs) → IsSorted R (y ∷ ys) → HaveSameSums (x ∷ xs) (y ∷ ys) → x ≡ y
  firsts_equal x y xs ys s t same =
      exact x y (equal_where_none_less (R x y) (first_not_before x y xs ys t same) (ap is_lt (sym (order.antisymm y x)) ∙ first_not_before y x ys xs s (λ f. sym (same f))))

  same_sums_equal : (xs ys : List X) → IsSorted R xs → IsSorted R ys → HaveSameSums xs ys → xs ≡ ys
  same_sums_equal [] [] s t same = refl
  same_sums_equal [] (y ∷ ys) s t same = let one = sum_by-cons (λ z. 1) y ys in let equal = same (λ z. 1) in absurd (omega (arith, one, equal))
  same_sums_equal (x ∷ xs) [] s t same = let one = sum_by-cons (λ z. 1) x xs in let equal = same (λ z. 1) in absurd (omega (arith, one, equal))
  same_sums_equal (x ∷ xs) (y ∷ ys) s t same =
      let first = firsts_equal x y xs ys s t same in
      cons_equal x y xs ys first (same_sums_equal xs ys (sorted_tail x xs s) (sorted_tail y ys t)
      (λ f.
      let left = sum_by-cons f x xs in
      let right = sum_by-cons f y ys in
      let value = ap f first in
      let equal = same f in
      omega (arith, left, right, value, equal)))

  -- two sorted permutations of a list are one
  pub sorted_unique : (zs xs ys : List X) → IsPermutation zs xs → IsPermutation zs ys → IsSorted R xs → IsSorted R ys → xs ≡ ys
  sorted_unique zs xs ys p q s t = same_sums_equal xs ys s t (λ f. sum_by-IsPermutation f zs xs p ∙ sym (sum_by-IsPermutation f zs ys q))
