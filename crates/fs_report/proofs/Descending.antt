-- Descending lists of numbers: the items of a list have exactly one descending order.
use Rattle.std.proofs.Common.{◌≡◌, ℕ, zero, suc, ◌+◌, ◌-◌, ◌<◌, ◌≤◌, Bool, true, false, cond, List, [], ◌∷◌, length, reverse, get_or, sum_by, T, inl, inr, refl, sym, ap, ◌∙◌, subst, arith}
use Rattle.std.specs.Prelude.{IsSorted, IsPermutation}
use Rattle.std.specs.Ordering.{nat_cmp, is_lt}
use Rattle.std.specs.declared.cmp.Ordering.TheVariants.{Equal, Greater}
use Rattle.std.specs.Cmp.{nat_cmp_is}
use Rattle.std.specs.List.{AllByRecursion}
use Rattle.std.proofs.Math.Dec.{eqb, eqb_refl}
use Rattle.std.proofs.Math.Facts.{eqb_yes}
use Rattle.std.proofs.Math.Nat.{eq-or-lt_of_le}
use Rattle.std.proofs.lemmas.List.{length-reverse, get_or-reverse}
use Rattle.std.proofs.lemmas.Map.Keys.{ge_from_not_lt}
use Rattle.std.proofs.lemmas.Bool.{cases_lt}
use Rattle.std.proofs.lemmas.List.Elements.{All-from_recursion, recursion_from_All}
use Rattle.std.proofs.lemmas.List.Sums.{sum_by-cons}
use Rattle.std.proofs.lemmas.List.Sorted.{IsNonDecreasingBy-from_sort, sum_by-IsPermutation, All-permutation, IsPermutation-refl, IsPermutation-sym, IsPermutation-trans, IsPermutation-cons, IsPermutation-middle}

-- no number is below a later one
abbrev IsFalling : List ℕ → Type 0
IsFalling [] = Unit {0}
IsFalling (x ∷ xs) = AllByRecursion (λ y. y ≤ x) xs × IsFalling xs

at_most : (x y : ℕ) (zs : List ℕ) → y ≤ x → AllByRecursion (λ z. z ≤ y) zs → AllByRecursion (λ z. z ≤ x) zs
at_most x y [] h a = tt
at_most x y (z ∷ zs) h a = (let here = a.0 in omega arith, at_most x y zs h a.1)

-- ---- the same as each number being at most the one before it

-- each number is at most the one before it
abbrev pub IsDescending : List ℕ → Type 0
IsDescending xs = IsSorted (λ a b. nat_cmp b a) xs

descending_tail : (x : ℕ) (xs : List ℕ) → IsDescending (x ∷ xs) → IsDescending xs
descending_tail x xs s = λ k d low high.
    let more : suc k + 1 ≡ suc (k + 1) = omega arith in
    subst (λ (m : ℕ). is_lt (nat_cmp (get_or (x ∷ xs) (suc k) d) (get_or (x ∷ xs) m d)) ≡ false) more (s (suc k) d (omega arith) (omega arith))

below_head : (x : ℕ) (xs : List ℕ) → IsDescending (x ∷ xs) → AllByRecursion (λ y. y ≤ x) xs
below_head x [] s = tt
below_head x (y ∷ ys) s =
    let first : y ≤ x = ge_from_not_lt x y (s zero x (omega arith) (omega arith)) in
    (first, at_most x y ys first (below_head y ys (descending_tail x (y ∷ ys) s)))

-- a list in which each number is at most the one before it
falling_of_descending : (xs : List ℕ) → IsDescending xs → IsFalling xs
falling_of_descending [] s = tt
falling_of_descending (x ∷ xs) s = (below_head x xs s, falling_of_descending xs (descending_tail x xs s))

not_below : (x y : ℕ) → y ≤ x → is_lt (nat_cmp x y) ≡ false
not_below x y h = elim (eq-or-lt_of_le h) [
  | inl e ↦ ap is_lt (sym (nat_cmp_is x y Equal (sym e)))
  | inr l ↦ ap is_lt (sym (nat_cmp_is x y Greater l))
]

-- a list in which no number is below a later one
descending_of_falling : (xs : List ℕ) → IsFalling xs → IsDescending xs
descending_of_falling [] f = λ k d low high. absurd (omega arith)
descending_of_falling (x ∷ []) f = λ k d low high. absurd (omega arith)
descending_of_falling (x ∷ (y ∷ ys)) f = at (descending_of_falling (y ∷ ys) f.1)
  where
    at : IsDescending (y ∷ ys) → IsDescending (x ∷ (y ∷ ys))
    at rest zero d low high = not_below x y f.0.0
    at rest (suc k) d low high =
        let more : suc (k + 1) ≡ suc k + 1 = omega arith in
        subst (λ (m : ℕ). is_lt (nat_cmp (get_or (y ∷ ys) k d) (get_or (x ∷ (y ∷ ys)) m d)) ≡ false) more (rest k d (omega arith) (omega arith))

-- a sorted list, reversed
pub descending_reverse : (xs : List ℕ) → IsSorted nat_cmp xs → IsDescending (reverse xs)
descending_reverse xs s = λ k d low high.
    let rises = IsNonDecreasingBy-from_sort (λ (x : ℕ). x) xs s in
    let long = length-reverse xs in
    let here = get_or-reverse xs k d (omega arith) in
    let next = get_or-reverse xs (k + 1) d (omega arith) in
    let below = rises (length xs - 1 - (k + 1)) (length xs - 1 - k) d (omega arith) (omega arith) in
    not_below (get_or (reverse xs) k d) (get_or (reverse xs) (k + 1) d) (omega arith)

-- ---- how often a number is in a list

-- 1 where x is n
abbrev hits : ℕ → ℕ → ℕ
hits n x = cond (eqb x n) 1 0

abbrev count : ℕ → List ℕ → ℕ
count n xs = sum_by (hits n) xs

hits_itself : (n : ℕ) → hits n n ≡ 1
hits_itself n = go (eqb n n) (eqb_refl n)
  where
    go : (b : Bool) → T b → ◌≡◌ {A = ℕ} (cond b 1 0) 1
    go true t = refl
    go false t = absurd t

hits_above : (n x : ℕ) → x < n → hits n x ≡ 0
hits_above n x h = go (eqb x n) (λ t. eqb_yes t)
  where
    go : (b : Bool) → (T b → x ≡ n) → ◌≡◌ {A = ℕ} (cond b 1 0) 0
    go false e = refl
    go true e = absurd (let same = e tt in omega arith)

none_above : (n a : ℕ) (xs : List ℕ) → AllByRecursion (λ y. y ≤ a) xs → a < n → count n xs ≡ 0
none_above n a [] all h = refl
none_above n a (x ∷ xs) all h =
    let first = all.0 in
    let here = hits_above n x (omega arith) in
    let rest = none_above n a xs all.1 h in
    sum_by-cons (hits n) x xs ∙ omega arith

count_first : (n : ℕ) (xs : List ℕ) → 1 ≤ count n (n ∷ xs)
count_first n xs = let e = sum_by-cons (hits n) n xs in let one = hits_itself n in omega arith

falling_unique : (xs ys : List ℕ) → IsFalling xs → IsFalling ys → ((n : ℕ) → count n xs ≡ count n ys) → xs ≡ ys
falling_unique [] [] f g e = refl
falling_unique [] (y ∷ ys) f g e = absurd (let none = e y in let some = count_first y ys in omega arith)
falling_unique (x ∷ xs) [] f g e = absurd (let none = e x in let some = count_first x xs in omega arith)
falling_unique (x ∷ xs) (y ∷ ys) f g e =
    let same : x ≡ y = by_order in
    let rest = falling_unique xs ys f.1 g.1 (λ n. tails n same) in
    ap (λ (z : ℕ). z ∷ xs) same ∙ ap (λ (zs : List ℕ). y ∷ zs) rest
  where
    no_less : x < y → ⊥
    no_less h =
        let none = none_above y x (x ∷ xs) (omega arith, f.0) h in
        let some = count_first y ys in
        let both = e y in
        omega arith

    no_greater : y < x → ⊥
    no_greater h =
        let none = none_above x y (y ∷ ys) (omega arith, g.0) h in
        let some = count_first x xs in
        let both = e x in
        omega arith

    by_order : x ≡ y
    by_order = let a = no_less in let b = no_greater in omega arith

    tails : (n : ℕ) → x ≡ y → count n xs ≡ count n ys
    tails n same =
        let a = sum_by-cons (hits n) x xs in
        let b = sum_by-cons (hits n) y ys in
        let both = e n in
        let heads = ap (hits n) same in
        omega arith

-- the numbers of a list have one descending order
pub descending_unique : (ns xs ys : List ℕ) → IsDescending xs → IsDescending ys → IsPermutation ns xs → IsPermutation ns ys → xs ≡ ys
descending_unique ns xs ys s t p q =
    falling_unique xs ys (falling_of_descending xs s) (falling_of_descending ys t)
    (λ n. sum_by-IsPermutation (hits n) ns xs p ∙ sym (sum_by-IsPermutation (hits n) ns ys q))

-- ---- it exists

permuted : (y : ℕ) (xs ys : List ℕ) → IsPermutation xs ys → AllByRecursion (λ z. z ≤ y) xs → AllByRecursion (λ z. z ≤ y) ys
permuted y xs ys p a = recursion_from_All (λ z. z ≤ y) ys (All-permutation (λ z. z ≤ y) xs ys p (All-from_recursion (λ z. z ≤ y) xs a))

-- one number more
insert_exists : (x : ℕ) (ys : List ℕ) → IsFalling ys → (zs : List ℕ) × IsFalling zs × IsPermutation (x ∷ ys) zs
insert_exists x [] f = (x ∷ [], (tt, tt), IsPermutation-refl (x ∷ []))
insert_exists x (y ∷ ys) f = elim (cases_lt x y) [
  | inr below ↦ (x ∷ (y ∷ ys), ((below, at_most x y ys below f.0), f), IsPermutation-refl (x ∷ (y ∷ ys)))
  | inl above ↦ let more = insert_exists x ys f.1 in (
    y ∷ more.0,
    (permuted y (x ∷ ys) more.0 more.2 (omega arith, f.0), more.1),
    IsPermutation-trans (x ∷ (y ∷ ys)) (y ∷ (x ∷ ys)) (y ∷ more.0)
        (IsPermutation-sym (y ∷ (x ∷ ys)) (x ∷ (y ∷ ys)) (IsPermutation-middle (y ∷ []) x ys))
        (IsPermutation-cons y (x ∷ ys) more.0 more.2),
  )
]

-- the items of a list have a descending order
pub descending_exists : (ns : List ℕ) → (xs : List ℕ) × IsDescending xs × IsPermutation ns xs
descending_exists ns = let found = go ns in (found.0, descending_of_falling found.0 found.1, found.2)
  where
    go : (ns : List ℕ) → (xs : List ℕ) × IsFalling xs × IsPermutation ns xs
    go [] = ([], tt, IsPermutation-refl [])
    go (n ∷ ns) =
        let rest = go ns in
        let more = insert_exists n rest.0 rest.1 in
        (more.0, more.1, IsPermutation-trans (n ∷ ns) (n ∷ rest.0) more.0 (IsPermutation-cons n ns rest.0 rest.2) more.2)
