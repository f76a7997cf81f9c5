-- Each list has a sorted permutation, by insertion.
use Rattle.std.proofs.Common.{◌≡◌, ℕ, zero, suc, ◌+◌, Bool, true, false, List, [], ◌∷◌, get_or, refl, subst, arith}
use Rattle.std.specs.Prelude.{IsSorted, IsPermutation}
use Rattle.std.specs.Ordering.{is_lt}
use Rattle.std.specs.Cmp.{IsTotalOrder}
use Rattle.std.specs.declared.cmp.Ordering.{Ordering}
use Rattle.std.proofs.lemmas.List.Sorted.{ranks_by, IsPermutation-refl, IsPermutation-cons, IsPermutation-trans, IsPermutation-swap}

module _ {X : Type 0} {R : X → X → Ordering} (order : IsTotalOrder R) where
  -- x may come before the list
  abbrev MayBegin : X → List X → Type 0
  MayBegin x [] = Unit {0}
  MayBegin x (y ∷ ys) = is_lt (R y x) ≡ false

  sorted_cons : (x : X) (xs : List X) → MayBegin x xs → IsSorted R xs → IsSorted R (x ∷ xs)
  sorted_cons x [] m s k d low high = absurd (omega arith)
  sorted_cons x (y ∷ ys) m s zero d low high = m
  sorted_cons x (y ∷ ys) m s (suc k) d low high =
      subst (λ (n : ℕ). is_lt (R (get_or (x ∷ y ∷ ys) n d) (get_or (y ∷ ys) k d)) ≡ false) {x = suc (k + 1)} {y = suc k + 1} (omega arith) (s k d (omega arith) (omega arith))

  sorted_rest : (x : X) (xs : List X) → IsSorted R (x ∷ xs) → IsSorted R xs
  sorted_rest x xs s k d low high =
      subst (λ (n : ℕ). is_lt (R (get_or (x ∷ xs) n d) (get_or xs k d)) ≡ false) {x = suc k + 1} {y = suc (k + 1)} (omega arith) (s (suc k) d (omega arith) (omega arith))

  begins : (x : X) (xs : List X) → IsSorted R (x ∷ xs) → MayBegin x xs
  begins x [] s = tt
  begins x (y ∷ ys) s = s 0 x (omega arith) (omega arith)

  -- the sorted list with one item more; what may come before that item and the list may come before it
  record IsInserted (x : X) (xs ys : List X) : Type 0 where
    pub all : IsPermutation (x ∷ xs) ys
    pub ascending : IsSorted R ys
    pub first : (z : X) → is_lt (R x z) ≡ false → MayBegin z xs → MayBegin z ys

  swapped : (x y : X) (ys : List X) → IsPermutation (x ∷ y ∷ ys) (y ∷ x ∷ ys)
  swapped x y ys = IsPermutation-swap (x ∷ y ∷ ys) (y ∷ x ∷ ys) 0 1 (omega arith) (omega arith) refl

  insert_at : (x y : X) (ys : List X) → IsSorted R (y ∷ ys) → (zs : List X) × IsInserted x ys zs → (zs : List X) × IsInserted x (y ∷ ys) zs
  insert_at x y ys s rest = by (is_lt (R y x)) refl
    where
      by : (b : Bool) → is_lt (R y x) ≡ b → (zs : List X) × IsInserted x (y ∷ ys) zs
      by false e = (x ∷ y ∷ ys, record { all = IsPermutation-refl (x ∷ y ∷ ys); ascending = sorted_cons x (y ∷ ys) e s; first = λ z n m. n })
      by true e = (
        y ∷ rest.0,
        record {
          all = IsPermutation-trans (x ∷ y ∷ ys) (y ∷ x ∷ ys) (y ∷ rest.0) (swapped x y ys) (IsPermutation-cons y (x ∷ ys) rest.0 rest.1.all);
          ascending = sorted_cons y rest.0 (rest.1.first y ((ranks_by order (λ z. z)).one_way y x e) (begins y ys s)) rest.1.ascending;
          first = λ z n m. m;
        },
      )

  insert_one : (x : X) (xs : List X) → IsSorted R xs → (ys : List X) × IsInserted x xs ys
  insert_one x [] s = (x ∷ [], record { all = IsPermutation-refl (x ∷ []); ascending = sorted_cons x [] tt s; first = λ z n m. n })
  insert_one x (y ∷ ys) s = insert_at x y ys s (insert_one x ys (sorted_rest y ys s))

  -- each list has a sorted permutation
  pub sorted_exists : (xs : List X) → (ys : List X) × IsPermutation xs ys × IsSorted R ys
  sorted_exists [] = ([], IsPermutation-refl [], λ k d low high. absurd (omega arith))
  sorted_exists (x ∷ xs) =
      let rest = sorted_exists xs in
      let more = insert_one x rest.0 rest.2 in
      (more.0, IsPermutation-trans (x ∷ xs) (x ∷ rest.0) more.0 (IsPermutation-cons x xs rest.0 rest.1) more.1.all, more.1.ascending)
