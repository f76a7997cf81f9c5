-- Items of lists by their numbers.
use Rattle.std.proofs.Common.{◌≡◌, ◌⊎◌, ℕ, zero, suc, ◌<◌, Some, List, [], ◌∷◌, ◌++◌, length, refl, ap, inl, inr, arith}
use Rattle.std.proofs.lemmas.Option.{same_Some}
use Rattle.std.specs.List.{slice_get}

module _ {X : Type 0} where
  -- an item of a list with one more item is one of the list, or that one
  pub item_of_more : (xs : List X) (x y : X) (n : ℕ) → slice_get (xs ++ x ∷ []) n ≡ Some y → (slice_get xs n ≡ Some y) ⊎ ((n ≡ length xs) × (x ≡ y))
  item_of_more [] x y zero e = inr (refl, same_Some x y e)
  item_of_more [] x y (suc n) e = absurd (cc)
  item_of_more (z ∷ zs) x y zero e = inl e
  item_of_more (z ∷ zs) x y (suc n) e = elim (item_of_more zs x y n e) [ inl h ↦ inl h | inr h ↦ inr (ap (λ (k : ℕ). suc k) h.0, h.1) ]

  -- the items before an added one stay, and it is the last one
  pub slice_get-before : (xs : List X) (x : X) (k : ℕ) → k < length xs → slice_get (xs ++ x ∷ []) k ≡ slice_get xs k
  slice_get-before [] x k l = absurd (omega arith)
  slice_get-before (y ∷ ys) x zero l = refl
  slice_get-before (y ∷ ys) x (suc k) l = slice_get-before ys x k (omega arith)

  pub slice_get-last : (xs : List X) (x : X) → slice_get (xs ++ x ∷ []) (length xs) ≡ Some x
  slice_get-last [] x = refl
  slice_get-last (y ∷ ys) x = slice_get-last ys x
