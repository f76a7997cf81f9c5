-- What holds of each item of a list.
use Rattle.std.proofs.Common.{◌≡◌, ℕ, zero, suc, ◌+◌, ◌<◌, List, [], ◌∷◌, ◌++◌, Some, map, refl, subst, arith}
use Rattle.std.proofs.lemmas.Option.{same_Some}
use Rattle.std.specs.List.{AllByRecursion, slice_get, range_with_len}

-- ---- joined and split lists

-- what holds of each item of both lists holds of each item of the two joined
pub All-append : {X : Type 0} (P : X → Type 0) (xs ys : List X) → AllByRecursion P xs → AllByRecursion P ys → AllByRecursion P (xs ++ ys)
All-append P [] ys a b = b
All-append P (x ∷ xs) ys a b = (a.0, All-append P xs ys a.1 b)

-- and the other way: of the first list
pub All-prefix : {X : Type 0} (P : X → Type 0) (xs ys : List X) → AllByRecursion P (xs ++ ys) → AllByRecursion P xs
All-prefix P [] ys a = tt
All-prefix P (x ∷ xs) ys a = (a.0, All-prefix P xs ys a.1)

-- and of the second
pub All-suffix : {X : Type 0} (P : X → Type 0) (xs ys : List X) → AllByRecursion P (xs ++ ys) → AllByRecursion P ys
All-suffix P [] ys a = a
All-suffix P (x ∷ xs) ys a = All-suffix P xs ys a.1

-- what holds of each item holds of the one between two parts
pub All-between : {X : Type 0} (P : X → Type 0) (xs before after : List X) (x : X) → xs ≡ before ++ x ∷ after → AllByRecursion P xs → P x
All-between P xs before after x e a = (All-suffix P before (x ∷ after) (subst (AllByRecursion P) e a)).0

-- ---- mapped lists, and weaker properties

-- what holds of each value of a map holds of each item of the mapped list
pub All-map : {X Y : Type 0} (f : X → Y) (P : Y → Type 0) (xs : List X) → AllByRecursion (λ x. P (f x)) xs → AllByRecursion P (map f xs)
All-map f P [] a = tt
All-map f P (x ∷ xs) a = (a.0, All-map f P xs a.1)

-- and the other way
pub All-of_map : {X Y : Type 0} (f : X → Y) (P : Y → Type 0) (xs : List X) → AllByRecursion P (map f xs) → AllByRecursion (λ x. P (f x)) xs
All-of_map f P [] a = tt
All-of_map f P (x ∷ xs) a = (a.0, All-of_map f P xs a.1)

-- a property of each item gives each property that follows from it
pub All-weaker : {X : Type 0} {P Q : X → Type 0} (xs : List X) → ((x : X) → P x → Q x) → AllByRecursion P xs → AllByRecursion Q xs
All-weaker [] w a = tt
All-weaker (x ∷ xs) w a = (w x a.0, All-weaker xs w a.1)

-- ---- by index

-- what holds of each item holds of the one at an index
pub All-slice_get : {X : Type 0} (P : X → Type 0) (xs : List X) (k : ℕ) (x : X) → AllByRecursion P xs → slice_get xs k ≡ Some x → P x
All-slice_get P [] k x a e = cc
All-slice_get P (y ∷ xs) zero x a e = subst P (same_Some y x e) a.0
All-slice_get P (y ∷ xs) (suc k) x a e = All-slice_get P xs k x a.1 e

-- what holds at each index holds of each item
pub All-of_each : {X : Type 0} (P : X → Type 0) (xs : List X) → ((j : ℕ) (x : X) → slice_get xs j ≡ Some x → P x) → AllByRecursion P xs
All-of_each P [] h = tt
All-of_each P (x ∷ xs) h = (h 0 x refl, All-of_each P xs (λ j. h (suc j)))

-- what holds of each number of a range holds of the k-th
pub All-range : (P : ℕ → Type 0) (i n k : ℕ) → AllByRecursion P (range_with_len i n) → k < n → P (i + k)
All-range P i zero k a l = absurd (omega arith)
All-range P i (suc n) zero a l = let same : i ≡ i + 0 = omega arith in subst P same a.0
All-range P i (suc n) (suc k) a l = let same : i + 1 + k ≡ i + suc k = omega arith in subst P same (All-range P (i + 1) n k a.1 (omega arith))
