-- Equal lists, and lists that are empty or not.
use Rattle.std.proofs.Common.{◌≡◌, ◌≢◌, ℕ, true, false, ◌<◌, List, [], ◌∷◌, ◌++◌, length, eqb, suc, refl, arith}
use Rattle.std.proofs.lemmas.Bool.Decides.{nat_tests}

-- equal lists have equal heads
pub heads_equal : {X : Type 0} (x y : X) (xs ys : List X) → x ∷ xs ≡ y ∷ ys → x ≡ y
heads_equal x y xs ys e = cc

-- equal lists have equal tails
pub tails_equal : {X : Type 0} (x y : X) (xs ys : List X) → x ∷ xs ≡ y ∷ ys → xs ≡ ys
tails_equal x y xs ys e = cc

-- lists with equal heads and equal tails are equal
pub cons_equal : {X : Type 0} (x y : X) (xs ys : List X) → x ≡ y → xs ≡ ys → x ∷ xs ≡ y ∷ ys
cons_equal x y xs ys e f = λ i. e i ∷ f i

-- a list with an item in its middle isn't empty
pub nil_not_around : {X : Type 0} (x : X) (xs ys : List X) → [] ≡ xs ++ x ∷ ys → ⊥
nil_not_around x [] ys e = cc
nil_not_around x (z ∷ xs) ys e = cc

-- a list that isn't empty has a length above 0
pub length-positive : {X : Type 0} (xs : List X) → xs ≢ [] → 0 < length xs
length-positive [] n = absurd (n refl)
length-positive (x ∷ xs) n = omega arith

not_zero : (n : ℕ) → eqb (suc n) 0 ≡ true → ⊥
not_zero n h = absurd (grind (arith, nat_tests))

-- the test of its length says whether a list is empty
pub not_nil_by_length : {X : Type 0} (xs : List X) → eqb (length xs) 0 ≡ false → xs ≢ []
not_nil_by_length [] h e = cc
not_nil_by_length (x ∷ xs) h e = cc

pub nil_by_length : {X : Type 0} (xs : List X) → eqb (length xs) 0 ≡ true → xs ≡ []
nil_by_length [] h = refl
nil_by_length (x ∷ xs) h = absurd (not_zero (length xs) h)
