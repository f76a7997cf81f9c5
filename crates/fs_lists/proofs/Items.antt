-- The item at an index of a list.
use Rattle.std.proofs.Common.{◌≡◌, false, is_some, ℕ, zero, suc, ◌+◌, ◌<◌, Option, Some, None, List, [], ◌∷◌, length, map, get_or, set, drop, refl, sym, ap, ◌∙◌, subst, arith}
use Rattle.std.proofs.lemmas.List.{get_or_default, drop_more}
use Rattle.std.proofs.lemmas.Option.{same_Some, slice_get_within, slice_get-map}
use Rattle.std.specs.List.{slice_get}
use Rattle.std.specs.Option.{IsSome, IfSome, option_and_then, option_map}

-- ---- by get_or, as a loop over a slice reads it

-- x is the item at the index i
pub record IsItem {X : Type 0} (xs : List X) (i : ℕ) (x : X) : Type 0 where
  pub inside : i < length xs
  pub is : x ≡ get_or xs i x

-- what is read of a list at an index inside is its item
pub item_of : {X : Type 0} (xs ys : List X) (i : ℕ) (d : X) → xs ≡ ys → i < length xs → IsItem ys i (get_or xs i d)
item_of xs ys i d e l =
    let inside : i < length ys = subst (λ zs. i < length zs) e l in
    record { inside = inside; is = ap (λ zs. get_or zs i d) e ∙ get_or_default ys i d (get_or xs i d) inside }

-- and what equals it
pub item_read : {X : Type 0} (xs ys : List X) (i : ℕ) (x y : X) → xs ≡ ys → i < length xs → x ≡ get_or xs i x → y ≡ x → IsItem ys i y
item_read xs ys i x y e l is same =
    let inside : i < length ys = subst (λ zs. i < length zs) e l in
    record { inside = inside; is = same ∙ is ∙ ap (λ zs. get_or zs i x) e ∙ get_or_default ys i x y inside }

-- the rest of a list from an index on is the item there and the rest after it
pub drop_item : {X : Type 0} (xs : List X) (i : ℕ) (x : X) → IsItem xs i x → drop i xs ≡ x ∷ drop (i + 1) xs
drop_item xs i x item = drop_more xs i x item.inside ∙ ap (λ p. p ∷ drop (i + 1) xs) (sym item.is)

-- ---- by slice_get, which gives an option

-- the value of an option that has one
pub record HasValue {X : Type 0} (o : Option X) : Type 0 where
  pub value : X
  pub is : o ≡ Some value

pub value_of : {X : Type 0} (o : Option X) → IsSome o → HasValue o
value_of None h = cc
value_of (Some x) h = record { value = x; is = refl }

-- an option that is known to have a value has what is said of it
pub value_holds : {X : Type 0} (o : Option X) (P : X → Type 0) (x : X) → o ≡ Some x → IfSome o P → P x
value_holds None P x e h = cc
value_holds (Some y) P x e h = subst P (same_Some y x e) h

-- an option without a value has none
pub none_not_some : {X : Type 0} (o : Option X) → o ≡ None → ¬ IsSome o
none_not_some None e h = cc
none_not_some (Some x) e h = cc

-- nor does one have a value that the test finds without one
pub not_some : {X : Type 0} (o : Option X) → is_some o ≡ false → ¬ IsSome o
not_some None e h = cc
not_some (Some x) e h = cc

-- there is an item exactly at the indices below the length
pub some_of_inside : {X : Type 0} (xs : List X) (j : ℕ) → j < length xs → IsSome (slice_get xs j)
some_of_inside [] j l = absurd (omega arith)
some_of_inside (x ∷ xs) zero l = refl
some_of_inside (x ∷ xs) (suc j) l = some_of_inside xs j (omega arith)

pub inside_of_some : {X : Type 0} (xs : List X) (j : ℕ) → IsSome (slice_get xs j) → j < length xs
inside_of_some xs j h = let v = value_of (slice_get xs j) h in slice_get_within xs j v.value v.is

-- the item at an index below the length
pub item_inside : {X : Type 0} (xs : List X) (j : ℕ) → j < length xs → HasValue (slice_get xs j)
item_inside xs j l = value_of (slice_get xs j) (some_of_inside xs j l)

-- ---- after a write

pub slice_get-set_same : {X : Type 0} (xs : List X) (i : ℕ) (v : X) → i < length xs → slice_get (set xs i v) i ≡ Some v
slice_get-set_same [] i v l = absurd (omega arith)
slice_get-set_same (x ∷ xs) zero v l = refl
slice_get-set_same (x ∷ xs) (suc i) v l = slice_get-set_same xs i v (omega arith)

pub slice_get-set_other : {X : Type 0} (xs : List X) (i k : ℕ) (v : X) → ¬ (k ≡ i) → slice_get (set xs i v) k ≡ slice_get xs k
slice_get-set_other [] i k v n = refl
slice_get-set_other (x ∷ xs) zero zero v n = absurd (n refl)
slice_get-set_other (x ∷ xs) zero (suc k) v n = refl
slice_get-set_other (x ∷ xs) (suc i) zero v n = refl
slice_get-set_other (x ∷ xs) (suc i) (suc k) v n = slice_get-set_other xs i k v (λ e. n (ap (λ m. suc m) e))

pub some_of_set : {X : Type 0} (xs : List X) (i k : ℕ) (v : X) → IsSome (slice_get xs k) → IsSome (slice_get (set xs i v) k)
some_of_set [] i k v h = h
some_of_set (x ∷ xs) zero zero v h = refl
some_of_set (x ∷ xs) zero (suc k) v h = h
some_of_set (x ∷ xs) (suc i) zero v h = refl
some_of_set (x ∷ xs) (suc i) (suc k) v h = some_of_set xs i k v h

-- ---- through a map

-- the value that a mapped option comes from
pub record ComesFrom {X Y : Type 0} (f : X → Y) (o : Option X) (y : Y) : Type 0 where
  pub from : X
  pub there : o ≡ Some from
  pub is : f from ≡ y

pub comes_from : {X Y : Type 0} (f : X → Y) (o : Option X) (y : Y) → option_map f o ≡ Some y → ComesFrom f o y
comes_from f None y e = cc
comes_from f (Some x) y e = record { from = x; there = refl; is = let h : Some (f x) ≡ Some y = e in cc }

-- an item of an inner list, whose lists are mapped
pub inner_item-map : {X Y : Type 0} (f : X → Y) (o : Option (List X)) (n : ℕ)
    → option_and_then (λ row. slice_get row n) (option_map (map f) o) ≡ option_map f (option_and_then (λ row. slice_get row n) o)
inner_item-map f None n = refl
inner_item-map f (Some row) n = slice_get-map f row n
