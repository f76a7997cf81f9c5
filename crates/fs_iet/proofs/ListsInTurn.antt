-- Lists compared item by item, by numbers.
use Rattle.std.proofs.Common.{◌≡◌, ℕ, zero, suc, ◌+◌, Some, List, [], ◌∷◌, map, length, refl, sym, ap, ◌∙◌, inl, inr, arith, add-zero}
use Rattle.std.proofs.lemmas.Option.{slice_get_within, slice_get-map, same_Some}
use Rattle.std.proofs.lemmas.List.{length-map}
use Rattle.std.specs.List.{slice_get, range_with_len}
use Rattle.std.specs.Option.{option_map}
use Rattle.fs_lists.specs.Members.{IsIn, IsDistinct}
use Rattle.fs_lists.proofs.Members.{in_map}
use Rattle.fs_lists.proofs.Items.{item_inside}

-- an item by its number is in the list
pub in_by_number : {X : Type 0} (xs : List X) (n : ℕ) (x : X) → slice_get xs n ≡ Some x → IsIn x xs
in_by_number [] n x e = cc
in_by_number (y ∷ ys) zero x e = inl (sym (same_Some y x e))
in_by_number (y ∷ ys) (suc n) x e = inr (in_by_number ys n x e)

-- a member has a number
pub number_of_member : {X : Type 0} (xs : List X) (x : X) → IsIn x xs → (n : ℕ) × (slice_get xs n ≡ Some x)
number_of_member [] x h = absurd h
number_of_member (y ∷ ys) x (inl e) = (0, ap Some (sym e))
number_of_member (y ∷ ys) x (inr h) = let r = number_of_member ys x h in (suc r.0, r.1)

-- only one, where the items differ
pub number_unique : {X : Type 0} (xs : List X) → IsDistinct xs → (m n : ℕ) (x : X) → slice_get xs m ≡ Some x → slice_get xs n ≡ Some x → m ≡ n
number_unique [] p m n x e f = cc
number_unique (y ∷ ys) p zero zero x e f = refl
number_unique (y ∷ ys) p zero (suc n) x e f = absurd (p.0 x (in_by_number ys n x f) (same_Some y x e))
number_unique (y ∷ ys) p (suc m) zero x e f = absurd (p.0 x (in_by_number ys m x e) (same_Some y x f))
number_unique (y ∷ ys) p (suc m) (suc n) x e f = ap (λ (k : ℕ). suc k) (number_unique ys p.1 m n x e f)

-- where one list has an item another that is as long has one
pub item_of_other : {X Y : Type 0} (xs : List X) (ys : List Y) (n : ℕ) (x : X) → length xs ≡ length ys → slice_get xs n ≡ Some x → (y : Y) × (slice_get ys n ≡ Some y)
item_of_other xs ys n x same e =
    let l = slice_get_within xs n x e in
    let item = item_inside ys n (omega arith) in
    (item.value, item.is)

-- maps of two lists that give the same in turn are equal
pub maps_equal : {X Y Z : Type 0} (f : X → Z) (g : Y → Z) (xs : List X) (ys : List Y) → length xs ≡ length ys
    → ((n : ℕ) (x : X) (y : Y) → slice_get xs n ≡ Some x → slice_get ys n ≡ Some y → f x ≡ g y) → map f xs ≡ map g ys
maps_equal f g [] [] same in_turn = refl
maps_equal f g [] (y ∷ ys) same in_turn = absurd (omega arith)
maps_equal f g (x ∷ xs) [] same in_turn = absurd (omega arith)
maps_equal f g (x ∷ xs) (y ∷ ys) same in_turn =
    λ i. in_turn 0 x y refl refl i ∷ maps_equal f g xs ys (omega arith) (λ n x y e h. in_turn (suc n) x y e h) i

-- equal maps of two lists give the same in turn
pub equal_maps : {X Y Z : Type 0} (f : X → Z) (g : Y → Z) (xs : List X) (ys : List Y) → map f xs ≡ map g ys
    → (n : ℕ) (x : X) (y : Y) → slice_get xs n ≡ Some x → slice_get ys n ≡ Some y → f x ≡ g y
equal_maps f g xs ys same n x y e h =
    same_Some (f x) (g y)
    (sym (slice_get-map f xs n ∙ ap (option_map f) e) ∙ ap (λ zs. slice_get zs n) same ∙ slice_get-map g ys n ∙ ap (option_map g) h)

-- and the lists are as long
pub equal_maps_length : {X Y Z : Type 0} (f : X → Z) (g : Y → Z) (xs : List X) (ys : List Y) → map f xs ≡ map g ys → length xs ≡ length ys
equal_maps_length f g xs ys same = sym (length-map xs f) ∙ ap (λ zs. length zs) same ∙ length-map ys g

-- a list whose items differ when they are mapped differ
pub distinct_of_map : {X Y : Type 0} (g : X → Y) (xs : List X) → IsDistinct (map g xs) → IsDistinct xs
distinct_of_map g [] p = tt
distinct_of_map g (x ∷ xs) p = ((λ y h e. p.0 (g y) (in_map g y xs h) (ap g e)), distinct_of_map g xs p.1)

-- a map that gives each item its number gives a range
pub map_is_range : {X : Type 0} (f : X → ℕ) (xs : List X) (b : ℕ) → ((n m : ℕ) (x : X) → b + n ≡ m → slice_get xs n ≡ Some x → f x ≡ m) → map f xs ≡ range_with_len b (length xs)
map_is_range f [] b numbered = refl
map_is_range f (x ∷ xs) b numbered =
    λ i. numbered 0 b x (add-zero b) refl i ∷ map_is_range f xs (b + 1) (λ n m y e h. numbered (suc n) m y (omega arith) h) i
