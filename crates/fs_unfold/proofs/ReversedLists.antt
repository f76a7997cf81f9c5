-- Reversed lists.
use Rattle.std.proofs.Common.{◌≡◌, List, [], ◌∷◌, ◌++◌, map, reverse, refl, sym, ap, ◌∙◌, subst, inl, inr}
use Rattle.std.proofs.lemmas.Grind.{reverse_onto}
use Rattle.std.proofs.lemmas.List.{map-append}
use Rattle.std.specs.List.{AllByRecursion}
use Rattle.fs_lists.specs.Members.{IsIn}
use Rattle.fs_lists.proofs.All.{All-append, All-prefix, All-suffix}

-- the reversed list has the first item last
pub reverse_cons : {X : Type 0} (x : X) (xs : List X) → reverse (x ∷ xs) ≡ reverse xs ++ x ∷ []
reverse_cons x xs = reverse_onto xs x []

-- what holds of each member holds of each item
pub All-of_members : {X : Type 0} (P : X → Type 0) (xs : List X) → ((x : X) → IsIn x xs → P x) → AllByRecursion P xs
All-of_members P [] h = tt
All-of_members P (x ∷ xs) h = (h x (inl refl), All-of_members P xs (λ y i. h y (inr i)))

-- what holds of each item of the reversed list holds of each item
pub All-of_reverse : {X : Type 0} (P : X → Type 0) (xs : List X) → AllByRecursion P (reverse xs) → AllByRecursion P xs
All-of_reverse P [] a = tt
All-of_reverse P (x ∷ xs) a =
    let b : AllByRecursion P (reverse xs ++ x ∷ []) = subst (AllByRecursion P) (reverse_cons x xs) a in
    ((All-suffix P (reverse xs) (x ∷ []) b).0, All-of_reverse P xs (All-prefix P (reverse xs) (x ∷ []) b))

-- and the other way
pub All-reverse : {X : Type 0} (P : X → Type 0) (xs : List X) → AllByRecursion P xs → AllByRecursion P (reverse xs)
All-reverse P [] a = tt
All-reverse P (x ∷ xs) a = subst (AllByRecursion P) (sym (reverse_cons x xs)) (All-append P (reverse xs) (x ∷ []) (All-reverse P xs a.1) (a.0, tt))

-- a map of a reversed list
pub map-reverse : {X Y : Type 0} (g : X → Y) (xs : List X) → map g (reverse xs) ≡ reverse (map g xs)
map-reverse g [] = refl
map-reverse g (x ∷ xs) =
    ap (map g) (reverse_cons x xs) ∙ map-append g (reverse xs) (x ∷ []) ∙ ap (λ ys. ys ++ g x ∷ []) (map-reverse g xs) ∙ sym (reverse_cons (g x) (map g xs))

-- maps by functions that agree
pub map_alike : {X Y : Type 0} (f g : X → Y) → ((x : X) → f x ≡ g x) → (xs : List X) → map f xs ≡ map g xs
map_alike f g h [] = refl
map_alike f g h (x ∷ xs) = λ i. h x i ∷ map_alike f g h xs i
