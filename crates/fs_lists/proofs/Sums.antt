-- The lengths of lists, summed.
use Rattle.std.proofs.Common.{◌≡◌, ℕ, ◌+◌, ◌<◌, ◌≤◌, List, [], ◌∷◌, ◌++◌, IfSome, length, map, take, drop, get_or, sum_by, refl, sym, ap, ◌∙◌, arith, zero-add, take-append-drop}
use Rattle.std.specs.List.{AllByRecursion, slice_get}
use Rattle.std.proofs.lemmas.List.{take_more, length-map}
use Rattle.std.proofs.lemmas.List.Sums.{sum_by-append, sum_by-cons}
use Rattle.std.proofs.lemmas.Option.{slice_get-get_or}

-- one list more at the end
pub lengths-append_one : {X : Type 0} (xss : List (List X)) (xs : List X) → sum_by length (xss ++ xs ∷ []) ≡ sum_by length xss + length xs
lengths-append_one xss xs = sum_by-append length xss (xs ∷ []) ∙ ap (λ (m : ℕ). sum_by length xss + m) (zero-add (length xs))

-- a prefix of one list more
pub lengths-take_more : {X : Type 0} (xss : List (List X)) (i n : ℕ) → i < length xss → IfSome (slice_get xss i) (λ xs. n ≡ length xs) → sum_by length (take (i + 1) xss) ≡ sum_by length (take i xss) + n
lengths-take_more {X} xss i n h e =
    let there = slice_get-get_or xss i [] h in
    let same : n ≡ length (get_or xss i []) = rw there at e in
    ap (sum_by length) (take_more xss i [] h) ∙ (lengths-append_one (take i xss) (get_or xss i []) ∙ ap (λ (m : ℕ). sum_by length (take i xss) + m) (sym same))

-- a prefix has no more than the whole list
pub lengths-take : {X : Type 0} (xss : List (List X)) (i : ℕ) → sum_by length (take i xss) ≤ sum_by length xss
lengths-take xss i =
    let parts = ap (sum_by length) (take-append-drop i xss) in
    omega (arith, sum_by-append length (take i xss) (drop i xss))

-- a map of all items changes no length
pub lengths-map : {X Y : Type 0} (f : X → Y) (xss : List (List X)) → sum_by length (map (map f) xss) ≡ sum_by length xss
lengths-map f [] = refl
lengths-map f (xs ∷ xss) =
    sum_by-cons length (map f xs) (map (map f) xss)
    ∙ ap (λ n. n + sum_by length (map (map f) xss)) (length-map xs f)
    ∙ ap (λ n. length xs + n) (lengths-map f xss)
    ∙ sym (sum_by-cons length xs xss)

-- no list is longer than all together
pub each_length : {X : Type 0} (xss : List (List X)) (most : ℕ) → sum_by length xss ≤ most → AllByRecursion (λ xs. length xs ≤ most) xss
each_length [] most few = tt
each_length (xs ∷ xss) most few =
    let sum = sum_by-cons length xs xss in
    (omega arith, each_length xss most (omega arith))
