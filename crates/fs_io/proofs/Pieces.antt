-- Lists of bytes that are moved piece by piece.
use Rattle.std.proofs.Common.{◌≡◌, ℕ, ◌+◌, ◌-◌, ◌<◌, ◌≤◌, List, [], ◌++◌, length, take, drop, min, sym, ap, ◌∙◌, arith, length-drop, length-take, take-append-drop}
use Rattle.std.proofs.Math.ListN.{drop_of_length-le}
use Rattle.std.proofs.Math.Seq.{take-append_seam, take-add}
use Rattle.std.proofs.lemmas.List.{take-take, length-take-le, drop-drop}

-- the slice from an index on, which code makes by its start and its length
pub drop_as_range : (xs : List ℕ) (at n : ℕ) → n + at ≤ length xs → take n (take (length xs - at) (drop at xs)) ≡ take n (drop at xs)
drop_as_range xs at n h = take-take n (length xs - at) (drop at xs) (omega arith)

-- a prefix of a list and a prefix of the rest are a longer prefix
pub take_and_piece : (xs : List ℕ) (at n : ℕ) → n + at ≤ length xs → take at xs ++ take n (take (length xs - at) (drop at xs)) ≡ take (at + n) xs
take_and_piece xs at n h = ap (λ ys. take at xs ++ ys) (drop_as_range xs at n h) ∙ sym (take-add at n xs)

-- a buffer whose prefix was copied from an index of a list on, and the list from the end of the copy on
pub copied_prefix : (xs piece after : List ℕ) (at n : ℕ) → n + at ≤ length xs → piece ≡ take n (take (length xs - at) (drop at xs)) → drop at xs ≡ take n (piece ++ after) ++ drop (at + n) xs
copied_prefix xs piece after at n h e =
    let is_front : piece ≡ take n (drop at xs) = e ∙ drop_as_range xs at n h in
    let fits : n ≤ length (drop at xs) = omega (arith, length-drop at xs) in
    let len : length piece ≡ n = ap length is_front ∙ length-take-le n (drop at xs) fits in
    let seam : take n (piece ++ after) ≡ piece = ap (λ k. take k (piece ++ after)) (sym len) ∙ take-append_seam piece after in
    sym (take-append-drop n (drop at xs)) ∙ (ap (λ ys. ys ++ drop n (drop at xs)) (sym is_front ∙ sym seam) ∙ ap (λ ys. take n (piece ++ after) ++ ys) (drop-drop n at xs))

-- nothing is left where the least of three bounds is 0 and two of them aren't
pub none_left : (xs : List ℕ) (at n room piece : ℕ) → n ≡ min (min room piece) (length (take (length xs - at) (drop at xs))) → 0 < piece → 0 < room → n ≡ 0 → drop (at + n) xs ≡ []
none_left xs at n room piece e some has_room none =
    drop_of_length-le xs (omega (arith, length-take (length xs - at) (drop at xs), length-drop at xs))
