-- The place of a name in a row, and rows whose last name moves.
use Rattle.std.proofs.Common.{◌≡◌, ◌≢◌, ℕ, zero, suc, ◌+◌, ◌-◌, ◌<◌, ◌≤◌, List, [], ◌∷◌, ◌++◌, length, take, drop, set, get_or, sym, ap, ◌∙◌, subst, inl, inr, arith, append_assoc, append-nil}
use Rattle.std.proofs.lemmas.List.{take_more, take_all, take_at, drop_more, drop_all, drop_at, take-append-drop, length-append, length-take-le, same_from_push, set_at}
use Rattle.fs_lists.specs.Members.{IsIn}
use Rattle.fs_lists.proofs.Members.{in_append_cases}
use borrow.Rule.Slice.PartMut.{put_mid, mid_of}

-- ---- the place of a name

-- the name is at the place or before it, and not after it
pub record IsUpTo {X : Type 0} (x : X) (xs : List X) (place : ℕ) : Type 0 where
  pub inside : place < length xs
  pub before : IsIn x (take (place + 1) xs)
  pub not_after : ¬ IsIn x (drop (place + 1) xs)

-- the search begins at the last place
pub search_starts : {X : Type 0} (x : X) (xs : List X) (place : ℕ) → IsIn x xs → place ≡ length xs - 1 → IsUpTo x xs place
search_starts x xs place h e =
    let some = in_some x xs h in
    let all : place + 1 ≡ length xs = omega arith in
    record {
      inside = omega arith;
      before = subst (IsIn x) (sym (take_all (place + 1) xs (omega arith))) h;
      not_after = λ k. subst (IsIn x) (drop_all (place + 1) xs (omega arith)) k;
    }
  where
    in_some : {X : Type 0} (x : X) (xs : List X) → IsIn x xs → 0 < length xs
    in_some x [] h = absurd h
    in_some x (y ∷ ys) h = omega arith

-- a place with another name isn't the first one
pub search_goes_on : {X : Type 0} (x : X) (xs : List X) (place : ℕ) (d : X) → get_or xs place d ≢ x → IsUpTo x xs place → 0 < place
search_goes_on x xs zero d other s = absurd (go x xs d s.inside s.before other)
  where
    go : {X : Type 0} (x : X) (xs : List X) (d : X) → 0 < length xs → IsIn x (take (0 + 1) xs) → get_or xs 0 d ≢ x → ⊥
    go x [] d l h n = absurd (omega arith)
    go x (y ∷ ys) d l h n = elim h [ inl e ↦ n (sym e) | inr k ↦ k ]
search_goes_on x xs (suc place) d other s = omega arith

-- and the search goes on before it
pub search_more : {X : Type 0} (x : X) (xs : List X) (place next : ℕ) (d : X) → get_or xs place d ≢ x → next + 1 ≡ place → IsUpTo x xs place → IsUpTo x xs next
search_more x xs place next d other e s = go (take_more xs place d s.inside) (drop_more xs place d s.inside)
  where
    go : take (place + 1) xs ≡ take place xs ++ get_or xs place d ∷ [] → drop place xs ≡ get_or xs place d ∷ drop (place + 1) xs → IsUpTo x xs next
    go front rest =
        let inside = s.inside in
        record {
          inside = omega arith;
          before = subst (λ n. IsIn x (take n xs)) (sym e) (elim (in_append_cases x (take place xs) (get_or xs place d ∷ []) (subst (IsIn x) front s.before)) [
            | inl k ↦ k
            | inr k ↦ elim k [ inl same ↦ absurd (other (sym same)) | inr m ↦ absurd m ]
          ]);
          not_after = λ k. elim (subst (IsIn x) (ap (λ n. drop n xs) e ∙ rest) k) [ inl same ↦ other (sym same) | inr m ↦ s.not_after m ];
        }

-- where the name is found, the row is divided
pub search_ends : {X : Type 0} (x : X) (xs : List X) (place : ℕ) (d : X) → get_or xs place d ≡ x → IsUpTo x xs place
    → (left : List X) × (right : List X) × (xs ≡ left ++ x ∷ right) × (length left ≡ place) × ¬ IsIn x right
search_ends x xs place d same s = (
  take place xs,
  drop (place + 1) xs,
  sym (take-append-drop place xs) ∙ ap (λ rest. take place xs ++ rest) (drop_more xs place d s.inside ∙ ap (λ y. y ∷ drop (place + 1) xs) same),
  (let inside = s.inside in length-take-le place xs (omega arith)),
  s.not_after,
)

-- ---- the last name moves

-- a list turned round by one begins with its last item
turned : {X : Type 0} (xs : List X) (x : X) (m : List X) → m ≡ xs ++ x ∷ [] → drop (length m - 1) m ++ take (length m - 1) m ≡ x ∷ xs
turned xs x m e =
    let long : length m ≡ length (xs ++ x ∷ []) = ap length e in
    let sum = length-append xs (x ∷ []) in
    let n : length xs ≡ length m - 1 = omega arith in
    (λ i. drop (length m - 1) (e i) ++ take (length m - 1) (e i)) ∙ (λ i. drop_at xs (x ∷ []) (length m - 1) n i ++ take_at xs (x ∷ []) (length m - 1) n i)

-- the part of a row right of the winner is turned round
pub moved_behind : {X : Type 0} (left right : List X) (winner loser : X) (place k : ℕ) (row part : List X) → length left ≡ place → row ≡ left ++ winner ∷ (right ++ loser ∷ []) → length row ≤ place + 1 + k
    → part ≡ drop (length (mid_of (place + 1) k row) - 1) (mid_of (place + 1) k row) ++ take (length (mid_of (place + 1) k row) - 1) (mid_of (place + 1) k row)
    → put_mid (place + 1) k row part ≡ left ++ winner ∷ (loser ∷ right)
moved_behind left right winner loser place k row part before was room is =
    (λ i. front i ++ (part_is i ++ none i)) ∙ ap (λ ys. left ++ winner ∷ [] ++ ys) (append-nil (loser ∷ right)) ∙ append_assoc left (winner ∷ []) (loser ∷ right)
  where
    whole : row ≡ left ++ winner ∷ [] ++ (right ++ loser ∷ [])
    whole = was ∙ sym (append_assoc left (winner ∷ []) (right ++ loser ∷ []))

    as_long : length (left ++ winner ∷ []) ≡ place + 1
    as_long = let sum = length-append left (winner ∷ []) in omega arith

    front : take (place + 1) row ≡ left ++ winner ∷ []
    front = ap (take (place + 1)) whole ∙ take_at (left ++ winner ∷ []) (right ++ loser ∷ []) (place + 1) as_long

    rest : drop (place + 1) row ≡ right ++ loser ∷ []
    rest = ap (drop (place + 1)) whole ∙ drop_at (left ++ winner ∷ []) (right ++ loser ∷ []) (place + 1) as_long

    short : length (right ++ loser ∷ []) ≤ k
    short =
        let front_long = as_long in
        let sum = length-append (left ++ winner ∷ []) (right ++ loser ∷ []) in
        let long : length row ≡ length (left ++ winner ∷ [] ++ (right ++ loser ∷ [])) = ap length whole in
        omega arith

    mid : mid_of (place + 1) k row ≡ right ++ loser ∷ []
    mid = ap (take k) rest ∙ take_all k (right ++ loser ∷ []) short

    none : drop k (drop (place + 1) row) ≡ []
    none = ap (drop k) rest ∙ drop_all k (right ++ loser ∷ []) short

    part_is : part ≡ loser ∷ right
    part_is = is ∙ turned right loser (mid_of (place + 1) k row) mid

-- the last name takes the place of another
pub put_in_place : {X : Type 0} (left right : List X) (x y last : X) (place : ℕ) (row shorter : List X) → length left ≡ place → row ≡ left ++ x ∷ (right ++ y ∷ []) → row ≡ shorter ++ last ∷ []
    → set shorter place last ≡ left ++ y ∷ right
put_in_place left right x y last place row shorter before was popped =
    let both = same_from_push shorter (left ++ x ∷ right) last y (sym popped ∙ was ∙ sym (append_assoc left (x ∷ right) (y ∷ []))) in
    (λ i. set (both.0 i) place (both.1 i)) ∙ set_at left x right y place before
