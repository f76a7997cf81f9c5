-- Lists that a loop makes item by item: one item more.
use Rattle.std.proofs.Common.{◌≡◌, ℕ, zero, suc, ◌+◌, ◌-◌, ◌<◌, Some, List, [], ◌∷◌, ◌++◌, length, take, reverse, set, get_or, sym, ap, ◌∙◌, arith, zero-add, add-one}
use Rattle.std.proofs.lemmas.List.{take_more, get_or-map, length-append, reverse-append, reverse-reverse, set_at, get_or_at}
use Rattle.std.proofs.lemmas.List.FromFn.{get_or-range_with_len}
use Rattle.std.proofs.lemmas.Option.{slice_get-get_or, slice_get_within, get_or_from_slice_get}
use Rattle.std.specs.List.{slice_get, range_with_len}
use Rattle.std.specs.Option.{IfSome}
use Rattle.fs_lists.proofs.Items.{value_holds}
use Rattle.fs_gluing.specs.Exchanges.{Letter, names_of}
use Rattle.fs_rauzy.specs.StatesInPlace.{no_letter}

-- the numbers from 0 on, with one more
pub range_more : (n : ℕ) → range_with_len 0 (n + 1) ≡ range_with_len 0 n ++ n ∷ []
range_more n = ap (range_with_len 0) (add-one n) ∙ go 0 n n (omega arith)
  where
    go : (i n last : ℕ) → last ≡ i + n → range_with_len i (suc n) ≡ range_with_len i n ++ last ∷ []
    go i zero last e = let same : i ≡ last = omega arith in ap (λ k. k ∷ []) same
    go i (suc n) last e = ap (λ xs. i ∷ xs) (go (i + 1) n last (omega arith))

-- the first items of a list, with the next one
pub take_next : {X : Type 0} (xs : List X) (n : ℕ) (x : X) → slice_get xs n ≡ Some x → take (n + 1) xs ≡ take n xs ++ x ∷ []
take_next xs n x e = take_more xs n x (slice_get_within xs n x e) ∙ ap (λ y. take n xs ++ y ∷ []) (get_or_from_slice_get xs n x x e)

-- a letter that is read part by part, with its number for its name, where the letters are named by their numbers
pub letter_read : (letters : List Letter) (n : ℕ) (read : Letter) → n < length letters → names_of letters ≡ range_with_len 0 (length letters) → read.name ≡ n
    → IfSome (slice_get letters n) (λ letter. read.length ≡ letter.length) → IfSome (slice_get letters n) (λ letter. read.back ≡ letter.back)
    → IfSome (slice_get letters n) (λ letter. read.corner ≡ letter.corner) → IfSome (slice_get letters n) (λ letter. read.start ≡ letter.start)
    → IfSome (slice_get letters n) (λ letter. read.end ≡ letter.end) → read ≡ get_or letters n no_letter
letter_read letters n read inside named name len back corner start end =
    let letter = get_or letters n no_letter in
    let item : slice_get letters n ≡ Some letter = slice_get-get_or letters n no_letter inside in
    let own : read.name ≡ letter.name = name ∙ sym (zero-add n) ∙ sym (get_or-range_with_len 0 (length letters) n 0 inside) ∙ ap (λ names. get_or names n 0) (sym named) ∙ get_or-map (λ (l : Letter). l.name) letters n no_letter 0 inside in
    λ i. record {
      name = own i;
      length = value_holds (slice_get letters n) (λ l. read.length ≡ l.length) letter item len i;
      back = value_holds (slice_get letters n) (λ l. read.back ≡ l.back) letter item back i;
      corner = value_holds (slice_get letters n) (λ l. read.corner ≡ l.corner) letter item corner i;
      start = value_holds (slice_get letters n) (λ l. read.start ≡ l.start) letter item start i;
      end = value_holds (slice_get letters n) (λ l. read.end ≡ l.end) letter item end i;
    }

-- a list that is seen from its end, with another last item
pub reverse-set_last : {X : Type 0} (xs : List X) (n : ℕ) (item last : X) (rest : List X) → n ≡ length xs - 1 → reverse xs ≡ last ∷ rest → reverse (set xs n item) ≡ item ∷ rest
reverse-set_last xs n item last rest long e =
    let whole : xs ≡ reverse rest ++ last ∷ [] = sym (reverse-reverse xs) ∙ ap reverse e ∙ reverse-append (last ∷ []) rest in
    let size : length xs ≡ length (reverse rest ++ last ∷ []) = ap length whole in
    let sum = length-append (reverse rest) (last ∷ []) in
    let before : length (reverse rest) ≡ n = omega arith in
    ap (λ ys. reverse (set ys n item)) whole ∙ ap reverse (set_at (reverse rest) last [] item n before) ∙ reverse-append (reverse rest) (item ∷ []) ∙ ap (λ ys. item ∷ ys) (reverse-reverse rest)

-- its last item
pub last_of_reverse : {X : Type 0} (xs : List X) (n : ℕ) (item last : X) (rest : List X) → n ≡ length xs - 1 → reverse xs ≡ last ∷ rest → item ≡ get_or xs n item → item ≡ last
last_of_reverse xs n item last rest long e is =
    let whole : xs ≡ reverse rest ++ last ∷ [] = sym (reverse-reverse xs) ∙ ap reverse e ∙ reverse-append (last ∷ []) rest in
    let size : length xs ≡ length (reverse rest ++ last ∷ []) = ap length whole in
    let sum = length-append (reverse rest) (last ∷ []) in
    let before : length (reverse rest) ≡ n = omega arith in
    is ∙ ap (λ ys. get_or ys n item) whole ∙ get_or_at (reverse rest) last [] item n before
