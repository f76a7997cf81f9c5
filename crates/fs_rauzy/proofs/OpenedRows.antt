-- The rows of open components in place: the names of the current component's letters, its beginnings, and what is left where it closes.
use Rattle.std.proofs.Common.{◌≡◌, ◌↔◌, ℕ, zero, suc, ◌+◌, ◌-◌, ◌<◌, ◌≤◌, List, [], ◌∷◌, ◌++◌, length, take, drop, get_or, refl, sym, ap, ◌∙◌, subst, arith, zero-add, add-zero, length-append, length-drop}
use Rattle.std.proofs.lemmas.List.{length-map, length-take-le, take-append-drop, take-map}
use Rattle.std.proofs.lemmas.List.FromFn.{length-range_with_len, fill_by_all}
use Rattle.std.specs.List.{AllByRecursion, range_with_len}
use Rattle.fs_lists.specs.Members.{IsIn, IsDistinct}
use Rattle.fs_lists.proofs.All.{All-prefix, All-suffix}
use Rattle.fs_lists.proofs.Equal.{heads_equal, tails_equal, cons_equal, nil_not_around}
use Rattle.fs_lists.proofs.Members.{in_append_left, All-member}
use Rattle.fs_lists.proofs.Ranges.{in_range}
use Rattle.fs_lists.proofs.Removal.{at_most_partners}
use Rattle.fs_gluing.specs.Exchanges.{Letter, Component, names_of}
use Rattle.fs_iet.specs.ExchangeValue.{most_letters}
use Rattle.fs_rauzy.specs.declared.rows.Extent.{Extent}
use Rattle.fs_rauzy.specs.Events.{HasSplit}
use Rattle.fs_rauzy.specs.SplitsInPlace.{HaveSamePrefix}
use Rattle.fs_rauzy.specs.States.{IsState, AreDescending, open_names}
use Rattle.fs_rauzy.specs.StatesInPlace.{no_letter, letters_at, component_at, opened, AreLaid, IsInPlace}

-- ---- parts of lists

-- what holds of all items holds of the first ones, and of the others
pub all_take : {X : Type 0} (P : X → Type 0) (n : ℕ) (xs : List X) → AllByRecursion P xs → AllByRecursion P (take n xs)
all_take P n xs a = All-prefix P (take n xs) (drop n xs) (subst (AllByRecursion P) (sym (take-append-drop n xs)) a)

pub all_drop : {X : Type 0} (P : X → Type 0) (n : ℕ) (xs : List X) → AllByRecursion P xs → AllByRecursion P (drop n xs)
all_drop P n xs a = All-suffix P (take n xs) (drop n xs) (subst (AllByRecursion P) (sym (take-append-drop n xs)) a)

-- where no item of a joined list is in it twice, none is in a part twice
pub distinct_prefix : {X : Type 0} (xs ys : List X) → IsDistinct (xs ++ ys) → IsDistinct xs
distinct_prefix [] ys p = tt
distinct_prefix (x ∷ xs) ys p = (λ y m. p.0 y (in_append_left y xs ys m), distinct_prefix xs ys p.1)

pub distinct_suffix : {X : Type 0} (xs ys : List X) → IsDistinct (xs ++ ys) → IsDistinct ys
distinct_suffix [] ys p = p
distinct_suffix (x ∷ xs) ys p = distinct_suffix xs ys p.1

pub distinct_take : {X : Type 0} (n : ℕ) (xs : List X) → IsDistinct xs → IsDistinct (take n xs)
distinct_take n xs p = distinct_prefix (take n xs) (drop n xs) (subst IsDistinct (sym (take-append-drop n xs)) p)

pub distinct_drop : {X : Type 0} (n : ℕ) (xs : List X) → IsDistinct xs → IsDistinct (drop n xs)
distinct_drop n xs p = distinct_suffix (take n xs) (drop n xs) (subst IsDistinct (sym (take-append-drop n xs)) p)

-- of different names below n there are at most n
pub names_few : (names : List ℕ) (n : ℕ) → AllByRecursion (λ name. name < n) names → IsDistinct names → length names ≤ n
names_few names n a p =
    let partner : (x : ℕ) → IsIn x names → (y : ℕ) × IsIn y (range_with_len 0 n) × (x ≡ y) = λ x m. (x, in_range 0 n x (omega arith) (omega (arith, All-member (λ name. name < n) names x a m)), refl) in
    let join : (x w y : ℕ) → IsIn x names → IsIn w names → x ≡ y → w ≡ y → x ≡ w = λ x w y h k e f. e ∙ sym f in
    omega (arith, at_most_partners (λ x y. x ≡ y) (λ x y. x ≡ y) names (range_with_len 0 n) partner join p, length-range_with_len 0 n)

-- ---- letters by their names

-- of letters that are named from b on, letter n has the name b + n
item_named : (letters : List Letter) (b : ℕ) → names_of letters ≡ range_with_len b (length letters) → (n : ℕ) → n < length letters → (get_or letters n no_letter).name ≡ b + n
item_named [] b e n l = absurd (omega arith)
item_named (x ∷ letters) b e zero l = heads_equal _ _ _ _ e ∙ sym (add-zero b)
item_named (x ∷ letters) b e (suc n) l = item_named letters (b + 1) (tails_equal _ _ _ _ e) n (omega arith) ∙ omega arith

-- a letter at its name has this name
pub name_at : (letters : List Letter) → names_of letters ≡ range_with_len 0 (length letters) → (n : ℕ) → n < length letters → (get_or letters n no_letter).name ≡ n
name_at letters e n l = item_named letters 0 e n l ∙ zero-add n

-- the letters of names have these names
pub names_at : (letters : List Letter) (names : List ℕ) → names_of letters ≡ range_with_len 0 (length letters) → AllByRecursion (λ name. name < length letters) names
    → names_of (letters_at letters names) ≡ names
names_at letters [] e a = refl
names_at letters (n ∷ names) e a = cons_equal _ _ _ _ (name_at letters e n a.0) (names_at letters names e a.1)

-- the letters of all numbers in order are all letters
pub letters_all : (letters : List Letter) → letters_at letters (range_with_len 0 (length letters)) ≡ letters
letters_all letters = sym (fill_by_all (λ name. get_or letters name no_letter) letters (length letters) no_letter refl (λ k l. refl))

-- ---- extents

-- there are at most as many extents as names in a row
pub extents_few : (n : ℕ) (extents : List Extent) → AreLaid n extents → length extents ≤ n
extents_few n [] a = omega arith
extents_few n (e ∷ extents) a = let rest = extents_few e.first extents a.1 in let below = a.0 in omega arith

-- no component is open exactly where there is no extent
pub none_opened : (letters : List Letter) (top bottom : List ℕ) (extents : List Extent) → extents ≡ [] ↔ opened letters top bottom extents ≡ []
none_opened letters top bottom [] = (λ h. refl, λ h. refl)
none_opened letters top bottom (e ∷ extents) = (λ h. absurd (nil_not_around e [] extents (sym h)), λ h. absurd (nil_not_around (component_at letters top bottom e) [] _ (sym h)))

-- ---- the current component

module _ {letters : List Letter} {top bottom : List ℕ} {e : Extent} {extents : List Extent} (p : IsInPlace letters top bottom (e ∷ extents)) where
  -- the names of its top row are those of letters
  pub now_within : AllByRecursion (λ name. name < length letters) (drop e.first top)
  now_within = all_drop (λ name. name < length letters) e.first top p.top_within

  -- its letters have these names
  pub now_named : names_of (letters_at letters (drop e.first top)) ≡ drop e.first top
  now_named = names_at letters (drop e.first top) p.named now_within

  -- it has so many letters
  pub now_length : length (letters_at letters (drop e.first top)) ≡ length (drop e.first top)
  now_length = length-map (drop e.first top) (λ name. get_or letters name no_letter)

  -- no two of them have one name
  pub now_apart : IsDistinct (drop e.first top)
  now_apart = distinct_drop e.first top p.apart

  -- its rows are equally long
  pub now_as_long : length (drop e.first bottom) ≡ length (drop e.first top)
  now_as_long = length-drop e.first bottom ∙ ap (λ n. n - e.first) p.as_long ∙ sym (length-drop e.first top)

  -- the names of its first letters
  pub first_names : (k : ℕ) → names_of (take k (letters_at letters (drop e.first top))) ≡ take k (drop e.first top)
  first_names k =
      ap names_of (take-map (λ name. get_or letters name no_letter) k (drop e.first top))
      ∙ names_at letters (take k (drop e.first top)) p.named (all_take (λ name. name < length letters) k (drop e.first top) now_within)

  -- it can be split where its rows begin with the same names
  pub split_of_rows : (k : ℕ) → 0 < k → k < length (drop e.first top) → HaveSamePrefix (drop e.first top) (drop e.first bottom) k → HasSplit (component_at letters top bottom e) k
  split_of_rows k some others equal = record {
    some = some;
    others = subst (λ n. k < n) (sym now_length) others;
    equal = λ name. subst (λ names. IsIn name names ↔ IsIn name (take k (drop e.first bottom))) (sym (first_names k)) (equal name);
  }

  -- and nowhere else
  pub rows_of_split : (k : ℕ) → HasSplit (component_at letters top bottom e) k → k < length (drop e.first top) × HaveSamePrefix (drop e.first top) (drop e.first bottom) k
  rows_of_split k h = (
    subst (λ n. k < n) now_length h.others,
    λ name. subst (λ names. IsIn name names ↔ IsIn name (take k (drop e.first bottom))) (first_names k) (h.equal name),
  )

  -- where it closes, the rows of the others are in place
  pub closed_in_place : IsInPlace letters (take e.first top) (take e.first bottom) extents
  closed_in_place =
      let begins = p.laid.0 in
      let long = p.as_long in
      let top_long : length (take e.first top) ≡ e.first = length-take-le e.first top (omega arith) in
      record {
        named = p.named;
        few = p.few;
        top_within = all_take (λ name. name < length letters) e.first top p.top_within;
        bottom_within = all_take (λ name. name < length letters) e.first bottom p.bottom_within;
        as_long = length-take-le e.first bottom (omega arith) ∙ sym top_long;
        apart = distinct_take e.first top p.apart;
        laid = subst (λ n. AreLaid n extents) (sym top_long) p.laid.1;
      }

-- ---- the laws of a state

descending_rest : (d : ℕ) (c : Component) (rest : List Component) → AreDescending d (c ∷ rest) → AreDescending d rest
descending_rest d c [] h = tt
descending_rest d c (e ∷ rest) h = h.1

module _ {d : ℕ} {c : Component} {rest : List Component} (h : IsState (record { d = d; components = c ∷ rest })) where
  -- where the current component closes, the laws hold of the others
  pub rest_state : IsState (record { d = d; components = rest })
  rest_state = record {
    lawful = h.lawful.1;
    apart = distinct_suffix (names_of c.top) (open_names rest) h.apart;
    few = let long = length-append (names_of c.top) (open_names rest) in let all = h.few in omega arith;
    in_order = descending_rest d c rest h.in_order;
  }

  -- the current component has few letters
  pub now_few : length c.top ≤ most_letters
  now_few =
      let long = length-append (names_of c.top) (open_names rest) in
      let all = h.few in
      let names = length-map c.top (λ letter. letter.name) in
      omega arith
