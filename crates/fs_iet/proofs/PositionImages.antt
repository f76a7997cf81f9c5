-- The image of a position, letter after letter.
use Rattle.std.proofs.Common.{◌≡◌, ◌≢◌, ℕ, zero, suc, ◌+◌, ◌==◌, if◌then◌else◌, Bool, true, false, Result, Ok, Err, Some, List, [], ◌∷◌, map, length, drop, sym, ap, ◌∙◌, refl, subst, arith}
use Rattle.std.proofs.lemmas.Option.{same_Some, slice_get_read}
use Rattle.std.proofs.lemmas.Bool.{eq-eqb, ne_eqb}
use Rattle.std.specs.List.{slice_get, range_with_len}
use Rattle.std.specs.Ordering.{is_lt, ordering_index}
use Rattle.std.specs.declared.cmp.Ordering.{Ordering}
use Rattle.std.specs.declared.cmp.Ordering.TheVariants.{Less, Equal, Greater}
use Rattle.fs_lists.proofs.Equal.{heads_equal, tails_equal}
use Rattle.fs_lists.proofs.Items.{IsItem, drop_item}
use Rattle.fs_ring.specs.OrderedRing.{IsAtMost}
use Rattle.fs_ring.proofs.Order.{sub_of_at_most, zero_at_most}
use Rattle.fs_ring.proofs.Solver.{identity, ◌⊕◌, ◌⊖◌, ◌≐◌}
use Rattle.fs_quadratic.specs.Checked.{◌>>=◌, checked_sum, checked_difference}
use Rattle.fs_quadratic.specs.Radicand.{IsRadicand}
use Rattle.fs_quadratic.specs.Ring as ring
use Rattle.fs_quadratic.specs.Ring.{Quadratic, quadratic, IsPositive, IsLess, add, sub, total, compare}
use Rattle.fs_quadratic.specs.declared.steps.Place.{Place}
use Rattle.fs_quadratic.proofs.StepChains.{step_value}
use Rattle.fs_quadratic.proofs.Laws.{quadratic_ring, field_order}
use Rattle.fs_quadratic.proofs.SquareRoot.{radicand_no_square}
use Rattle.fs_quadratic.proofs.Signs.{less_iff_less}
use Rattle.fs_gluing.specs.Exchanges.{Letter, Component, names_of, length_of}
use Rattle.fs_iet.specs.Images.{Offset, letter_at, bottom_position, image}

-- a comparison that the test finds not to be less
pub not_less : (r : Ordering) (test : Bool) → test ≡ (ordering_index r == 0) → test ≡ false → r ≢ Less
not_less r test e f is = let same : (ordering_index Less == 0) ≡ false = ap (λ o. ordering_index o == 0) (sym is) ∙ sym e ∙ f in cc

-- the lengths of letters
abbrev lengths : List Letter → List Quadratic
lengths letters = map (λ letter. letter.length) letters

module _ (d : ℕ) (letters : List Letter) (y : Quadratic) where
  -- none of the letters before letter n holds y, which is this far from the left end of letter n
  pub record LooksFrom (n : ℕ) (offset : Quadratic) : Type 0 where
    pub is : letter_at d 0 y letters ≡ letter_at d n offset (drop n letters)
    pub from_zero : IsAtMost (quadratic d) (IsPositive d) ring.zero offset
    pub below_total : IsLess d offset (total (lengths (drop n letters)))

  -- at a letter, by the test
  by_letter : (n : ℕ) (offset : Quadratic) (letter : Letter) (test : Bool) → IsItem letters n letter → is_lt (compare d offset letter.length) ≡ test → LooksFrom n offset
      → letter_at d 0 y letters ≡ (if test then Ok (record { name = letter.name; offset = offset }) else (checked_difference (1 + n) offset letter.length >>= (λ rest. letter_at d (n + 1) rest (drop (n + 1) letters))))
  by_letter n offset letter test item is h =
      h.is ∙ ap (letter_at d n offset) (drop_item letters n letter item)
      ∙ ap (λ t. if t then Ok (record { name = letter.name; offset = offset }) else (checked_difference (1 + n) offset letter.length >>= (λ rest. letter_at d (n + 1) rest (drop (n + 1) letters)))) is

  test_other : (r : Ordering) → r ≢ Less → is_lt r ≡ false
  test_other Less n = absurd (n refl)
  test_other Equal n = refl
  test_other Greater n = refl

  module _ (radicand : IsRadicand d) where
    -- at the next letter
    pub looks_next : (n : ℕ) (offset : Quadratic) (letter : Letter) (rest : Quadratic) → IsItem letters n letter → compare d offset letter.length ≢ Less
        → Ok rest ≡ checked_difference (1 + n) offset letter.length → LooksFrom n offset → LooksFrom (n + 1) rest
    looks_next n offset letter rest item is here h =
        let value : rest ≡ sub offset letter.length = step_value (1 + n) _ (sub offset letter.length) rest (sym here) in
        let order = field_order radicand in
        record {
          is = by_letter n offset letter false item (test_other (compare d offset letter.length) is) h ∙ ap (λ r. r >>= (λ rest. letter_at d (n + 1) rest (drop (n + 1) letters))) (sym here);
          from_zero = subst (IsAtMost (quadratic d) (IsPositive d) ring.zero) (sym value)
              (zero_at_most order (sub_of_at_most order letter.length offset (λ l. is ((less_iff_less (radicand_no_square radicand) _ offset letter.length refl).1 l))));
          below_total = subst (λ x. IsLess d x (total (lengths (drop (n + 1) letters)))) (sym value)
              (subst (IsPositive d)
              (identity (quadratic_ring d) (letter.length ∷ total (lengths (drop (n + 1) letters)) ∷ offset ∷ []) (λ l t x. (l ⊕ t) ⊖ x ≐ t ⊖ (x ⊖ l)) refl)
              (subst (λ rest. IsLess d offset (total (lengths rest))) (drop_item letters n letter item) h.below_total));
        }

-- ---- the bottom row

-- the length of a letter that is named by its place
length_of_place : (letters : List Letter) (first n : ℕ) (letter : Letter) → names_of letters ≡ range_with_len first (length letters) → slice_get letters n ≡ Some letter
    → length_of letters (first + n) ≡ letter.length
length_of_place [] first n letter named e = cc
length_of_place (own ∷ letters) first zero letter named e =
    let name : own.name ≡ first = heads_equal own.name first (names_of letters) (range_with_len (first + 1) (length letters)) named in
    let test : (own.name == first + 0) ≡ true = eq-eqb own.name (first + 0) (omega arith) in
    ap (λ t. if t then own.length else length_of letters (first + 0)) test ∙ ap (λ (l : Letter). l.length) (same_Some own letter e)
length_of_place (own ∷ letters) first (suc n) letter named e =
    let name : own.name ≡ first = heads_equal own.name first (names_of letters) (range_with_len (first + 1) (length letters)) named in
    let test : (own.name == first + suc n) ≡ false = ne_eqb own.name (first + suc n) (λ h. omega arith) in
    let next : first + suc n ≡ first + 1 + n = omega arith in
    ap (λ t. if t then own.length else length_of letters (first + suc n)) test
    ∙ ap (length_of letters) next
    ∙ length_of_place letters (first + 1) n letter (tails_equal own.name first (names_of letters) (range_with_len (first + 1) (length letters)) named) e

module _ (letters : List Letter) (bottom : List ℕ) (name : ℕ) (start : Quadratic) where
  -- the letters at the places before n are added to an offset
  pub record AddsUpTo (n : ℕ) (y : Quadratic) : Type 0 where
    pub is : bottom_position letters 0 name start bottom ≡ bottom_position letters n name y (drop n bottom)

  module _ (named : names_of letters ≡ range_with_len 0 (length letters)) (n : ℕ) (y : Quadratic) (other : ℕ) (letter : Letter) (item : IsItem bottom n other) (is : other ≢ name)
      (there : IsItem letters other letter) (h : AddsUpTo n y) where
    -- a letter of another name is added
    by_name : bottom_position letters 0 name start bottom ≡ (checked_sum (513 + n) y letter.length >>= (λ sum. bottom_position letters (n + 1) name sum (drop (n + 1) bottom)))
    by_name =
        let own : slice_get letters other ≡ Some letter = slice_get_read letters (length letters) other letter refl there.inside there.is in
        let number : other ≡ 0 + other = omega arith in
        let length : length_of letters other ≡ letter.length = ap (length_of letters) number ∙ length_of_place letters 0 other letter named own in
        h.is ∙ ap (bottom_position letters n name y) (drop_item bottom n other item)
        ∙ ap (λ t. if t then Ok y else (checked_sum (513 + n) y (length_of letters other) >>= (λ sum. bottom_position letters (n + 1) name sum (drop (n + 1) bottom)))) (ne_eqb other name is)
        ∙ ap (λ l. checked_sum (513 + n) y l >>= (λ sum. bottom_position letters (n + 1) name sum (drop (n + 1) bottom))) length

    -- with this sum
    pub adds_more : (sum : Quadratic) → Ok sum ≡ checked_sum (513 + n) y letter.length → AddsUpTo (n + 1) sum
    adds_more sum e = record { is = by_name ∙ ap (λ r. r >>= (λ sum. bottom_position letters (n + 1) name sum (drop (n + 1) bottom))) (sym e) }

    -- or this overflow
    pub adds_stop : (stop : Place) → Err stop ≡ checked_sum (513 + n) y letter.length → ◌≡◌ {A = Result Quadratic Place} (Err stop) (bottom_position letters 0 name start bottom)
    adds_stop stop e = sym (by_name ∙ ap (λ r. r >>= (λ sum. bottom_position letters (n + 1) name sum (drop (n + 1) bottom))) (sym e))

-- ---- both rows

module _ (d : ℕ) (y : Quadratic) (letters : List Letter) (bottom : List ℕ) (c : Component) (top_is : c.top ≡ letters) (bottom_is : c.bottom ≡ bottom) where
  image_is : image d c y ≡ (letter_at d 0 y letters >>= (λ at. bottom_position letters 0 at.name at.offset bottom))
  unfolding image
  image_is = λ i. letter_at d 0 y (top_is i) >>= (λ at. bottom_position (top_is i) 0 at.name at.offset (bottom_is i))

  -- the image of a position in a letter
  pub image_from : (at : Offset) (r : Result Quadratic Place) → Ok at ≡ letter_at d 0 y letters → r ≡ bottom_position letters 0 at.name at.offset bottom → r ≡ image d c y
  image_from at r e f = f ∙ ap (λ found. found >>= (λ at. bottom_position letters 0 at.name at.offset bottom)) e ∙ sym image_is

  -- where the letter isn't found, as a difference overflows
  pub image_stop : (stop : Place) → Err stop ≡ letter_at d 0 y letters → Err stop ≡ image d c y
  image_stop stop e = ap (λ found. found >>= (λ at. bottom_position letters 0 at.name at.offset bottom)) e ∙ sym image_is
