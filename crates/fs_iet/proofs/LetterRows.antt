-- The rows of a lawful component: the intervals of its letters, which are laid one after another in both rows.
use Rattle.std.proofs.Common.{◌≡◌, ◌≢◌, ℕ, ◌==◌, if◌then◌else◌, List, [], ◌∷◌, map, refl, sym, ap, ◌∙◌, subst, inl, inr}
use Rattle.std.proofs.lemmas.Bool.Decides.{eqb_tells}
use Rattle.std.proofs.lemmas.List.Sorted.{IsPermutation-sym}
use Rattle.fs_lists.specs.Members.{IsIn, IsDistinct}
use Rattle.fs_lists.proofs.Members.{All-member, in_map, in_map_cases}
use Rattle.fs_ring.specs.OrderedRing.{IsOrderedRing}
use Rattle.fs_quadratic.specs.Ring.{Quadratic, quadratic, IsPositive, add, total, zero as nil}
use Rattle.fs_convex.proofs.Rows.{Tiles}
use Rattle.fs_gluing.specs.Exchanges.{Letter, Component, IsLawful, names_of, length_of, length_before, top_left, bottom_left}
use Rattle.fs_iet.proofs.Intervals.{tiles_agree, tiles_of_map}
use Rattle.fs_iet.proofs.Rearrangements.{in_permutation, total_of_members, distinct_permutation}

-- ---- the choice by a name

choose_same : {X : Type 0} (a b : ℕ) (x y : X) → a ≡ b → (if a == b then x else y) ≡ x
choose_same a b x y e = elim (eqb_tells a b) [ inl h ↦ ap (λ t. if t then x else y) h.0 | inr h ↦ absurd (h.1 e) ]

choose_other : {X : Type 0} (a b : ℕ) (x y : X) → a ≢ b → (if a == b then x else y) ≡ y
choose_other a b x y n = elim (eqb_tells a b) [ inl h ↦ absurd (n h.1) | inr h ↦ ap (λ t. if t then x else y) h.0 ]

-- ---- lengths by names

-- the length of a letter is found by its name
pub length_of_letter : (letters : List Letter) (letter : Letter) → IsDistinct (names_of letters) → IsIn letter letters → length_of letters letter.name ≡ letter.length
length_of_letter [] letter p h = absurd h
length_of_letter (other ∷ letters) letter p (inl e) =
    choose_same other.name letter.name other.length (length_of letters letter.name) (ap (λ (l : Letter). l.name) (sym e)) ∙ ap (λ (l : Letter). l.length) (sym e)
length_of_letter (other ∷ letters) letter p (inr h) =
    choose_other other.name letter.name other.length (length_of letters letter.name) (p.0 letter.name (in_map (λ (l : Letter). l.name) letter letters h))
    ∙ length_of_letter letters letter p.1 h

-- the sum of the lengths by names is that of the letters
pub total_of_names : (letters : List Letter) → IsDistinct (names_of letters) → total (map (length_of letters) (names_of letters)) ≡ total (map (λ letter. letter.length) letters)
total_of_names letters p = go letters (λ letter h. length_of_letter letters letter p h)
  where
    go : (others : List Letter) → ((letter : Letter) → IsIn letter others → length_of letters letter.name ≡ letter.length)
        → total (map (length_of letters) (names_of others)) ≡ total (map (λ letter. letter.length) others)
    go [] same = refl
    go (letter ∷ others) same = λ i. add (same letter (inl refl) i) (go others (λ l h. same l (inr h)) i)

module _ {d : ℕ} (L : IsOrderedRing (quadratic d) (IsPositive d)) where
  -- ---- rows of names

  -- the intervals of different names, in the order of a row, are laid one after another
  pub row_tiles : (letters : List Letter) (base : Quadratic) (row : List ℕ) → IsDistinct row
      → Tiles (quadratic d) (λ name. add base (length_before letters name row)) (length_of letters) base row (add base (total (map (length_of letters) row)))
  row_tiles letters base [] p = L.add_zero base
  row_tiles letters base (name ∷ row) p =
      let len = length_of letters name in
      let rest = row_tiles letters (add base len) row p.1 in (
        ap (add base) (choose_same name name nil (add len (length_before letters name row)) refl) ∙ L.add_zero base,
        subst (Tiles (quadratic d) (λ other. add base (length_before letters other (name ∷ row))) (length_of letters) (add base len) row)
            (L.add_assoc base len (total (map (length_of letters) row)))
            (tiles_agree (quadratic d) (λ other. add (add base len) (length_before letters other row)) (length_of letters)
            (λ other. add base (length_before letters other (name ∷ row))) (length_of letters)
            (add base len) (add (add base len) (total (map (length_of letters) row))) row
            (λ other h. (
              ap (add base) (choose_other name other nil (add len (length_before letters other row)) (p.0 other h)) ∙ sym (L.add_assoc base len (length_before letters other row)),
              refl,
            )) rest),
      )

  module _ {c : Component} (lawful : IsLawful d c) where
    -- ---- the rows of a component

    -- a letter's length is above 0
    pub letter_long : (letter : Letter) → IsIn letter c.top → IsPositive d letter.length
    letter_long letter h = All-member (λ (l : Letter). IsPositive d l.length) c.top letter lawful.lengths h

    -- the length of a name in the top row is above 0
    pub name_long : (name : ℕ) → IsIn name (names_of c.top) → IsPositive d (length_of c.top name)
    name_long name h =
        let from = in_map_cases (λ (l : Letter). l.name) name c.top h in
        subst (IsPositive d) (sym (ap (length_of c.top) from.2 ∙ length_of_letter c.top from.0 lawful.names from.1)) (letter_long from.0 from.1)

    -- both rows have the same names
    pub name_in_bottom : (name : ℕ) → IsIn name (names_of c.top) → IsIn name c.bottom
    name_in_bottom name h = in_permutation name (names_of c.top) c.bottom lawful.rows h

    pub name_in_top : (name : ℕ) → IsIn name c.bottom → IsIn name (names_of c.top)
    name_in_top name h = in_permutation name c.bottom (names_of c.top) (IsPermutation-sym (names_of c.top) c.bottom lawful.rows) h

    -- the names of the bottom row are different
    pub bottom_distinct : IsDistinct c.bottom
    bottom_distinct = distinct_permutation (names_of c.top) c.bottom lawful.rows lawful.names

    -- the intervals of the letters, in the order of the top row
    pub top_tiles : Tiles (quadratic d) (λ letter. top_left c letter.name) (λ letter. letter.length) c.base c.top (add c.base c.total)
    top_tiles =
        subst (Tiles (quadratic d) (λ letter. top_left c letter.name) (λ letter. letter.length) c.base c.top)
        (ap (add c.base) (total_of_names c.top lawful.names ∙ lawful.sum))
        (tiles_agree (quadratic d) (λ (letter : Letter). top_left c letter.name) (λ (letter : Letter). length_of c.top letter.name)
        (λ letter. top_left c letter.name) (λ letter. letter.length) c.base (add c.base (total (map (length_of c.top) (names_of c.top)))) c.top
        (λ letter h. (refl, sym (length_of_letter c.top letter lawful.names h)))
        (tiles_of_map (quadratic d) (top_left c) (length_of c.top) (λ (letter : Letter). letter.name) c.base (add c.base (total (map (length_of c.top) (names_of c.top)))) c.top
        (row_tiles c.top c.base (names_of c.top) lawful.names)))

    -- the intervals of the names, in the order of the bottom row
    pub bottom_tiles : Tiles (quadratic d) (bottom_left c) (length_of c.top) c.base c.bottom (add c.base c.total)
    bottom_tiles =
        subst (Tiles (quadratic d) (bottom_left c) (length_of c.top) c.base c.bottom)
        (ap (add c.base)
        (total_of_members (length_of c.top) c.bottom (names_of c.top) bottom_distinct lawful.names name_in_top name_in_bottom
        ∙ total_of_names c.top lawful.names ∙ lawful.sum))
        (row_tiles c.top c.base c.bottom bottom_distinct)
