-- A letter that takes the place of the one of its name: names, lengths by names, and members.
use Rattle.std.proofs.Common.{◌≡◌, ◌≢◌, ◌⊎◌, ℕ, ◌==◌, if◌then◌else◌, List, [], ◌∷◌, refl, sym, ap, ◌∙◌, subst, inl, inr}
use Rattle.std.proofs.lemmas.Bool.Decides.{eqb_tells}
use Rattle.fs_lists.specs.Members.{IsIn, IsDistinct}
use Rattle.fs_lists.proofs.Members.{in_map, in_map_cases}
use Rattle.fs_quadratic.specs.Ring.{Quadratic, sub}
use Rattle.fs_gluing.specs.Exchanges.{Letter, names_of, length_of}
use Rattle.fs_iet.proofs.LetterRows.{length_of_letter}
use Rattle.fs_rauzy.specs.Events.{with_letter, won_over}
use Rattle.fs_rauzy.proofs.LetterChanges.{with_letter-names}

-- ---- the choice by a name

choose_same : {X : Type 0} (a b : ℕ) (x y : X) → a ≡ b → (if a == b then x else y) ≡ x
choose_same a b x y e = elim (eqb_tells a b) [ inl h ↦ ap (λ t. if t then x else y) h.0 | inr h ↦ absurd (h.1 e) ]

choose_other : {X : Type 0} (a b : ℕ) (x y : X) → a ≢ b → (if a == b then x else y) ≡ y
choose_other a b x y n = elim (eqb_tells a b) [ inl h ↦ absurd (n h.1) | inr h ↦ ap (λ t. if t then x else y) h.0 ]

-- names are one, or differ
pub same_name_or_not : (a b : ℕ) → (a ≡ b) ⊎ (a ≢ b)
same_name_or_not a b = elim (eqb_tells a b) [ inl h ↦ inl h.1 | inr h ↦ inr h.1 ]

-- ---- one letter in the place of that of its name

module _ (new : Letter) where
  -- the lengths of other names stay
  pub length_of_others : (letters : List Letter) (name : ℕ) → name ≢ new.name → length_of (with_letter new letters) name ≡ length_of letters name
  length_of_others [] name n = refl
  length_of_others (letter ∷ letters) name n = elim (same_name_or_not letter.name new.name) [
    | inl e ↦
        ap (λ (l : Letter). if l.name == name then l.length else length_of (with_letter new letters) name) (choose_same letter.name new.name new letter e)
        ∙ choose_other new.name name new.length (length_of (with_letter new letters) name) (λ f. n (sym f))
        ∙ length_of_others letters name n
        ∙ sym (choose_other letter.name name letter.length (length_of letters name) (λ f. n (sym f ∙ e)))
    | inr m ↦
        ap (λ (l : Letter). if l.name == name then l.length else length_of (with_letter new letters) name) (choose_other letter.name new.name new letter m)
        ∙ ap (λ (q : Quadratic). if letter.name == name then letter.length else q) (length_of_others letters name n)
  ]

  -- that of its name is its own
  pub length_of_new : (letters : List Letter) → IsIn new.name (names_of letters) → length_of (with_letter new letters) new.name ≡ new.length
  length_of_new [] h = absurd h
  length_of_new (letter ∷ letters) h = elim (same_name_or_not letter.name new.name) [
    | inl e ↦
        ap (λ (l : Letter). if l.name == new.name then l.length else length_of (with_letter new letters) new.name) (choose_same letter.name new.name new letter e)
        ∙ choose_same new.name new.name new.length (length_of (with_letter new letters) new.name) refl
    | inr m ↦
        ap (λ (l : Letter). if l.name == new.name then l.length else length_of (with_letter new letters) new.name) (choose_other letter.name new.name new letter m)
        ∙ choose_other letter.name new.name letter.length (length_of (with_letter new letters) new.name) m
        ∙ length_of_new letters (elim h [ inl e ↦ absurd (m (sym e)) | inr k ↦ k ])
  ]

  -- a letter is the new one, or one of the others
  pub in_with_cases : (letters : List Letter) (letter : Letter) → IsIn letter (with_letter new letters) → (letter ≡ new) ⊎ (IsIn letter letters × (letter.name ≢ new.name))
  in_with_cases [] letter h = absurd h
  in_with_cases (other ∷ letters) letter (inr h) = elim (in_with_cases letters letter h) [ inl e ↦ inl e | inr k ↦ inr (inr k.0, k.1) ]
  in_with_cases (other ∷ letters) letter (inl h) = elim (same_name_or_not other.name new.name) [
    | inl e ↦ inl (h ∙ choose_same other.name new.name new other e)
    | inr m ↦
        let one : letter ≡ other = h ∙ choose_other other.name new.name new other m in
        inr (inl one, λ f. m (ap (λ (l : Letter). l.name) (sym one) ∙ f))
  ]

-- ---- rows with the same letters

-- lengths by names don't depend on the order of the letters
pub length_of_rearranged : (letters others : List Letter) → IsDistinct (names_of letters) → IsDistinct (names_of others) → ((letter : Letter) → IsIn letter letters → IsIn letter others)
    → (name : ℕ) → IsIn name (names_of letters) → length_of others name ≡ length_of letters name
length_of_rearranged letters others p q to name h =
    let from = in_map_cases (λ (l : Letter). l.name) name letters h in
    ap (length_of others) from.2 ∙ length_of_letter others from.0 q (to from.0 from.1)
    ∙ sym (ap (length_of letters) from.2 ∙ length_of_letter letters from.0 p from.1)

-- ---- lengths after a won comparison

-- two letters in the place of those of their names change no name
pub names_after : (lost won : Letter) (letters : List Letter) → names_of (with_letter lost (with_letter won letters)) ≡ names_of letters
names_after lost won letters = with_letter-names lost (with_letter won letters) ∙ with_letter-names won letters

module _ (letters : List Letter) (distinct : IsDistinct (names_of letters)) (winner loser lost : Letter) (winner_there : IsIn winner letters) (loser_there : IsIn loser letters)
    (differ : winner.name ≢ loser.name) (named : lost.name ≡ loser.name) (as_long : lost.length ≡ loser.length) where
  abbrev pub after_won : List Letter
  after_won = with_letter lost (with_letter (won_over winner loser) letters)

  -- the winner is shorter by the loser
  pub length_of_winner : length_of after_won winner.name ≡ sub winner.length loser.length
  length_of_winner =
      length_of_others lost (with_letter (won_over winner loser) letters) winner.name (λ e. differ (e ∙ named))
      ∙ length_of_new (won_over winner loser) letters (in_map (λ (l : Letter). l.name) winner letters winner_there)

  length_of_loser : length_of after_won loser.name ≡ length_of letters loser.name
  length_of_loser =
      ap (length_of after_won) (sym named)
      ∙ length_of_new lost (with_letter (won_over winner loser) letters)
      (subst (IsIn lost.name) (sym (with_letter-names (won_over winner loser) letters))
      (subst (λ name. IsIn name (names_of letters)) (sym named) (in_map (λ (l : Letter). l.name) loser letters loser_there)))
      ∙ as_long ∙ sym (length_of_letter letters loser distinct loser_there)

  -- all others stay as long
  pub length_of_rest : (name : ℕ) → name ≢ winner.name → length_of after_won name ≡ length_of letters name
  length_of_rest name n = elim (same_name_or_not name loser.name) [
    | inl e ↦ ap (length_of after_won) e ∙ length_of_loser ∙ ap (length_of letters) (sym e)
    | inr m ↦
        length_of_others lost (with_letter (won_over winner loser) letters) name (λ e. m (e ∙ named))
        ∙ length_of_others (won_over winner loser) letters name n
  ]

  -- the letters are the loser, the winner and the others
  pub in_after_cases : (letter : Letter) → IsIn letter after_won
      → (letter ≡ lost) ⊎ ((letter ≡ won_over winner loser) ⊎ (IsIn letter letters × (letter.name ≢ winner.name) × (letter.name ≢ loser.name)))
  in_after_cases letter h = elim (in_with_cases lost (with_letter (won_over winner loser) letters) letter h) [
    | inl e ↦ inl e
    | inr k ↦ elim (in_with_cases (won_over winner loser) letters letter k.0) [ inl e ↦ inr (inl e) | inr m ↦ inr (inr (m.0, m.1, λ e. k.1 (e ∙ sym named))) ]
  ]
