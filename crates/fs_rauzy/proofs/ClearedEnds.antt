-- Letters whose start or end is cleared under their names, and which letters that leaves.
use Rattle.std.proofs.Common.{◌≡◌, ◌≢◌, ℕ, Bool, true, false, ◌<◌, ◌==◌, if◌then◌else◌, List, [], ◌∷◌, length, map, get_or, set, refl, sym, ap, ◌∙◌, inl, inr, arith}
use Rattle.std.proofs.lemmas.Bool.Decides.{eqb_tells}
use Rattle.std.proofs.lemmas.List.{length-set, get_or-set_same, get_or-set_other}
use Rattle.fs_lists.specs.Members.{IsIn}
use Rattle.fs_gluing.specs.Exchanges.{Letter}
use Rattle.fs_rauzy.specs.Events.{without_start, without_end}
use Rattle.fs_rauzy.specs.StatesInPlace.{no_letter, letters_at}
use Rattle.fs_rauzy.proofs.WrittenLetters.{AreNamed, AreWithin, AreSameAt, name_at, named_set, same_at_set}

-- ---- letters that are changed under their names

-- the change leaves names alone, and letters of other names
record IsChangeOf (f : Letter → Letter) (n : ℕ) : Type 0 where
  pub keeps : (letter : Letter) → (f letter).name ≡ letter.name
  pub others : (letter : Letter) → letter.name ≢ n → f letter ≡ letter

start_change : (n : ℕ) → IsChangeOf (without_start n) n
start_change n = record {
  keeps = λ letter. by_test letter (letter.name == n);
  others = λ letter other. elim (eqb_tells letter.name n) [
    | inl h ↦ absurd (other h.1)
    | inr h ↦ ap (λ t. if t then record letter { start = record letter.start { real = false } } else letter) h.0
  ];
}
  where
    by_test : (letter : Letter) (t : Bool) → (if t then record letter { start = record letter.start { real = false } } else letter).name ≡ letter.name
    by_test letter true = refl
    by_test letter false = refl

end_change : (n : ℕ) → IsChangeOf (without_end n) n
end_change n = record {
  keeps = λ letter. by_test letter (letter.name == n);
  others = λ letter other. elim (eqb_tells letter.name n) [
    | inl h ↦ absurd (other h.1)
    | inr h ↦ ap (λ t. if t then record letter { end = record letter.end { real = false } } else letter) h.0
  ];
}
  where
    by_test : (letter : Letter) (t : Bool) → (if t then record letter { end = record letter.end { real = false } } else letter).name ≡ letter.name
    by_test letter true = refl
    by_test letter false = refl

-- the letters with the changed one are changed, each at its name
at_change : (letters : List Letter) (f : Letter → Letter) (n name : ℕ) → IsChangeOf f n → AreNamed letters → n < length letters → name < length letters
    → get_or (set letters n (f (get_or letters n no_letter))) name no_letter ≡ f (get_or letters name no_letter)
at_change letters f n name change named n_inside inside = elim (eqb_tells name n) [
  | inl h ↦
      ap (λ (k : ℕ). get_or (set letters n (f (get_or letters n no_letter))) k no_letter) h.1
      ∙ get_or-set_same letters n (f (get_or letters n no_letter)) no_letter n_inside ∙ ap (λ (k : ℕ). f (get_or letters k no_letter)) (sym h.1)
  | inr h ↦
      get_or-set_other letters n name (f (get_or letters n no_letter)) no_letter h.1
      ∙ sym (change.others (get_or letters name no_letter) (λ e. h.1 (sym (name_at letters name named inside) ∙ e)))
]

-- ---- both ends

module _ (letters : List Letter) (starting ending : ℕ) (named : AreNamed letters) (start_inside : starting < length letters) (end_inside : ending < length letters) where
  abbrev first : List Letter
  first = set letters starting (without_start starting (get_or letters starting no_letter))

  -- the letters without the start of the one and the end of the other
  abbrev pub cleared : List Letter
  cleared = set first ending (without_end ending (get_or first ending no_letter))

  start_own : (without_start starting (get_or letters starting no_letter)).name ≡ starting
  start_own = (start_change starting).keeps (get_or letters starting no_letter) ∙ name_at letters starting named start_inside

  first_named : AreNamed first
  first_named = named_set letters starting (without_start starting (get_or letters starting no_letter)) named start_inside start_own

  long : length first ≡ length letters
  long = length-set letters starting (without_start starting (get_or letters starting no_letter))

  in_first : (name : ℕ) → name < length letters → name < length first
  in_first name inside = let same = long in omega arith

  end_own : (without_end ending (get_or first ending no_letter)).name ≡ ending
  end_own = (end_change ending).keeps (get_or first ending no_letter) ∙ name_at first ending first_named (in_first ending end_inside)

  cleared_at : (name : ℕ) → name < length letters → get_or cleared name no_letter ≡ without_end ending (without_start starting (get_or letters name no_letter))
  cleared_at name inside =
      at_change first (without_end ending) ending name (end_change ending) first_named (in_first ending end_inside) (in_first name inside)
      ∙ ap (without_end ending) (at_change letters (without_start starting) starting name (start_change starting) named start_inside inside)

  cleared_letters : (names : List ℕ) → AreWithin letters names → letters_at cleared names ≡ map (λ letter. without_end ending (without_start starting letter)) (letters_at letters names)
  cleared_letters [] within = refl
  cleared_letters (name ∷ names) within = λ i. cleared_at name within.0 i ∷ cleared_letters names within.1 i

  -- the letters after the event, by whether a connection is found

  abbrev pub after_split : Bool → List Letter
  after_split found = if found then cleared else letters

  pub split_named : (found : Bool) → AreNamed (after_split found)
  split_named true = named_set first ending (without_end ending (get_or first ending no_letter)) first_named (in_first ending end_inside) end_own
  split_named false = named

  pub split_long : (found : Bool) → length (after_split found) ≡ length letters
  split_long true = length-set first ending (without_end ending (get_or first ending no_letter)) ∙ long
  split_long false = refl

  pub split_letters : (found : Bool) (names : List ℕ) → AreWithin letters names
      → letters_at (after_split found) names ≡ (if found then map (λ letter. without_end ending (without_start starting letter)) (letters_at letters names) else letters_at letters names)
  split_letters true names within = cleared_letters names within
  split_letters false names within = refl

  pub split_same : (found : Bool) (names : List ℕ) → ¬ IsIn starting names → ¬ IsIn ending names → AreSameAt (after_split found) letters names
  split_same true names no_start no_end name h =
      same_at_set first ending (without_end ending (get_or first ending no_letter)) names no_end name h
      ∙ same_at_set letters starting (without_start starting (get_or letters starting no_letter)) names no_start name h
  split_same false names no_start no_end name h = refl
