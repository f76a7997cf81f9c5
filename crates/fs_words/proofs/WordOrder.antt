-- Laws of the order of words: it is strict and total, and how it is kept where words go on. Over lists of letters alone. A library for crates to come.
use Rattle.std.proofs.Common.{◌≡◌, ◌⊎◌, List, [], ◌∷◌, ◌++◌, refl, sym, ap, subst, inl, inr, append-nil, append_assoc}
use Rattle.fs_words.specs.Words.{Letter, right, left}
use Rattle.fs_words.specs.WordOrder.{IsWordBefore, goes_on, parts, alike}

-- the one word is right of the other: at the first letter at which they differ it has right, and the other has left
pub data IsRightOf : List Letter → List Letter → Type 0 where
  here : (one other : List Letter) → IsRightOf (right ∷ one) (left ∷ other)
  later : (letter : Letter) (one other : List Letter) → IsRightOf one other → IsRightOf (letter ∷ one) (letter ∷ other)

-- ---- the order is strict and total

abbrev beyond_first : List Letter → List Letter
beyond_first [] = []
beyond_first (letter ∷ letters) = letters

abbrev IsFirst : Letter → List Letter → Type 0
IsFirst letter [] = ⊥
IsFirst right (right ∷ letters) = Unit {0}
IsFirst left (left ∷ letters) = Unit {0}
IsFirst right (left ∷ letters) = ⊥
IsFirst left (right ∷ letters) = ⊥

is_first : (letter : Letter) (letters : List Letter) → IsFirst letter (letter ∷ letters)
is_first right letters = tt
is_first left letters = tt

before-ne : (a b : List Letter) → IsWordBefore a b → a ≡ b → ⊥
before-ne a b (goes_on letter letters) e = subst (IsFirst letter) (sym e) (is_first letter letters)
before-ne a b (parts one other) e = subst (IsFirst right) e tt
before-ne a b (alike letter one other h) e = before-ne one other h (ap beyond_first e)

-- no word is before itself
pub before_irrefl : (a : List Letter) → ¬ IsWordBefore a a
before_irrefl a h = before-ne a a h refl

-- what is before a word is before those after it
pub before_trans : {a b c : List Letter} → IsWordBefore a b → IsWordBefore b c → IsWordBefore a c
before_trans (goes_on letter letters) (parts one other) = goes_on left other
before_trans (goes_on letter letters) (alike l one other k) = goes_on letter other
before_trans (parts one other) (alike l first second k) = parts one second
before_trans (alike letter one other h) (parts first second) = parts one second
before_trans (alike letter one other h) (alike l first second k) = alike letter one second (before_trans h k)

abbrev Compared : List Letter → List Letter → Type 0
Compared a b = IsWordBefore a b ⊎ ((a ≡ b) ⊎ IsWordBefore b a)

compared_with : (letter : Letter) (a b : List Letter) → Compared a b → Compared (letter ∷ a) (letter ∷ b)
compared_with letter a b (inl h) = inl (alike letter a b h)
compared_with letter a b (inr (inl e)) = inr (inl (ap (λ w. letter ∷ w) e))
compared_with letter a b (inr (inr h)) = inr (inr (alike letter b a h))

-- of two words that differ one is before the other
pub before_total : (a b : List Letter) → IsWordBefore a b ⊎ ((a ≡ b) ⊎ IsWordBefore b a)
before_total [] [] = inr (inl refl)
before_total [] (letter ∷ letters) = inl (goes_on letter letters)
before_total (letter ∷ letters) [] = inr (inr (goes_on letter letters))
before_total (right ∷ a) (left ∷ b) = inl (parts a b)
before_total (left ∷ a) (right ∷ b) = inr (inr (parts b a))
before_total (right ∷ a) (right ∷ b) = compared_with right a b (before_total a b)
before_total (left ∷ a) (left ∷ b) = compared_with left a b (before_total a b)

-- ---- a word and those that go on from it

-- a prefix is before what goes on from it
pub before_extended : (a : List Letter) (letter : Letter) (more : List Letter) → IsWordBefore a (a ++ letter ∷ more)
before_extended [] letter more = goes_on letter more
before_extended (first ∷ a) letter more = alike first a (a ++ letter ∷ more) (before_extended a letter more)

-- a word that goes on from another by some letters is that word or after it
pub prefix_cases : (a more : List Letter) → (a ≡ a ++ more) ⊎ IsWordBefore a (a ++ more)
prefix_cases a [] = inl (sym (append-nil a))
prefix_cases a (letter ∷ more) = inr (before_extended a letter more)

-- a word before another is before each that goes on from the other
pub before_extension : {a b : List Letter} (more : List Letter) → IsWordBefore a b → IsWordBefore a (b ++ more)
before_extension more (goes_on letter letters) = goes_on letter (letters ++ more)
before_extension more (parts one other) = parts one (other ++ more)
before_extension more (alike letter one other h) = alike letter one (other ++ more) (before_extension more h)

append_snoc : (a : List Letter) (letter : Letter) (more : List Letter) → a ++ letter ∷ more ≡ (a ++ letter ∷ []) ++ more
append_snoc a letter more = sym (append_assoc a (letter ∷ []) more)

-- a word that goes on from another is it, or goes on from it with right, or with left
pub extension_cases : (a more : List Letter)
    → (a ++ more ≡ a) ⊎ (((rest : List Letter) × (a ++ more ≡ (a ++ right ∷ []) ++ rest)) ⊎ ((rest : List Letter) × (a ++ more ≡ (a ++ left ∷ []) ++ rest)))
extension_cases a [] = inl (append-nil a)
extension_cases a (right ∷ more) = inr (inl (more, append_snoc a right more))
extension_cases a (left ∷ more) = inr (inr (more, append_snoc a left more))

-- ---- a word that is right of another

-- a word before another is a prefix of it, or right of it
pub before_cases : {a b : List Letter} → IsWordBefore a b → ((letter : Letter) × (more : List Letter) × (b ≡ a ++ letter ∷ more)) ⊎ IsRightOf a b
before_cases (goes_on letter letters) = inl (letter, letters, refl)
before_cases (parts one other) = inr (here one other)
before_cases (alike letter one other h) = elim (before_cases h) [ inl c ↦ inl (c.0, c.1, ap (λ w. letter ∷ w) c.2) | inr r ↦ inr (later letter one other r) ]

-- a word that is right of another is before it
pub before_of_right_of : {a b : List Letter} → IsRightOf a b → IsWordBefore a b
before_of_right_of (here one other) = parts one other
before_of_right_of (later letter one other h) = alike letter one other (before_of_right_of h)

-- however the two go on
pub right_of_extensions : {a b : List Letter} (more others : List Letter) → IsRightOf a b → IsRightOf (a ++ more) (b ++ others)
right_of_extensions more others (here one other) = here (one ++ more) (other ++ others)
right_of_extensions more others (later letter one other h) = later letter (one ++ more) (other ++ others) (right_of_extensions more others h)

-- or the one alone
pub right_of_extension : {a b : List Letter} (more : List Letter) → IsRightOf a b → IsRightOf (a ++ more) b
right_of_extension more (here one other) = here (one ++ more) other
right_of_extension more (later letter one other h) = later letter (one ++ more) other (right_of_extension more h)

-- a word that goes on with right is right of each that goes on with left
pub right_of_next : (letters one other : List Letter) → IsRightOf (letters ++ right ∷ one) (letters ++ left ∷ other)
right_of_next [] one other = here one other
right_of_next (letter ∷ letters) one other = later letter (letters ++ right ∷ one) (letters ++ left ∷ other) (right_of_next letters one other)

-- so it is before it
pub right_before_left : (letters one other : List Letter) → IsWordBefore (letters ++ right ∷ one) (letters ++ left ∷ other)
right_before_left letters one other = before_of_right_of (right_of_next letters one other)

-- a word that is before another, and no prefix of it, is so however the two go on
pub before_extensions : {a b : List Letter} → IsWordBefore a b → ¬ ((rest : List Letter) × (b ≡ a ++ rest)) → (more others : List Letter) → IsWordBefore (a ++ more) (b ++ others)
before_extensions h n more others = elim (before_cases h) [ inl c ↦ absurd (n (c.0 ∷ c.1, c.2)) | inr r ↦ before_of_right_of (right_of_extensions more others r) ]
