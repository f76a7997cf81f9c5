-- Words with letters more, and the words that wait on the stack.
use Rattle.std.proofs.Common.{◌≡◌, ◌⊎◌, Bool, true, List, [], ◌∷◌, ◌++◌, refl, sym, ◌∙◌, subst, inl, inr, append-nil, append_assoc}
use Rattle.fs_lists.specs.Members.{IsIn}
use Rattle.fs_lists.proofs.Members.{in_append_left, in_append_right, in_append_cases}
use Rattle.fs_words.specs.Words.{Letter, right, left}
use Rattle.fs_words.specs.WordOrder.{IsWordBefore}
use Rattle.fs_words.proofs.WordOrder.{before_extended, prefix_cases, extension_cases, right_before_left}
use Rattle.fs_fan.specs.Search.{Word, IsBefore, by_letters}
use Rattle.fs_fan.specs.Entries.{optional}
use Rattle.fs_fan.specs.Searching.{Extends, AreBefore}
use Rattle.fs_fan.proofs.OrderedLists.{in_optional_cases}

-- a word with one letter more
abbrev pub with_letter : Word → Letter → Word
with_letter w letter = record { half_edge = w.half_edge; letters = w.letters ++ letter ∷ [] }

-- the stack after a visit of w, which was the last word on it
abbrev pub stack_after : List Word → Word → (left right : Bool) → List Word
stack_after rest w goes_left goes_right = (rest ++ optional goes_left (with_letter w left)) ++ optional goes_right (with_letter w right)

-- a word is before those with one letter more
pub before_with_letter : (w : Word) (letter : Letter) → IsBefore w (with_letter w letter)
before_with_letter w letter = by_letters refl (before_extended w.letters letter [])

-- where all that goes on from a word is before all that goes on from another, so is the word
pub before_of_all : (one other : Word) → AreBefore one other → IsBefore one other
before_of_all one other h =
    by_letters h.half_edge
    (subst (λ l. IsWordBefore l other.letters) (append-nil one.letters) (subst (λ l. IsWordBefore (one.letters ++ []) l) (append-nil other.letters) (h.letters [] [])))

-- with a letter more it still is
pub all_before_with_letter : (one other : Word) (letter : Letter) → AreBefore one other → AreBefore (with_letter one letter) other
all_before_with_letter one other letter h = record {
  half_edge = h.half_edge;
  letters = λ more others. subst (λ l. IsWordBefore l (other.letters ++ others)) (sym (append_assoc one.letters (letter ∷ []) more)) (h.letters (letter ∷ more) others);
}

-- and it is before each word that goes on from the other
pub extended_after : (one other u : Word) → AreBefore one other → Extends u other → IsBefore one u
extended_after one other u h x =
    by_letters (h.half_edge ∙ sym x.half_edge)
    (subst (λ l. IsWordBefore one.letters l) (sym x.letters)
    (subst (λ l. IsWordBefore l (other.letters ++ x.more)) (append-nil one.letters) (h.letters [] x.more)))

-- a word that goes on from another is it, or after it
pub at_or_after : (w u : Word) → Extends u w → (w ≡ u) ⊎ IsBefore w u
at_or_after w u x = elim (prefix_cases w.letters x.more) [
  | inl e ↦ inl (λ i. record { half_edge = sym x.half_edge i; letters = (e ∙ sym x.letters) i })
  | inr b ↦ inr (by_letters (sym x.half_edge) (subst (λ l. IsWordBefore w.letters l) (sym x.letters) b))
]

-- all that goes on with right is before all that goes on with left
pub right_all_before_left : (w : Word) → AreBefore (with_letter w right) (with_letter w left)
right_all_before_left w = record {
  half_edge = refl;
  letters = λ more others.
      subst (λ l. IsWordBefore l ((w.letters ++ left ∷ []) ++ others)) (sym (append_assoc w.letters (right ∷ []) more))
      (subst (λ l. IsWordBefore (w.letters ++ right ∷ more) l) (sym (append_assoc w.letters (left ∷ []) others)) (right_before_left w.letters more others));
}

-- a word that goes on from another is it, or goes on from one of the two with one letter more
pub data Extension (u w : Word) : Type 0 where
  none : u ≡ w → Extension u w
  by_right : Extends u (with_letter w right) → Extension u w
  by_left : Extends u (with_letter w left) → Extension u w

pub extension : (u w : Word) → Extends u w → Extension u w
extension u w h = elim (extension_cases w.letters h.more) [
  | inl e ↦ none (λ i. record { half_edge = h.half_edge i; letters = (h.letters ∙ e) i })
  | inr (inl r) ↦ by_right (record { half_edge = h.half_edge; more = r.0; letters = h.letters ∙ r.1 })
  | inr (inr r) ↦ by_left (record { half_edge = h.half_edge; more = r.0; letters = h.letters ∙ r.1 })
]

-- ---- the stack

-- how a word came onto the stack
pub data Waits (s : Word) (rest : List Word) (w : Word) (goes_left goes_right : Bool) : Type 0 where
  already : IsIn s rest → Waits s rest w goes_left goes_right
  with_left : s ≡ with_letter w left → goes_left ≡ true → Waits s rest w goes_left goes_right
  with_right : s ≡ with_letter w right → goes_right ≡ true → Waits s rest w goes_left goes_right

-- the words on the stack after a visit
pub stack_cases : (s : Word) (rest : List Word) (w : Word) (goes_left goes_right : Bool) → IsIn s (stack_after rest w goes_left goes_right) → Waits s rest w goes_left goes_right
stack_cases s rest w goes_left goes_right m =
    elim (in_append_cases s (rest ++ optional goes_left (with_letter w left)) (optional goes_right (with_letter w right)) m) [
      | inr r ↦ let c = in_optional_cases goes_right (with_letter w right) s r in with_right c.0 c.1
      | inl n ↦ elim (in_append_cases s rest (optional goes_left (with_letter w left)) n) [
        | inl k ↦ already k
        | inr l ↦ let c = in_optional_cases goes_left (with_letter w left) s l in with_left c.0 c.1
      ]
    ]

module _ (rest : List Word) (w : Word) (goes_left goes_right : Bool) where
  -- the words that waited below the visited one still do
  pub still_waits : (s : Word) → IsIn s rest → IsIn s (stack_after rest w goes_left goes_right)
  still_waits s m =
      in_append_left s (rest ++ optional goes_left (with_letter w left)) (optional goes_right (with_letter w right)) (in_append_left s rest (optional goes_left (with_letter w left)) m)

  -- the two with one letter more do, where they are pushed
  pub left_waits : IsIn (with_letter w left) (optional goes_left (with_letter w left)) → IsIn (with_letter w left) (stack_after rest w goes_left goes_right)
  left_waits m =
      in_append_left (with_letter w left) (rest ++ optional goes_left (with_letter w left)) (optional goes_right (with_letter w right))
      (in_append_right (with_letter w left) rest (optional goes_left (with_letter w left)) m)

  pub right_waits : IsIn (with_letter w right) (optional goes_right (with_letter w right)) → IsIn (with_letter w right) (stack_after rest w goes_left goes_right)
  right_waits m = in_append_right (with_letter w right) (rest ++ optional goes_left (with_letter w left)) (optional goes_right (with_letter w right)) m
