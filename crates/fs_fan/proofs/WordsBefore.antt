-- The order of words and that of sightings: they are strict, and that of words is total.
use Rattle.std.proofs.Common.{◌≡◌, ◌⊎◌, ℕ, ◌+◌, ◌<◌, Option, Some, None, List, sym, ap, ◌∙◌, subst, inl, inr, arith}
use Rattle.std.proofs.lemmas.Bool.{cases_order}
use Rattle.fs_words.specs.Words.{Letter}
use Rattle.fs_words.specs.WordOrder.{IsWordBefore}
use Rattle.fs_words.proofs.WordOrder.{before_irrefl, before_trans, before_total}
use Rattle.fs_fan.specs.Search.{Word, IsBefore, by_half_edge, by_letters, Sighting, IsSeenBefore, seen_by_half_edge, along_first, seen_by_letters}

-- ---- words

-- no word is before itself
pub word_irrefl : (w : Word) → ¬ IsBefore w w
word_irrefl w (by_half_edge l) = omega arith
word_irrefl w (by_letters e b) = before_irrefl w.letters b

-- what is before a word is before all after it
pub word_trans : {a b c : Word} → IsBefore a b → IsBefore b c → IsBefore a c
word_trans (by_half_edge l) (by_half_edge m) = by_half_edge (omega arith)
word_trans (by_half_edge l) (by_letters e b) = by_half_edge (omega arith)
word_trans (by_letters e b) (by_half_edge m) = by_half_edge (omega arith)
word_trans (by_letters e b) (by_letters f c) = by_letters (e ∙ f) (before_trans b c)

-- of two words that differ one is before the other
pub word_total : (a b : Word) → IsBefore a b ⊎ ((a ≡ b) ⊎ IsBefore b a)
word_total a b = elim (cases_order a.half_edge b.half_edge) [
  | inr (inl l) ↦ inl (by_half_edge l)
  | inr (inr l) ↦ inr (inr (by_half_edge l))
  | inl e ↦ elim (before_total a.letters b.letters) [
    | inl h ↦ inl (by_letters e h)
    | inr (inl f) ↦ inr (inl (λ i. record { half_edge = e i; letters = f i }))
    | inr (inr h) ↦ inr (inr (by_letters (sym e) h))
  ]
]

-- a word before another is of a half-edge that isn't after that of the other
pub below_of_before : (u w : Word) (n : ℕ) → w.half_edge + 1 ≡ n → IsBefore u w → u.half_edge < n
below_of_before u w n e (by_half_edge l) = omega arith
below_of_before u w n e (by_letters s b) = omega arith

-- ---- sightings

abbrev letters_of : Option (List Letter) → List Letter → List Letter
letters_of None other = other
letters_of (Some letters) other = letters

some_equal : {a b : List Letter} (o : Option (List Letter)) → o ≡ Some a → o ≡ Some b → a ≡ b
some_equal {a} {b} o e f = ap (λ (x : Option (List Letter)). letters_of x a) (sym e ∙ f)

none_not_some : {a : List Letter} (o : Option (List Letter)) → o ≡ None → o ≡ Some a → ⊥
none_not_some o e f = let g = sym e ∙ f in cc

-- no sighting is before itself
pub sighting_irrefl : (at : Sighting) → ¬ IsSeenBefore at at
sighting_irrefl at (seen_by_half_edge l) = omega arith
sighting_irrefl at (along_first letters e n s) = none_not_some at.letters n s
sighting_irrefl at (seen_by_letters letters later e s r b) = before_irrefl letters (subst (IsWordBefore letters) (some_equal at.letters r s) b)

-- what is before a sighting is before all after it
pub sighting_trans : {a b c : Sighting} → IsSeenBefore a b → IsSeenBefore b c → IsSeenBefore a c
sighting_trans (seen_by_half_edge l) (seen_by_half_edge m) = seen_by_half_edge (omega arith)
sighting_trans (seen_by_half_edge l) (along_first letters e n s) = seen_by_half_edge (omega arith)
sighting_trans (seen_by_half_edge l) (seen_by_letters letters later e s r b) = seen_by_half_edge (omega arith)
sighting_trans (along_first letters e n s) (seen_by_half_edge m) = seen_by_half_edge (omega arith)
sighting_trans (seen_by_letters letters later e s r b) (seen_by_half_edge m) = seen_by_half_edge (omega arith)
sighting_trans {a} {b} {c} (along_first letters e n s) (along_first more f m r) = absurd (none_not_some b.letters m s)
sighting_trans {a} {b} {c} (seen_by_letters letters later e s r h) (along_first more f m u) = absurd (none_not_some b.letters m r)
sighting_trans (along_first letters e n s) (seen_by_letters one later f r u h) = along_first later (e ∙ f) n u
sighting_trans {a} {b} {c} (seen_by_letters letters later e s r h) (seen_by_letters one last f u v k) =
    seen_by_letters letters last (e ∙ f) s v (before_trans h (subst (λ w. IsWordBefore w last) (some_equal b.letters u r) k))
