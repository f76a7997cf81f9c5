-- The order of words: a word is before those that go on from it, and at a crossing right is before left.
use Rattle.std.specs.Prelude.{List, [], ◌∷◌}
use Rattle.fs_words.specs.Words.{Letter, right, left}

-- the one word is before the other
pub data IsWordBefore : List Letter → List Letter → Type 0 where
  goes_on : (letter : Letter) (letters : List Letter) → IsWordBefore [] (letter ∷ letters)
  parts : (one other : List Letter) → IsWordBefore (right ∷ one) (left ∷ other)
  alike : (letter : Letter) (one other : List Letter) → IsWordBefore one other → IsWordBefore (letter ∷ one) (letter ∷ other)
