-- Texts cut into pieces: lines and words.
use Rattle.std.specs.Prelude.{◌≡◌, ℕ, ◌≤◌, ◌⊎◌, Bool, true, false, ◌&&◌, ◌||◌, ◌==◌, if◌then◌else◌, List, [], ◌∷◌, filter}
use Rattle.std.specs.List.{AllByRecursion}

-- the pieces with a byte before the first of them
abbrev pub onto_first : ℕ → List (List ℕ) → List (List ℕ)
onto_first b [] = (b ∷ []) ∷ []
onto_first b (piece ∷ pieces) = (b ∷ piece) ∷ pieces

-- the pieces between the bytes that pass a test
abbrev pub pieces : (ℕ → Bool) → List ℕ → List (List ℕ)
pieces at [] = [] ∷ []
pieces at (b ∷ bytes) = if at b then [] ∷ pieces at bytes else onto_first b (pieces at bytes)

-- the byte is the first of the text
abbrev pub is_first_byte : ℕ → List ℕ → Bool
is_first_byte b [] = false
is_first_byte b (c ∷ bytes) = c == b

-- without each carriage return that is followed by a line feed
abbrev pub without_returns : List ℕ → List ℕ
without_returns [] = []
without_returns (b ∷ bytes) = if (b == 13) && is_first_byte 10 bytes then without_returns bytes else b ∷ without_returns bytes

-- the lines: the pieces between line feeds
abbrev pub lines_of : List ℕ → List (List ℕ)
lines_of bytes = pieces (λ b. b == 10) (without_returns bytes)

-- a space or a tab
abbrev pub is_blank : ℕ → Bool
is_blank b = (b == 32) || (b == 9)

-- the piece isn't empty
abbrev pub is_not_empty : List ℕ → Bool
is_not_empty [] = false
is_not_empty (b ∷ bytes) = true

-- the words of a line: the pieces between blanks, but for empty ones
abbrev pub words_of : List ℕ → List (List ℕ)
words_of line = filter is_not_empty (pieces is_blank line)

-- a byte that a line may have: a tab, or one from the space to the tilde
abbrev pub IsTextByte : ℕ → Type 0
IsTextByte b = (b ≡ 9) ⊎ ((32 ≤ b) × (b ≤ 126))

-- each byte is one that a line may have
abbrev pub IsText : List ℕ → Type 0
IsText line = AllByRecursion IsTextByte line
