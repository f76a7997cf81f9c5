-- Texts that are cut at a byte. The contract of `flat` doesn't rest on this file.
use Rattle.std.specs.Prelude.{◌≡◌, ◌≢◌, ℕ, ◌⊎◌, List, [], ◌∷◌, ◌++◌}
use Rattle.std.specs.List.{AllByRecursion}
use Rattle.fs_job.specs.Pieces.{IsTextByte}

-- the text is a prefix without the separator, the separator, and the rest
pub record IsCut (separator : ℕ) (text prefix rest : List ℕ) : Type 0 where
  pub whole : text ≡ prefix ++ separator ∷ rest
  pub first : AllByRecursion (λ b. b ≢ separator) prefix

-- the text is empty, or its first byte is a P
abbrev pub Begins : (ℕ → Type 0) → List ℕ → Type 0
Begins P [] = Unit {0}
Begins P (b ∷ bytes) = P b

-- the rest is the line without the carriage return at its end, where it has one
abbrev pub DropsReturn : List ℕ → List ℕ → Type 0
DropsReturn line rest = (line ≡ rest ++ 13 ∷ []) ⊎ ((line ≡ rest) × ((prefix : List ℕ) → line ≢ prefix ++ 13 ∷ []))

-- a byte that a line may have, or a line feed
abbrev pub IsTextOrFeed : ℕ → Type 0
IsTextOrFeed b = IsTextByte b ⊎ (b ≡ 10)
