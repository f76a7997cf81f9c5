-- Reading to the end and writing to the end.
use Rattle.std.specs.Prelude.{◌≡◌, ℕ, List, ◌++◌, Option}
use Rattle.std.specs.Io.KnownBytes.{Consumes, Appends}

-- the most bytes that are read
abbrev pub most_bytes : ℕ
most_bytes = 1048576

-- of the known bytes that were left, some were taken, and the others are left
abbrev pub TakesPrefix : Option (List ℕ) → Option (List ℕ) → Type 0
TakesPrefix old new = (taken : List ℕ) × Consumes old new taken

-- to the known bytes that were held, a prefix of the piece was added
abbrev pub AppendsPrefix : Option (List ℕ) → Option (List ℕ) → List ℕ → Type 0
AppendsPrefix old new piece = (prefix : List ℕ) × (rest : List ℕ) × (piece ≡ prefix ++ rest) × Appends old new prefix
