-- A list of marks, cut into rows of one length. Only proofs and inner calls of this crate cite it; the contract of `flat` doesn't rest on it.
use Rattle.std.specs.Prelude.{ℕ, zero, suc, Bool, List, [], ◌∷◌, take, drop}

-- so many rows, each of which has so many marks
unfoldable pub rows : ℕ → ℕ → List Bool → List (List Bool)
rows zero width marks = []
rows (suc n) width marks = take width marks ∷ rows n width (drop width marks)
