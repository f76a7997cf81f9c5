-- The numbers d of the fields.
use Rattle.std.specs.Prelude.{◌≢◌, ℕ, ◌*◌, ◌%◌, ◌≤◌}

-- no square above 1 divides it
abbrev pub IsSquarefree : ℕ → Type 0
IsSquarefree d = (k : ℕ) → 2 ≤ k → d % (k * k) ≢ 0

-- d is the square of no number
abbrev pub IsNoSquare : ℕ → Type 0
IsNoSquare d = (k : ℕ) → k * k ≢ d

-- d is a d of a field: squarefree, and from 2 to 999
pub record IsRadicand (d : ℕ) : Type 0 where
  pub least : 2 ≤ d
  pub greatest : d ≤ 999
  pub squarefree : IsSquarefree d
