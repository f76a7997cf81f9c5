-- The image of a position under an exchange, as it is computed.
use Rattle.std.specs.Prelude.{ℕ, ◌+◌, ◌==◌, if◌then◌else◌, Result, Ok, List, [], ◌∷◌}
use Rattle.std.specs.Ordering.{is_lt}
use Rattle.fs_quadratic.specs.Checked.{◌>>=◌, checked_sum, checked_difference}
use Rattle.fs_quadratic.specs.Ring.{Quadratic, compare}
use Rattle.fs_quadratic.specs.declared.steps.Place.{Place}
use Rattle.fs_gluing.specs.Exchanges.{Letter, Component, length_of}

-- an offset in a letter, by the letter's name
pub record Offset : Type 0 where
  pub name : ℕ
  pub offset : Quadratic

-- the letter that holds a position among these, of which the first has the number n: the length of each before it is taken away, by place 1 + n
abbrev pub letter_at : ℕ → ℕ → Quadratic → List Letter → Result Offset Place
letter_at d n y [] = Ok (record { name = n; offset = y })
letter_at d n y (letter ∷ letters) =
    if is_lt (compare d y letter.length) then Ok (record { name = letter.name; offset = y })
    else (checked_difference (1 + n) y letter.length >>= (λ rest. letter_at d (n + 1) rest letters))

-- the position in the bottom row: the length of each letter before this one there, of which the first is at place n, is added, by place 513 + n
abbrev pub bottom_position : List Letter → ℕ → ℕ → Quadratic → List ℕ → Result Quadratic Place
bottom_position letters n name y [] = Ok y
bottom_position letters n name y (other ∷ names) =
    if other == name then Ok y else (checked_sum (513 + n) y (length_of letters other) >>= (λ sum. bottom_position letters (n + 1) name sum names))

-- the image of the position y
unfoldable pub image : ℕ → Component → Quadratic → Result Quadratic Place
image d c y = do
  at ← letter_at d 0 y c.top
  bottom_position c.top 0 at.name at.offset c.bottom
