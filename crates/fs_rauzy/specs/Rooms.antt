-- Stacks with room. The contracts of public calls don't rest on this file.
use Rattle.std.specs.Prelude.{ℕ, List}

-- the items from the last one pushed on, and how many there is room for
pub record RoomValue (T : Type 0) : Type 0 where
  pub items : List T
  pub room : ℕ
