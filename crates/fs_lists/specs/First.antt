-- The first in an order for which something doesn't hold.
use Rattle.std.specs.Prelude.{◌≡◌, List, ◌∷◌, ◌++◌}
use Rattle.std.specs.List.{AllByRecursion}

-- P holds of each before x, and not of x
pub record IsFirstWithout {X : Type 0} (P : X → Type 0) (xs : List X) (x : X) : Type 0 where
  pub before : List X
  pub after : List X
  pub whole : xs ≡ before ++ x ∷ after
  pub passed : AllByRecursion P before
  pub fails : ¬ P x
