-- Loops of the induction: a component that comes back to its own shape, smaller, by won comparisons alone.
use Rattle.std.specs.Prelude.{◌≡◌, ◌⊎◌, ℕ, Some}
use Rattle.std.specs.List.{slice_get}
use Rattle.fs_quadratic.specs.Ring.{IsLess, mul}
use Rattle.fs_gluing.specs.Exchanges.{Letter, Component, names_of}
use Rattle.fs_rauzy.specs.Events.{IsWonByTop, IsWonByBottom}

-- two components have equal rows, and the lengths of letters are in the proportion of the totals
pub record AreAlike (d : ℕ) (before after : Component) : Type 0 where
  pub top : names_of after.top ≡ names_of before.top
  pub bottom : after.bottom ≡ before.bottom
  pub proportion : (n : ℕ) (a b : Letter) → slice_get before.top n ≡ Some a → slice_get after.top n ≡ Some b → mul d b.length before.total ≡ mul d a.length after.total

-- a won comparison leads from one to the other
abbrev pub IsWonTo : ℕ → Component → Component → Type 0
IsWonTo d c after = IsWonByTop d c after ⊎ IsWonByBottom d c after

-- won comparisons alone lead there, any number of them
pub data IsWonPath (d : ℕ) (before : Component) : Component → Type 0 where
  none_won : IsWonPath d before before
  won : (c after : Component) → IsWonPath d before c → IsWonTo d c after → IsWonPath d before after

-- a loop: the later component is alike, and shorter
pub record IsLoop (d : ℕ) (before after : Component) : Type 0 where
  pub path : IsWonPath d before after
  pub alike : AreAlike d before after
  pub shorter : IsLess d after.total before.total
