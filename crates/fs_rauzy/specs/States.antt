-- The states of the induction: the open components of an interval exchange, as contracts see a `State`.
use Rattle.std.specs.Prelude.{ℕ, ◌≤◌, List, [], ◌∷◌, length}
use Rattle.std.specs.List.{AllByRecursion, flat_map}
use Rattle.fs_lists.specs.Members.{IsDistinct}
use Rattle.fs_ring.specs.OrderedRing.{IsAtMost}
use Rattle.fs_quadratic.specs.Ring.{quadratic, IsPositive, add}
use Rattle.fs_gluing.specs.Exchanges.{Component, IsLawful, names_of}
use Rattle.fs_iet.specs.ExchangeValue.{most_letters}

-- the field's d, and the open components: the first one is the current one
pub record StateValue : Type 0 where
  pub d : ℕ
  pub components : List Component

-- each component ends where the one before in the list begins, or left of that
abbrev pub AreDescending : ℕ → List Component → Type 0
AreDescending d [] = Unit {0}
AreDescending d (c ∷ []) = Unit {0}
AreDescending d (c ∷ (e ∷ rest)) = IsAtMost (quadratic d) (IsPositive d) (add e.base e.total) c.base × AreDescending d (e ∷ rest)

-- the names of all letters, component by component
abbrev pub open_names : List Component → List ℕ
open_names components = flat_map (λ c. names_of c.top) components

-- what the type of a `State` keeps: each component is lawful, no two letters have one name, there are at most 512 letters, and the bases descend
pub record IsState (x : StateValue) : Type 0 where
  pub lawful : AllByRecursion (IsLawful x.d) x.components
  pub apart : IsDistinct (open_names x.components)
  pub few : length (open_names x.components) ≤ most_letters
  pub in_order : AreDescending x.d x.components
