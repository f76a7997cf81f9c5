-- Tables that pass their tests.
use Rattle.std.specs.Prelude.{ℕ, ◌≤◌, List, length}
use Rattle.std.specs.List.{AllByRecursion}
use Rattle.fs_quadratic.specs.Radicand.{IsRadicand}
use Rattle.fs_fraction.specs.Fraction.{IsLowest}
use Rattle.fs_gluing.specs.declared.shapes.Point.{Point}
use Rattle.fs_unfold.specs.Unfolding.{PassesAlone}

-- both coordinates are in lowest terms
abbrev pub HasLowest : Point → Type 0
HasLowest p = IsLowest p.x.num p.x.den × IsLowest p.y.num p.y.den

-- a table that passes the tests of a polygon, with fractions in lowest terms
pub record IsTable (d : ℕ) (table : List Point) : Type 0 where
  pub radicand : IsRadicand d
  pub passes : PassesAlone d table
  pub lowest : AllByRecursion HasLowest table
  pub few : length table ≤ 42
