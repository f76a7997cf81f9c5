-- The comparison of a component with an earlier one up to scale, as it is computed.
use Rattle.std.specs.Prelude.{◌≡◌, ℕ, ◌+◌, ◌*◌, if◌then◌else◌, Bool, true, false, Result, Ok, List, ◌∷◌}
use Rattle.fs_quadratic.specs.Checked.{◌>>=◌, checked_product}
use Rattle.fs_quadratic.specs.Ring.{Quadratic}
use Rattle.fs_quadratic.specs.declared.steps.Place.{Place}
use Rattle.fs_plane.specs.Vector.{is_same_number}
use Rattle.fs_gluing.specs.Exchanges.{Letter, Component, names_of}

-- both components have the same rows
pub record HaveEqualRows (before after : Component) : Type 0 where
  pub top : names_of after.top ≡ names_of before.top
  pub bottom : after.bottom ≡ before.bottom

-- whether the lengths of these letters are in the proportion of the totals: for letter n the product of its length and the earlier total is place 7 + 2n, that of its earlier length and the total place 8 + 2n; the first letter that isn't in proportion ends the comparison
abbrev pub checked_proportion : ℕ → Quadratic → Quadratic → ℕ → List Letter → List Letter → Result Bool Place
checked_proportion d earlier now n (before ∷ befores) (after ∷ afters) =
    (checked_product d (7 + 2 * n) after.length earlier >>= (λ p. checked_product d (8 + 2 * n) before.length now >>= (λ q.
    if is_same_number p q then checked_proportion d earlier now (n + 1) befores afters else Ok false)))
checked_proportion d earlier now n befores afters = Ok true

-- what the comparison gives: whether the components are alike, or the first place; places are tried only where the rows are equal
pub data IsComparison (d : ℕ) (before after : Component) : Result Bool Place → Type 0 where
  other_rows : ¬ HaveEqualRows before after → IsComparison d before after (Ok false)
  equal_rows : HaveEqualRows before after → IsComparison d before after (checked_proportion d before.total after.total 0 before.top after.top)
