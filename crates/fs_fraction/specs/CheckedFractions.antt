-- Steps of formulas over fractions, each with its place: the exact value, or the place where a number of the step overflows.
use Rattle.std.specs.Prelude.{ℕ, Result}
use Rattle.fs_quadratic.specs.declared.steps.Place.{Place}
use Rattle.fs_quadratic.specs.Checked.{step}
use Rattle.fs_fraction.specs.Fraction.{Fraction}
use Rattle.fs_fraction.specs.Arithmetic.{negated, sum, product, reciprocal, is_fitting_sum, is_fitting_product, is_fitting_reciprocal}

-- the sum
abbrev pub checked_fraction_sum : ℕ → Fraction → Fraction → Result Fraction Place
checked_fraction_sum n x y = step n (is_fitting_sum x y) (sum x y)

-- the difference
abbrev pub checked_fraction_difference : ℕ → Fraction → Fraction → Result Fraction Place
checked_fraction_difference n x y = checked_fraction_sum n x (negated y)

-- the product
abbrev pub checked_fraction_product : ℕ → ℕ → Fraction → Fraction → Result Fraction Place
checked_fraction_product d n x y = step n (is_fitting_product d x y) (product d x y)

-- the inverse of a fraction that isn't 0
abbrev pub checked_reciprocal : ℕ → ℕ → Fraction → Result Fraction Place
checked_reciprocal d n x = step n (is_fitting_reciprocal d x) (reciprocal d x)
