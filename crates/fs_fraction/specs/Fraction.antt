-- Fractions: a number p + q·√d over a natural number above 0.
use Rattle.std.specs.Prelude.{◌≡◌, ℕ, ◌<◌, ◌*◌, ◌/◌, ◌^◌, pos, ◌*ℤ◌, unsigned_abs}
use Rattle.std.specs.Int.{◌∣◌}
use Rattle.fs_quadratic.specs.Ring.{Quadratic, one, add, sub, mul}
use Rattle.fs_fraction.specs.Divisor.{gcd, content, divide}

pub record Fraction : Type 0 where
  pub num : Quadratic
  pub den : ℕ

-- k times x
abbrev pub scale : ℕ → Quadratic → Quadratic
scale k x = record { p = pos k *ℤ x.p; q = pos k *ℤ x.q }

-- 1 is the only common divisor of the three numbers
abbrev pub IsReduced : Quadratic → ℕ → Type 0
IsReduced num den = (k : ℕ) → k ∣ unsigned_abs num.p → k ∣ unsigned_abs num.q → k ∣ den → k ≡ 1

-- in lowest terms, over a number above 0
pub record IsLowest (num : Quadratic) (den : ℕ) : Type 0 where
  pub positive : 0 < den
  pub within : den < 2 ^ 127
  pub reduced : IsReduced num den

-- the three numbers divided by their greatest common divisor
abbrev pub reduced : Quadratic → ℕ → Fraction
reduced num den =
    record { num = divide num (gcd (content num) den); den = den / gcd (content num) den }

-- the value of the fraction is num over den: multiplied across they are equal
abbrev pub HasValue : Fraction → Quadratic → ℕ → Type 0
HasValue x num den = scale den x.num ≡ scale x.den num

-- ---- the values of sums, differences and products, multiplied across

-- z is the sum of x and y
abbrev pub HasSum : Fraction → Fraction → Fraction → Type 0
HasSum x y z = HasValue z (add (scale y.den x.num) (scale x.den y.num)) (x.den * y.den)

-- z is x less y
abbrev pub HasDifference : Fraction → Fraction → Fraction → Type 0
HasDifference x y z = HasValue z (sub (scale y.den x.num) (scale x.den y.num)) (x.den * y.den)

-- z is the product of x and y
abbrev pub HasProduct : ℕ → Fraction → Fraction → Fraction → Type 0
HasProduct d x y z = HasValue z (mul d x.num y.num) (x.den * y.den)

-- 1
abbrev pub one_fraction : Fraction
one_fraction = record { num = one; den = 1 }
