-- Sums, products and inverses of fractions, and the numbers by which they are computed.
use Rattle.std.specs.Prelude.{Bool, ◌&&◌, ℕ, ℤ, pos, negsuc, neg_ℤ, ◌*◌, ◌/◌, ◌-ℤ◌, ◌*ℤ◌, unsigned_abs}
use Rattle.fs_quadratic.specs.Ring.{Quadratic, add, neg, mul}
use Rattle.fs_quadratic.specs.Width.{InWidth, Fits, MultipleFits, MulFits, is_in_width, is_fitting, is_fitting_multiple, is_fitting_mul}
use Rattle.fs_fraction.specs.Divisor.{gcd, content, divide}
use Rattle.fs_fraction.specs.Fraction.{Fraction, scale, reduced}

-- the negation
abbrev pub negated : Fraction → Fraction
negated x = record { num = neg x.num; den = x.den }

-- ---- sums

-- the least common multiple of the denominators
abbrev pub common_den : Fraction → Fraction → ℕ
common_den x y = x.den * (y.den / gcd x.den y.den)

-- the numerator of x over it
abbrev pub left_num : Fraction → Fraction → Quadratic
left_num x y = scale (y.den / gcd x.den y.den) x.num

-- the numerator of y over it
abbrev pub right_num : Fraction → Fraction → Quadratic
right_num x y = scale (x.den / gcd x.den y.den) y.num

-- the sum
abbrev pub sum : Fraction → Fraction → Fraction
sum x y = reduced (add (left_num x y) (right_num x y)) (common_den x y)

-- the numbers by which it is computed are within the width
abbrev pub SumFits : Fraction → Fraction → Type 0
SumFits x y = InWidth (pos (common_den x y)) × Fits (left_num x y) × Fits (right_num x y) × Fits (add (left_num x y) (right_num x y))

-- ---- products

-- the greatest common divisor of the numerator of x and the denominator of y
abbrev pub shared : Fraction → Fraction → ℕ
shared x y = gcd (content x.num) y.den

-- the numerator of x divided by it
abbrev pub rest_num : Fraction → Fraction → Quadratic
rest_num x y = divide x.num (shared x y)

-- the product of the denominators, each divided by its own
abbrev pub rest_den : Fraction → Fraction → ℕ
rest_den x y = (x.den / shared y x) * (y.den / shared x y)

-- the product
abbrev pub product : ℕ → Fraction → Fraction → Fraction
product d x y = reduced (mul d (rest_num x y) (rest_num y x)) (rest_den x y)

-- the numbers by which it is computed are within the width
abbrev pub ProductFits : ℕ → Fraction → Fraction → Type 0
ProductFits d x y = MulFits d (rest_num x y) (rest_num y x) × InWidth (pos (rest_den x y))

-- ---- inverses

-- p - q·√d
abbrev pub conjugate : Quadratic → Quadratic
conjugate x = record { p = x.p; q = neg_ℤ x.q }

-- p² - d·q², the product of p + q·√d and p - q·√d
abbrev pub norm : ℕ → Quadratic → ℤ
norm d x = x.p *ℤ x.p -ℤ pos d *ℤ (x.q *ℤ x.q)

-- the numbers by which the norm is computed are within the width
abbrev pub NormFits : ℕ → Quadratic → Type 0
NormFits d x = InWidth (x.p *ℤ x.p) × MultipleFits d x.q x.q × InWidth (norm d x)

-- x, or its negation where the number before it is below 0
abbrev pub with_sign : ℤ → Quadratic → Quadratic
with_sign (pos n) x = x
with_sign (negsuc n) x = neg x

-- both parts divided by their greatest common divisor
abbrev pub primitive : Quadratic → Quadratic
primitive x = divide x (content x)

-- the greatest common divisor of the denominator and both parts of the numerator
abbrev pub inner : Fraction → ℕ
inner x = gcd x.den (content x.num)

-- the numerator of the inverse, its conjugate and sign aside
abbrev pub inverse_num : Fraction → Quadratic
inverse_num x = scale (x.den / inner x) (primitive x.num)

-- the denominator of the inverse
abbrev pub inverse_den : ℕ → Fraction → ℕ
inverse_den d x = (content x.num / inner x) * unsigned_abs (norm d (primitive x.num))

-- one over x
abbrev pub reciprocal : ℕ → Fraction → Fraction
reciprocal d x = reduced (with_sign (norm d (primitive x.num)) (conjugate (inverse_num x))) (inverse_den d x)

-- the numbers by which it is computed are within the width
abbrev pub ReciprocalFits : ℕ → Fraction → Type 0
ReciprocalFits d x = NormFits d (primitive x.num) × Fits (inverse_num x) × InWidth (pos (inverse_den d x))

-- ---- quotients

-- x times one over y
abbrev pub quotient : ℕ → Fraction → Fraction → Fraction
quotient d x y = product d x (reciprocal d y)

-- the numbers by which both are computed are within the width
abbrev pub QuotientFits : ℕ → Fraction → Fraction → Type 0
QuotientFits d x y = ReciprocalFits d y × ProductFits d x (reciprocal d y)

-- ---- the same conditions as tests that compute

-- the numbers of the sum are within the width
abbrev pub is_fitting_sum : Fraction → Fraction → Bool
is_fitting_sum x y = is_in_width (pos (common_den x y)) && is_fitting (left_num x y) && is_fitting (right_num x y) && is_fitting (add (left_num x y) (right_num x y))

-- those of the product are
abbrev pub is_fitting_product : ℕ → Fraction → Fraction → Bool
is_fitting_product d x y = is_fitting_mul d (rest_num x y) (rest_num y x) && is_in_width (pos (rest_den x y))

-- those of the norm are
abbrev pub is_fitting_norm : ℕ → Quadratic → Bool
is_fitting_norm d x = is_in_width (x.p *ℤ x.p) && is_fitting_multiple d x.q x.q && is_in_width (norm d x)

-- those of the inverse are
abbrev pub is_fitting_reciprocal : ℕ → Fraction → Bool
is_fitting_reciprocal d x = is_fitting_norm d (primitive x.num) && is_fitting (inverse_num x) && is_in_width (pos (inverse_den d x))
