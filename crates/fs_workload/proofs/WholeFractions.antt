-- Numbers over 1 are in lowest terms.
use Rattle.std.proofs.Common.{◌≡◌, ℕ, refl, sym, arith}
use Rattle.std.specs.Int.{◌∣◌}
use Rattle.fs_quadratic.specs.Ring.{Quadratic}
use Rattle.fs_fraction.specs.Fraction.{Fraction, IsLowest, HasValue}
use Rattle.fs_fraction.proofs.Divisors.{divisor_positive, divisor_at_most}

divides_one : (k : ℕ) → k ∣ 1 → k ≡ 1
divides_one k h = let low = divisor_positive k 1 h (omega arith) in let high = divisor_at_most k 1 h (omega arith) in omega arith

whole-lowest : (x : Quadratic) → IsLowest x 1
whole-lowest x = record { positive = omega arith; within = omega arith; reduced = λ k p q den. divides_one k den }

-- the only fraction in lowest terms with the value of x over 1
pub whole-given : (x : Quadratic) (given : Fraction) → ((y : Fraction) → IsLowest y.num y.den → HasValue y x 1 → y ≡ given) → given ≡ record { num = x; den = 1 }
whole-given x given only = sym (only (record { num = x; den = 1 }) (whole-lowest x) refl)
