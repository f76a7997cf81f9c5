-- 1 over a number is in lowest terms.
use Rattle.std.proofs.Common.{◌≡◌, ℕ, ℤ, ◌<◌, ◌^◌, sym, ap, ◌∙◌, arith}
use Rattle.std.specs.Prelude.{pos, ◌<ℤ◌, unsigned_abs}
use Rattle.std.specs.Int.{◌∣◌}
use Rattle.std.proofs.lemmas.Int.{ints}
use Rattle.fs_quadratic.specs.Ring.{Quadratic}
use Rattle.fs_quadratic.specs.Ring as ring
use Rattle.fs_fraction.specs.Fraction.{Fraction, IsLowest, HasValue, scale}
use Rattle.fs_components.specs.Measures.{one_over}
use Rattle.fs_fraction.proofs.Divisors.{divisor_positive, divisor_at_most}

divides_one : (k : ℕ) → k ∣ 1 → k ≡ 1
divides_one k h = let low = divisor_positive k 1 h (omega arith) in let high = divisor_at_most k 1 h (omega arith) in omega arith

positive_size : (z : ℤ) → pos 0 <ℤ z → 0 < unsigned_abs z
positive_size z h = omega (arith, ints)

one_over-lowest : (den : ℕ) → 0 < den → den < 2 ^ 127 → IsLowest ring.one den
one_over-lowest den some within = record { positive = some; within = within; reduced = λ k p q den. divides_one k p }

-- the only fraction in lowest terms with the value of 1 over a denominator
pub one_over-given : (den z : ℤ) (num : Quadratic) (x : Fraction) → z ≡ den → pos 0 <ℤ den → unsigned_abs den < 2 ^ 127 → num ≡ ring.one → ((y : Fraction) → IsLowest y.num y.den → HasValue y num (unsigned_abs z) → y ≡ x)
    → one_over (unsigned_abs den) ≡ x
one_over-given den z num x same some within is only =
    only (one_over (unsigned_abs den)) (one_over-lowest (unsigned_abs den) (positive_size den some) within)
    ((λ i. scale (unsigned_abs (same i)) ring.one) ∙ ap (scale (unsigned_abs den)) (sym is))
