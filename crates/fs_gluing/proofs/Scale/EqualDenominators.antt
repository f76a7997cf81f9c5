-- Where the common denominator is that of a coordinate: the factor is 1, and it is the common multiple of both.
use Rattle.std.proofs.Common.{◌≡◌, ℕ, pos, ◌*◌, ◌/◌, ◌<◌, ◌^◌, [], ◌∷◌, refl, sym, ap, ◌∙◌, subst, arith}
use Rattle.std.proofs.Math.Nat.{div_self}
use Rattle.std.proofs.lemmas.Int.{ints}
use Rattle.std.proofs.lemmas.Nat.Gcd.{dvd_refl, same_from_IsGcd}
use Rattle.fs_ring.proofs.Integers.{integer_ring}
use Rattle.fs_ring.proofs.Solver.{identity, numeral, ◌⊗◌, ◌≐◌}
use Rattle.fs_quadratic.specs.Ring.{Quadratic}
use Rattle.fs_quadratic.specs.Width.{InWidth}
use Rattle.fs_quadratic.proofs.Laws.{quadratic_eq}
use Rattle.fs_fraction.specs.Divisor.{gcd}
use Rattle.fs_fraction.specs.Fraction.{scale}
use Rattle.fs_fraction.proofs.Divisors.{gcd-is}
use Rattle.fs_gluing.specs.Scaling.{common_multiple}

-- the quotient of equal numbers
pub same_quotient : (m n : ℕ) → m ≡ n → 0 < n → m / n ≡ 1
same_quotient m n e up = ap (λ k. k / n) e ∙ div_self up

once : (x : Quadratic) → x ≡ scale 1 x
once x = quadratic_eq (identity integer_ring (x.p ∷ []) (λ z. z ≐ numeral 1 ⊗ z) refl) (identity integer_ring (x.q ∷ []) (λ z. z ≐ numeral 1 ⊗ z) refl)

-- a number times the quotient of equal numbers is that number
pub scaled_once : (m n : ℕ) (x : Quadratic) → m ≡ n → 0 < n → x ≡ scale (m / n) x
scaled_once m n x e up = once x ∙ ap (λ k. scale k x) (sym (same_quotient m n e up))

multiple_itself : (m : ℕ) → 0 < m → common_multiple m m ≡ m
multiple_itself m up =
    let same : gcd m m ≡ m = same_from_IsGcd m m (gcd m m) m (gcd-is m m) (dvd_refl m, dvd_refl m, λ d h k. h) in
    ap (λ k. m * (m / k)) same ∙ (ap (λ k. m * k) (div_self up) ∙ omega arith)

-- the common multiple of equal numbers of the width is within the width, and is that number
pub multiple_of_same : (m n : ℕ) → m ≡ n → 0 < m → n < 2 ^ 127 → InWidth (pos (common_multiple m n)) × (m ≡ common_multiple m n)
multiple_of_same m n e up within =
    let is : common_multiple m n ≡ m = ap (common_multiple m) (sym e) ∙ multiple_itself m up in
    (subst (λ k. InWidth (pos k)) (sym is) (omega (arith, ints), omega (arith, ints)), sym is)
