-- Greatest common divisors.
use Rattle.std.specs.Prelude.{ℕ, zero, suc, ◌%◌, pos, unsigned_abs, int_div}
use Rattle.std.specs.Int.{◌∣◌}
use Rattle.fs_quadratic.specs.Ring.{Quadratic}

-- g divides both numbers, and each common divisor divides g
pub record IsGreatestDivisor (a b g : ℕ) : Type 0 where
  pub first : g ∣ a
  pub second : g ∣ b
  pub greatest : (k : ℕ) → k ∣ a → k ∣ b → k ∣ g

-- Euclid's remainders, at most so many
unfoldable pub gcd_within : ℕ → ℕ → ℕ → ℕ
gcd_within zero a b = a
gcd_within (suc steps) a zero = a
gcd_within (suc steps) a (suc b) = gcd_within steps (suc b) (a % suc b)

-- the greatest common divisor: each remainder is smaller, so b of them are enough
unfoldable pub gcd : ℕ → ℕ → ℕ
gcd a b = gcd_within b a b

-- the greatest common divisor of both parts
abbrev pub content : Quadratic → ℕ
content x = gcd (unsigned_abs x.p) (unsigned_abs x.q)

-- both parts divided by k, which divides them
abbrev pub divide : Quadratic → ℕ → Quadratic
divide x k = record { p = int_div x.p (pos k); q = int_div x.q (pos k) }
