-- How large the parts of sums, differences and products are: bounds for the paths without checks. A library for crates to come.
use Rattle.std.proofs.Common.{ℕ, ◌+◌, ◌*◌, ◌^◌, ◌<◌, ◌≤◌, ◌-◌, ℤ, pos, ◌+ℤ◌, ◌-ℤ◌, ◌*ℤ◌, arith}
use Rattle.std.specs.Prelude.{unsigned_abs}
use Rattle.fs_quadratic.specs.Ring.{Quadratic, add, sub, mul, rational_part, r_part}
use Rattle.fs_quadratic.specs.Width.{InWidth, Fits, MulFits, IsNarrow, IsTiny}
use Rattle.fs_quadratic.proofs.Bits.{within_of_abs}
use Rattle.fs_quadratic.proofs.Small.{abs_add, abs_sub, abs_mul}

-- the parts of x are at most m and n in size
pub record IsWithin (m n : ℕ) (x : Quadratic) : Type 0 where
  pub p_size : unsigned_abs x.p ≤ m
  pub q_size : unsigned_abs x.q ≤ n

sum_size : (y z : ℤ) (m n : ℕ) → unsigned_abs y ≤ m → unsigned_abs z ≤ n → unsigned_abs (y +ℤ z) ≤ m + n
sum_size y z m n h k = let s = abs_add y z in omega arith

difference_size : (y z : ℤ) (m n : ℕ) → unsigned_abs y ≤ m → unsigned_abs z ≤ n → unsigned_abs (y -ℤ z) ≤ m + n
difference_size y z m n h k = let s = abs_sub y z in omega arith

pub within_add : {m n k l : ℕ} {x y : Quadratic} → IsWithin m n x → IsWithin k l y → IsWithin (m + k) (n + l) (add x y)
within_add {m} {n} {k} {l} {x} {y} h i = record { p_size = sum_size x.p y.p m k h.p_size i.p_size; q_size = sum_size x.q y.q n l h.q_size i.q_size }

pub within_sub : {m n k l : ℕ} {x y : Quadratic} → IsWithin m n x → IsWithin k l y → IsWithin (m + k) (n + l) (sub x y)
within_sub {m} {n} {k} {l} {x} {y} h i = record { p_size = difference_size x.p y.p m k h.p_size i.p_size; q_size = difference_size x.q y.q n l h.q_size i.q_size }

-- the greatest rational part and the greatest r part of a product, from the greatest parts of its factors
abbrev pub greatest_rational : ℕ → ℕ → ℕ → ℕ → ℕ
greatest_rational m n k l = m * k + 999 * (n * l)

abbrev pub greatest_r : ℕ → ℕ → ℕ → ℕ → ℕ
greatest_r m n k l = m * l + n * k

module _ {m n k l : ℕ} (d : ℕ) (most : d ≤ 999) {x y : Quadratic} (h : IsWithin m n x) (i : IsWithin k l y) where
  pp : unsigned_abs (x.p *ℤ y.p) ≤ m * k
  pp = abs_mul x.p y.p m k h.p_size i.p_size

  qq : unsigned_abs (x.q *ℤ y.q) ≤ n * l
  qq = abs_mul x.q y.q n l h.q_size i.q_size

  dqq : unsigned_abs (pos d *ℤ (x.q *ℤ y.q)) ≤ 999 * (n * l)
  dqq = abs_mul (pos d) (x.q *ℤ y.q) 999 (n * l) most qq

  pq : unsigned_abs (x.p *ℤ y.q) ≤ m * l
  pq = abs_mul x.p y.q m l h.p_size i.q_size

  qp : unsigned_abs (x.q *ℤ y.p) ≤ n * k
  qp = abs_mul x.q y.p n k h.q_size i.p_size

  rational_size : unsigned_abs (rational_part d x y) ≤ greatest_rational m n k l
  rational_size = sum_size (x.p *ℤ y.p) (pos d *ℤ (x.q *ℤ y.q)) (m * k) (999 * (n * l)) pp dqq

  r_size : unsigned_abs (r_part x y) ≤ greatest_r m n k l
  r_size = sum_size (x.p *ℤ y.q) (x.q *ℤ y.p) (m * l) (n * k) pq qp

  pub within_mul : IsWithin (greatest_rational m n k l) (greatest_r m n k l) (mul d x y)
  unfolding mul
  within_mul = record { p_size = rational_size; q_size = r_size }

  -- a product fits where those do
  pub mul_fits : greatest_rational m n k l < 2 ^ 127 → greatest_r m n k l < 2 ^ 127 → MulFits d x y
  unfolding MulFits
  mul_fits rational r = (
    (
      inside (x.p *ℤ y.p) (m * k) pp (omega arith),
      (inside (x.q *ℤ y.q) (n * l) qq (omega arith), inside (pos d *ℤ (x.q *ℤ y.q)) (999 * (n * l)) dqq (omega arith)),
      inside (rational_part d x y) (greatest_rational m n k l) rational_size rational,
    ),
    (
      inside (x.p *ℤ y.q) (m * l) pq (omega arith),
      inside (x.q *ℤ y.p) (n * k) qp (omega arith),
      inside (r_part x y) (greatest_r m n k l) r_size r,
    ),
  )
    where
      inside : (z : ℤ) (b : ℕ) → unsigned_abs z ≤ b → b < 2 ^ 127 → InWidth z
      inside z b s t = within_of_abs z (omega arith)

pub within_fits : {m n : ℕ} {x : Quadratic} → IsWithin m n x → m < 2 ^ 127 → n < 2 ^ 127 → Fits x
within_fits {m} {n} {x} h s t = (within_of_abs x.p (let size = h.p_size in omega arith), within_of_abs x.q (let size = h.q_size in omega arith))

pub within_narrow : {m n : ℕ} {x : Quadratic} → IsWithin m n x → m < 2 ^ 63 → n < 2 ^ 63 → IsNarrow x
within_narrow {m} {n} {x} h s t = ((let size = h.p_size in omega arith), (let size = h.q_size in omega arith))

pub within_tiny : {x : Quadratic} → IsTiny x → IsWithin (2 ^ 26 - 1) (2 ^ 26 - 1) x
within_tiny t = record { p_size = omega arith; q_size = omega arith }
