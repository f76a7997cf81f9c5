-- Numbers with small parts have products within the width.
use Rattle.std.proofs.Common.{ℕ, ◌+◌, ◌-◌, ◌*◌, ◌^◌, ◌<◌, ◌≤◌, ℤ, pos, negsuc, ◌+ℤ◌, ◌-ℤ◌, ◌*ℤ◌, arith, sym, subst}
use Rattle.std.proofs.lemmas.Int.{ints, unsigned_abs-mul}
use Rattle.std.proofs.Math.Nat.{mul-le-mul}
use Rattle.std.specs.Prelude.{unsigned_abs}
use Rattle.fs_quadratic.specs.declared.radicand.Field.{Field}
use Rattle.fs_quadratic.specs.Ring.{Quadratic, rational_part, r_part, add, sub, mul}
use Rattle.fs_quadratic.specs.Width.{InWidth, Fits, MulFits, IsSmall, IsNarrow}
use Rattle.fs_quadratic.proofs.Bits.{within_of_abs}

-- a sum is at most as great in size as both numbers together
pub abs_add : (y z : ℤ) → unsigned_abs (y +ℤ z) ≤ unsigned_abs y + unsigned_abs z
abs_add (pos m) (pos n) = omega (arith, ints)
abs_add (pos m) (negsuc n) = omega (arith, ints)
abs_add (negsuc m) (pos n) = omega (arith, ints)
abs_add (negsuc m) (negsuc n) = omega (arith, ints)

-- the size of a product
pub abs_mul : (y z : ℤ) (m n : ℕ) → unsigned_abs y ≤ m → unsigned_abs z ≤ n → unsigned_abs (y *ℤ z) ≤ m * n
abs_mul y z m n h k = subst (λ v. v ≤ m * n) (sym (unsigned_abs-mul y z)) (mul-le-mul h k)

below : (m n : ℕ) → m ≤ n → n < 2 ^ 127 → m < 2 ^ 127
below m n h k = omega arith

within : (z : ℤ) (m : ℕ) → unsigned_abs z ≤ m → m < 2 ^ 127 → InWidth z
within z m h k = within_of_abs z (below (unsigned_abs z) m h k)

-- the greatest product of two small parts
abbrev greatest : ℕ
greatest = (2 ^ 58 - 1) * (2 ^ 58 - 1)

product_small : (y z : ℤ) → unsigned_abs y < 2 ^ 58 → unsigned_abs z < 2 ^ 58 → unsigned_abs (y *ℤ z) ≤ greatest
product_small y z h k = abs_mul y z (2 ^ 58 - 1) (2 ^ 58 - 1) (omega arith) (omega arith)

multiple_small : (d : ℕ) (z : ℤ) → d ≤ 999 → unsigned_abs z ≤ greatest → unsigned_abs (pos d *ℤ z) ≤ 999 * greatest
multiple_small d z h k = abs_mul (pos d) z 999 greatest h k

sum_small : (y z : ℤ) (m n : ℕ) → unsigned_abs y ≤ m → unsigned_abs z ≤ n → unsigned_abs (y +ℤ z) ≤ m + n
sum_small y z m n h k = let s = abs_add y z in omega arith

-- no number of the product of two small numbers overflows
pub small_fits : (d : ℕ) (x y : Quadratic) → d ≤ 999 → IsSmall x → IsSmall y → MulFits d x y
unfolding MulFits
small_fits d x y h s t =
    let pp = product_small x.p y.p s.0 t.0 in
    let qq = product_small x.q y.q s.1 t.1 in
    let pq = product_small x.p y.q s.0 t.1 in
    let qp = product_small x.q y.p s.1 t.0 in
    let dqq = multiple_small d (x.q *ℤ y.q) h qq in (
      (
        within (x.p *ℤ y.p) greatest pp (omega arith),
        (within (x.q *ℤ y.q) greatest qq (omega arith), within (pos d *ℤ (x.q *ℤ y.q)) (999 * greatest) dqq (omega arith)),
        within (rational_part d x y) (greatest + 999 * greatest) (sum_small (x.p *ℤ y.p) (pos d *ℤ (x.q *ℤ y.q)) greatest (999 * greatest) pp dqq) (omega arith),
      ),
      (
        within (x.p *ℤ y.q) greatest pq (omega arith),
        within (x.q *ℤ y.p) greatest qp (omega arith),
        within (r_part x y) (greatest + greatest) (sum_small (x.p *ℤ y.q) (x.q *ℤ y.p) greatest greatest pq qp) (omega arith),
      ),
    )

-- a small number is narrow
pub narrow_of_small : (x : Quadratic) → IsSmall x → IsNarrow x
narrow_of_small x s = (omega arith, omega arith)

-- ---- the sum and the difference of two products of small numbers fit

-- the greatest part of a product of two small numbers
abbrev greatest_part : ℕ
greatest_part = greatest + 999 * greatest

module _ (d : ℕ) (x y : Quadratic) (h : d ≤ 999) (s : IsSmall x) (t : IsSmall y) where
  part_p : unsigned_abs (mul d x y).p ≤ greatest_part
  unfolding mul
  part_p =
      sum_small (x.p *ℤ y.p) (pos d *ℤ (x.q *ℤ y.q)) greatest (999 * greatest) (product_small x.p y.p s.0 t.0)
      (multiple_small d (x.q *ℤ y.q) h (product_small x.q y.q s.1 t.1))

  part_q : unsigned_abs (mul d x y).q ≤ greatest_part
  unfolding mul
  part_q = let sum = sum_small (x.p *ℤ y.q) (x.q *ℤ y.p) greatest greatest (product_small x.p y.q s.0 t.1) (product_small x.q y.p s.1 t.0) in omega arith

pub abs_sub : (y z : ℤ) → unsigned_abs (y -ℤ z) ≤ unsigned_abs y + unsigned_abs z
abs_sub (pos m) (pos n) = omega (arith, ints)
abs_sub (pos m) (negsuc n) = omega (arith, ints)
abs_sub (negsuc m) (pos n) = omega (arith, ints)
abs_sub (negsuc m) (negsuc n) = omega (arith, ints)

sum_within : (y z : ℤ) → unsigned_abs y ≤ greatest_part → unsigned_abs z ≤ greatest_part → InWidth (y +ℤ z)
sum_within y z m n = within (y +ℤ z) (greatest_part + greatest_part) (sum_small y z greatest_part greatest_part m n) (omega arith)

difference_within : (y z : ℤ) → unsigned_abs y ≤ greatest_part → unsigned_abs z ≤ greatest_part → InWidth (y -ℤ z)
difference_within y z m n = let s = abs_sub y z in within (y -ℤ z) (greatest_part + greatest_part) (omega arith) (omega arith)

module _ (field : Field) (w x y z : Quadratic) (f : IsSmall w) (g : IsSmall x) (h : IsSmall y) (k : IsSmall z) where
  pub small_sum_fits : Fits (add (mul field.d w x) (mul field.d y z))
  small_sum_fits = (
    sum_within (mul field.d w x).p (mul field.d y z).p (part_p field.d w x field.radicand.greatest f g) (part_p field.d y z field.radicand.greatest h k),
    sum_within (mul field.d w x).q (mul field.d y z).q (part_q field.d w x field.radicand.greatest f g) (part_q field.d y z field.radicand.greatest h k),
  )

  pub small_difference_fits : Fits (sub (mul field.d w x) (mul field.d y z))
  small_difference_fits = (
    difference_within (mul field.d w x).p (mul field.d y z).p (part_p field.d w x field.radicand.greatest f g) (part_p field.d y z field.radicand.greatest h k),
    difference_within (mul field.d w x).q (mul field.d y z).q (part_q field.d w x field.radicand.greatest f g) (part_q field.d y z field.radicand.greatest h k),
  )
