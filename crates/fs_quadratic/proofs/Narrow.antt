-- Products of parts that have 64 bits.
use Rattle.std.proofs.Common.{◌≡◌, ℕ, ◌-◌, ◌^◌, ◌<◌, ℤ, pos, negsuc, ◌*ℤ◌, arith, refl, to_z, of_z, ◌∙◌}
use Rattle.std.proofs.lemmas.Int.{ints}
use Rattle.std.specs.Prelude.{unsigned_abs}
use Rattle.std.specs.Int.{w64}
use Rattle.fs_quadratic.specs.Ring.{Quadratic}
use Rattle.fs_quadratic.specs.Width.{InWidth, MulFits, RationalPartFits, RPartFits}
use Rattle.fs_quadratic.proofs.Bits.{within_of_abs, of_bits, of_bits-is, of_bits-mul}
use Rattle.fs_quadratic.proofs.Small.{abs_mul}

-- the number that the lower 64 bits of a number say
abbrev of_lower_bits : ℤ → ℤ
of_lower_bits z = to_z w64 (of_z w64 (of_bits z))

narrow_within : (z : ℤ) → unsigned_abs z < 2 ^ 63 → InWidth z
narrow_within z h = within_of_abs z (omega arith)

lower_bits : (z : ℤ) → unsigned_abs z < 2 ^ 63 → to_z w64 (of_z w64 z) ≡ z
lower_bits (pos n) h = omega (arith, ints)
lower_bits (negsuc n) h = omega (arith, ints)

of_lower_bits-is : (z : ℤ) → unsigned_abs z < 2 ^ 63 → of_lower_bits z ≡ z
of_lower_bits-is z h = rw (of_bits-is {a = z} refl (narrow_within z h)) (lower_bits z h)

module _ (y z : ℤ) (h : unsigned_abs y < 2 ^ 63) (k : unsigned_abs z < 2 ^ 63) where
  pub narrow_product_fits : InWidth (y *ℤ z)
  narrow_product_fits =
      let size = abs_mul y z (2 ^ 63 - 1) (2 ^ 63 - 1) (omega arith) (omega arith) in
      within_of_abs (y *ℤ z) (omega arith)

  -- the product, computed from the lower 64 bits of both
  pub of_bits-narrow_product : {a b : ℤ} → a ≡ of_lower_bits y → b ≡ of_lower_bits z → of_bits (of_bits a *ℤ of_bits b) ≡ y *ℤ z
  of_bits-narrow_product e f = of_bits-mul
      (of_bits-is (e ∙ of_lower_bits-is y h) (narrow_within y h))
      (of_bits-is (f ∙ of_lower_bits-is z k) (narrow_within z k))
      narrow_product_fits

-- what fits in a product that fits, by its parts
pub parts_fit : (d : ℕ) (x y : Quadratic) → MulFits d x y → RationalPartFits d x y × RPartFits x y
unfolding MulFits
parts_fit d x y h = h
