-- Numbers within the width, and the bits that the code holds them by.
use Rattle.std.proofs.Common.{◌≡◌, ℕ, ◌^◌, ◌<◌, ℤ, pos, negsuc, ◌+ℤ◌, ◌-ℤ◌, ◌*ℤ◌, arith, sym, subst, ◌∙◌, to_z, of_z}
use Rattle.std.proofs.lemmas.Int.{ints, fits_signed_from_abs}
use Rattle.std.specs.Prelude.{unsigned_abs, FitsSigned}
use Rattle.std.specs.Int.{w128}
use Rattle.fs_quadratic.specs.Radicand.{IsRadicand}
use Rattle.fs_quadratic.specs.Width.{InWidth}

pub within_of_abs : (z : ℤ) → unsigned_abs z < 2 ^ 127 → InWidth z
within_of_abs (pos n) h = omega (arith, ints)
within_of_abs (negsuc n) h = omega (arith, ints)

pub abs_of_within : (z : ℤ) → InWidth z → unsigned_abs z < 2 ^ 127
abs_of_within (pos n) h = omega (arith, ints)
abs_of_within (negsuc n) h = omega (arith, ints)

-- the number that the bits of a number say
abbrev pub of_bits : ℤ → ℤ
of_bits z = to_z w128 (of_z w128 z)

pub of_bits-is : {a z : ℤ} → a ≡ z → InWidth z → of_bits a ≡ z
of_bits-is {a} {z} e h = let within = subst InWidth (sym e) h in omega (arith, ints)

mul_eq : {a b y z : ℤ} → a ≡ y → b ≡ z → a *ℤ b ≡ y *ℤ z
mul_eq e f = cc

add_eq : {a b y z : ℤ} → a ≡ y → b ≡ z → a +ℤ b ≡ y +ℤ z
add_eq e f = cc

fits : (a z : ℤ) → a ≡ z → InWidth z → FitsSigned w128 a
fits a z e h = subst (FitsSigned w128) (sym e) (fits_signed_from_abs w128 z (abs_of_within z h))

-- products and sums within the width, of factors and summands that are read from their bits
pub of_bits-mul : {a b y z : ℤ} → a ≡ y → b ≡ z → InWidth (y *ℤ z) → of_bits (a *ℤ b) ≡ y *ℤ z
of_bits-mul e f h = of_bits-is (mul_eq e f) h

-- the same, where a call gave the product of the factors' bits
pub of_bits-product : {r a b y z : ℤ} → r ≡ of_bits a *ℤ of_bits b → a ≡ y → InWidth y → b ≡ z → InWidth z → InWidth (y *ℤ z) → of_bits r ≡ y *ℤ z
of_bits-product e f u g v h = of_bits-is (e ∙ mul_eq (of_bits-is f u) (of_bits-is g v)) h

pub fits-mul : {a b y z : ℤ} → a ≡ y → b ≡ z → InWidth (y *ℤ z) → FitsSigned w128 (a *ℤ b)
fits-mul {a} {b} {y} {z} e f h = fits (a *ℤ b) (y *ℤ z) (mul_eq e f) h

pub of_bits-add : {a b y z : ℤ} → a ≡ y → b ≡ z → InWidth (y +ℤ z) → of_bits (a +ℤ b) ≡ y +ℤ z
of_bits-add e f h = of_bits-is (add_eq e f) h

pub fits-add : {a b y z : ℤ} → a ≡ y → b ≡ z → InWidth (y +ℤ z) → FitsSigned w128 (a +ℤ b)
fits-add {a} {b} {y} {z} e f h = fits (a +ℤ b) (y +ℤ z) (add_eq e f) h

sub_eq : {a b y z : ℤ} → a ≡ y → b ≡ z → a -ℤ b ≡ y -ℤ z
sub_eq e f = cc

pub of_bits-sub : {a b y z : ℤ} → a ≡ y → b ≡ z → InWidth (y -ℤ z) → of_bits (a -ℤ b) ≡ y -ℤ z
of_bits-sub e f h = of_bits-is (sub_eq e f) h

pub within_of_eq : {a z : ℤ} → a ≡ z → InWidth z → InWidth a
within_of_eq e h = subst InWidth (sym e) h

pub within_radicand : {d : ℕ} → IsRadicand d → InWidth (pos d)
within_radicand h = let greatest = h.greatest in omega (arith, ints)
