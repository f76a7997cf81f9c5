-- A positive number is read back from its bits. A library for crates to come.
use Rattle.std.proofs.Common.{◌≡◌, ℤ, pos, negsuc, to_z, of_z, ◌<◌, ◌^◌, ◌<ℤ◌, arith}
use Rattle.std.specs.Prelude.{unsigned_abs}
use Rattle.std.specs.Int.{w128}
use Rattle.std.specs.Int.Signed.{mag}
use Rattle.std.proofs.lemmas.Int.{ints, to_z-of_z, fits_signed_from_abs}

-- the size of a number above 0 that a signed integer of 128 bits holds
pub size_within : (z : ℤ) → pos 0 <ℤ z → mag z < 2 ^ 127 → unsigned_abs z < 2 ^ 127
size_within (pos n) up fits = fits
size_within (negsuc n) up fits = absurd (omega (arith, ints))

-- such a number is read back from its bits
pub read_back : (z : ℤ) → pos 0 <ℤ z → mag z < 2 ^ 127 → to_z w128 (of_z w128 z) ≡ z
read_back z up fits = to_z-of_z w128 z (fits_signed_from_abs w128 z (size_within z up fits))
