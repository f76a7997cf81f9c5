-- Tests whether two bytes are equal.
use Rattle.std.proofs.Common.{◌≡◌, ◌≢◌, ℕ, true, false, eqb, arith}
use Rattle.std.proofs.lemmas.Bool.Decides.{nat_tests}

-- two bytes that differ
pub eqb-false : (b c : ℕ) → b ≢ c → eqb b c ≡ false
eqb-false b c h = grind (arith, nat_tests)

-- a byte and itself
pub eqb-same : (b : ℕ) → eqb b b ≡ true
eqb-same b = grind (arith, nat_tests)
