-- Decimal digits, and the numbers that lists of them spell.
use Rattle.std.proofs.Common.{◌≡◌, ℕ, ◌-◌, ◌^◌, ◌<◌, ◌≤◌, List, [], ◌∷◌, length, take, get_or, zero, suc, arith}
use Rattle.std.proofs.Math.Nat.{pow-le-pow_right}
use Rattle.std.proofs.lemmas.List.{length-take-le}
use Rattle.std.proofs.lemmas.Int.Digits.{digits_value-lt}
use Rattle.std.proofs.lemmas.Bool.Decides.{nat_tests}
use Rattle.std.specs.Char.{digit_value, IsNotAsciiDigit}
use Rattle.std.specs.Int.{IsInRange}
use Rattle.std.specs.Str.Parse.{AllDigits, digits_value}

-- each byte of a list of digits is one
pub digit_at : (text : List ℕ) (i : ℕ) → AllDigits 10 text → i < length text → digit_value (get_or text i 0) < 10
digit_at [] i all h = absurd (omega arith)
digit_at (c ∷ cs) zero all h = all.0
digit_at (c ∷ cs) (suc i) all h = digit_at cs i all.1 (omega arith)

-- the digits are the bytes from 48 to 57, and their values count from 48
pub digit_in_range : (c : ℕ) → digit_value c < 10 → IsInRange 48 57 c
digit_in_range c h = grind (arith, nat_tests)

pub digit_value_is : (c : ℕ) → IsInRange 48 57 c → digit_value c ≡ c - 48
digit_value_is c h = grind (arith, nat_tests)

-- a byte that the test calls no digit is none
pub no_digit : (c : ℕ) → IsNotAsciiDigit c → digit_value c < 10 → ⊥
no_digit c out digit = let range = digit_in_range c digit in grind arith

-- few digits spell a small number
pub digits_value_below : (text : List ℕ) (most : ℕ) → AllDigits 10 text → length text ≤ most → digits_value 10 text < 10 ^ most
digits_value_below text most all few =
    let below = digits_value-lt 10 text all in
    let grows : 10 ^ length text ≤ 10 ^ most = pow-le-pow_right {n = 10} (omega arith) {i = length text} {j = most} few in
    omega arith

-- so do those before one of them
pub prefix_value_below : (text : List ℕ) (i most : ℕ) → AllDigits 10 (take i text) → i < length text → length text ≤ suc most → digits_value 10 (take i text) < 10 ^ most
prefix_value_below text i most all h few =
    let long : length (take i text) ≡ i = length-take-le i text (omega arith) in
    digits_value_below (take i text) most all (omega arith)
