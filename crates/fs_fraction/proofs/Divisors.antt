-- Euclid's remainders end at the greatest common divisor.
use Rattle.std.proofs.Common.{◌≡◌, ℕ, ◌*◌, ◌/◌, ◌%◌, ◌<◌, ◌≤◌, zero, suc, refl, subst, arith}
use Rattle.std.proofs.Math.Nat.{mod-lt, mul-pos, div-mul_cancel, mul-dvd-mul_right, eq-zero_of_zero-dvd}
use Rattle.std.proofs.lemmas.Nat.Gcd.{IsGcd-from_zero, IsGcd-from_mod, same_from_IsGcd, dvd_trans, le_of_dvd}
use Rattle.std.specs.Int.{IsGcd, ◌∣◌}
use Rattle.fs_fraction.specs.Divisor.{IsGreatestDivisor, gcd_within, gcd}

gcd_within-is : (steps a b : ℕ) → b ≤ steps → IsGcd a b (gcd_within steps a b)
unfolding gcd_within
gcd_within-is zero a b h = IsGcd-from_zero a b (omega arith)
gcd_within-is (suc steps) a zero h = IsGcd-from_zero a zero refl
gcd_within-is (suc steps) a (suc b) h =
    let below : a % suc b < suc b = mod-lt a (omega arith) in
    IsGcd-from_mod a (suc b) (gcd_within steps (suc b) (a % suc b)) (gcd_within-is steps (suc b) (a % suc b) (omega arith))

pub gcd-is : (a b : ℕ) → IsGcd a b (gcd a b)
unfolding gcd
gcd-is a b = gcd_within-is b a b (omega arith)

pub gcd-greatest : (a b : ℕ) → IsGreatestDivisor a b (gcd a b)
gcd-greatest a b = let g = gcd-is a b in record { first = g.0; second = g.1; greatest = g.2 }

-- one step of Euclid's remainders
pub gcd-of_rest : (a b : ℕ) → gcd b (a % b) ≡ gcd a b
gcd-of_rest a b = same_from_IsGcd a b _ _ (IsGcd-from_mod a b (gcd b (a % b)) (gcd-is b (a % b))) (gcd-is a b)

pub gcd-of_zero : (a b : ℕ) → b ≡ 0 → a ≡ gcd a b
gcd-of_zero a b e = same_from_IsGcd a b _ _ (IsGcd-from_zero a b e) (gcd-is a b)

-- ---- the greatest common divisor of three numbers

pub first_multiple : (a b n : ℕ) → gcd (gcd a b) n ∣ a
first_multiple a b n = dvd_trans (gcd (gcd a b) n) ((gcd-is (gcd a b) n).0) ((gcd-is a b).0)

pub second_multiple : (a b n : ℕ) → gcd (gcd a b) n ∣ b
second_multiple a b n = dvd_trans (gcd (gcd a b) n) ((gcd-is (gcd a b) n).0) ((gcd-is a b).1)

pub third_multiple : (a b n : ℕ) → gcd (gcd a b) n ∣ n
third_multiple a b n = (gcd-is (gcd a b) n).1

pub greatest : (a b n k : ℕ) → k ∣ a → k ∣ b → k ∣ n → k ∣ gcd (gcd a b) n
greatest a b n k ha hb hn = (gcd-is (gcd a b) n).2 k ((gcd-is a b).2 k ha hb) hn

-- a divisor of a number above 0 is above 0
pub divisor_positive : (k n : ℕ) → k ∣ n → 0 < n → 0 < k
divisor_positive zero n h p = absurd (let e = eq-zero_of_zero-dvd h in omega arith)
divisor_positive (suc k) n h p = omega arith

pub divisor_at_most : (k n : ℕ) → k ∣ n → 0 < n → k ≤ n
divisor_at_most k n h p = le_of_dvd p h

quotient_above : (q k n : ℕ) → q * k ≡ n → 0 < n → 0 < q
quotient_above zero k n e p = absurd (omega arith)
quotient_above (suc q) k n e p = omega arith

-- the quotient by a divisor of a number above 0 is above 0
pub quotient_positive : (k n : ℕ) → k ∣ n → 0 < n → 0 < n / k
quotient_positive k n h p = quotient_above (n / k) k n (div-mul_cancel k h) p

-- a divisor of a quotient, times what was divided by, divides the number
pub divisor_back : (j k n : ℕ) → k ∣ n → j ∣ n / k → j * k ∣ n
divisor_back j k n h d = subst (λ m. j * k ∣ m) (div-mul_cancel k h) (mul-dvd-mul_right j d k)

one_of_multiple : (j g : ℕ) → j * g ≤ g → 0 < g → 0 < j → j ≡ 1
one_of_multiple zero g h u v = absurd (omega arith)
one_of_multiple (suc zero) g h u v = refl
one_of_multiple (suc (suc j)) g h u v = absurd (let more : 0 ≤ j * g = omega arith in omega arith)

-- the quotients by the greatest common divisor have no common one above 1
pub quotients_coprime : (a b n j : ℕ) → 0 < n → let g = gcd (gcd a b) n in j ∣ a / g → j ∣ b / g → j ∣ n / g → j ≡ 1
quotients_coprime a b n j p ha hb hn =
    let g = gcd (gcd a b) n in
    let third = third_multiple a b n in
    let both : j * g ∣ g = greatest a b n (j * g) (divisor_back j g a (first_multiple a b n) ha) (divisor_back j g b (second_multiple a b n) hb) (divisor_back j g n third hn) in
    let g_up : 0 < g = divisor_positive g n third p in
    let j_up : 0 < j = divisor_positive j (n / g) hn (quotient_positive g n third p) in
    one_of_multiple j g (le_of_dvd g_up both) g_up j_up

-- the same for two numbers
pub pair_coprime : (a n j : ℕ) → 0 < n → j ∣ a / gcd a n → j ∣ n / gcd a n → j ≡ 1
pair_coprime a n j p ha hn =
    let g = gcd a n in
    let is = gcd-is a n in
    let both : j * g ∣ g = is.2 (j * g) (divisor_back j g a is.0 ha) (divisor_back j g n is.1 hn) in
    let g_up : 0 < g = divisor_positive g n is.1 p in
    let j_up : 0 < j = divisor_positive j (n / g) hn (quotient_positive g n is.1 p) in
    one_of_multiple j g (le_of_dvd g_up both) g_up j_up

-- ---- the greatest common divisor of two numbers, of which the second is above 0

pub gcd_positive : (a b : ℕ) → 0 < b → 0 < gcd a b
gcd_positive a b up = divisor_positive (gcd a b) b ((gcd-is a b).1) up

pub gcd_at_most : (a b : ℕ) → 0 < b → gcd a b ≤ b
gcd_at_most a b up = divisor_at_most (gcd a b) b ((gcd-is a b).1) up

-- the same, where the first is above 0
pub gcd_positive_first : (a b : ℕ) → 0 < a → 0 < gcd a b
gcd_positive_first a b up = divisor_positive (gcd a b) a ((gcd-is a b).0) up

pub gcd_at_most_first : (a b : ℕ) → 0 < a → gcd a b ≤ a
gcd_at_most_first a b up = divisor_at_most (gcd a b) a ((gcd-is a b).0) up

-- the least common multiple is above 0
pub multiple_positive : (a b : ℕ) → 0 < a → 0 < b → 0 < a * (b / gcd a b)
multiple_positive a b left right = mul-pos left (quotient_positive (gcd a b) b ((gcd-is a b).1) right)
