-- Division by the greatest common divisor gives lowest terms and keeps the value.
use Rattle.std.proofs.Common.{◌≡◌, ◌≢◌, ◌⊎◌, inl, inr, ℕ, ℤ, pos, negsuc, neg_ℤ, ◌*ℤ◌, ◌*◌, ◌/◌, ◌<◌, ◌^◌, zero, suc, [], ◌∷◌, refl, ◌∙◌, ap, subst, arith}
use Rattle.std.proofs.Math.Nat.{mul-div_cancel', div-le_self}
use Rattle.std.proofs.lemmas.Int.{ints}
use Rattle.std.specs.Prelude.{unsigned_abs, int_div}
use Rattle.std.specs.Int.{◌∣◌}
use Rattle.fs_quadratic.specs.Ring.{Quadratic, neg, zero as nil}
use Rattle.fs_quadratic.specs.Width.{InWidth, Fits}
use Rattle.fs_quadratic.proofs.Laws.{quadratic_eq}
use Rattle.fs_ring.proofs.Integers.{integer_ring}
use Rattle.fs_ring.proofs.Solver.{identity, negative, ◌⊗◌, ◌≐◌}
use Rattle.fs_fraction.specs.Divisor.{gcd, content}
use Rattle.fs_fraction.specs.Fraction.{IsLowest, IsReduced, HasValue, reduced}
use Rattle.fs_fraction.proofs.Divisors.{first_multiple, second_multiple, third_multiple, gcd_positive, gcd_at_most, gcd_positive_first, gcd_at_most_first, quotient_positive, quotients_coprime}

size-neg : (n : ℕ) → unsigned_abs (neg_ℤ (pos n)) ≡ n
size-neg zero = refl
size-neg (suc n) = refl

neg-mul : (k m : ℕ) → pos k *ℤ neg_ℤ (pos m) ≡ neg_ℤ (pos (k * m))
neg-mul k m = identity integer_ring (pos k ∷ pos m ∷ []) (λ k m. k ⊗ negative m ≐ negative (k ⊗ m)) refl

-- the size of a quotient
pub size-quotient : (z : ℤ) (k : ℕ) → unsigned_abs (int_div z (pos k)) ≡ unsigned_abs z / k
size-quotient (pos n) k = refl
size-quotient (negsuc n) k = size-neg (suc n / k)

times-neg : (k m n : ℕ) → k * m ≡ suc n → pos k *ℤ neg_ℤ (pos m) ≡ negsuc n
times-neg k m n e = neg-mul k m ∙ ap (λ j. neg_ℤ (pos j)) e

-- a quotient that leaves no remainder, times what was divided by
pub quotient_times : (z : ℤ) (k : ℕ) → k ∣ unsigned_abs z → pos k *ℤ int_div z (pos k) ≡ z
quotient_times (pos n) k h = ap pos (mul-div_cancel' k h)
quotient_times (negsuc n) k h = times-neg k (suc n / k) n (mul-div_cancel' k h)

-- k·q = p and k·e = d give d·q = e·p
cross : (k q p e d : ℤ) → k *ℤ q ≡ p → k *ℤ e ≡ d → d *ℤ q ≡ e *ℤ p
cross k q p e d hp hd =
    subst (λ x. x *ℤ q ≡ e *ℤ p) hd (subst (λ x. (k *ℤ e) *ℤ q ≡ e *ℤ x) hp (identity integer_ring (k ∷ q ∷ e ∷ []) (λ k q e. (k ⊗ e) ⊗ q ≐ e ⊗ (k ⊗ q)) refl))

-- a fraction has the value that it is reduced from
pub reduced-value : (num : Quadratic) (den : ℕ) → HasValue (reduced num den) num den
reduced-value num den =
    let a = unsigned_abs num.p in
    let b = unsigned_abs num.q in
    let g = gcd (content num) den in
    let third : pos g *ℤ pos (den / g) ≡ pos den = ap pos (mul-div_cancel' g (third_multiple a b den)) in
    quadratic_eq
    (cross (pos g) (int_div num.p (pos g)) num.p (pos (den / g)) (pos den) (quotient_times num.p g (first_multiple a b den)) third)
    (cross (pos g) (int_div num.q (pos g)) num.q (pos (den / g)) (pos den) (quotient_times num.q g (second_multiple a b den)) third)

-- their denominator is above 0
pub reduced-positive : (num : Quadratic) (den : ℕ) → 0 < den → 0 < (reduced num den).den
reduced-positive num den up = quotient_positive (gcd (content num) den) den (third_multiple (unsigned_abs num.p) (unsigned_abs num.q) den) up

-- 1 is their only common divisor
pub reduced-coprime : (num : Quadratic) (den : ℕ) → 0 < den → IsReduced (reduced num den).num (reduced num den).den
reduced-coprime num den up k hp hq hd =
    let g = gcd (content num) den in
    quotients_coprime (unsigned_abs num.p) (unsigned_abs num.q) den k up (subst (λ n. k ∣ n) (size-quotient num.p g) hp) (subst (λ n. k ∣ n) (size-quotient num.q g) hq) hd

-- they are in lowest terms
pub reduced-lowest : (num : Quadratic) (den : ℕ) → 0 < den → den < 2 ^ 127 → IsLowest (reduced num den).num (reduced num den).den
reduced-lowest num den up within =
    let smaller = div-le_self den (gcd (content num) den) in
    record {
      positive = reduced-positive num den up;
      within = omega arith;
      reduced = reduced-coprime num den up;
    }

pub size-negated : (z : ℤ) → unsigned_abs (neg_ℤ z) ≡ unsigned_abs z
size-negated (pos n) = size-neg n
size-negated (negsuc n) = refl

-- a number with its signs turned has the same divisors
pub lowest-neg : (num : Quadratic) (den : ℕ) → IsLowest num den → IsLowest (neg num) den
lowest-neg num den l = record {
  positive = l.positive;
  within = l.within;
  reduced = λ k hp hq hd. l.reduced k (subst (λ n. k ∣ n) (size-negated num.p) hp) (subst (λ n. k ∣ n) (size-negated num.q) hq) hd;
}

pub zero_or_positive : (n : ℕ) → (n ≡ 0) ⊎ (0 < n)
zero_or_positive zero = inl refl
zero_or_positive (suc n) = inr (omega arith)

pub zero_size : (z : ℤ) → unsigned_abs z ≡ 0 → z ≡ pos 0
zero_size (pos n) e = ap pos e
zero_size (negsuc n) e = absurd (omega arith)

-- the greatest common divisor of two parts that aren't both 0 is above 0, and within the width
pub content_positive : (x : Quadratic) → x ≢ nil → 0 < content x
content_positive x other =
    elim (zero_or_positive (unsigned_abs x.q)) [
      | inl e ↦ elim (zero_or_positive (unsigned_abs x.p)) [
        | inl f ↦ absurd (other (quadratic_eq (zero_size x.p f) (zero_size x.q e)))
        | inr up ↦ gcd_positive_first (unsigned_abs x.p) (unsigned_abs x.q) up
      ]
      | inr up ↦ gcd_positive (unsigned_abs x.p) (unsigned_abs x.q) up
    ]

pub size_within : (z : ℤ) → InWidth z → unsigned_abs z < 2 ^ 127
size_within (pos n) h = let low = h.0 in let high = h.1 in omega (arith, ints)
size_within (negsuc n) h = let low = h.0 in let high = h.1 in omega (arith, ints)

pub content_within : (x : Quadratic) → Fits x → x ≢ nil → content x < 2 ^ 127
content_within x fits other =
    elim (zero_or_positive (unsigned_abs x.q)) [
      | inl e ↦ elim (zero_or_positive (unsigned_abs x.p)) [
        | inl f ↦ absurd (other (quadratic_eq (zero_size x.p f) (zero_size x.q e)))
        | inr up ↦ let small = gcd_at_most_first (unsigned_abs x.p) (unsigned_abs x.q) up in let below = size_within x.p fits.0 in omega arith
      ]
      | inr up ↦ let small = gcd_at_most (unsigned_abs x.p) (unsigned_abs x.q) up in let below = size_within x.q fits.1 in omega arith
    ]
