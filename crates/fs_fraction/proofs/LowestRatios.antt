-- Ratios in lowest terms, and the numbers that are made of them.
use Rattle.std.proofs.Common.{◌≡◌, ℕ, zero, suc, List, Option, Some, None, ℤ, Bool, true, false, pos, negsuc, ◌*ℤ◌, ◌*◌, ◌/◌, ◌<◌, ◌≤◌, ◌^◌, [], ◌∷◌, refl, sym, ◌∙◌, ap, subst, arith}
use Rattle.std.proofs.Math.Nat.{mul-div_cancel', div-le_self, mul-pos}
use Rattle.std.proofs.lemmas.Nat.{mul-lt}
use Rattle.std.proofs.lemmas.Nat.Gcd.{le_of_dvd}
use Rattle.std.specs.Prelude.{unsigned_abs}
use Rattle.std.specs.Int.{◌∣◌}
use Rattle.std.specs.List.{AllByRecursion}
use Rattle.std.specs.Str.Parse.{digits_value}
use Rattle.fs_lists.proofs.All.{All-append}
use Rattle.fs_ring.proofs.Integers.{integer_ring}
use Rattle.fs_ring.proofs.Solver.{identity, numeral, negative, ◌⊗◌, ◌≐◌}
use Rattle.fs_quadratic.proofs.Laws.{quadratic_eq}
use Rattle.fs_fraction.specs.Divisor.{gcd}
use Rattle.fs_fraction.specs.Fraction.{Fraction, IsLowest, HasValue}
use Rattle.fs_fraction.specs.Number.{Ratio, Rational, Root, Both, IsDefined, value, signed, over_value, under_value, under_runs}
use Rattle.fs_fraction.specs.Parts.{IsDefinedRatio, IsLowestRatio}
use Rattle.fs_fraction.proofs.Divisors.{gcd-is, divisor_positive, quotient_positive, pair_coprime}
use Rattle.fs_fraction.proofs.Lowest.{size-negated}
use Rattle.fs_fraction.proofs.Values.{gcd-scale, reduced-unique}

exchange : (g a b : ℕ) → (g * a) * b ≡ (g * b) * a
exchange g a b = omega arith

turned : (a b : ℕ) → a * b ≡ b * a
turned a b = omega arith

-- ---- one ratio

-- a ratio and the quotients of its numbers by their greatest common divisor are equal, multiplied across
pub reduced-across : (k l : ℕ) → k * (l / gcd k l) ≡ l * (k / gcd k l)
reduced-across k l =
    let g = gcd k l in
    let first : g * (k / g) ≡ k = mul-div_cancel' g ((gcd-is k l).0) in
    let second : g * (l / g) ≡ l = mul-div_cancel' g ((gcd-is k l).1) in
    ap (λ n. n * (l / g)) (sym first) ∙ (exchange g (k / g) (l / g) ∙ ap (λ n. n * (k / g)) second)

-- those quotients are in lowest terms
pub reduced-ratio : (k l : ℕ) → 0 < l → k < 10 ^ 18 → l < 10 ^ 18 → IsLowestRatio (k / gcd k l) (l / gcd k l)
reduced-ratio k l up hk hl =
    let a = div-le_self k (gcd k l) in
    let b = div-le_self l (gcd k l) in
    record {
      positive = quotient_positive (gcd k l) l ((gcd-is k l).1) up;
      coprime = λ j. pair_coprime k l j up;
      over_below = omega arith;
      under_below = omega arith;
    }

one_alone : (k : ℕ) → k ∣ 1 → k ≡ 1
one_alone k h =
    let few : k ≤ 1 = le_of_dvd (omega arith) h in
    let some : 0 < k = divisor_positive k 1 h (omega arith) in
    omega arith

-- over 1 each number is
pub whole-ratio : (k : ℕ) → k < 10 ^ 18 → IsLowestRatio k 1
whole-ratio k h = record {
  positive = omega arith;
  coprime = λ j hk h1. one_alone j h1;
  over_below = h;
  under_below = omega arith;
}

-- ---- fractions of one and of two ratios are in lowest terms

size-signed : (minus : Bool) (n : ℕ) → unsigned_abs (signed minus n) ≡ n
size-signed true n = size-negated (pos n)
size-signed false n = refl

divides_signed : (minus : Bool) (n k : ℕ) → k ∣ unsigned_abs (signed minus n) → k ∣ n
divides_signed minus n k h = subst (λ j. k ∣ j) (size-signed minus n) h

-- a fraction with one part over its denominator is, where the ratio is
pub rational-lowest : (minus : Bool) (a b : ℕ) → IsLowestRatio a b → IsLowest (record { p = signed minus a; q = pos 0 }) b
rational-lowest minus a b l =
    let below = l.under_below in
    record {
      positive = l.positive;
      within = omega arith;
      reduced = λ k hp hq hd. l.coprime k (divides_signed minus a k hp) hd;
    }

-- the same for an r part
pub root-lowest : (minus : Bool) (a b : ℕ) → IsLowestRatio a b → IsLowest (record { p = pos 0; q = signed minus a }) b
root-lowest minus a b l =
    let below = l.under_below in
    record {
      positive = l.positive;
      within = omega arith;
      reduced = λ k hp hq hd. l.coprime k (divides_signed minus a k hq) hd;
    }

-- what divides multiples of two numbers, which have no common divisor but 1, divides the factor
common_factor : (k a b j : ℕ) → 0 < k → ((i : ℕ) → i ∣ a → i ∣ b → i ≡ 1) → j ∣ a * k → j ∣ b * k → j ∣ k
common_factor k a b j up coprime ha hb =
    let one : gcd a b ≡ 1 = coprime (gcd a b) ((gcd-is a b).0) ((gcd-is a b).1) in
    let whole : gcd (k * a) (k * b) ≡ k = gcd-scale k a b up ∙ (ap (λ n. k * n) one ∙ omega arith) in
    subst (λ n. j ∣ n) whole ((gcd-is (k * a) (k * b)).2 j (subst (λ n. j ∣ n) (turned a k) ha) (subst (λ n. j ∣ n) (turned b k) hb))

module _ (a b c d : ℕ) (l : IsLowestRatio a b) (m : IsLowestRatio c d) where
  -- the factors of the first and of the second ratio
  abbrev left : ℕ
  left = d / gcd b d

  abbrev right : ℕ
  right = b / gcd b d

  left_positive : 0 < left
  left_positive = quotient_positive (gcd b d) d ((gcd-is b d).1) m.positive

  right_positive : 0 < right
  right_positive = quotient_positive (gcd b d) b ((gcd-is b d).0) l.positive

  both_coprime : (k : ℕ) → k ∣ a * left → k ∣ c * right → k ∣ b * left → k ≡ 1
  both_coprime k hp hq hd =
      pair_coprime b d k m.positive
      (common_factor right c d k right_positive m.coprime hq (subst (λ n. k ∣ n) (reduced-across b d) hd))
      (common_factor left a b k left_positive l.coprime hp hd)

  product_below : (x y z : ℕ) → x < 10 ^ 18 → y < 10 ^ 18 → x * (y / z) < 2 ^ 127
  product_below x y z hx hy =
      let smaller = div-le_self y z in
      let below = mul-lt x (y / z) (10 ^ 18) (10 ^ 18) hx (omega arith) in
      omega arith

  -- a fraction with both parts over the least common multiple of their denominators is
  pub both-lowest : (minus other : Bool) → IsLowest (record { p = signed minus (a * left); q = signed other (c * right) }) (b * left)
  both-lowest minus other = record {
    positive = mul-pos l.positive left_positive;
    within = product_below b d (gcd b d) l.under_below m.under_below;
    reduced = λ k hp hq hd. both_coprime k (divides_signed minus (a * left) k hp) (divides_signed other (c * right) k hq) hd;
  }

-- ---- their values

-- the sign of a number as a factor
unit_of : Bool → ℤ
unit_of true = negsuc 0
unit_of false = pos 1

signed-is : (minus : Bool) (n : ℕ) → signed minus n ≡ unit_of minus *ℤ pos n
unfolding unit_of
signed-is true n = identity integer_ring (pos n ∷ []) (λ n. negative n ≐ negative (numeral 1) ⊗ n) refl
signed-is false n = identity integer_ring (pos n ∷ []) (λ n. n ≐ numeral 1 ⊗ n) refl

-- one of two parts: l and n are the denominators that are written, x the factor of its numerator, f the common denominator
part_of_two : (minus : Bool) (k l n a b x f : ℕ) → k * b ≡ l * a → b * x ≡ f → pos (l * n) *ℤ signed minus (a * x) ≡ pos f *ℤ (signed minus k *ℤ pos n)
part_of_two minus k l n a b x f e h =
    let u = unit_of minus in
    ap (λ (z : ℤ). pos (l * n) *ℤ z) (signed-is minus (a * x))
    ∙ (identity integer_ring (u ∷ pos l ∷ pos n ∷ pos a ∷ pos x ∷ []) (λ u l n a x. (l ⊗ n) ⊗ (u ⊗ (a ⊗ x)) ≐ u ⊗ ((l ⊗ a) ⊗ (n ⊗ x))) refl
    ∙ (ap (λ (j : ℕ). u *ℤ (pos j *ℤ (pos n *ℤ pos x))) (sym e)
    ∙ (identity integer_ring (u ∷ pos k ∷ pos n ∷ pos b ∷ pos x ∷ []) (λ u k n b x. u ⊗ ((k ⊗ b) ⊗ (n ⊗ x)) ≐ (b ⊗ x) ⊗ ((u ⊗ k) ⊗ n)) refl
    ∙ (ap (λ (j : ℕ). pos j *ℤ ((u *ℤ pos k) *ℤ pos n)) h
    ∙ ap (λ (z : ℤ). pos f *ℤ (z *ℤ pos n)) (sym (signed-is minus k))))))

-- a fraction of two ratios has the value of the numbers that are written
pub both-value : (minus other : Bool) (a b c d k l m n : ℕ) → k * b ≡ l * a → m * d ≡ n * c
    → HasValue (record { num = record { p = signed minus (a * (d / gcd b d)); q = signed other (c * (b / gcd b d)) }; den = b * (d / gcd b d) })
    (record { p = signed minus k *ℤ pos n; q = signed other m *ℤ pos l }) (l * n)
both-value minus other a b c d k l m n e f =
    quadratic_eq
    (part_of_two minus k l n a b (d / gcd b d) (b * (d / gcd b d)) e refl)
    (ap (λ (j : ℕ). pos j *ℤ signed other (c * (b / gcd b d))) (turned l n) ∙ part_of_two other m n l c d (b / gcd b d) (b * (d / gcd b d)) f (sym (reduced-across b d)))

-- ---- what is read

positive_of_ne : (n : ℕ) → (n ≡ 0 → ⊥) → 0 < n
positive_of_ne zero h = absurd (h refl)
positive_of_ne (suc n) h = omega arith

positive_under : (u : Option (List ℕ)) → AllByRecursion (λ run. digits_value 10 run ≡ 0 → ⊥) (under_runs u) → 0 < under_value u
positive_under None d = omega arith
positive_under (Some digits) d = positive_of_ne (digits_value 10 digits) d.0

under_positive : (a : Ratio) → IsDefinedRatio a → 0 < under_value a.under
under_positive a d = positive_under a.under d

-- a number in lowest terms with the value that is written is the number that is read
pub rational_read : (minus : Bool) (a : Ratio) (x y : ℕ) (r : Fraction) → IsDefinedRatio a × (digits_value 10 a.over * y ≡ under_value a.under * x) → IsLowest r.num r.den
    → ((k l : ℕ) → k * y ≡ l * x → HasValue r (record { p = signed minus k; q = pos 0 }) l) → IsDefined (Rational minus a) × (r ≡ value (Rational minus a))
rational_read minus a x y r d l v =
    (d.0, reduced-unique r (record { p = over_value minus a; q = pos 0 }) (under_value a.under) l (under_positive a d.0) (v (digits_value 10 a.over) (under_value a.under) d.1))

-- the same for an r part
pub root_read : (minus : Bool) (a : Ratio) (x y : ℕ) (r : Fraction) → IsDefinedRatio a × (digits_value 10 a.over * y ≡ under_value a.under * x) → IsLowest r.num r.den
    → ((k l : ℕ) → k * y ≡ l * x → HasValue r (record { p = pos 0; q = signed minus k }) l) → IsDefined (Root minus a) × (r ≡ value (Root minus a))
root_read minus a x y r d l v =
    (d.0, reduced-unique r (record { p = pos 0; q = over_value minus a }) (under_value a.under) l (under_positive a d.0) (v (digits_value 10 a.over) (under_value a.under) d.1))

-- the same for both parts
pub both_read : (minus other : Bool) (a b : Ratio) (x y z w : ℕ) (r : Fraction) → IsDefinedRatio a × (digits_value 10 a.over * y ≡ under_value a.under * x)
    → IsDefinedRatio b × (digits_value 10 b.over * w ≡ under_value b.under * z) → IsLowest r.num r.den
    → ((k l m n : ℕ) → k * y ≡ l * x → m * w ≡ n * z → HasValue r (record { p = signed minus k *ℤ pos n; q = signed other m *ℤ pos l }) (l * n))
    → IsDefined (Both minus a other b) × (r ≡ value (Both minus a other b))
both_read minus other a b x y z w r d e l v = (
  All-append _ (under_runs a.under) (under_runs b.under) d.0 e.0,
  reduced-unique r (record { p = over_value minus a *ℤ pos (under_value b.under); q = over_value other b *ℤ pos (under_value a.under) }) (under_value a.under * under_value b.under) l
      (mul-pos (under_positive a d.0) (under_positive b e.0)) (v (digits_value 10 a.over) (under_value a.under) (digits_value 10 b.over) (under_value b.under) d.1 e.1),
)
