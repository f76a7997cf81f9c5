-- From one complete quotient of √d to the next.
use Rattle.std.proofs.Common.{◌≡◌, ℕ, zero, suc, ◌+◌, ◌-◌, ◌*◌, ◌/◌, ◌<◌, ◌≤◌, arith, refl, sym, ap, ◌∙◌}
use Rattle.std.proofs.Math.Nat.{mul-sub, mul-div_cancel_left, div-mul-le_self, lt-mul-div-succ, mul-le-mul, mul_comm}
use native.Mathlib.Decide.{dec_lt}
use Rattle.fs_quadratic.specs.Radicand.{IsRadicand}
use Rattle.fs_quadratic.specs.CompleteQuotient.{IsCompleteQuotient, whole_part}
use Rattle.fs_quadratic.proofs.SquareRoot.{radicand_no_square}

-- with k·a = m + next, a divides d - next² as it divides d - m²
divides_next : (d m a k next c : ℕ) → k * a ≡ m + next → a * c + m * m ≡ d → a * (c + k * m - k * next) ≡ d - next * next
divides_next d m a k next c e h =
    let by_m = ap (λ v. v * m) e in
    let by_next = ap (λ v. v * next) e in
    mul-sub a (c + k * m) (k * next) ∙ omega arith

exact : (a e v : ℕ) → 0 < a → a * e ≡ v → a * (v / a) ≡ v
exact a e v h p = ap (λ w. a * (w / a)) (sym p) ∙ ap (λ w. a * w) (mul-div_cancel_left e h) ∙ p

-- a number that divides exactly is what is divided by, as well
cofactor : (a e v : ℕ) → 0 < e → a * e ≡ v → e * (v / e) ≡ v
cofactor a e v h p = exact e a v h (mul_comm e a ∙ p)

square_at_most : (m s : ℕ) → m ≤ s → m * m ≤ s * s
square_at_most m s h = mul-le-mul h h

-- where d lies between s² and (s + 1)², and a·e = d - n², a isn't so small that e could be above s + n
factor_at_most : (d s n a e u : ℕ) → d < suc s * suc s → s + 1 ≡ u + n → u ≤ a → a * e + n * n ≡ d → e ≤ s + n
factor_at_most d s n a e u high split h p = go (dec_lt (s + n) e)
  where
    go : Dec (s + n < e) → e ≤ s + n
    go (no k) = omega arith
    go (yes k) =
        let product : u * (u + n + n) ≤ a * e = mul-le-mul h (omega arith) in
        let square : suc s * suc s ≡ (u + n) * (u + n) = ap (λ v. v * v) (omega arith) in
        absurd (omega arith)

positive_cofactor : (a e v : ℕ) → 0 < v → a * e ≡ v → 0 < e
positive_cofactor a zero v h p = omega arith
positive_cofactor a (suc e) v h p = omega arith

module _ {d root m a : ℕ} (q : IsCompleteQuotient d root m a) where
  abbrev whole : ℕ
  whole = whole_part root m a

  pub whole_at_most : whole * a ≤ root + m
  whole_at_most = div-mul-le_self (root + m) a

  pub below_whole_next : root + m < whole * a + a
  below_whole_next = let h = lt-mul-div-succ (root + m) q.positive in omega arith

  -- the whole part is at least 1
  pub whole_positive : 0 < whole
  whole_positive = go whole refl
    where
      go : (k : ℕ) → whole ≡ k → 0 < whole
      go zero e = let h = below_whole_next in let zeros = ap (λ v. v * a) e in let large = q.greater_one in absurd (omega arith)
      go (suc k) e = omega arith

  pub m_at_most : m ≤ whole * a
  m_at_most =
      let above = below_whole_next in
      let one_time : 1 * a ≤ whole * a = mul-le-mul (omega (arith, whole_positive)) (omega arith) in
      let part = q.part in
      omega arith

  -- the m of the next one
  abbrev pub next_m : ℕ
  next_m = whole * a - m

  -- and its a
  abbrev pub next_a : ℕ
  next_a = (d - next_m * next_m) / a

  pub next_m-add : whole * a ≡ m + next_m
  next_m-add = let h = m_at_most in omega arith

  pub next_m_at_most : next_m ≤ root
  next_m_at_most = let h = whole_at_most in omega arith

  pub next_square_below : next_m * next_m < d
  next_square_below = let h = square_at_most next_m root next_m_at_most in let below = q.below in omega arith

  next_divides : a * next_a ≡ d - next_m * next_m
  next_divides =
      let c = (d - m * m) / a in
      exact a (c + whole * m - whole * next_m) (d - next_m * next_m) q.positive (divides_next d m a whole next_m c next_m-add q.divides)

  pub next_a-mul : a * next_a + next_m * next_m ≡ d
  next_a-mul = let h = next_divides in let k = next_square_below in omega arith

  pub next_a_positive : 0 < next_a
  next_a_positive = let k = next_square_below in positive_cofactor a next_a (d - next_m * next_m) (omega arith) next_divides

  next_greater_one : next_a ≤ root + next_m
  next_greater_one =
      let h = below_whole_next in let k = next_m_at_most in let e = next_m-add in
      factor_at_most d root next_m a next_a (root + 1 - next_m) q.above (omega arith) (omega arith) next_a-mul

  pub next_quotient : IsCompleteQuotient d root next_m next_a
  next_quotient = record {
    below = q.below;
    above = q.above;
    positive = next_a_positive;
    part = next_m_at_most;
    greater_one = next_greater_one;
    divides =
        let k = next_square_below in
        let h : next_a * ((d - next_m * next_m) / next_a) ≡ d - next_m * next_m = cofactor a next_a (d - next_m * next_m) next_a_positive next_divides in
        omega arith;
  }

root_positive : (d s : ℕ) → 0 < d → d < (s + 1) * (s + 1) → 1 ≤ s
root_positive d zero positive h = omega arith
root_positive d (suc s) positive h = omega arith

-- √d itself is (0 + √d)/1
pub first_quotient : (d root : ℕ) → IsRadicand d → root * root ≤ d → d < (root + 1) * (root + 1) → IsCompleteQuotient d root 0 1
first_quotient d root radicand low high =
    let other = radicand_no_square radicand root in
    let least = radicand.least in
    let positive = root_positive d root (omega arith) high in
    record {
      below = omega arith;
      above = omega arith;
      positive = omega arith;
      part = omega arith;
      greater_one = omega arith;
      divides = omega arith;
    }
