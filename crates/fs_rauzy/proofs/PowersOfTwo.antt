-- A number is a power of two where one of its binary digits is set.
use Rattle.std.proofs.Common.{◌≡◌, ◌↔◌, ◌⊎◌, ℕ, zero, suc, ◌+◌, ◌*◌, ◌/◌, ◌%◌, ◌^◌, ◌≤◌, IsTrue, refl, ap, ◌∙◌, inl, inr, arith}
use Rattle.std.proofs.Math.Nat.{pow-suc}
use Rattle.std.proofs.Math.Pow.{pow_pos}
use Rattle.std.proofs.lemmas.Bool.{eqb-true, eq-eqb}
use Rattle.std.specs.Int.{is_power_of_two}
use Rattle.std.specs.Int.Count.{ones, ones_cat, ones_step}

digit : (n : ℕ) → (n % 2 ≡ 0) ⊎ (n % 2 ≡ 1)
digit n = grind arith

-- a number without a set digit is 0
none_set : (k n : ℕ) → n ≤ k → ones n ≡ 0 → n ≡ 0
none_set zero n l e = omega arith
none_set (suc k) zero l e = refl
none_set (suc k) (suc n) l e =
    let step = ones_step (suc n) in
    let half : suc n / 2 ≡ 0 = none_set k (suc n / 2) (omega arith) (omega arith) in
    omega arith

zero_unset : ones 0 ≡ 0
unfolding ones
zero_unset = refl

-- one with one set digit is a power of two
one_set : (k n : ℕ) → n ≤ k → ones n ≡ 1 → (j : ℕ) × (n ≡ 2 ^ j)
one_set k zero l e = let none = zero_unset in absurd (omega arith)
one_set zero (suc n) l e = absurd (omega arith)
one_set (suc k) (suc n) l e = elim (digit (suc n)) [
  | inl even ↦
      let step = ones_step (suc n) in
      let r = one_set k (suc n / 2) (omega arith) (omega arith) in
      let half = r.1 in
      let twice : 2 ^ suc r.0 ≡ 2 ^ r.0 * 2 = pow-suc 2 r.0 in
      (suc r.0, omega arith)
  | inr odd ↦
      let step = ones_step (suc n) in
      let half : suc n / 2 ≡ 0 = none_set k (suc n / 2) (omega arith) (omega arith) in
      (0, omega arith)
]

-- and a power of two has one
power_set : (j : ℕ) → ones (2 ^ j) ≡ 1
unfolding ones
power_set j = let same : 2 ^ j ≡ 1 * 2 ^ j + 0 = omega arith in ap ones same ∙ ones_cat j 1 0 (pow_pos j)

-- the test of std says whether a number is a power of two
pub power_of_two : (n : ℕ) → IsTrue (is_power_of_two n) ↔ ((j : ℕ) × (n ≡ 2 ^ j))
power_of_two n = ((λ h. one_set n n (omega arith) (eqb-true (ones n) 1 h)), (λ r. eq-eqb (ones n) 1 (ap ones r.1 ∙ power_set r.0)))
