-- The normal forms of the solver: polynomials in numbered variables, nested by Horner's rule.
use Rattle.std.proofs.Common.{◌≡◌, ℕ, zero, suc, ◌+◌, ◌*◌, Bool, true, false, ◌&&◌, nat_eq, List, [], ◌∷◌, refl, sym, ap, ◌∙◌, eqb-true, true≢false}
use Rattle.fs_ring.specs.Operations.{Operations, sub, of_nat}
use Rattle.fs_ring.specs.CommutativeRing.{IsCommutativeRing}
use Rattle.fs_ring.proofs.RingLaws as ring

-- `constant a b` is a - b, and `horner p q` is p + x·q for the first variable x; p doesn't mention x
pub data Polynomial : Type 0 where
  constant : ℕ → ℕ → Polynomial
  horner : Polynomial → Polynomial → Polynomial

-- the polynomial of the i-th variable
abbrev pub variable_at : ℕ → Polynomial
variable_at zero = horner (constant 0 0) (constant 1 0)
variable_at (suc i) = horner (variable_at i) (constant 0 0)

-- a - b + p
abbrev pub shifted : ℕ → ℕ → Polynomial → Polynomial
shifted a b (constant c d) = constant (a + c) (b + d)
shifted a b (horner p q) = horner (shifted a b p) q

-- (a - b)·p
abbrev pub scaled : ℕ → ℕ → Polynomial → Polynomial
scaled a b (constant c d) = constant (a * c + b * d) (a * d + b * c)
scaled a b (horner p q) = horner (scaled a b p) (scaled a b q)

abbrev pub plus : Polynomial → Polynomial → Polynomial
plus (constant a b) r = shifted a b r
plus (horner p q) (constant a b) = horner (shifted a b p) q
plus (horner p q) (horner r s) = horner (plus p r) (plus q s)

abbrev pub minus : Polynomial → Polynomial
minus (constant a b) = constant b a
minus (horner p q) = horner (minus p) (minus q)

-- a factor that doesn't mention the first variable, given as what multiplies by it
abbrev pub spread : (Polynomial → Polynomial) → Polynomial → Polynomial
spread f (constant a b) = horner (f (constant a b)) (constant 0 0)
spread f (horner r s) = horner (f r) (spread f s)

abbrev pub times : Polynomial → Polynomial → Polynomial
times (constant a b) r = scaled a b r
times (horner p q) r = plus (spread (times p) r) (horner (constant 0 0) (times q r))

-- whether every coefficient is zero
abbrev pub is_zero : Polynomial → Bool
is_zero (constant a b) = nat_eq a b
is_zero (horner p q) = is_zero p && is_zero q

-- ---- what they stand for

abbrev pub rest : {A : Type 0} → List A → List A
rest [] = []
rest (_ ∷ xs) = xs

module _ {A : Type 0} (R : Operations A) where
  -- the first of a list, or zero
  abbrev pub first : List A → A
  first [] = R.zero
  first (x ∷ _) = x

  -- the i-th of a list, or zero
  abbrev pub nth : List A → ℕ → A
  nth xs zero = first xs
  nth xs (suc i) = nth (rest xs) i

  abbrev pub value : List A → Polynomial → A
  value xs (constant a b) = sub R (of_nat R a) (of_nat R b)
  value xs (horner p q) = R.add (value (rest xs) p) (R.mul (first xs) (value xs q))

pub both_true : (b c : Bool) → (b && c) ≡ true → (b ≡ true) × (c ≡ true)
both_true true c h = (refl, h)
both_true false c h = absurd (true≢false (sym h))

module _ {A : Type 0} {R : Operations A} (L : IsCommutativeRing R) where
  zero_coefficient : sub R (of_nat R 0) (of_nat R 0) ≡ R.zero
  zero_coefficient = L.add_neg R.zero

  one_coefficient : sub R (of_nat R 1) (of_nat R 0) ≡ R.one
  one_coefficient = ap (R.add R.one) (ring.neg_zero L) ∙ L.add_zero R.one

  pub value-variable_at : (xs : List A) (i : ℕ) → value R xs (variable_at i) ≡ nth R xs i
  value-variable_at xs zero = cc (zero_coefficient, one_coefficient, L.mul_one (first R xs), ring.zero_add L (first R xs))
  value-variable_at xs (suc i) = cc (value-variable_at (rest xs) i, zero_coefficient, ring.mul_zero L (first R xs), L.add_zero (nth R (rest xs) i))

  pub value-shifted : (xs : List A) (a b : ℕ) (p : Polynomial)
      → value R xs (shifted a b p) ≡ R.add (sub R (of_nat R a) (of_nat R b)) (value R xs p)
  value-shifted xs a b (constant c d) = cc (ring.of_nat-add L a c, ring.of_nat-add L b d, ring.sub-add L (of_nat R a) (of_nat R c) (of_nat R b) (of_nat R d))
  value-shifted xs a b (horner p q) = cc (value-shifted (rest xs) a b p, L.add_assoc (sub R (of_nat R a) (of_nat R b)) (value R (rest xs) p) (R.mul (first R xs) (value R xs q)))

  pub value-scaled : (xs : List A) (a b : ℕ) (p : Polynomial)
      → value R xs (scaled a b p) ≡ R.mul (sub R (of_nat R a) (of_nat R b)) (value R xs p)
  value-scaled xs a b (constant c d) = cc (ring.of_nat-add L (a * c) (b * d), ring.of_nat-add L (a * d) (b * c), ring.of_nat-mul L a c, ring.of_nat-mul L b d, ring.of_nat-mul L a d, ring.of_nat-mul L b c, ring.sub-mul-sub L (of_nat R a) (of_nat R b) (of_nat R c) (of_nat R d))
  value-scaled xs a b (horner p q) =
      let c = sub R (of_nat R a) (of_nat R b) in
      cc (value-scaled (rest xs) a b p, value-scaled xs a b q, L.mul_add c (value R (rest xs) p) (R.mul (first R xs) (value R xs q)), ring.mul_left_comm L c (first R xs) (value R xs q))

  pub value-plus : (xs : List A) (p q : Polynomial) → value R xs (plus p q) ≡ R.add (value R xs p) (value R xs q)
  value-plus xs (constant a b) r = value-shifted xs a b r
  value-plus xs (horner p q) (constant a b) = cc (value-shifted (rest xs) a b p, L.add_comm (sub R (of_nat R a) (of_nat R b)) (R.add (value R (rest xs) p) (R.mul (first R xs) (value R xs q))), L.add_assoc (sub R (of_nat R a) (of_nat R b)) (value R (rest xs) p) (R.mul (first R xs) (value R xs q)))
  value-plus xs (horner p q) (horner r s) =
      let x = first R xs in
      cc (value-plus (rest xs) p r, value-plus xs q s, L.mul_add x (value R xs q) (value R xs s), ring.add_interchange L (value R (rest xs) p) (value R (rest xs) r) (R.mul x (value R xs q)) (R.mul x (value R xs s)))

  pub value-minus : (xs : List A) (p : Polynomial) → value R xs (minus p) ≡ R.neg (value R xs p)
  value-minus xs (constant a b) = sym (ring.neg-sub L (of_nat R a) (of_nat R b))
  value-minus xs (horner p q) = cc (value-minus (rest xs) p, value-minus xs q, ring.mul-neg L (first R xs) (value R xs q), ring.neg-add L (value R (rest xs) p) (R.mul (first R xs) (value R xs q)))

  pub value-spread : (xs : List A) (f : Polynomial → Polynomial) (c : A)
      → ((r : Polynomial) → value R (rest xs) (f r) ≡ R.mul c (value R (rest xs) r)) → (r : Polynomial)
      → value R xs (spread f r) ≡ R.mul c (value R xs r)
  value-spread xs f c h (constant a b) = cc (h (constant a b), zero_coefficient, ring.mul_zero L (first R xs), L.add_zero (R.mul c (sub R (of_nat R a) (of_nat R b))))
  value-spread xs f c h (horner r s) = cc (h r, value-spread xs f c h s, L.mul_add c (value R (rest xs) r) (R.mul (first R xs) (value R xs s)), ring.mul_left_comm L c (first R xs) (value R xs s))

  pub value-times : (xs : List A) (p q : Polynomial) → value R xs (times p q) ≡ R.mul (value R xs p) (value R xs q)
  value-times xs (constant a b) r = value-scaled xs a b r
  value-times xs (horner p q) r =
      let x = first R xs in
      let v = value R xs r in
      value-plus xs (spread (times p) r) (horner (constant 0 0) (times q r))
      ∙ cc (value-spread xs (times p) (value R (rest xs) p) (λ s. value-times (rest xs) p s) r, value-times xs q r, zero_coefficient, ring.zero_add L (R.mul x (value R xs (times q r))), sym (L.mul_assoc x (value R xs q) v), ring.add_mul L (value R (rest xs) p) (R.mul x (value R xs q)) v)

  pub value-is_zero : (xs : List A) (p : Polynomial) → is_zero p ≡ true → value R xs p ≡ R.zero
  value-is_zero xs (constant a b) h = ap (λ n. sub R (of_nat R n) (of_nat R b)) (eqb-true a b h) ∙ L.add_neg (of_nat R b)
  value-is_zero xs (horner p q) h =
      let (left, right) = both_true (is_zero p) (is_zero q) h in
      cc (value-is_zero (rest xs) p left, value-is_zero xs q right, ring.mul_zero L (first R xs), L.add_zero R.zero)
