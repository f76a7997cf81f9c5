-- What follows at once from the laws of a commutative ring. Identities of polynomials are the solver's: a library for crates to come.
use Rattle.std.proofs.Common.{◌≡◌, ℕ, zero, suc, ◌≢◌, refl, sym, ap, ◌∙◌, add-zero, add-suc, mul-zero, mul-suc}
use Rattle.std.proofs.Common as nat
use Rattle.fs_ring.specs.Operations.{Operations, sub, of_nat}
use Rattle.fs_ring.specs.CommutativeRing.{IsCommutativeRing}

module _ {A : Type 0} {R : Operations A} (L : IsCommutativeRing R) where
  open R use {add as ◌+◌, mul as ◌*◌, neg, zero as 𝟘, one as 𝟙}

  infixl 60 ◌+◌
  infixl 70 ◌*◌
  pub zero_add : (x : A) → 𝟘 + x ≡ x
  zero_add x = L.add_comm 𝟘 x ∙ L.add_zero x

  pub neg_add : (x : A) → neg x + x ≡ 𝟘
  neg_add x = L.add_comm (neg x) x ∙ L.add_neg x

  pub one_mul : (x : A) → 𝟙 * x ≡ x
  one_mul x = L.mul_comm 𝟙 x ∙ L.mul_one x

  pub add_mul : (x y z : A) → (x + y) * z ≡ x * z + y * z
  add_mul x y z = L.mul_comm (x + y) z ∙ L.mul_add z x y ∙ cc (L.mul_comm z x, L.mul_comm z y)

  pub add_left_comm : (x y z : A) → x + (y + z) ≡ y + (x + z)
  add_left_comm x y z = sym (L.add_assoc x y z) ∙ ap (λ w. w + z) (L.add_comm x y) ∙ L.add_assoc y x z

  pub mul_left_comm : (x y z : A) → x * (y * z) ≡ y * (x * z)
  mul_left_comm x y z = sym (L.mul_assoc x y z) ∙ ap (λ w. w * z) (L.mul_comm x y) ∙ L.mul_assoc y x z

  pub add_interchange : (w x y z : A) → (w + x) + (y + z) ≡ (w + y) + (x + z)
  add_interchange w x y z = L.add_assoc w x (y + z) ∙ ap (λ v. w + v) (add_left_comm x y z) ∙ sym (L.add_assoc w y (x + z))

  -- a summand of both sides can be taken away
  pub add_left_cancel : (x y z : A) → x + y ≡ x + z → y ≡ z
  add_left_cancel x y z h = sym (back y) ∙ ap (λ w. neg x + w) h ∙ back z
    where
      back : (w : A) → neg x + (x + w) ≡ w
      back w = sym (L.add_assoc (neg x) x w) ∙ ap (λ v. v + w) (neg_add x) ∙ zero_add w

  -- what gives zero with x is its negative
  pub neg_unique : (x y : A) → x + y ≡ 𝟘 → neg x ≡ y
  neg_unique x y h = add_left_cancel x (neg x) y (L.add_neg x ∙ sym h)

  pub mul_zero : (x : A) → x * 𝟘 ≡ 𝟘
  mul_zero x = add_left_cancel (x * 𝟘) (x * 𝟘) 𝟘 (sym (L.mul_add x 𝟘 𝟘) ∙ ap (λ w. x * w) (L.add_zero 𝟘) ∙ sym (L.add_zero (x * 𝟘)))

  pub zero_mul : (x : A) → 𝟘 * x ≡ 𝟘
  zero_mul x = L.mul_comm 𝟘 x ∙ mul_zero x

  pub neg_zero : neg 𝟘 ≡ 𝟘
  neg_zero = neg_unique 𝟘 𝟘 (L.add_zero 𝟘)

  pub neg_neg : (x : A) → neg (neg x) ≡ x
  neg_neg x = neg_unique (neg x) x (neg_add x)

  pub neg-add : (x y : A) → neg (x + y) ≡ neg x + neg y
  neg-add x y = neg_unique (x + y) (neg x + neg y)
      (L.add_assoc x y (neg x + neg y) ∙ ap (λ w. x + w) (add_left_comm y (neg x) (neg y) ∙ ap (λ w. neg x + w) (L.add_neg y) ∙ L.add_zero (neg x)) ∙ L.add_neg x)

  pub neg-mul : (x y : A) → neg x * y ≡ neg (x * y)
  neg-mul x y = sym (neg_unique (x * y) (neg x * y) (sym (add_mul x (neg x) y) ∙ ap (λ w. w * y) (L.add_neg x) ∙ zero_mul y))

  pub mul-neg : (x y : A) → x * neg y ≡ neg (x * y)
  mul-neg x y = L.mul_comm x (neg y) ∙ neg-mul y x ∙ ap neg (L.mul_comm y x)

  pub neg-sub : (x y : A) → neg (sub R x y) ≡ sub R y x
  neg-sub x y = neg-add x (neg y) ∙ L.add_comm (neg x) (neg (neg y)) ∙ ap (λ w. w + neg x) (neg_neg y)

  -- the difference of two sums is the sum of the differences
  pub sub-add : (w x y z : A) → sub R (w + x) (y + z) ≡ sub R w y + sub R x z
  sub-add w x y z = ap (λ v. (w + x) + v) (neg-add y z) ∙ add_interchange w x (neg y) (neg z)

  pub sub-mul-sub : (w x y z : A) → sub R w x * sub R y z ≡ sub R (w * y + x * z) (w * z + x * y)
  sub-mul-sub w x y z =
      cc (add_mul w (neg x) (y + neg z), L.mul_add w y (neg z), L.mul_add (neg x) y (neg z), mul-neg w z, neg-mul x y, mul-neg (neg x) z, neg-mul x z, neg_neg (x * z))
      ∙ ap (λ v. (w * y + neg (w * z)) + v) (L.add_comm (neg (x * y)) (x * z))
      ∙ add_interchange (w * y) (neg (w * z)) (x * z) (neg (x * y))
      ∙ ap (λ v. (w * y + x * z) + v) (sym (neg-add (w * z) (x * y)))

  pub sub_self : (x : A) → sub R x x ≡ 𝟘
  sub_self x = L.add_neg x

  -- two elements are equal where their difference is zero
  pub eq_of_sub-zero : (x y : A) → sub R x y ≡ 𝟘 → x ≡ y
  eq_of_sub-zero x y h = sym (neg_neg x) ∙ ap neg (neg_unique x (neg y) h) ∙ neg_neg y

  pub sub-zero_of_eq : (x y : A) → x ≡ y → sub R x y ≡ 𝟘
  sub-zero_of_eq x y h = ap (λ w. w + neg y) h ∙ L.add_neg y

  -- ---- numerals
  pub of_nat-suc : (n : ℕ) → of_nat R (suc n) ≡ of_nat R n + 𝟙
  of_nat-suc zero = sym (zero_add 𝟙)
  of_nat-suc (suc n) = refl

  pub of_nat-add : (m n : ℕ) → of_nat R (nat.◌+◌ m n) ≡ of_nat R m + of_nat R n
  of_nat-add m zero = ap (of_nat R) (add-zero m) ∙ sym (L.add_zero (of_nat R m))
  of_nat-add m (suc n) = ap (of_nat R) (add-suc m n) ∙ of_nat-suc (nat.◌+◌ m n) ∙ ap (λ w. w + 𝟙) (of_nat-add m n) ∙ L.add_assoc (of_nat R m) (of_nat R n) 𝟙 ∙ ap (λ w. of_nat R m + w) (sym (of_nat-suc n))

  pub of_nat-mul : (m n : ℕ) → of_nat R (nat.◌*◌ m n) ≡ of_nat R m * of_nat R n
  of_nat-mul m zero = ap (of_nat R) (mul-zero m) ∙ sym (mul_zero (of_nat R m))
  of_nat-mul m (suc n) = ap (of_nat R) (mul-suc m n) ∙ of_nat-add (nat.◌*◌ m n) m ∙ cc (of_nat-mul m n, of_nat-suc n, L.mul_add (of_nat R m) (of_nat R n) 𝟙, L.mul_one (of_nat R m))
