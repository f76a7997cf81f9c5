-- The whole numbers are an ordered ring: a library for crates to come.
use Rattle.std.proofs.Common.{◌≡◌, zero, suc, ◌*◌, ℤ, pos, negsuc, neg_ℤ, ◌+ℤ◌, ◌*ℤ◌, ◌<ℤ◌, ◌≤ℤ◌, ◌↔◌, refl, sym, ap, ◌∙◌, arith, ltb→lt, lt→ltb, mul-pos}
use Rattle.std.proofs.Math.IntN.{suc_ℤ, pred_ℤ, suc_ℤ-+ℤ, pred_ℤ-+ℤ, suc_ℤ-*ℤ, pred_ℤ-*ℤ, zero-*ℤ, *ℤ_comm, +ℤ_assoc, +ℤ_comm, +ℤ_idl, +ℤ_idr, +ℤ_invl, +ℤ_invr}
use Rattle.std.proofs.lemmas.Int.{ints, by_lt_z}
use lib.Signed.{<ℤ_irrefl, clash_ℤ}
use Rattle.fs_ring.specs.CommutativeRing.{IsCommutativeRing}
use Rattle.fs_ring.specs.OrderedRing.{IsOrderedRing, Sign, positive, null, negative, IsLess, IsAtMost, IsNonNegative}
use Rattle.fs_ring.specs.Integers.{integers, IsPositiveInteger}

-- what holds of 0, and of the next and the last number with each number, holds of all
by_steps : (P : ℤ → Type 0) → P (pos 0) → ((x : ℤ) → P x → P (suc_ℤ x)) → ((x : ℤ) → P x → P (pred_ℤ x)) → (x : ℤ) → P x
by_steps P start up down (pos zero) = start
by_steps P start up down (pos (suc n)) = up (pos n) (by_steps P start up down (pos n))
by_steps P start up down (negsuc zero) = down (pos 0) start
by_steps P start up down (negsuc (suc n)) = down (negsuc n) (by_steps P start up down (negsuc n))

add_right_comm : (x y z : ℤ) → (x +ℤ y) +ℤ z ≡ (x +ℤ z) +ℤ y
add_right_comm x y z = +ℤ_assoc x y z ∙ ap (λ w. x +ℤ w) (+ℤ_comm y z) ∙ sym (+ℤ_assoc x z y)

pub add-mul : (x y z : ℤ) → (x +ℤ y) *ℤ z ≡ (x *ℤ z) +ℤ (y *ℤ z)
add-mul x y z =
    by_steps (λ x. (x +ℤ y) *ℤ z ≡ (x *ℤ z) +ℤ (y *ℤ z))
    (ap (λ w. w *ℤ z) (+ℤ_idl y) ∙ sym (+ℤ_idl (y *ℤ z)) ∙ ap (λ w. w +ℤ (y *ℤ z)) (sym (zero-*ℤ z)))
    (λ x h. ap (λ w. w *ℤ z) (suc_ℤ-+ℤ x y) ∙ suc_ℤ-*ℤ (x +ℤ y) z ∙ ap (λ w. w +ℤ z) h ∙ add_right_comm (x *ℤ z) (y *ℤ z) z ∙ ap (λ w. w +ℤ (y *ℤ z)) (sym (suc_ℤ-*ℤ x z)))
    (λ x h. ap (λ w. w *ℤ z) (pred_ℤ-+ℤ x y) ∙ pred_ℤ-*ℤ (x +ℤ y) z ∙ ap (λ w. w +ℤ neg_ℤ z) h ∙ add_right_comm (x *ℤ z) (y *ℤ z) (neg_ℤ z) ∙ ap (λ w. w +ℤ (y *ℤ z)) (sym (pred_ℤ-*ℤ x z)))
    x

neg-mul : (y z : ℤ) → neg_ℤ y *ℤ z ≡ neg_ℤ (y *ℤ z)
neg-mul y z =
    sym (+ℤ_idl (neg_ℤ y *ℤ z))
    ∙ ap (λ w. w +ℤ (neg_ℤ y *ℤ z)) (sym (+ℤ_invl (y *ℤ z)))
    ∙ +ℤ_assoc (neg_ℤ (y *ℤ z)) (y *ℤ z) (neg_ℤ y *ℤ z)
    ∙ ap (λ w. neg_ℤ (y *ℤ z) +ℤ w) (sym (add-mul y (neg_ℤ y) z) ∙ ap (λ w. w *ℤ z) (+ℤ_invr y) ∙ zero-*ℤ z)
    ∙ +ℤ_idr (neg_ℤ (y *ℤ z))

mul_one : (x : ℤ) → x *ℤ pos 1 ≡ x
mul_one x = *ℤ_comm x (pos 1) ∙ suc_ℤ-*ℤ (pos 0) x ∙ ap (λ w. w +ℤ x) (zero-*ℤ x) ∙ +ℤ_idl x

pub mul_assoc : (x y z : ℤ) → (x *ℤ y) *ℤ z ≡ x *ℤ (y *ℤ z)
mul_assoc x y z =
    by_steps (λ x. (x *ℤ y) *ℤ z ≡ x *ℤ (y *ℤ z))
    (ap (λ w. w *ℤ z) (zero-*ℤ y) ∙ zero-*ℤ z ∙ sym (zero-*ℤ (y *ℤ z)))
    (λ x h. ap (λ w. w *ℤ z) (suc_ℤ-*ℤ x y) ∙ add-mul (x *ℤ y) y z ∙ ap (λ w. w +ℤ (y *ℤ z)) h ∙ sym (suc_ℤ-*ℤ x (y *ℤ z)))
    (λ x h. ap (λ w. w *ℤ z) (pred_ℤ-*ℤ x y) ∙ add-mul (x *ℤ y) (neg_ℤ y) z ∙ ap (λ w. w +ℤ (neg_ℤ y *ℤ z)) h ∙ ap (λ w. (x *ℤ (y *ℤ z)) +ℤ w) (neg-mul y z) ∙ sym (pred_ℤ-*ℤ x (y *ℤ z)))
    x

add_above : (x y : ℤ) → pos 0 <ℤ x → pos 0 <ℤ y → pos 0 <ℤ (x +ℤ y)
add_above x y h k = omega (arith, ints)

mul_above : (x y : ℤ) → pos 0 <ℤ x → pos 0 <ℤ y → pos 0 <ℤ (x *ℤ y)
mul_above (pos m) (pos n) h k = record { lt = lt→ltb 0 (m * n) (mul-pos (ltb→lt 0 m h.lt) (ltb→lt 0 n k.lt)) }
mul_above (pos m) (negsuc n) h k = absurd k.lt
mul_above (negsuc m) y h k = absurd h.lt

sign_of : (x : ℤ) → Sign integers IsPositiveInteger x
sign_of (pos zero) = null refl
sign_of (pos (suc n)) = positive (omega (arith, ints))
sign_of (negsuc n) = negative (omega (arith, ints))

pub integer_ring : IsCommutativeRing integers
integer_ring = record {
  add_assoc = +ℤ_assoc;
  add_comm = +ℤ_comm;
  add_zero = +ℤ_idr;
  add_neg = +ℤ_invr;
  mul_assoc = mul_assoc;
  mul_comm = *ℤ_comm;
  mul_one = mul_one;
  mul_add = λ x y z. *ℤ_comm x (y +ℤ z) ∙ add-mul y z x ∙ ap (λ w. w +ℤ (z *ℤ x)) (*ℤ_comm y x) ∙ ap (λ w. (x *ℤ y) +ℤ w) (*ℤ_comm z x);
}

pub integer_order : IsOrderedRing integers IsPositiveInteger
integer_order = record {
  ring = integer_ring;
  one_positive = omega (arith, ints);
  zero_not_positive = λ h. <ℤ_irrefl h;
  add_positive = λ {x} {y} h k. add_above x y h k;
  mul_positive = λ {x} {y} h k. mul_above x y h k;
  trichotomy = sign_of;
}

-- ---- the order of whole numbers as the order of this ring

pub less-is : (x y : ℤ) → (x <ℤ y) ↔ IsLess integers IsPositiveInteger x y
less-is x y = ((λ h. omega (arith, ints)), (λ h. omega (arith, ints)))

pub at_most-is : (x y : ℤ) → (x ≤ℤ y) ↔ IsAtMost integers IsPositiveInteger x y
at_most-is x y = ((λ h k. clash_ℤ ((less-is y x).1 k) h), (λ h. by_lt_z y x (λ k. absurd (h ((less-is y x).0 k))) (λ k. k)))

pub negative-is : (x : ℤ) → (x <ℤ pos 0) ↔ (pos 0 <ℤ neg_ℤ x)
negative-is x = ((λ h. omega (arith, ints)), (λ h. omega (arith, ints)))

pub non_negative-is : (x : ℤ) → (pos 0 ≤ℤ x) ↔ IsNonNegative integers IsPositiveInteger x
non_negative-is x = ((λ h k. clash_ℤ ((negative-is x).1 k) h), (λ h. by_lt_z x (pos 0) (λ k. absurd (h ((negative-is x).0 k))) (λ k. k)))
