-- The steps of an inverse add up to it, and its denominator is above 0.
use Rattle.std.proofs.Common.{◌≡◌, ◌≢◌, inl, inr, ℕ, ℤ, pos, ◌-ℤ◌, ◌*ℤ◌, ◌*◌, ◌/◌, ◌<◌, sym, ◌∙◌, ap, subst, arith}
use Rattle.std.proofs.Math.Nat.{mul-pos}
use Rattle.std.proofs.lemmas.Int.{ints, to_z-of_z, fits_signed_from_abs}
use mir.Syntax.{w128}
use mir.Val.{to_z, of_z}
use Rattle.std.specs.Prelude.{unsigned_abs, int_div}
use Rattle.fs_quadratic.specs.Radicand.{IsNoSquare}
use Rattle.fs_quadratic.specs.Ring.{Quadratic, zero as nil}
use Rattle.fs_quadratic.specs.Width.{InWidth, Fits}
use Rattle.fs_quadratic.proofs.Laws.{quadratic_eq, zero_of_squares}
use Rattle.fs_fraction.specs.Divisor.{gcd, content, divide}
use Rattle.fs_fraction.specs.Fraction.{Fraction, scale, reduced}
use Rattle.fs_fraction.specs.Arithmetic.{conjugate, norm, NormFits, with_sign, primitive, inner, inverse_num, inverse_den, reciprocal, ReciprocalFits}
use Rattle.fs_fraction.proofs.Divisors.{gcd-is, quotient_positive}
use Rattle.fs_fraction.proofs.Lowest.{content_positive, quotient_times, zero_or_positive, zero_size, size_within}

-- the steps that lead to the denominator
pub inverse_den-is : (d : ℕ) (x : Fraction) (common within : ℕ) (least : Quadratic) (n : ℤ) (size : ℕ) →
    common ≡ content x.num → within ≡ gcd x.den common → least ≡ divide x.num common → n ≡ norm d least → size ≡ unsigned_abs n →
    (common / within) * size ≡ inverse_den d x
inverse_den-is d x common within least n size e_common e_within e_least e_norm e_size =
    let least_is : least ≡ primitive x.num = e_least ∙ ap (divide x.num) e_common in
    let within_is : within ≡ inner x = e_within ∙ ap (gcd x.den) e_common in
    let size_is : size ≡ unsigned_abs (norm d (primitive x.num)) = e_size ∙ ap unsigned_abs (e_norm ∙ ap (norm d) least_is) in
    ap (λ (j : ℕ). (j / within) * size) e_common ∙ (ap (λ (j : ℕ). (content x.num / j) * size) within_is ∙ ap (λ (j : ℕ). (content x.num / inner x) * j) size_is)

-- the steps of the computation are those of the definition
pub inverse_answer : (d : ℕ) (x : Fraction) (common within : ℕ) (least num : Quadratic) (n : ℤ) (size den : ℕ) →
    common ≡ content x.num → within ≡ gcd x.den common → least ≡ divide x.num common →
    NormFits d least × (n ≡ norm d least) →
    Fits (scale (x.den / within) least) × (num ≡ scale (x.den / within) least) →
    size ≡ unsigned_abs n →
    InWidth (pos ((common / within) * size)) × (den ≡ (common / within) * size) →
    (r : Fraction) → r ≡ reduced (with_sign n (conjugate num)) den →
    ReciprocalFits d x × (r ≡ reciprocal d x)
inverse_answer d x common within least num n size den e_common e_within e_least h k e_size l r e =
    let least_is : least ≡ primitive x.num = e_least ∙ ap (divide x.num) e_common in
    let within_is : within ≡ inner x = e_within ∙ ap (gcd x.den) e_common in
    let n_is : n ≡ norm d (primitive x.num) = h.1 ∙ ap (norm d) least_is in
    let num_eq : scale (x.den / within) least ≡ inverse_num x = ap (λ (j : ℕ). scale (x.den / j) least) within_is ∙ ap (scale (x.den / inner x)) least_is in
    let num_is : num ≡ inverse_num x = k.1 ∙ num_eq in
    let den_eq : (common / within) * size ≡ inverse_den d x = inverse_den-is d x common within least n size e_common e_within e_least h.1 e_size in
    let den_is : den ≡ inverse_den d x = l.1 ∙ den_eq in (
      (subst (NormFits d) least_is h.0, subst Fits num_eq k.0, subst (λ (j : ℕ). InWidth (pos j)) den_eq l.0),
      e ∙ (ap (λ (j : ℤ). reduced (with_sign j (conjugate num)) den) n_is
          ∙ (ap (λ (j : Quadratic). reduced (with_sign (norm d (primitive x.num)) (conjugate j)) den) num_is
          ∙ ap (λ (j : ℕ). reduced (with_sign (norm d (primitive x.num)) (conjugate (inverse_num x))) j) den_is)),
    )

difference-zero : (a b : ℤ) → a -ℤ b ≡ pos 0 → a ≡ b
difference-zero a b e = omega (arith, ints)

times-zero : (k : ℕ) (z w : ℤ) → pos k *ℤ z ≡ w → z ≡ pos 0 → w ≡ pos 0
times-zero k z w e n = sym e ∙ (ap (λ (y : ℤ). pos k *ℤ y) n ∙ ap pos (omega arith))

-- a number other than 0 has a norm other than 0
pub norm_positive : {d : ℕ} → IsNoSquare d → (x : Quadratic) → x ≢ nil → 0 < unsigned_abs (norm d (primitive x))
norm_positive {d} no_square x other =
    elim (zero_or_positive (unsigned_abs (norm d (primitive x)))) [
      | inl e ↦
          let y = primitive x in
          let null : y ≡ nil = zero_of_squares no_square y (difference-zero (y.p *ℤ y.p) (pos d *ℤ (y.q *ℤ y.q)) (zero_size (norm d y) e)) in
          let common = gcd-is (unsigned_abs x.p) (unsigned_abs x.q) in
          absurd (other (quadratic_eq
          (times-zero (content x) (int_div x.p (pos (content x))) x.p (quotient_times x.p (content x) common.0) (ap (λ (z : Quadratic). z.p) null))
          (times-zero (content x) (int_div x.q (pos (content x))) x.q (quotient_times x.q (content x) common.1) (ap (λ (z : Quadratic). z.q) null))))
      | inr up ↦ up
    ]

pub inverse_den_positive : {d : ℕ} → IsNoSquare d → (x : Fraction) → x.num ≢ nil → 0 < inverse_den d x
inverse_den_positive {d} no_square x other =
    mul-pos (quotient_positive (inner x) (content x.num) ((gcd-is x.den (content x.num)).1) (content_positive x.num other)) (norm_positive no_square x.num other)

-- a number within the width is the number of its bits
pub through_bits : (z : ℤ) → InWidth z → to_z w128 (of_z w128 z) ≡ z
through_bits z h = to_z-of_z w128 z (fits_signed_from_abs w128 z (size_within z h))
