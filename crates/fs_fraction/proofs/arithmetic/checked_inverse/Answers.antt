use Rattle.std.proofs.Common.{◌≡◌, ℕ, ℤ, ◌<◌, ◌/◌, sym, ◌∙◌, ap, subst}
use Rattle.std.specs.Prelude.{unsigned_abs}
use Rattle.fs_quadratic.specs.Ring.{Quadratic}
use Rattle.fs_quadratic.specs.Width.{InWidth, Fits}
use Rattle.fs_quadratic.proofs.SquareRoot.{radicand_no_square}
use Rattle.fs_fraction.specs.Divisor.{gcd, content, divide}
use Rattle.fs_fraction.specs.Fraction.{scale, reduced}
use Rattle.fs_fraction.specs.Arithmetic.{conjugate, with_sign, inverse_den}
use Rattle.fs_fraction.proofs.Inverses.{inverse_answer, inverse_den-is, inverse_den_positive, through_bits}
use Rattle.fs_fraction.proofs.arithmetic.checked_inverse.Goals as goal

pub in_lowest_terms-requires-clause-positive : goal.in_lowest_terms-requires-clause-positive
in_lowest_terms-requires-clause-positive c =
    let x = c.args.x in
    let d = c.args.field.d in
    let common = c.content-common.result in
    let norm = c.in-Some-Some.norm in
    let e_common : common ≡ content x.num = c.content-common.ensures.value ∙ ap content c.num.ensures in
    let e_within : c.greatest_divisor-inner.result ≡ gcd x.den common = c.greatest_divisor-inner.ensures.value ∙ ap (λ (m : ℕ). gcd m common) c.denominator-m.ensures.value in
    let e_least : c.divide-primitive.result ≡ divide x.num common = c.divide-primitive.ensures ∙ ap (λ (z : Quadratic). divide z common) c.num-2.ensures in
    let e_size : c.unsigned_abs.result ≡ unsigned_abs norm = c.unsigned_abs.ensures.value ∙ ap unsigned_abs (through_bits norm (subst InWidth (sym c.in-Some-Some.ensures.1) c.in-Some-Some.ensures.0.2)) in
    let den : c.in-Some.den ≡ inverse_den d x = c.in-Some.ensures.1 ∙ inverse_den-is d x common c.greatest_divisor-inner.result c.divide-primitive.result norm c.unsigned_abs.result e_common e_within e_least c.in-Some-Some.ensures.1 e_size in
    subst (λ (n : ℕ). 0 < n) (sym den) (inverse_den_positive (radicand_no_square c.args.field.radicand) x c.requires)

pub returns-in-Some : goal.returns-in-Some
returns-in-Some c =
    let x = c.args.x in
    let d = c.args.field.d in
    let common = c.content-common.result in
    let within = c.greatest_divisor-inner.result in
    let least = c.divide-primitive.result in
    let num = c.in-Some-Some.num in
    let norm = c.in-Some-Some.norm in
    let e_common : common ≡ content x.num = c.content-common.ensures.value ∙ ap content c.num.ensures in
    let e_within : within ≡ gcd x.den common = c.greatest_divisor-inner.ensures.value ∙ ap (λ (m : ℕ). gcd m common) c.denominator-m.ensures.value in
    let e_least : least ≡ divide x.num common = c.divide-primitive.ensures ∙ ap (λ (z : Quadratic). divide z common) c.num-2.ensures in
    let bits = through_bits norm (subst InWidth (sym c.in-Some-Some.ensures.1) c.in-Some-Some.ensures.0.2) in
    let e_size : c.unsigned_abs.result ≡ unsigned_abs norm = c.unsigned_abs.ensures.value ∙ ap unsigned_abs bits in
    let signed : c.with_sign.result ≡ with_sign norm (conjugate num) = c.with_sign.ensures ∙ (ap (λ (z : ℤ). with_sign z c.conjugate.result) bits ∙ ap (with_sign norm) c.conjugate.ensures) in
    inverse_answer d x common within least num norm c.unsigned_abs.result c.in-Some.den e_common e_within e_least
    c.in-Some-Some.ensures
    (subst (λ (m : ℕ). Fits (scale (m / within) least) × (num ≡ scale (m / within) least)) c.denominator-m.ensures.value c.in-Some-Some.ensures')
    e_size c.in-Some.ensures c.in_lowest_terms.result
    (c.in_lowest_terms.ensures ∙ ap (λ (z : Quadratic). reduced z c.in-Some.den) signed)
