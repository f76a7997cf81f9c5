-- The results of the operations on fractions have the values of sums, differences, products, inverses and quotients.
use Rattle.std.proofs.Common.{◌≡◌, ◌≢◌, ℕ, pos, ◌*◌, ◌<◌, [], ◌∷◌, refl, sym, ◌∙◌, ap, subst}
use Rattle.fs_ring.proofs.Integers.{integer_ring}
use Rattle.fs_ring.proofs.Signs as signs
use Rattle.fs_ring.proofs.Solver.{expressions as E, identity, derived, numeral, ◌⊗◌, ◌≐◌, ◌from◌}
use Rattle.fs_quadratic.specs.Radicand.{IsNoSquare}
use Rattle.fs_quadratic.specs.Ring.{Quadratic, mul, zero as nil, one}
use Rattle.fs_quadratic.proofs.Laws.{quadratic_eq, quadratic_ring, quadratic_order}
use Rattle.fs_fraction.specs.Fraction.{Fraction, HasValue, HasDifference, HasProduct, one_fraction, scale}
use Rattle.fs_fraction.specs.Arithmetic.{negated, sum, with_sign, conjugate, norm, primitive, inverse_num, inverse_den, reciprocal, quotient}
use Rattle.fs_fraction.proofs.Lowest.{reduced-positive}
use Rattle.fs_fraction.proofs.Inverses.{inverse_den_positive}
use Rattle.fs_fraction.proofs.Values.{whole, whole-times, whole-positive, crosswise, sum-value, product-value, reciprocal-value}

-- the sum with the negation is the difference
pub difference_exact : (x y : Fraction) → HasDifference x y (sum x (negated y))
difference_exact x y = subst (λ num. HasValue (sum x (negated y)) num (x.den * y.den)) (crosswise x.den y.den x.num y.num) (sum-value x (negated y))

scale-one : (x : Quadratic) → scale 1 x ≡ x
scale-one x = quadratic_eq (identity integer_ring (x.p ∷ []) (λ z. numeral 1 ⊗ z ≐ z) refl) (identity integer_ring (x.q ∷ []) (λ z. numeral 1 ⊗ z ≐ z) refl)

-- a fraction times its inverse is 1
pub inverse_exact : {d : ℕ} → IsNoSquare d → (x : Fraction) → x.num ≢ nil → HasProduct d x (reciprocal d x) one_fraction
inverse_exact {d} no_square x other = sym (reciprocal-value no_square x other) ∙ sym (scale-one (mul d x.num (reciprocal d x).num))

whole-mul : (d m n : ℕ) → mul d (whole m) (whole n) ≡ whole (m * n)
whole-mul d m n = whole-times d m (whole n) ∙ quadratic_eq refl (identity integer_ring (pos m ∷ []) (λ m. m ⊗ numeral 0 ≐ numeral 0) refl)

-- a product of three by multiples
scale-product : (d m n : ℕ) (x : Quadratic) → mul d (mul d (whole m) (whole n)) x ≡ scale (m * n) x
scale-product d m n x = ap (λ w. mul d w x) (whole-mul d m n) ∙ whole-times d (m * n) x

whole-one : (d n : ℕ) → scale n one ≡ whole n
whole-one d n = sym (whole-times d n one) ∙ (quadratic_ring d).mul_one (whole n)

-- the quotient times the divisor is the dividend
pub quotient_exact : {d : ℕ} → IsNoSquare d → (x y : Fraction) → y.num ≢ nil → HasProduct d (quotient d x y) y x
quotient_exact {d} no_square x y other =
    let w = reciprocal d y in
    let z = quotient d x y in
    let up : 0 < w.den = reduced-positive (with_sign (norm d (primitive y.num)) (conjugate (inverse_num y))) (inverse_den d y) (inverse_den_positive no_square y other) in
    let first : mul d (mul d (whole x.den) (whole w.den)) z.num ≡ mul d (whole z.den) (mul d x.num w.num) =
    scale-product d x.den w.den z.num ∙ product-value d x w ∙ sym (whole-times d z.den (mul d x.num w.num)) in
    let second : mul d y.num w.num ≡ mul d (whole y.den) (whole w.den) =
    reciprocal-value no_square y other ∙ whole-one d (y.den * w.den) ∙ sym (whole-mul d y.den w.den) in
    let times : mul d (whole w.den) (mul d (mul d (whole z.den) (whole y.den)) x.num) ≡ mul d (whole w.den) (mul d (whole x.den) (mul d z.num y.num)) =
    derived (quadratic_ring d) (x.num ∷ y.num ∷ z.num ∷ w.num ∷ whole x.den ∷ whole y.den ∷ whole z.den ∷ whole w.den ∷ [])
    (λ x y z w m n k l.
    l ⊗ ((k ⊗ n) ⊗ x) ≐ l ⊗ (m ⊗ (z ⊗ y)) from
    (E.neg y, (m ⊗ l) ⊗ z ≐ k ⊗ (x ⊗ w)) ∷ (E.neg (k ⊗ x), y ⊗ w ≐ n ⊗ l) ∷ []) refl (first, (second, tt)) in
    let equal = signs.mul_left_cancel (quadratic_order no_square) (whole w.den) _ _ (signs.positive-ne-zero (quadratic_order no_square) (whole-positive d w.den up)) times in
    sym (scale-product d z.den y.den x.num) ∙ equal ∙ whole-times d x.den (mul d z.num y.num)
