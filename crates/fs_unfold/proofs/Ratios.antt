-- Fractions by what they are in the ring: one number over another one, which isn't 0.
use Rattle.std.proofs.Common.{◌≡◌, ◌≢◌, ℕ, ℤ, pos, ◌*ℤ◌, ◌*◌, ◌/◌, ◌<◌, [], ◌∷◌, refl, sym, ap, ◌∙◌, subst, arith}
use Rattle.std.proofs.Math.Nat.{mul-pos, dvd-mul_right}
use Rattle.std.proofs.lemmas.Nat.Gcd.{dvd_antisymm}
use Rattle.std.proofs.lemmas.Int.{ints, unsigned_abs-mul}
use Rattle.std.specs.Prelude.{unsigned_abs}
use Rattle.std.specs.Int.{◌∣◌}
use Rattle.fs_ring.proofs.Integers.{integer_ring, integer_order}
use Rattle.fs_ring.proofs.Signs as signs
use Rattle.fs_ring.proofs.Solver.{derived, identity, numeral, negative, ◌⊗◌, ◌⊕◌, ◌≐◌, ◌from◌}
use Rattle.fs_quadratic.specs.Radicand.{IsNoSquare}
use Rattle.fs_quadratic.specs.Ring.{Quadratic, add, neg, mul, zero as nil, one}
use Rattle.fs_quadratic.proofs.Laws.{quadratic_eq, quadratic_ring, quadratic_order}
use Rattle.fs_fraction.specs.Arithmetic.{negated, sum, common_den, left_num, right_num, product, shared, rest_num, rest_den, reciprocal, with_sign, norm, primitive, conjugate, inverse_num, inverse_den}
use Rattle.fs_fraction.specs.Divisor.{gcd, content}
use Rattle.fs_fraction.specs.Fraction.{Fraction, IsReduced, HasValue, scale}
use Rattle.fs_fraction.proofs.Divisors.{gcd-is, first_multiple, second_multiple, third_multiple, greatest, multiple_positive, quotient_positive}
use Rattle.fs_fraction.proofs.Inverses.{inverse_den_positive}
use Rattle.fs_fraction.proofs.Lowest.{reduced-positive, reduced-coprime}
use Rattle.fs_fraction.proofs.Values.{fraction_eq, gcd-scale, whole, whole-times, whole-positive, sum-value, product-value, reciprocal-value}

-- the fraction is n over k
abbrev pub IsRatio : ℕ → Fraction → Quadratic → Quadratic → Type 0
IsRatio d x n k = mul d k x.num ≡ mul d (whole x.den) n

-- the same by values
pub ratio_of_value : (d : ℕ) (x : Fraction) (n : Quadratic) (den : ℕ) → HasValue x n den → IsRatio d x n (whole den)
ratio_of_value d x n den h = whole-times d den x.num ∙ h ∙ sym (whole-times d x.den n)

-- a product of multiples
pub whole-product : (d m n : ℕ) (x : Quadratic) → mul d (mul d (whole m) (whole n)) x ≡ scale (m * n) x
whole-product d m n x = ap (λ w. mul d w x) (whole-times d m (whole n) ∙ multiple) ∙ whole-times d (m * n) x
  where
    multiple : scale m (whole n) ≡ whole (m * n)
    multiple = quadratic_eq refl (identity integer_ring (pos m ∷ []) (λ m. m ⊗ numeral 0 ≐ numeral 0) refl)

-- ---- operations without quotients

-- the negation
pub ratio_negated : (d : ℕ) (x : Fraction) (n k : Quadratic) → IsRatio d x n k → IsRatio d (negated x) (neg n) k
ratio_negated d x n k r =
    derived (quadratic_ring d) (x.num ∷ whole x.den ∷ n ∷ k ∷ []) (λ a X n k. k ⊗ negative a ≐ X ⊗ negative n from (negative (numeral 1), k ⊗ a ≐ X ⊗ n) ∷ []) refl (r, tt)

module _ {d : ℕ} (no_square : IsNoSquare d) where
  whole_not_zero : (n : ℕ) → 0 < n → whole n ≢ nil
  whole_not_zero n up = signs.positive-ne-zero (quadratic_order no_square) (whole-positive d n up)

  -- a factor that isn't 0 is cancelled
  pub cancel : (c a b : Quadratic) → c ≢ nil → mul d c a ≡ mul d c b → a ≡ b
  cancel c a b some e = signs.mul_left_cancel (quadratic_order no_square) c a b some e

  -- a product of numbers that aren't 0 isn't 0
  pub product_not_zero : (a b : Quadratic) → a ≢ nil → b ≢ nil → mul d a b ≢ nil
  product_not_zero a b p q e = q (cancel a b nil p (e ∙ sym (identity (quadratic_ring d) (a ∷ []) (λ x. x ⊗ numeral 0 ≐ numeral 0) refl)))

  -- a factor of both numbers is left out
  pub ratio_cancel : (x : Fraction) (c n k : Quadratic) → c ≢ nil → IsRatio d x (mul d c n) (mul d c k) → IsRatio d x n k
  ratio_cancel x c n k some r =
      cancel c _ _ some
      (derived (quadratic_ring d) (x.num ∷ whole x.den ∷ n ∷ k ∷ c ∷ []) (λ a X n k c. c ⊗ (k ⊗ a) ≐ c ⊗ (X ⊗ n) from (numeral 1, (c ⊗ k) ⊗ a ≐ X ⊗ (c ⊗ n)) ∷ []) refl (r, tt))

  -- one fraction is both
  pub ratio_cross : (x : Fraction) (n k m l : Quadratic) → 0 < x.den → IsRatio d x n k → IsRatio d x m l → mul d n l ≡ mul d m k
  ratio_cross x n k m l up r t =
      cancel (whole x.den) _ _ (whole_not_zero x.den up)
      (derived (quadratic_ring d) (x.num ∷ whole x.den ∷ n ∷ k ∷ m ∷ l ∷ [])
      (λ a X n k m l. X ⊗ (n ⊗ l) ≐ X ⊗ (m ⊗ k) from (negative l, k ⊗ a ≐ X ⊗ n) ∷ (k, l ⊗ a ≐ X ⊗ m) ∷ []) refl (r, (t, tt)))

  sum_over : (s x y X Y S n k m l : Quadratic) → X ≢ nil → Y ≢ nil → mul d (mul d X Y) s ≡ mul d S (add (mul d Y x) (mul d X y)) → mul d k x ≡ mul d X n → mul d l y ≡ mul d Y m
      → mul d (mul d k l) s ≡ mul d S (add (mul d n l) (mul d m k))
  sum_over s x y X Y S n k m l p q e r t =
      cancel (mul d X Y) _ _ (product_not_zero X Y p q)
      (derived (quadratic_ring d) (x ∷ y ∷ s ∷ X ∷ Y ∷ S ∷ n ∷ k ∷ m ∷ l ∷ [])
      (λ a b c X Y S n k m l.
      (X ⊗ Y) ⊗ ((k ⊗ l) ⊗ c) ≐ (X ⊗ Y) ⊗ (S ⊗ ((n ⊗ l) ⊕ (m ⊗ k))) from
      (k ⊗ l, (X ⊗ Y) ⊗ c ≐ S ⊗ ((Y ⊗ a) ⊕ (X ⊗ b))) ∷ (S ⊗ (Y ⊗ l), k ⊗ a ≐ X ⊗ n) ∷ (S ⊗ (X ⊗ k), l ⊗ b ≐ Y ⊗ m) ∷ []) refl (e, (r, (t, tt))))

  sum_crossed : (s x y : Fraction) → HasValue s (add (scale y.den x.num) (scale x.den y.num)) (x.den * y.den)
      → mul d (mul d (whole x.den) (whole y.den)) s.num ≡ mul d (whole s.den) (add (mul d (whole y.den) x.num) (mul d (whole x.den) y.num))
  sum_crossed s x y h =
      whole-product d x.den y.den s.num ∙ h ∙ sym (whole-times d s.den (add (scale y.den x.num) (scale x.den y.num)))
      ∙ (λ i. mul d (whole s.den) (add (sym (whole-times d y.den x.num) i) (sym (whole-times d x.den y.num) i)))

  -- ---- operations

  -- the sum
  ratio_sum : (x y : Fraction) (n k m l : Quadratic) → 0 < x.den → 0 < y.den → IsRatio d x n k → IsRatio d y m l → IsRatio d (sum x y) (add (mul d n l) (mul d m k)) (mul d k l)
  ratio_sum x y n k m l up vp r t =
      sum_over (sum x y).num x.num y.num (whole x.den) (whole y.den) (whole (sum x y).den) n k m l (whole_not_zero x.den up) (whole_not_zero y.den vp) (sum_crossed (sum x y) x y (sum-value x y)) r t

  -- over one number
  pub ratio_sum_over_one : (x y : Fraction) (n m k : Quadratic) → 0 < x.den → 0 < y.den → k ≢ nil → IsRatio d x n k → IsRatio d y m k → IsRatio d (sum x y) (add n m) k
  ratio_sum_over_one x y n m k up vp some r t =
      ratio_cancel (sum x y) k (add n m) k some (as_product (sum x y) (ratio_sum x y n k m k up vp r t))
    where
      as_product : (s : Fraction) → IsRatio d s (add (mul d n k) (mul d m k)) (mul d k k) → IsRatio d s (mul d k (add n m)) (mul d k k)
      as_product s h = h ∙ identity (quadratic_ring d) (whole s.den ∷ n ∷ m ∷ k ∷ []) (λ S n m k. S ⊗ ((n ⊗ k) ⊕ (m ⊗ k)) ≐ S ⊗ (k ⊗ (n ⊕ m))) refl

  product_over : (p x y X Y P n k m l : Quadratic) → X ≢ nil → Y ≢ nil → mul d (mul d X Y) p ≡ mul d P (mul d x y) → mul d k x ≡ mul d X n → mul d l y ≡ mul d Y m
      → mul d (mul d k l) p ≡ mul d P (mul d n m)
  product_over p x y X Y P n k m l s q e r t =
      cancel (mul d X Y) _ _ (product_not_zero X Y s q)
      (derived (quadratic_ring d) (x ∷ y ∷ p ∷ X ∷ Y ∷ P ∷ n ∷ k ∷ m ∷ l ∷ [])
      (λ a b c X Y P n k m l.
      (X ⊗ Y) ⊗ ((k ⊗ l) ⊗ c) ≐ (X ⊗ Y) ⊗ (P ⊗ (n ⊗ m)) from
      (k ⊗ l, (X ⊗ Y) ⊗ c ≐ P ⊗ (a ⊗ b)) ∷ (P ⊗ (l ⊗ b), k ⊗ a ≐ X ⊗ n) ∷ (P ⊗ (X ⊗ n), l ⊗ b ≐ Y ⊗ m) ∷ []) refl (e, (r, (t, tt))))

  -- the product
  pub ratio_product : (x y : Fraction) (n k m l : Quadratic) → 0 < x.den → 0 < y.den → IsRatio d x n k → IsRatio d y m l → IsRatio d (product d x y) (mul d n m) (mul d k l)
  ratio_product x y n k m l up vp r t =
      product_over (product d x y).num x.num y.num (whole x.den) (whole y.den) (whole (product d x y).den) n k m l (whole_not_zero x.den up) (whole_not_zero y.den vp)
      (whole-product d x.den y.den (product d x y).num ∙ product-value d x y ∙ sym (whole-times d (product d x y).den (mul d x.num y.num))) r t

  numerator_not_zero : (x : Fraction) (n k : Quadratic) → 0 < x.den → n ≢ nil → IsRatio d x n k → x.num ≢ nil
  numerator_not_zero x n k up some r e =
      product_not_zero (whole x.den) n (whole_not_zero x.den up) some (sym r ∙ ap (mul d k) e ∙ identity (quadratic_ring d) (k ∷ []) (λ k. k ⊗ numeral 0 ≐ numeral 0) refl)

  reciprocal_over : (v x X V n k : Quadratic) → X ≢ nil → mul d x v ≡ mul d X V → mul d k x ≡ mul d X n → mul d n v ≡ mul d V k
  reciprocal_over v x X V n k p e r =
      cancel X _ _ p
      (derived (quadratic_ring d) (x ∷ v ∷ X ∷ V ∷ n ∷ k ∷ []) (λ x v X V n k. X ⊗ (n ⊗ v) ≐ X ⊗ (V ⊗ k) from (k, x ⊗ v ≐ X ⊗ V) ∷ (negative v, k ⊗ x ≐ X ⊗ n) ∷ []) refl (e, (r, tt)))

  -- the inverse of a fraction that isn't 0
  pub ratio_reciprocal : (x : Fraction) (n k : Quadratic) → 0 < x.den → n ≢ nil → IsRatio d x n k → IsRatio d (reciprocal d x) k n
  ratio_reciprocal x n k up some r =
      let v = reciprocal-value no_square x (numerator_not_zero x n k up some r) in
      reciprocal_over (reciprocal d x).num x.num (whole x.den) (whole (reciprocal d x).den) n k (whole_not_zero x.den up) (v ∙ one_of (x.den) ((reciprocal d x).den)) r
    where
      one_of : (m l : ℕ) → scale (m * l) one ≡ mul d (whole m) (whole l)
      one_of m l = sym (whole-product d m l one) ∙ (quadratic_ring d).mul_one (mul d (whole m) (whole l))

-- ---- reduced fractions

-- in lowest terms, over a number above 0
pub record IsCanonical (x : Fraction) : Type 0 where
  pub positive : 0 < x.den
  pub reduced : IsReduced x.num x.den

pub canonical_sum : (x y : Fraction) → 0 < x.den → 0 < y.den → IsCanonical (sum x y)
canonical_sum x y up vp =
    let den = multiple_positive x.den y.den up vp in
    let num = add (left_num x y) (right_num x y) in
    record { positive = reduced-positive num (common_den x y) den; reduced = reduced-coprime num (common_den x y) den }

pub canonical_product : (d : ℕ) (x y : Fraction) → 0 < x.den → 0 < y.den → IsCanonical (product d x y)
canonical_product d x y up vp =
    let left : 0 < x.den / shared y x = quotient_positive (shared y x) x.den ((gcd-is (content y.num) x.den).1) up in
    let right : 0 < y.den / shared x y = quotient_positive (shared x y) y.den ((gcd-is (content x.num) y.den).1) vp in
    let den : 0 < rest_den x y = mul-pos left right in
    let num = mul d (rest_num x y) (rest_num y x) in
    record { positive = reduced-positive num (rest_den x y) den; reduced = reduced-coprime num (rest_den x y) den }

pub canonical_reciprocal : {d : ℕ} → IsNoSquare d → (x : Fraction) → x.num ≢ nil → IsCanonical (reciprocal d x)
canonical_reciprocal {d} no_square x some =
    let den = inverse_den_positive no_square x some in
    let num = with_sign (norm d (primitive x.num)) (conjugate (inverse_num x)) in
    record { positive = reduced-positive num (inverse_den d x) den; reduced = reduced-coprime num (inverse_den d x) den }

-- ---- one spelling

-- the three numbers of a fraction in lowest terms have the greatest common divisor 1
lowest-gcd : (num : Quadratic) (den : ℕ) → IsReduced num den → gcd (content num) den ≡ 1
lowest-gcd num den l =
    let a = unsigned_abs num.p in
    let b = unsigned_abs num.q in
    l (gcd (content num) den) (first_multiple a b den) (second_multiple a b den) (third_multiple a b den)

-- a divisor of n times each part of a numerator in lowest terms, which the denominator is, divides n
den_divides : (num : Quadratic) (den n : ℕ) → IsReduced num den → 0 < n → den ∣ n * unsigned_abs num.p → den ∣ n * unsigned_abs num.q → den ∣ n
den_divides num den n l up hp hq =
    let a = unsigned_abs num.p in
    let b = unsigned_abs num.q in
    let whole_gcd : gcd (gcd (n * a) (n * b)) (n * den) ≡ n =
    ap (λ j. gcd j (n * den)) (gcd-scale n a b up) ∙ (gcd-scale n (gcd a b) den up ∙ (ap (λ j. n * j) (lowest-gcd num den l) ∙ omega arith)) in
    subst (λ j. den ∣ j) whole_gcd (greatest (n * a) (n * b) (n * den) den hp hq (subst (λ j. den ∣ j) (omega arith) (dvd-mul_right den n)))

size_divides : (m n : ℕ) (z w : ℤ) → pos m *ℤ z ≡ pos n *ℤ w → m ∣ n * unsigned_abs w
size_divides m n z w e =
    subst (λ j. m ∣ j) (sym (unsigned_abs-mul (pos m) z) ∙ (ap unsigned_abs e ∙ unsigned_abs-mul (pos n) w)) (dvd-mul_right m (unsigned_abs z))

cancel_natural : (n : ℕ) (z w : ℤ) → 0 < n → pos n *ℤ z ≡ pos n *ℤ w → z ≡ w
cancel_natural n z w up e = signs.mul_left_cancel integer_order (pos n) z w (λ none. absurd (omega (arith, ints))) e

equal_reduced : (x y : Fraction) → IsCanonical x → IsCanonical y → HasValue x y.num y.den → x ≡ y
equal_reduced x y cx cy e =
    let p : pos y.den *ℤ x.num.p ≡ pos x.den *ℤ y.num.p = ap (λ (z : Quadratic). z.p) e in
    let q : pos y.den *ℤ x.num.q ≡ pos x.den *ℤ y.num.q = ap (λ (z : Quadratic). z.q) e in
    let there : y.den ∣ x.den = den_divides y.num y.den x.den cy.reduced cx.positive (size_divides y.den x.den x.num.p y.num.p p) (size_divides y.den x.den x.num.q y.num.q q) in
    let back : x.den ∣ y.den = den_divides x.num x.den y.den cx.reduced cy.positive (size_divides x.den y.den y.num.p x.num.p (sym p)) (size_divides x.den y.den y.num.q x.num.q (sym q)) in
    let same : x.den ≡ y.den = dvd_antisymm back there in
    fraction_eq (quadratic_eq
    (cancel_natural y.den x.num.p y.num.p cy.positive (p ∙ ap (λ (n : ℕ). pos n *ℤ y.num.p) same))
    (cancel_natural y.den x.num.q y.num.q cy.positive (q ∙ ap (λ (n : ℕ). pos n *ℤ y.num.q) same))) same

-- fractions in lowest terms are equal where they are equal quotients
pub ratio_equal : {d : ℕ} → IsNoSquare d → (x y : Fraction) (n k m l : Quadratic) → IsCanonical x → IsCanonical y → k ≢ nil → l ≢ nil → IsRatio d x n k → IsRatio d y m l
    → mul d n l ≡ mul d m k → x ≡ y
ratio_equal {d} no_square x y n k m l cx cy some other r t e =
    equal_reduced x y cx cy
    (sym (whole-times d y.den x.num)
    ∙ cancel no_square (mul d k l) _ _ (product_not_zero no_square k l some other)
    (derived (quadratic_ring d) (x.num ∷ y.num ∷ whole x.den ∷ whole y.den ∷ n ∷ k ∷ m ∷ l ∷ [])
    (λ a b X Y n k m l.
    (k ⊗ l) ⊗ (Y ⊗ a) ≐ (k ⊗ l) ⊗ (X ⊗ b) from
    (l ⊗ Y, k ⊗ a ≐ X ⊗ n) ∷ (negative (k ⊗ X), l ⊗ b ≐ Y ⊗ m) ∷ (X ⊗ Y, n ⊗ l ≐ m ⊗ k) ∷ []) refl (r, (t, (e, tt))))
    ∙ whole-times d x.den y.num)
