-- Fractions and their values: fractions of equal value are equal, and sums and products are those of the values.
use Rattle.std.proofs.Common.{◌≡◌, ◌≢◌, ℕ, ℤ, pos, negsuc, neg_ℤ, ◌+ℤ◌, ◌-ℤ◌, ◌*ℤ◌, ◌+◌, ◌*◌, ◌/◌, ◌%◌, ◌<◌, ◌≤◌, zero, suc, [], ◌∷◌, refl, sym, ◌∙◌, ap, subst, arith}
use Rattle.std.proofs.Math.Nat.{mod-lt, mul-lt-mul_of_pos_left, mul-add-mod_self_left, mod-eq_of_lt, mul-zero, dvd-mul_right, mul-div_cancel'}
use Rattle.std.proofs.lemmas.Nat.Gcd.{IsGcd-from_zero, IsGcd-from_mod, same_from_IsGcd, dvd_antisymm}
use Rattle.std.proofs.lemmas.Int.{ints, unsigned_abs-mul}
use Rattle.std.specs.Prelude.{unsigned_abs}
use Rattle.std.specs.Int.{IsGcd, ◌∣◌}
use Rattle.fs_ring.proofs.Integers.{integer_ring, integer_order}
use Rattle.fs_ring.proofs.Signs.{mul_left_cancel}
use Rattle.fs_ring.proofs.Solver.{identity, numeral, negative, ◌⊗◌, ◌⊕◌, ◌≐◌}
use Rattle.fs_quadratic.specs.Radicand.{IsNoSquare}
use Rattle.fs_quadratic.specs.Ring.{Quadratic, add, sub, neg, mul, zero as nil, one, IsPositive, both}
use Rattle.fs_quadratic.proofs.Laws.{quadratic_eq}
use Rattle.fs_fraction.specs.Divisor.{gcd_within, gcd, content, divide}
use Rattle.fs_fraction.specs.Fraction.{Fraction, IsLowest, IsReduced, HasValue, reduced, scale}
use Rattle.fs_fraction.specs.Arithmetic.{sum, product, shared, rest_num, rest_den, left_num, right_num, common_den, conjugate, norm, with_sign, primitive, inner, inverse_num, inverse_den, reciprocal}
use Rattle.fs_fraction.proofs.Inverses.{inverse_den_positive}
use Rattle.fs_fraction.proofs.Divisors.{gcd-is, first_multiple, second_multiple, third_multiple, greatest}
use Rattle.fs_fraction.proofs.Lowest.{reduced-value, reduced-positive, reduced-coprime, quotient_times}

-- ---- common divisors of multiples

expand : (k b q r a : ℕ) → b * q + r ≡ a → k * a ≡ (k * b) * q + k * r
expand k b q r a e = sym (ap (λ n. k * n) e) ∙ omega arith

remainder-scale : (k a b : ℕ) → 0 < k → 0 < b → k * (a % b) ≡ (k * a) % (k * b)
remainder-scale k a b up positive =
    let parts : b * (a / b) + a % b ≡ a = omega arith in
    let small : k * (a % b) < k * b = mul-lt-mul_of_pos_left (mod-lt a positive) up in
    sym (ap (λ n. n % (k * b)) (expand k b (a / b) (a % b) a parts) ∙ (mul-add-mod_self_left (k * b) (a / b) (k * (a % b)) ∙ mod-eq_of_lt small))

gcd_within-scale : (steps a b k : ℕ) → 0 < k → b ≤ steps → IsGcd (k * a) (k * b) (k * gcd_within steps a b)
unfolding gcd_within
gcd_within-scale zero a b k up h = IsGcd-from_zero (k * a) (k * b) (let none : b ≡ 0 = omega arith in ap (λ n. k * n) none ∙ mul-zero k)
gcd_within-scale (suc steps) a zero k up h = IsGcd-from_zero (k * a) (k * zero) (mul-zero k)
gcd_within-scale (suc steps) a (suc b) k up h =
    let below : a % suc b < suc b = mod-lt a (omega arith) in
    let g = k * gcd_within steps (suc b) (a % suc b) in
    let rest : k * (a % suc b) ≡ (k * a) % (k * suc b) = remainder-scale k a (suc b) up (omega arith) in
    IsGcd-from_mod (k * a) (k * suc b) g (subst (λ n. IsGcd (k * suc b) n g) rest (gcd_within-scale steps (suc b) (a % suc b) k up (omega arith)))

scaled : (k a b : ℕ) → 0 < k → IsGcd (k * a) (k * b) (k * gcd a b)
unfolding gcd
scaled k a b up = gcd_within-scale b a b k up (omega arith)

pub gcd-scale : (k a b : ℕ) → 0 < k → gcd (k * a) (k * b) ≡ k * gcd a b
gcd-scale k a b up = same_from_IsGcd (k * a) (k * b) (gcd (k * a) (k * b)) (k * gcd a b) (gcd-is (k * a) (k * b)) (scaled k a b up)

-- the three numbers of a fraction in lowest terms have the greatest common divisor 1
lowest-gcd : (num : Quadratic) (den : ℕ) → IsReduced num den → gcd (content num) den ≡ 1
lowest-gcd num den l =
    let a = unsigned_abs num.p in
    let b = unsigned_abs num.q in
    l (gcd (content num) den) (first_multiple a b den) (second_multiple a b den) (third_multiple a b den)

-- a divisor of n times each part of a numerator in lowest terms, which the denominator is, divides n
den_divides : (num : Quadratic) (den n : ℕ) → IsReduced num den → 0 < n → den ∣ n * unsigned_abs num.p → den ∣ n * unsigned_abs num.q → den ∣ n
den_divides num den n l up hp hq =
    let a = unsigned_abs num.p in
    let b = unsigned_abs num.q in
    let whole : gcd (gcd (n * a) (n * b)) (n * den) ≡ n =
    ap (λ j. gcd j (n * den)) (gcd-scale n a b up) ∙ (gcd-scale n (gcd a b) den up ∙ (ap (λ j. n * j) (lowest-gcd num den l) ∙ omega arith)) in
    subst (λ j. den ∣ j) whole (greatest (n * a) (n * b) (n * den) den hp hq (subst (λ j. den ∣ j) (omega arith) (dvd-mul_right den n)))

-- m·z ≡ n·w: m divides n times the size of w
size_divides : (m n : ℕ) (z w : ℤ) → pos m *ℤ z ≡ pos n *ℤ w → m ∣ n * unsigned_abs w
size_divides m n z w e =
    subst (λ j. m ∣ j) (sym (unsigned_abs-mul (pos m) z) ∙ (ap unsigned_abs e ∙ unsigned_abs-mul (pos n) w)) (dvd-mul_right m (unsigned_abs z))

cancel : (n : ℕ) (z w : ℤ) → 0 < n → pos n *ℤ z ≡ pos n *ℤ w → z ≡ w
cancel n z w up e = mul_left_cancel integer_order (pos n) z w (λ none. absurd (omega (arith, ints))) e

-- fractions with equal numerators and equal denominators
pub fraction_eq : {x y : Fraction} → x.num ≡ y.num → x.den ≡ y.den → x ≡ y
fraction_eq e f = λ i. record { num = e i; den = f i }

-- two reduced fractions with the same value are one
equal_reduced : (x y : Fraction) → 0 < x.den → 0 < y.den → IsReduced x.num x.den → IsReduced y.num y.den → HasValue x y.num y.den → x ≡ y
equal_reduced x y up_x up_y rx ry e =
    let p : pos y.den *ℤ x.num.p ≡ pos x.den *ℤ y.num.p = ap (λ (z : Quadratic). z.p) e in
    let q : pos y.den *ℤ x.num.q ≡ pos x.den *ℤ y.num.q = ap (λ (z : Quadratic). z.q) e in
    let there : y.den ∣ x.den = den_divides y.num y.den x.den ry up_x (size_divides y.den x.den x.num.p y.num.p p) (size_divides y.den x.den x.num.q y.num.q q) in
    let back : x.den ∣ y.den = den_divides x.num x.den y.den rx up_y (size_divides x.den y.den y.num.p x.num.p (sym p)) (size_divides x.den y.den y.num.q x.num.q (sym q)) in
    let same : x.den ≡ y.den = dvd_antisymm back there in
    fraction_eq (quadratic_eq
    (cancel y.den x.num.p y.num.p up_y (p ∙ ap (λ (n : ℕ). pos n *ℤ y.num.p) same))
    (cancel y.den x.num.q y.num.q up_y (q ∙ ap (λ (n : ℕ). pos n *ℤ y.num.q) same))) same

across : (x : Fraction) (den : ℕ) (z r rd : ℤ) (f : ℤ) → 0 < den → pos den *ℤ r ≡ rd *ℤ z → pos den *ℤ f ≡ pos x.den *ℤ z → rd *ℤ f ≡ pos x.den *ℤ r
across x den z r rd f up hr hf =
    cancel den (rd *ℤ f) (pos x.den *ℤ r) up
    (identity integer_ring (pos den ∷ rd ∷ f ∷ []) (λ n d f. n ⊗ (d ⊗ f) ≐ d ⊗ (n ⊗ f)) refl
    ∙ (ap (λ (w : ℤ). rd *ℤ w) hf
    ∙ (identity integer_ring (rd ∷ pos x.den ∷ z ∷ []) (λ d m z. d ⊗ (m ⊗ z) ≐ m ⊗ (d ⊗ z)) refl
    ∙ (ap (λ (w : ℤ). pos x.den *ℤ w) (sym hr)
    ∙ identity integer_ring (pos x.den ∷ pos den ∷ r ∷ []) (λ m n r. m ⊗ (n ⊗ r) ≐ n ⊗ (m ⊗ r)) refl))))

-- a fraction in lowest terms with the value num/den is that number reduced
pub reduced-unique : (x : Fraction) (num : Quadratic) (den : ℕ) → IsLowest x.num x.den → 0 < den → HasValue x num den → x ≡ reduced num den
reduced-unique x num den l up h =
    let r = reduced num den in
    let v = reduced-value num den in
    equal_reduced x r l.positive (reduced-positive num den up) l.reduced (reduced-coprime num den up)
    (quadratic_eq
    (across x den num.p r.num.p (pos r.den) x.num.p up (ap (λ (z : Quadratic). z.p) v) (ap (λ (z : Quadratic). z.p) h))
    (across x den num.q r.num.q (pos r.den) x.num.q up (ap (λ (z : Quadratic). z.q) v) (ap (λ (z : Quadratic). z.q) h)))

-- ---- sums

sum_part : (m n g left right : ℕ) (r rd x y : ℤ) → g * left ≡ n → g * right ≡ m → pos (m * left) *ℤ r ≡ rd *ℤ (pos left *ℤ x +ℤ pos right *ℤ y)
    → pos (m * n) *ℤ r ≡ rd *ℤ (pos n *ℤ x +ℤ pos m *ℤ y)
sum_part m n g left right r rd x y en em h =
    ap (λ (k : ℕ). pos (m * k) *ℤ r) (sym en)
    ∙ (identity integer_ring (pos m ∷ pos g ∷ pos left ∷ r ∷ []) (λ m g l r. (m ⊗ (g ⊗ l)) ⊗ r ≐ g ⊗ ((m ⊗ l) ⊗ r)) refl
    ∙ (ap (λ (z : ℤ). pos g *ℤ z) h
    ∙ (identity integer_ring (pos g ∷ rd ∷ pos left ∷ pos right ∷ x ∷ y ∷ []) (λ g d l k x y. g ⊗ (d ⊗ ((l ⊗ x) ⊕ (k ⊗ y))) ≐ d ⊗ (((g ⊗ l) ⊗ x) ⊕ ((g ⊗ k) ⊗ y))) refl
    ∙ (ap (λ (k : ℕ). rd *ℤ (pos k *ℤ x +ℤ pos (g * right) *ℤ y)) en ∙ ap (λ (k : ℕ). rd *ℤ (pos n *ℤ x +ℤ pos k *ℤ y)) em))))

-- the sum has the value of the sum, crosswise over the product of the denominators
pub sum-value : (x y : Fraction) → HasValue (sum x y) (add (scale y.den x.num) (scale x.den y.num)) (x.den * y.den)
sum-value x y =
    let g = gcd x.den y.den in
    let left : g * (y.den / g) ≡ y.den = mul-div_cancel' g ((gcd-is x.den y.den).1) in
    let right : g * (x.den / g) ≡ x.den = mul-div_cancel' g ((gcd-is x.den y.den).0) in
    let r = sum x y in
    let v = reduced-value (add (left_num x y) (right_num x y)) (common_den x y) in
    quadratic_eq
    (sum_part x.den y.den g (y.den / g) (x.den / g) r.num.p (pos r.den) x.num.p y.num.p left right (ap (λ (z : Quadratic). z.p) v))
    (sum_part x.den y.den g (y.den / g) (x.den / g) r.num.q (pos r.den) x.num.q y.num.q left right (ap (λ (z : Quadratic). z.q) v))

-- ---- products

-- both numerators times what they were divided by
product_parts : (d u w m n : ℕ) (a b : Quadratic) (r : Fraction) → HasValue r (mul d a b) (m * n) → HasValue r (mul d (scale u a) (scale w b)) ((w * m) * (u * n))
unfolding mul
product_parts d u w m n a b r h =
    let before = λ (z : ℤ). identity integer_ring (pos w ∷ pos m ∷ pos u ∷ pos n ∷ z ∷ []) (λ w m u n z. ((w ⊗ m) ⊗ (u ⊗ n)) ⊗ z ≐ (w ⊗ u) ⊗ ((m ⊗ n) ⊗ z)) refl in
    quadratic_eq
    (before r.num.p ∙ (ap (λ (z : Quadratic). pos (w * u) *ℤ z.p) h
    ∙ identity integer_ring (pos w ∷ pos u ∷ pos r.den ∷ pos d ∷ a.p ∷ a.q ∷ b.p ∷ b.q ∷ [])
    (λ w u k d p q s t. (w ⊗ u) ⊗ (k ⊗ ((p ⊗ s) ⊕ (d ⊗ (q ⊗ t)))) ≐ k ⊗ (((u ⊗ p) ⊗ (w ⊗ s)) ⊕ (d ⊗ ((u ⊗ q) ⊗ (w ⊗ t))))) refl))
    (before r.num.q ∙ (ap (λ (z : Quadratic). pos (w * u) *ℤ z.q) h
    ∙ identity integer_ring (pos w ∷ pos u ∷ pos r.den ∷ a.p ∷ a.q ∷ b.p ∷ b.q ∷ [])
    (λ w u k p q s t. (w ⊗ u) ⊗ (k ⊗ ((p ⊗ t) ⊕ (q ⊗ s))) ≐ k ⊗ (((u ⊗ p) ⊗ (w ⊗ t)) ⊕ ((u ⊗ q) ⊗ (w ⊗ s)))) refl))

-- a number divided by a divisor of both parts, times it
pub divide-times : (x : Quadratic) (n : ℕ) → scale (gcd (content x) n) (divide x (gcd (content x) n)) ≡ x
divide-times x n =
    let a = unsigned_abs x.p in
    let b = unsigned_abs x.q in
    quadratic_eq (quotient_times x.p (gcd (content x) n) (first_multiple a b n)) (quotient_times x.q (gcd (content x) n) (second_multiple a b n))

-- the product has the value of the product
pub product-value : (d : ℕ) (x y : Fraction) → HasValue (product d x y) (mul d x.num y.num) (x.den * y.den)
product-value d x y =
    let u = shared x y in
    let w = shared y x in
    let r = product d x y in
    let m : w * (x.den / w) ≡ x.den = mul-div_cancel' w ((gcd-is (content y.num) x.den).1) in
    let n : u * (y.den / u) ≡ y.den = mul-div_cancel' u ((gcd-is (content x.num) y.den).1) in
    let base = product_parts d u w (x.den / w) (y.den / u) (rest_num x y) (rest_num y x) r (reduced-value (mul d (rest_num x y) (rest_num y x)) (rest_den x y)) in
    let left = subst (λ (z : Quadratic). HasValue r (mul d z (scale w (rest_num y x))) ((w * (x.den / w)) * (u * (y.den / u)))) (divide-times x.num y.den) base in
    let both = subst (λ (z : Quadratic). HasValue r (mul d x.num z) ((w * (x.den / w)) * (u * (y.den / u)))) (divide-times y.num x.den) left in
    let first = subst (λ (k : ℕ). HasValue r (mul d x.num y.num) (k * (u * (y.den / u)))) m both in
    subst (λ (k : ℕ). HasValue r (mul d x.num y.num) (x.den * k)) n first

-- ---- whole numbers as factors, and differences

-- k as a number
abbrev pub whole : ℕ → Quadratic
whole k = record { p = pos k; q = pos 0 }

-- a multiple is a product
pub whole-times : (d k : ℕ) (x : Quadratic) → mul d (whole k) x ≡ scale k x
unfolding mul
whole-times d k x =
    quadratic_eq
    (identity integer_ring (pos k ∷ pos d ∷ x.p ∷ x.q ∷ []) (λ k d p q. (k ⊗ p) ⊕ (d ⊗ (numeral 0 ⊗ q)) ≐ k ⊗ p) refl)
    (identity integer_ring (pos k ∷ x.p ∷ x.q ∷ []) (λ k p q. (k ⊗ q) ⊕ (numeral 0 ⊗ p) ≐ k ⊗ q) refl)

pub whole-positive : (d k : ℕ) → 0 < k → IsPositive d (whole k)
whole-positive d k up = both (omega (arith, ints)) (omega (arith, ints)) (λ zeros. let none = zeros.0 in absurd (omega (arith, ints)))

plus-neg : (z w : ℤ) → z +ℤ neg_ℤ w ≡ z -ℤ w
plus-neg z w = omega (arith, ints)

less : (z m w : ℤ) → z +ℤ (m *ℤ neg_ℤ w) ≡ z -ℤ (m *ℤ w)
less z m w = ap (λ (v : ℤ). z +ℤ v) (identity integer_ring (m ∷ w ∷ []) (λ m w. m ⊗ negative w ≐ negative (m ⊗ w)) refl) ∙ plus-neg z (m *ℤ w)

pub crosswise : (m n : ℕ) (x y : Quadratic) → add (scale n x) (scale m (neg y)) ≡ sub (scale n x) (scale m y)
crosswise m n x y = quadratic_eq (less (pos n *ℤ x.p) (pos m) y.p) (less (pos n *ℤ x.q) (pos m) y.q)

-- ---- inverses

-- 1 with the sign of a number
unit_of : ℤ → ℤ
unit_of (pos n) = pos 1
unit_of (negsuc n) = negsuc 0

unit-times : (e : ℤ) → unit_of e *ℤ e ≡ pos (unsigned_abs e)
unfolding unit_of
unit-times (pos n) = identity integer_ring (pos n ∷ []) (λ n. numeral 1 ⊗ n ≐ n) refl
unit-times (negsuc n) = identity integer_ring (pos (suc n) ∷ []) (λ n. negative (numeral 1) ⊗ negative n ≐ n) refl

with_sign-is : (e : ℤ) (y : Quadratic) → with_sign e y ≡ record { p = unit_of e *ℤ y.p; q = unit_of e *ℤ y.q }
unfolding unit_of
with_sign-is (pos n) y = quadratic_eq (identity integer_ring (y.p ∷ []) (λ z. z ≐ numeral 1 ⊗ z) refl) (identity integer_ring (y.q ∷ []) (λ z. z ≐ numeral 1 ⊗ z) refl)
with_sign-is (negsuc n) y = quadratic_eq (identity integer_ring (y.p ∷ []) (λ z. negative z ≐ negative (numeral 1) ⊗ z) refl) (identity integer_ring (y.q ∷ []) (λ z. negative z ≐ negative (numeral 1) ⊗ z) refl)

inverse_p : (d c k vp vq rp rq rd s m : ℤ) → k *ℤ rp ≡ rd *ℤ (s *ℤ (m *ℤ vp)) → k *ℤ rq ≡ rd *ℤ (s *ℤ neg_ℤ (m *ℤ vq))
    → k *ℤ ((c *ℤ vp) *ℤ rp +ℤ d *ℤ ((c *ℤ vq) *ℤ rq)) ≡ (c *ℤ (m *ℤ rd)) *ℤ (s *ℤ (vp *ℤ vp +ℤ neg_ℤ (d *ℤ (vq *ℤ vq))))
inverse_p d c k vp vq rp rq rd s m hp hq =
    identity integer_ring (d ∷ c ∷ k ∷ vp ∷ vq ∷ rp ∷ rq ∷ []) (λ d c k v w r t. k ⊗ (((c ⊗ v) ⊗ r) ⊕ (d ⊗ ((c ⊗ w) ⊗ t))) ≐ ((c ⊗ v) ⊗ (k ⊗ r)) ⊕ (d ⊗ ((c ⊗ w) ⊗ (k ⊗ t)))) refl
    ∙ (ap (λ (z : ℤ). (c *ℤ vp) *ℤ z +ℤ d *ℤ ((c *ℤ vq) *ℤ (k *ℤ rq))) hp
    ∙ (ap (λ (z : ℤ). (c *ℤ vp) *ℤ (rd *ℤ (s *ℤ (m *ℤ vp))) +ℤ d *ℤ ((c *ℤ vq) *ℤ z)) hq
    ∙ identity integer_ring (d ∷ c ∷ vp ∷ vq ∷ rd ∷ s ∷ m ∷ []) (λ d c v w r s m. ((c ⊗ v) ⊗ (r ⊗ (s ⊗ (m ⊗ v)))) ⊕ (d ⊗ ((c ⊗ w) ⊗ (r ⊗ (s ⊗ negative (m ⊗ w))))) ≐ (c ⊗ (m ⊗ r)) ⊗ (s ⊗ ((v ⊗ v) ⊕ negative (d ⊗ (w ⊗ w))))) refl))

inverse_q : (c k vp vq rp rq rd s m : ℤ) → k *ℤ rp ≡ rd *ℤ (s *ℤ (m *ℤ vp)) → k *ℤ rq ≡ rd *ℤ (s *ℤ neg_ℤ (m *ℤ vq)) → k *ℤ ((c *ℤ vp) *ℤ rq +ℤ (c *ℤ vq) *ℤ rp) ≡ pos 0
inverse_q c k vp vq rp rq rd s m hp hq =
    identity integer_ring (c ∷ k ∷ vp ∷ vq ∷ rp ∷ rq ∷ []) (λ c k v w r t. k ⊗ (((c ⊗ v) ⊗ t) ⊕ ((c ⊗ w) ⊗ r)) ≐ ((c ⊗ v) ⊗ (k ⊗ t)) ⊕ ((c ⊗ w) ⊗ (k ⊗ r))) refl
    ∙ (ap (λ (z : ℤ). (c *ℤ vp) *ℤ z +ℤ (c *ℤ vq) *ℤ (k *ℤ rp)) hq
    ∙ (ap (λ (z : ℤ). (c *ℤ vp) *ℤ (rd *ℤ (s *ℤ neg_ℤ (m *ℤ vq))) +ℤ (c *ℤ vq) *ℤ z) hp
    ∙ identity integer_ring (c ∷ vp ∷ vq ∷ rd ∷ s ∷ m ∷ []) (λ c v w r s m. ((c ⊗ v) ⊗ (r ⊗ (s ⊗ negative (m ⊗ w)))) ⊕ ((c ⊗ w) ⊗ (r ⊗ (s ⊗ (m ⊗ v)))) ≐ numeral 0) refl))

content-times : (x : Quadratic) → scale (content x) (primitive x) ≡ x
content-times x =
    let common = gcd-is (unsigned_abs x.p) (unsigned_abs x.q) in
    quadratic_eq (quotient_times x.p (content x) common.0) (quotient_times x.q (content x) common.1)

-- a fraction times its inverse is 1: the product of the numerators is that of the denominators
pub reciprocal-value : {d : ℕ} → IsNoSquare d → (x : Fraction) → x.num ≢ nil → mul d x.num (reciprocal d x).num ≡ scale (x.den * (reciprocal d x).den) one
unfolding mul
reciprocal-value {d} no_square x other =
    let c = content x.num in
    let h = inner x in
    let v = primitive x.num in
    let m = x.den / h in
    let e = norm d v in
    let s = unit_of e in
    let k = inverse_den d x in
    let r = reciprocal d x in
    let up = inverse_den_positive no_square x other in
    let value : scale k r.num ≡ scale r.den (record { p = s *ℤ (pos m *ℤ v.p); q = s *ℤ neg_ℤ (pos m *ℤ v.q) }) =
    reduced-value (with_sign e (conjugate (inverse_num x))) k ∙ ap (scale r.den) (with_sign-is e (conjugate (inverse_num x))) in
    let size : s *ℤ (v.p *ℤ v.p +ℤ neg_ℤ (pos d *ℤ (v.q *ℤ v.q))) ≡ pos (unsigned_abs e) = ap (λ (z : ℤ). s *ℤ z) (plus-neg (v.p *ℤ v.p) (pos d *ℤ (v.q *ℤ v.q))) ∙ unit-times e in
    let outer : h * m ≡ x.den = mul-div_cancel' h ((gcd-is x.den c).0) in
    let within : h * (c / h) ≡ c = mul-div_cancel' h ((gcd-is x.den c).1) in
    let p = inverse_p (pos d) (pos c) (pos k) v.p v.q r.num.p r.num.q (pos r.den) s (pos m) (ap (λ (z : Quadratic). z.p) value) (ap (λ (z : Quadratic). z.q) value) in
    let q = inverse_q (pos c) (pos k) v.p v.q r.num.p r.num.q (pos r.den) s (pos m) (ap (λ (z : Quadratic). z.p) value) (ap (λ (z : Quadratic). z.q) value) in
    let right : pos (c * (m * r.den)) *ℤ pos (unsigned_abs e) ≡ pos k *ℤ (pos (x.den * r.den) *ℤ pos 1) =
    ap (λ (n : ℕ). pos (n * (m * r.den)) *ℤ pos (unsigned_abs e)) (sym within)
    ∙ (identity integer_ring (pos h ∷ pos (c / h) ∷ pos m ∷ pos r.den ∷ pos (unsigned_abs e) ∷ []) (λ h u m r e. ((h ⊗ u) ⊗ (m ⊗ r)) ⊗ e ≐ (u ⊗ e) ⊗ (((h ⊗ m) ⊗ r) ⊗ numeral 1)) refl
    ∙ ap (λ (n : ℕ). pos k *ℤ (pos (n * r.den) *ℤ pos 1)) outer) in
    let both : mul d (scale c v) r.num ≡ scale (x.den * r.den) one =
    quadratic_eq
    (cancel k _ _ up (p ∙ (ap (λ (z : ℤ). pos (c * (m * r.den)) *ℤ z) size ∙ right)))
    (cancel k _ _ up (q ∙ identity integer_ring (pos k ∷ pos (x.den * r.den) ∷ []) (λ k n. numeral 0 ≐ k ⊗ (n ⊗ numeral 0)) refl)) in
    subst (λ (z : Quadratic). mul d z r.num ≡ scale (x.den * r.den) one) (content-times x.num) both
