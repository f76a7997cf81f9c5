-- The unscaled area: what is computed is the area, and a surface has exactly one.
use Rattle.std.proofs.Common.{◌≡◌, ℕ, ℤ, pos, ◌*ℤ◌, ◌*◌, ◌<◌, ◌^◌, ◌<ℤ◌, Result, Ok, Err, IsOk, IfOk, IfErr, [], ◌∷◌, refl, sym, ap, ◌∙◌, subst, arith}
use Rattle.std.specs.Prelude.{unsigned_abs}
use Rattle.std.specs.Int.{◌∣◌}
use Rattle.std.proofs.Math.Nat.{eq-one_of_dvd-one}
use Rattle.std.proofs.lemmas.Int.{ints}
use Rattle.fs_lists.proofs.Results.{err_equal}
use Rattle.fs_ring.proofs.Integers.{integer_ring, integer_order}
use Rattle.fs_ring.proofs.Signs.{mul_left_cancel}
use Rattle.fs_ring.proofs.Solver.{identity, ◌⊗◌, ◌≐◌}
use Rattle.fs_quadratic.specs.Ring.{Quadratic, mul, one}
use Rattle.fs_quadratic.proofs.Laws.{quadratic_eq, quadratic_ring}
use Rattle.fs_fraction.specs.Arithmetic.{product, ProductFits, shared, rest_num, rest_den}
use Rattle.fs_fraction.specs.Divisor.{content}
use Rattle.fs_fraction.specs.Fraction.{Fraction, IsLowest, HasValue, reduced}
use Rattle.fs_fraction.proofs.Divisors.{gcd-is, quotient_positive}
use Rattle.fs_fraction.proofs.Lowest.{reduced-value, reduced-positive, reduced-lowest}
use Rattle.fs_fraction.proofs.Values.{product-value, reduced-unique}
use Rattle.fs_plane.specs.declared.sites.Site.{Site}
use Rattle.fs_plane.specs.declared.sites.Site.TheVariants.{AreaScale}
use Rattle.fs_gluing.specs.Area.{twice_area}
use Rattle.fs_gluing.specs.Surface.{GluedPolygons}
use Rattle.fs_report.specs.Area.{unscaled_area, half, half_over, one_over, IsUnscaled, over_once, over_twice, exact, checked_twice_area, GivesArea, at_triangle, summed}

-- ---- products by one over a number

-- part by part: r/rd stands for x/(xd·n), and x/xd for z/m, so r/rd stands for z/(m·n)
part_over : (xd m n : ℕ) (r rd x z : ℤ) → 0 < xd → pos (xd * n) *ℤ r ≡ rd *ℤ x → pos m *ℤ x ≡ pos xd *ℤ z → pos (m * n) *ℤ r ≡ rd *ℤ z
part_over xd m n r rd x z up h g =
    mul_left_cancel integer_order (pos xd) (pos (m * n) *ℤ r) (rd *ℤ z) (λ none. absurd (omega (arith, ints)))
    (identity integer_ring (pos xd ∷ pos m ∷ pos n ∷ r ∷ []) (λ x m n r. x ⊗ ((m ⊗ n) ⊗ r) ≐ m ⊗ ((x ⊗ n) ⊗ r)) refl
    ∙ (ap (λ (w : ℤ). pos m *ℤ w) h
    ∙ (identity integer_ring (pos m ∷ rd ∷ x ∷ []) (λ m k x. m ⊗ (k ⊗ x) ≐ k ⊗ (m ⊗ x)) refl
    ∙ (ap (λ (w : ℤ). rd *ℤ w) g
    ∙ identity integer_ring (pos xd ∷ rd ∷ z ∷ []) (λ x k z. k ⊗ (x ⊗ z) ≐ x ⊗ (k ⊗ z)) refl))))

abbrev HasValueAt : Fraction → ℕ → Quadratic → Type 0
HasValueAt r den num = HasValue r num den

-- x over n stands for num/(m·n) where x stands for num/m
over-value : (d n m : ℕ) (x : Fraction) (num : Quadratic) → 0 < x.den → HasValue x num m → HasValue (product d x (one_over n)) num (m * n)
over-value d n m x num up h =
    let r = product d x (one_over n) in
    let v = subst (HasValueAt r (x.den * n)) ((quadratic_ring d).mul_one x.num) (product-value d x (one_over n)) in
    quadratic_eq
    (part_over x.den m n r.num.p (pos r.den) x.num.p num.p up (ap (λ (z : Quadratic). z.p) v) (ap (λ (z : Quadratic). z.p) h))
    (part_over x.den m n r.num.q (pos r.den) x.num.q num.q up (ap (λ (z : Quadratic). z.q) v) (ap (λ (z : Quadratic). z.q) h))

times_positive : (m n : ℕ) → 0 < m → 0 < n → 0 < m * n
times_positive m n a b = grind arith

-- a product whose numbers are within the width is in lowest terms
product-lowest : (d : ℕ) (x y : Fraction) → 0 < x.den → 0 < y.den → ProductFits d x y → IsLowest (product d x y).num (product d x y).den
product-lowest d x y a b fits =
    let left = quotient_positive (shared y x) x.den ((gcd-is (content y.num) x.den).1) a in
    let right = quotient_positive (shared x y) y.den ((gcd-is (content x.num) y.den).1) b in
    let within = fits.1 in
    reduced-lowest (mul d (rest_num x y) (rest_num y x)) (rest_den x y) (times_positive _ _ left right) (omega (arith, ints))

-- ---- one over a number

-- 1/n is in lowest terms
one_over-reduced : (n : ℕ) → 0 < n → n < 2 ^ 127 → reduced one n ≡ one_over n
one_over-reduced n up within =
    sym (reduced-unique (one_over n) one n (record { positive = up; within = within; reduced = λ k p q r. only_one k p }) up refl)
  where
    only_one : (k : ℕ) → k ∣ 1 → k ≡ 1
    only_one k h = eq-one_of_dvd-one h

-- ---- unscaled

module _ (d : ℕ) (twice : Quadratic) (den : ℕ) (positive : 0 < den) where
  half_positive : 0 < (half twice).den
  half_positive = reduced-positive twice 2 (omega arith)

  -- what is computed in two steps is the area
  area_is : ProductFits d (half twice) (one_over den) → ProductFits d (half_over d twice den) (one_over den)
      → product d (half_over d twice den) (one_over den) ≡ unscaled_area twice den
  area_is first second =
      let lowest = product-lowest d (half twice) (one_over den) half_positive positive first in
      let value = over-value d den 2 (half twice) twice half_positive (reduced-value twice 2) in
      let whole = over-value d den (2 * den) (half_over d twice den) twice lowest.positive value in
      let same : (2 * den) * den ≡ 2 * (den * den) = omega arith in
      reduced-unique (product d (half_over d twice den) (one_over den)) twice (2 * (den * den))
      (product-lowest d (half_over d twice den) (one_over den) lowest.positive positive second)
      (times_positive 2 (den * den) (omega arith) (times_positive den den positive positive))
      (subst (λ (n : ℕ). HasValue (product d (half_over d twice den) (one_over den)) twice n) same whole)

-- ---- what the calls return

-- the code's 1/den
pub inverse_is : (x : Fraction) (num : Quadratic) (den read : ℤ) → x ≡ reduced num (unsigned_abs read) → num ≡ one → read ≡ den → pos 0 <ℤ den → unsigned_abs den < 2 ^ 127 → x ≡ one_over (unsigned_abs den)
inverse_is x num den read is unit same positive within =
    is
    ∙ (ap (λ (y : Quadratic). reduced y (unsigned_abs read)) unit
    ∙ (ap (λ (z : ℤ). reduced one (unsigned_abs z)) same
    ∙ one_over-reduced (unsigned_abs den) (omega (arith, ints)) within))

module _ (d : ℕ) (twice : Quadratic) (den : ℕ) (half' inverse' : Fraction) (half_is : half' ≡ half twice) (inverse_is : inverse' ≡ one_over den) where
  fits_as : ProductFits d half' inverse' → ProductFits d (half twice) (one_over den)
  fits_as h = subst (λ (y : Fraction). ProductFits d (half twice) y) inverse_is (subst (λ (x : Fraction). ProductFits d x inverse') half_is h)

  as_fits : ProductFits d (half twice) (one_over den) → ProductFits d half' inverse'
  as_fits h = subst (λ (x : Fraction). ProductFits d x inverse') (sym half_is) (subst (λ (y : Fraction). ProductFits d (half twice) y) (sym inverse_is) h)

  -- the first product overflows
  pub stops_once : (site : Site) → ¬ ProductFits d half' inverse' → site ≡ AreaScale 1 → IsUnscaled d twice den (Err site)
  stops_once site not is = over_once (λ fits. not (as_fits fits)) (ap Err is)

  module _ (positive : 0 < den) (once' : Fraction) (fits : ProductFits d half' inverse') (once_is : once' ≡ product d half' inverse') where
    once_same : once' ≡ half_over d twice den
    once_same = once_is ∙ (ap (λ (x : Fraction). product d x inverse') half_is ∙ ap (λ (y : Fraction). product d (half twice) y) inverse_is)

    -- the first product fits, and the second fits or overflows
    pub unscaled_computed : (result : Result Fraction Site) → IfOk result (λ z. ProductFits d once' inverse' × (z ≡ product d once' inverse'))
        → IfErr result (λ site. (¬ ProductFits d once' inverse') × (site ≡ AreaScale 2)) → IsUnscaled d twice den result
    unscaled_computed (Ok z) ok err =
        let second = subst (λ (y : Fraction). ProductFits d (half_over d twice den) y) inverse_is (subst (λ (x : Fraction). ProductFits d x inverse') once_same ok.0) in
        let value = ap (λ (x : Fraction). product d x inverse') once_same ∙ ap (λ (y : Fraction). product d (half_over d twice den) y) inverse_is in
        exact (fits_as fits) second (ap Ok (ok.1 ∙ (value ∙ area_is d twice den positive (fits_as fits) second)))
    unscaled_computed (Err site) ok err =
        over_twice (fits_as fits)
        (λ second. err.0 (subst (λ (x : Fraction). ProductFits d x inverse') (sym once_same) (subst (λ (y : Fraction). ProductFits d (half_over d twice den) y) (sym inverse_is) second)))
        (ap Err err.1)

-- twice the area was computed, and unscaled
pub area_computed : (s : GluedPolygons) (d : ℕ) (twice : Quadratic) (den : ℤ) (result : Result Fraction Site) → Ok twice ≡ checked_twice_area s → d ≡ s.d → twice ≡ twice_area s → den ≡ s.den
    → IsUnscaled d twice (unsigned_abs den) result → GivesArea s result
area_computed s d twice den result ok same_d same_twice same_den size =
    summed (subst IsOk ok refl)
    (subst (λ (z : ℤ). IsUnscaled s.d (twice_area s) (unsigned_abs z) result) same_den
    (subst (λ (x : Quadratic). IsUnscaled s.d x (unsigned_abs den) result) same_twice
    (subst (λ (k : ℕ). IsUnscaled k twice (unsigned_abs den) result) same_d size)))

-- ---- it is unique

ok_or_err : {A E : Type 0} (r : Result A E) (e : E) → r ≡ Err e → IsOk r → ⊥
ok_or_err (Ok x) e f h = cc
ok_or_err (Err x) e f h = cc

unscaled_unique : (d : ℕ) (twice : Quadratic) (den : ℕ) (a b : Result Fraction Site) → IsUnscaled d twice den a → IsUnscaled d twice den b → a ≡ b
unscaled_unique d twice den a b (over_once not is) (over_once not' is') = is ∙ sym is'
unscaled_unique d twice den a b (over_once not is) (over_twice first not' is') = absurd (not first)
unscaled_unique d twice den a b (over_once not is) (exact first second is') = absurd (not first)
unscaled_unique d twice den a b (over_twice first not is) (over_once not' is') = absurd (not' first)
unscaled_unique d twice den a b (over_twice first not is) (over_twice first' not' is') = is ∙ sym is'
unscaled_unique d twice den a b (over_twice first not is) (exact first' second is') = absurd (not second)
unscaled_unique d twice den a b (exact first second is) (over_once not' is') = absurd (not' first)
unscaled_unique d twice den a b (exact first second is) (over_twice first' not' is') = absurd (not' second)
unscaled_unique d twice den a b (exact first second is) (exact first' second' is') = is ∙ sym is'

-- a surface has one area, or one site where it overflows
pub area_unique : (s : GluedPolygons) (a b : Result Fraction Site) → GivesArea s a → GivesArea s b → a ≡ b
area_unique s a b (at_triangle site e is) (at_triangle site' e' is') = is ∙ (ap Err (err_equal site site' (sym e ∙ e')) ∙ sym is')
area_unique s a b (at_triangle site e is) (summed ok size) = absurd (ok_or_err _ site e ok)
area_unique s a b (summed ok size) (at_triangle site e is) = absurd (ok_or_err _ site e ok)
area_unique s a b (summed ok size) (summed ok' size') = unscaled_unique s.d (twice_area s) (unsigned_abs s.den) a b size size'

-- ---- it exists

unscaled_exists : (d : ℕ) (twice : Quadratic) (den : ℕ) → ((result : Result Fraction Site) → ¬ IsUnscaled d twice den result) → ⊥
unscaled_exists d twice den none = none _ (over_once (λ first. none _ (over_twice first (λ second. none _ (exact first second refl)) refl)) refl)

-- a surface has an area or such a site
pub area_exists : (s : GluedPolygons) → ((result : Result Fraction Site) → ¬ GivesArea s result) → ⊥
area_exists s none = by_sum (checked_twice_area s) refl
  where
    by_sum : (r : Result Quadratic Site) → checked_twice_area s ≡ r → ⊥
    by_sum (Err site) e = none (Err site) (at_triangle site e refl)
    by_sum (Ok twice) e =
        let ok : IsOk (checked_twice_area s) = subst IsOk (sym e) refl in
        unscaled_exists s.d (twice_area s) (unsigned_abs s.den) (λ result size. none result (summed ok size))
