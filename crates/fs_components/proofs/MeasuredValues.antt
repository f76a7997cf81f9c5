-- The values of the computed squares and areas of parts.
use Rattle.std.proofs.Common.{◌≡◌, ◌≢◌, ℕ, ◌+◌, ◌*◌, ◌<◌, pos, Result, Ok, List, [], ◌∷◌, refl, sym, ap, ◌∙◌, subst, arith}
use Rattle.std.proofs.Math.Nat.{mul-pos}
use Rattle.fs_lists.proofs.Results.{ok_equal}
use Rattle.fs_ring.specs.OrderedRing.{IsOrderedRing}
use Rattle.fs_ring.specs.Operations.{Operations}
use Rattle.fs_ring.proofs.Integers.{integer_ring}
use Rattle.fs_ring.proofs.RingLaws as ring_laws
use Rattle.fs_ring.proofs.Signs as signs
use Rattle.fs_ring.proofs.Solver.{identity, derived, numeral, ◌⊗◌, ◌≐◌, ◌from◌}
use Rattle.fs_quadratic.specs.Checked.{◌>>=◌, checked_product, checked_sum}
use Rattle.fs_quadratic.specs.Radicand.{IsNoSquare}
use Rattle.fs_quadratic.specs.Ring.{Quadratic, quadratic, IsPositive, add, mul, zero as nil, one}
use Rattle.fs_quadratic.specs.Width.{is_fitting, is_fitting_mul}
use Rattle.fs_quadratic.proofs.Laws.{quadratic_eq, quadratic_ring, quadratic_order}
use Rattle.fs_quadratic.proofs.StepChains.{step_value}
use Rattle.fs_quadratic.specs.declared.steps.Place.{Place}
use Rattle.fs_fraction.specs.Arithmetic.{product, rest_num, rest_den, shared, reciprocal, is_fitting_product, is_fitting_reciprocal, norm as norm_of, primitive, with_sign, conjugate, inverse_num, inverse_den}
use Rattle.fs_fraction.specs.CheckedFractions.{checked_fraction_product, checked_reciprocal}
use Rattle.fs_fraction.specs.Divisor.{content}
use Rattle.fs_fraction.specs.Fraction.{Fraction, HasValue, scale}
use Rattle.fs_fraction.proofs.Divisors.{gcd-is, quotient_positive}
use Rattle.fs_fraction.proofs.Inverses.{inverse_den_positive}
use Rattle.fs_fraction.proofs.Lowest.{reduced-positive}
use Rattle.fs_fraction.proofs.Values.{whole as number, whole-times, whole-positive, product-value, reciprocal-value}
use Rattle.fs_plane.specs.Formulas.{norm_after, dot_after}
use Rattle.fs_plane.specs.Vector.{PlaneVector, norm, dot}
use Rattle.fs_plane.proofs.ComputedSigns.{after_value}
use Rattle.fs_plane.proofs.FormulaLaws.{norm_value, dot_value}
use Rattle.fs_rauzy.specs.declared.parts.Letter.{Letter}
use Rattle.fs_components.specs.FlowMeaning.{IsQuotient, scaled_area}
use Rattle.fs_components.specs.Measures.{PartMeasures, whole, one_over, checked_unscaled, checked_inverse, checked_cylinder, checked_areas, checked_looped}

-- ---- equations of values

module _ {A : Type 0} {R : Operations A} {P : A → Type 0} (L : IsOrderedRing R P) where
  -- z is x over n, and w is z over n: so w is x over n twice
  over_twice : (n x k z m w l : A) → P m → R.mul (R.mul k n) z ≡ R.mul m (R.mul x R.one) → R.mul (R.mul m n) w ≡ R.mul l (R.mul z R.one) → R.mul (R.mul k (R.mul n n)) w ≡ R.mul l x
  over_twice n x k z m w l up first second =
      signs.mul_left_cancel L m _ _ (signs.positive-ne-zero L up)
      (derived L.ring (n ∷ x ∷ k ∷ z ∷ m ∷ w ∷ l ∷ [])
      (λ n x k z m w l. m ⊗ ((k ⊗ (n ⊗ n)) ⊗ w) ≐ m ⊗ (l ⊗ x) from (k ⊗ n, (m ⊗ n) ⊗ w ≐ l ⊗ (z ⊗ numeral 1)) ∷ (l, (k ⊗ n) ⊗ z ≐ m ⊗ (x ⊗ numeral 1)) ∷ [])
      refl (second, (first, tt)))

  -- r over m is the inverse of n, and s over k is a times it: so s over k is a over n
  over_inverse : (a n r m s k : A) → P m → R.mul n r ≡ R.mul m R.one → R.mul m s ≡ R.mul k (R.mul a r) → R.mul n s ≡ R.mul k a
  over_inverse a n r m s k up inverse share =
      signs.mul_left_cancel L m _ _ (signs.positive-ne-zero L up)
      (derived L.ring (a ∷ n ∷ r ∷ m ∷ s ∷ k ∷ [])
      (λ a n r m s k. m ⊗ (n ⊗ s) ≐ m ⊗ (k ⊗ a) from (n, m ⊗ s ≐ k ⊗ (a ⊗ r)) ∷ (k ⊗ a, n ⊗ r ≐ m ⊗ numeral 1) ∷ [])
      refl (share, (inverse, tt)))

  -- s over k is a over n, and w over l is that over m twice
  over_all : (a n s k m w l : A) → P k → R.mul n s ≡ R.mul k a → R.mul (R.mul k (R.mul m m)) w ≡ R.mul l s → R.mul (R.mul (R.mul m m) n) w ≡ R.mul l a
  over_all a n s k m w l up share last =
      signs.mul_left_cancel L k _ _ (signs.positive-ne-zero L up)
      (derived L.ring (a ∷ n ∷ s ∷ k ∷ m ∷ w ∷ l ∷ [])
      (λ a n s k m w l. k ⊗ (((m ⊗ m) ⊗ n) ⊗ w) ≐ k ⊗ (l ⊗ a) from (n, (k ⊗ (m ⊗ m)) ⊗ w ≐ l ⊗ s) ∷ (l, n ⊗ s ≐ k ⊗ a) ∷ [])
      refl (last, (share, tt)))

-- what follows from a value and what is reached through it follows from what is reached
through_value : {A B : Type 0} (computed : Result A Place) (next : A → Result B Place) (y : B) (G : Type 0) → computed >>= next ≡ Ok y → ((x : A) → computed ≡ Ok x → next x ≡ Ok y → G) → G
through_value computed next y G e h = let k = after_value computed next y e in h k.0 k.1 k.2

-- ---- fractions

module _ {d : ℕ} (no_square : IsNoSquare d) where
  abbrev order_of : IsOrderedRing (quadratic d) (IsPositive d)
  order_of = quadratic_order no_square

  -- a multiple by a product
  scale-twice : (m : ℕ) (x : Quadratic) → scale (m * m) x ≡ mul d (mul d (number m) (number m)) x
  scale-twice m x = sym (whole-times d (m * m) x) ∙ ap (λ w. mul d w x) (sym (square m))
    where
      square : (m : ℕ) → mul d (number m) (number m) ≡ number (m * m)
      square m = whole-times d m (number m) ∙ quadratic_eq refl (identity integer_ring (pos m ∷ []) (λ m. m ⊗ numeral 0 ≐ numeral 0) refl)

  -- the value of a product
  product_step : (n : ℕ) (x y z : Fraction) → 0 < x.den → 0 < y.den → checked_fraction_product d n x y ≡ Ok z
      → (mul d (mul d (number x.den) (number y.den)) z.num ≡ mul d (number z.den) (mul d x.num y.num)) × (0 < z.den)
  product_step n x y z up also e =
      let is : z ≡ product d x y = step_value n (is_fitting_product d x y) (product d x y) z e in
      subst (λ (z : Fraction). (mul d (mul d (number x.den) (number y.den)) z.num ≡ mul d (number z.den) (mul d x.num y.num)) × (0 < z.den)) (sym is) (
        ap (λ w. mul d w (product d x y).num) (numbers x.den y.den)
            ∙ whole-times d (x.den * y.den) (product d x y).num
            ∙ product-value d x y
            ∙ sym (whole-times d (product d x y).den (mul d x.num y.num)),
        reduced-positive (mul d (rest_num x y) (rest_num y x)) (rest_den x y)
            (mul-pos (quotient_positive (shared y x) x.den ((gcd-is (content y.num) x.den).1) up) (quotient_positive (shared x y) y.den ((gcd-is (content x.num) y.den).1) also)),
      )
    where
      numbers : (m n : ℕ) → mul d (number m) (number n) ≡ number (m * n)
      numbers m n = whole-times d m (number n) ∙ quadratic_eq refl (identity integer_ring (pos m ∷ []) (λ m. m ⊗ numeral 0 ≐ numeral 0) refl)

  -- what a fraction over the square of the denominator is
  unscaled : (den n : ℕ) (x w : Fraction) → 0 < den → 0 < x.den → checked_unscaled d den n x ≡ Ok w
      → mul d (mul d (number x.den) (mul d (number den) (number den))) w.num ≡ mul d (number w.den) x.num
  unscaled den n x w some up e =
      let k = after_value (checked_fraction_product d n x (one_over den)) (λ once. checked_fraction_product d (n + 1) once (one_over den)) w e in
      let z = k.0 in
      let first = product_step n x (one_over den) z up some k.1 in
      let second = product_step (n + 1) z (one_over den) w first.1 some k.2 in
      over_twice order_of (number den) x.num (number x.den) z.num (number z.den) w.num (number w.den) (whole-positive d z.den first.1) first.0 second.0

  -- a number over the square of the denominator
  unscaled_value : (den n : ℕ) (a : Quadratic) (w : Fraction) → 0 < den → checked_unscaled d den n (whole a) ≡ Ok w → HasValue w a (den * den)
  unscaled_value den n a w some e =
      scale-twice den w.num
      ∙ identity (quadratic_ring d) (number den ∷ w.num ∷ []) (λ m w. (m ⊗ m) ⊗ w ≐ (numeral 1 ⊗ (m ⊗ m)) ⊗ w) refl
      ∙ unscaled den n (whole a) w some (omega arith) e
      ∙ whole-times d w.den a

  -- the value of the inverse of the squared length
  inverse_value : (v : PlaneVector) (r : Fraction) → norm d v ≢ nil → checked_inverse d v ≡ Ok r → (mul d (norm d v) r.num ≡ mul d (number r.den) one) × (0 < r.den)
  inverse_value v r other e =
      let k = after_value (norm_after 6 d v) (λ n. checked_reciprocal d 10 (whole n)) r e in
      let x = whole (norm d v) in
      let given : checked_reciprocal d 10 x ≡ Ok r = ap (λ n. checked_reciprocal d 10 (whole n)) (sym (norm_value 6 d v k.0 k.1)) ∙ k.2 in
      let is : r ≡ reciprocal d x = step_value 10 (is_fitting_reciprocal d x) (reciprocal d x) r given in
      let den = (reciprocal d x).den in
      let one_den : 1 * den ≡ den = omega arith in
      subst (λ (r : Fraction). (mul d (norm d v) r.num ≡ mul d (number r.den) one) × (0 < r.den)) (sym is) (
        reciprocal-value no_square x other ∙ ap (λ n. scale n one) one_den ∙ sym (whole-times d den one),
        reduced-positive (with_sign (norm_of d (primitive x.num)) (conjugate (inverse_num x))) (inverse_den d x) (inverse_den_positive no_square x other),
      )

  -- a number over the squared length and the square of the denominator
  quotient_value : (v : PlaneVector) (den m n : ℕ) (a : Quadratic) (r share w : Fraction) → norm d v ≢ nil → 0 < den → checked_inverse d v ≡ Ok r → checked_fraction_product d m (whole a) r ≡ Ok share
      → checked_unscaled d den n share ≡ Ok w → IsQuotient d w a (norm d v) (den * den)
  quotient_value v den m n a r share w other some e f g =
      let inverse = inverse_value v r other e in
      let shared = product_step m (whole a) r share (omega arith) inverse.1 f in
      let part : mul d (number r.den) share.num ≡ mul d (number share.den) (mul d a r.num)
      = identity (quadratic_ring d) (number r.den ∷ share.num ∷ []) (λ m s. m ⊗ s ≐ (numeral 1 ⊗ m) ⊗ s) refl ∙ shared.0 in
      let once = over_inverse order_of a (norm d v) r.num (number r.den) share.num (number share.den) (whole-positive d r.den inverse.1) inverse.0 part in
      ap (λ x. mul d x w.num) (scale-twice den (norm d v))
      ∙ over_all order_of a (norm d v) share.num (number share.den) (number den) w.num (number w.den) (whole-positive d share.den shared.1) once (unscaled den n share w some shared.1 g)
      ∙ whole-times d w.den a

  -- ---- parts

  module _ (v : PlaneVector) (den : ℕ) (other : norm d v ≢ nil) (some : 0 < den) where
    -- what the measures of a cylinder are
    pub record IsCylinderOf (width : Quadratic) (back : PlaneVector) (m : PartMeasures) : Type 0 where
      pub holonomy : HasValue m.holonomy_square (norm d back) (den * den)
      pub height : IsQuotient d m.height_square (mul d width width) (norm d v) (den * den)
      pub area : IsQuotient d m.area (mul d width (dot d v back)) (norm d v) (den * den)

    pub cylinder_values : (width : Quadratic) (back : PlaneVector) (m : PartMeasures) → checked_cylinder d den v width back ≡ Ok m → IsCylinderOf width back m
    unfolding checked_cylinder
    cylinder_values width back m e =
        let G = IsCylinderOf width back m in
        through_value (norm_after 0 d back) _ m G e (λ n a e.
        through_value (checked_unscaled d den 4 (whole n)) _ m G e (λ holonomy b e.
        through_value (checked_product d 6 width width) _ m G e (λ square c e.
        through_value (checked_inverse d v) _ m G e (λ inverse f e.
        through_value (checked_fraction_product d 11 (whole square) inverse) _ m G e (λ part g e.
        through_value (checked_unscaled d den 12 part) _ m G e (λ height h e.
        through_value (dot_after 13 d v back) _ m G e (λ along i e.
        through_value (checked_product d 17 width along) _ m G e (λ product j e.
        through_value (checked_fraction_product d 18 (whole product) inverse) _ m G e (λ share k e.
        through_value (checked_unscaled d den 19 share) _ m G e (λ area l e.
        subst (IsCylinderOf width back) (ok_equal (record { holonomy_square = holonomy; height_square = height; area = area }) m e) (record {
          holonomy = subst (λ x. HasValue holonomy x (den * den)) (norm_value 0 d back n a) (unscaled_value den 4 n holonomy some b);
          height =
              subst (λ x. IsQuotient d height x (norm d v) (den * den)) (step_value 6 (is_fitting_mul d width width) (mul d width width) square c)
              (quotient_value v den 11 12 square inverse part height other some f g h);
          area =
              subst (λ x. IsQuotient d area x (norm d v) (den * den))
              (step_value 17 (is_fitting_mul d width along) (mul d width along) product j ∙ ap (mul d width) (dot_value 13 d v back along i))
              (quotient_value v den 18 19 product inverse share area other some f k l);
        })))))))))))

    -- the computed sum of areas
    areas_value : (n : ℕ) (sum result : Quadratic) (letters : List Letter) → checked_areas d v n sum letters ≡ Ok result → result ≡ add sum (scaled_area d v letters)
    areas_value n sum result [] e = sym (ok_equal sum result e) ∙ sym ((quadratic_ring d).add_zero sum)
    areas_value n sum result (letter ∷ letters) e =
        let a = after_value (dot_after (20 + 5 * n) d v letter.back) _ result e in
        let b = after_value (checked_product d (24 + 5 * n) letter.length a.0) _ result a.2 in
        let c = after_value (checked_sum (25 + 5 * n) sum b.0) _ result b.2 in
        let area : b.0 ≡ mul d letter.length (dot d v letter.back)
        = step_value (24 + 5 * n) (is_fitting_mul d letter.length a.0) (mul d letter.length a.0) b.0 b.1 ∙ ap (mul d letter.length) (dot_value (20 + 5 * n) d v letter.back a.0 a.1) in
        areas_value (n + 1) c.0 result letters c.2
        ∙ ap (λ x. add x (scaled_area d v letters)) (step_value (25 + 5 * n) (is_fitting (add sum b.0)) (add sum b.0) c.0 c.1 ∙ ap (add sum) area)
        ∙ (quadratic_ring d).add_assoc sum (mul d letter.length (dot d v letter.back)) (scaled_area d v letters)

    -- what those of another part are
    pub record IsLoopedOf (letters : List Letter) (m : PartMeasures) : Type 0 where
      pub holonomy : m.holonomy_square ≡ whole nil
      pub height : m.height_square ≡ whole nil
      pub area : IsQuotient d m.area (scaled_area d v letters) (norm d v) (den * den)

    pub looped_values : (letters : List Letter) (m : PartMeasures) → checked_looped d den v letters ≡ Ok m → IsLoopedOf letters m
    unfolding checked_looped
    looped_values letters m e =
        let G = IsLoopedOf letters m in
        through_value (checked_inverse d v) _ m G e (λ inverse f e.
        through_value (checked_areas d v 0 nil letters) _ m G e (λ sum a e.
        through_value (checked_fraction_product d 6018 (whole sum) inverse) _ m G e (λ share k e.
        through_value (checked_unscaled d den 6019 share) _ m G e (λ area l e.
        subst (IsLoopedOf letters) (ok_equal (record { holonomy_square = whole nil; height_square = whole nil; area = area }) m e) (record {
          holonomy = refl;
          height = refl;
          area =
              subst (λ x. IsQuotient d area x (norm d v) (den * den)) (areas_value 0 nil sum letters a ∙ ring_laws.zero_add (quadratic_ring d) (scaled_area d v letters))
              (quotient_value v den 6018 6019 sum inverse share area other some f k l);
        })))))
