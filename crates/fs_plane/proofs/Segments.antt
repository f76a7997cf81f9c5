-- The test of a segment says whether it comes within the bound. A library for crates to come.
use Rattle.std.proofs.Common.{◌≡◌, ℕ, ◌+◌, Bool, true, false, if◌then◌else◌, Result, Ok, Err, IfOk, IsTrue, ◌↔◌, refl, sym, ap, ◌∙◌, subst}
use Rattle.std.specs.Ordering.{is_le, is_ge}
use Rattle.std.specs.declared.cmp.Ordering.{Ordering}
use Rattle.std.specs.declared.cmp.Ordering.TheVariants.{Less, Equal, Greater}
use Rattle.fs_ring.specs.Vector.{sub_vector}
use Rattle.fs_ring.specs.OrderedRing.{IsAtMost}
use Rattle.fs_ring.proofs.Signs as signs
use Rattle.fs_ring.proofs.Discs as discs
use Rattle.fs_quadratic.specs.Radicand.{IsRadicand}
use Rattle.fs_quadratic.specs.Ring.{Quadratic, quadratic, IsPositive, neg, sub, mul, sign}
use Rattle.fs_quadratic.specs.Width.{is_fitting_mul}
use Rattle.fs_quadratic.specs.Checked.{◌>>=◌, checked_product}
use Rattle.fs_quadratic.specs.declared.steps.Place.{Place}
use Rattle.fs_quadratic.proofs.Laws.{field_order}
use Rattle.fs_quadratic.proofs.SquareRoot.{radicand_no_square}
use Rattle.fs_quadratic.proofs.Signs.{sign-positive, sign-negative, positive_of_sign, negative_of_sign, compare-is}
use Rattle.fs_quadratic.proofs.StepChains.{step_value}
use Rattle.fs_plane.specs.Vector.{PlaneVector, cross, dot, norm, ComesWithin}
use Rattle.fs_plane.specs.Formulas.{cross_after, dot_after, norm_after, vector_difference_after, is_at_most, line_comes_within_after, inner_comes_within_after, comes_within_after}
use Rattle.fs_plane.proofs.FormulaLaws.{cross_value, dot_value, norm_value, difference_value}
use Rattle.fs_plane.proofs.ComputedSigns.{after_value, same_answer}

-- ---- one test after another

-- where the test holds, so does what is asked for; else the rest decides
or_else : {W : Type 0} (test : Bool) (rest : Result Bool Place) (held : Bool) → (test ≡ true → W) → (test ≡ false → rest ≡ Ok held → IsTrue held ↔ W)
    → (if test then Ok true else rest) ≡ Ok held → IsTrue held ↔ W
or_else true rest held found further e = ((λ h. found refl), (λ w. same_answer true held e))
or_else false rest held found further e = further refl e

-- where the test holds, what is asked for doesn't
unless : {W : Type 0} (test : Bool) (rest : Result Bool Place) (held : Bool) → (test ≡ true → ¬ W) → (test ≡ false → rest ≡ Ok held → IsTrue held ↔ W)
    → (if test then Ok false else rest) ≡ Ok held → IsTrue held ↔ W
unless true rest held none further e = ((λ h. absurd (let f = sym (same_answer false held e) ∙ h in cc)), (λ w. absurd (none refl w)))
unless false rest held none further e = further refl e

greater_of_not_le : (o : Ordering) → is_le o ≡ false → o ≡ Greater
greater_of_not_le Less h = cc
greater_of_not_le Equal h = cc
greater_of_not_le Greater h = refl

less_of_not_ge : (o : Ordering) → is_ge o ≡ false → o ≡ Less
less_of_not_ge Less h = refl
less_of_not_ge Equal h = cc
less_of_not_ge Greater h = cc

module _ {d : ℕ} (radicand : IsRadicand d) where
  -- ---- what the tests say

  not_positive_of_le : (x : Quadratic) → is_le (sign d x) ≡ true → ¬ IsPositive d x
  not_positive_of_le x h p = let f = sym h ∙ ap is_le (sign-positive d x p) in cc

  positive_of_not_le : (x : Quadratic) → is_le (sign d x) ≡ false → IsPositive d x
  positive_of_not_le x h = positive_of_sign (radicand_no_square radicand) x (greater_of_not_le (sign d x) h)

  not_negative_of_ge : (x : Quadratic) → is_ge (sign d x) ≡ true → ¬ IsPositive d (neg x)
  not_negative_of_ge x h p = let f = sym h ∙ ap is_ge (sign-negative d x p) in cc

  negative_of_not_ge : (x : Quadratic) → is_ge (sign d x) ≡ false → IsPositive d (neg x)
  negative_of_not_ge x h = negative_of_sign (radicand_no_square radicand) x (less_of_not_ge (sign d x) h)

  abbrev AtMost : Quadratic → Quadratic → Type 0
  AtMost x y = IsAtMost (quadratic d) (IsPositive d) x y

  at_most_of_test : (x y : Quadratic) → is_at_most d x y ≡ true → AtMost x y
  at_most_of_test x y h = not_positive_of_le (sub x y) (ap is_le (sym (compare-is d x y)) ∙ h)

  not_at_most_of_test : (x y : Quadratic) → is_at_most d x y ≡ false → ¬ AtMost x y
  not_at_most_of_test x y h k = k (positive_of_not_le (sub x y) (ap is_le (sym (compare-is d x y)) ∙ h))

  by_test : (x y : Quadratic) (test held : Bool) → is_at_most d x y ≡ test → ◌≡◌ {A = Result Bool Place} (Ok test) (Ok held) → IsTrue held ↔ AtMost x y
  by_test x y true held t e = ((λ h. at_most_of_test x y t), (λ h. same_answer true held e))
  by_test x y false held t e = ((λ h. absurd (let f = sym (same_answer false held e) ∙ h in cc)), (λ h. absurd (not_at_most_of_test x y t h)))

  at_most_given : (x y a b : Quadratic) → a ≡ x → b ≡ y → (held : Bool) → ◌≡◌ {A = Result Bool Place} (Ok (is_at_most d a b)) (Ok held) → IsTrue held ↔ AtMost x y
  at_most_given x y a b is_a is_b held e = by_test x y (is_at_most d a b) held (λ i. is_at_most d (sym is_a i) (sym is_b i)) e

  -- ---- the line of p and e

  module _ (before : ℕ) (p e : PlaneVector) (bound : Quadratic) where
    abbrev from_reach : Quadratic → Quadratic → Result Bool Place
    from_reach square reach = Ok (is_at_most d square reach)

    abbrev from_length : Quadratic → Quadratic → Result Bool Place
    from_length square length = checked_product d (before + 8) bound length >>= from_reach square

    abbrev from_square : Quadratic → Result Bool Place
    from_square square = norm_after (before + 4) d e >>= from_length square

    abbrev from_area : Quadratic → Result Bool Place
    from_area area = checked_product d (before + 4) area area >>= from_square

    line_meaning : (held : Bool) → line_comes_within_after before d p e bound ≡ Ok held
        → IsTrue held ↔ AtMost (mul d (cross d p e) (cross d p e)) (mul d bound (norm d e))
    unfolding line_comes_within_after
    line_meaning held known =
        let area = after_value (cross_after before d p e) from_area held known in
        let square = after_value (checked_product d (before + 4) area.0 area.0) from_square held area.2 in
        let length = after_value (norm_after (before + 4) d e) (from_length square.0) held square.2 in
        let reach = after_value (checked_product d (before + 8) bound length.0) (from_reach square.0) held length.2 in
        let is_area = cross_value before d p e area.0 area.1 in
        let is_length = norm_value (before + 4) d e length.0 length.1 in
        let is_square = step_value (before + 4) (is_fitting_mul d area.0 area.0) (mul d area.0 area.0) square.0 square.1 ∙ ap (λ x. mul d x x) is_area in
        let is_reach = step_value (before + 8) (is_fitting_mul d bound length.0) (mul d bound length.0) reach.0 reach.1 ∙ ap (mul d bound) is_length in
        at_most_given (mul d (cross d p e) (cross d p e)) (mul d bound (norm d e)) square.0 reach.0 is_square is_reach held reach.2

  -- ---- a segment

  module _ (p q : PlaneVector) (bound : Quadratic) where
    abbrev Within : Type 0
    Within = ComesWithin d p q bound

    abbrev side : PlaneVector
    side = sub_vector (quadratic d) q p

    module _ (before : ℕ) where
      abbrev from_arriving : PlaneVector → Quadratic → Result Bool Place
      from_arriving e arriving = if is_le (sign d arriving) then Ok false else line_comes_within_after (before + 8) d p e bound

      abbrev from_leaving : PlaneVector → Quadratic → Result Bool Place
      from_leaving e leaving = if is_ge (sign d leaving) then Ok false else (dot_after (before + 5) d q e >>= from_arriving e)

      abbrev from_side : PlaneVector → Result Bool Place
      from_side e = dot_after (before + 2) d p e >>= from_leaving e

      -- p to q is a line whose nearest point is between the ends
      between : (held : Bool) → IsPositive d (neg (dot d p side)) → IsPositive d (dot d q side) → line_comes_within_after (before + 8) d p side bound ≡ Ok held
          → IsTrue held ↔ Within
      between held leaving arriving known =
          let line = line_meaning (before + 8) p side bound held known in (
            (λ h. discs.within_by_line (field_order radicand) p q bound leaving arriving (line.0 h)),
            (λ w. line.1 (discs.line_within (field_order radicand) p q bound w)),
          )

      up_to_end : (held : Bool) → ¬ AtMost (norm d q) bound → IsPositive d (neg (dot d p side)) → (arriving : Quadratic) → arriving ≡ dot d q side
          → from_arriving side arriving ≡ Ok held → IsTrue held ↔ Within
      up_to_end held end leaving arriving is known =
          unless (is_le (sign d arriving)) (line_comes_within_after (before + 8) d p side bound) held
          (λ t w. end (discs.end_within (field_order radicand) p q bound w
          (λ n. not_positive_of_le (dot d q side) (ap (λ x. is_le (sign d x)) (sym is) ∙ t) (signs.positive_of_neg-neg (field_order radicand) n))))
          (λ t. between held leaving (positive_of_not_le (dot d q side) (ap (λ x. is_le (sign d x)) (sym is) ∙ t))) known

      from_start : (held : Bool) → ¬ AtMost (norm d p) bound → ¬ AtMost (norm d q) bound → (leaving : Quadratic) → leaving ≡ dot d p side
          → from_leaving side leaving ≡ Ok held → IsTrue held ↔ Within
      from_start held start end leaving is known =
          unless (is_ge (sign d leaving)) (dot_after (before + 5) d q side >>= from_arriving side) held
          (λ t w. start (discs.start_within (field_order radicand) p q bound w (not_negative_of_ge (dot d p side) (ap (λ x. is_ge (sign d x)) (sym is) ∙ t))))
          (λ t further.
          let arriving = after_value (dot_after (before + 5) d q side) (from_arriving side) held further in
          up_to_end held end (negative_of_not_ge (dot d p side) (ap (λ x. is_ge (sign d x)) (sym is) ∙ t)) arriving.0 (dot_value (before + 5) d q side arriving.0 arriving.1) arriving.2) known

      inner_meaning : (held : Bool) → ¬ AtMost (norm d p) bound → ¬ AtMost (norm d q) bound → inner_comes_within_after before d p q bound ≡ Ok held
          → IsTrue held ↔ Within
      unfolding inner_comes_within_after
      inner_meaning held start end known =
          let e = after_value (vector_difference_after before q p) from_side held known in
          let further = subst (λ (v : PlaneVector). from_side v ≡ Ok held) (difference_value d before q p e.0 e.1) e.2 in
          let leaving = after_value (dot_after (before + 2) d p side) (from_leaving side) held further in
          from_start held start end leaving.0 (dot_value (before + 2) d p side leaving.0 leaving.1) leaving.2

    module _ (before : ℕ) where
      abbrev from_end : Quadratic → Result Bool Place
      from_end length = if is_at_most d length bound then Ok true else inner_comes_within_after (before + 6) d p q bound

      abbrev from_first : Quadratic → Result Bool Place
      from_first length = if is_at_most d length bound then Ok true else (norm_after (before + 3) d q >>= from_end)

      second_end : (held : Bool) → ¬ AtMost (norm d p) bound → (length : Quadratic) → length ≡ norm d q → from_end length ≡ Ok held → IsTrue held ↔ Within
      second_end held start length is known =
          or_else (is_at_most d length bound) (inner_comes_within_after (before + 6) d p q bound) held
          (λ t. discs.within_by_end (field_order radicand) p q bound (at_most_of_test (norm d q) bound (ap (λ x. is_at_most d x bound) (sym is) ∙ t)))
          (λ t. inner_meaning (before + 6) held start (not_at_most_of_test (norm d q) bound (ap (λ x. is_at_most d x bound) (sym is) ∙ t))) known

      first_end : (held : Bool) (length : Quadratic) → length ≡ norm d p → from_first length ≡ Ok held → IsTrue held ↔ Within
      first_end held length is known =
          or_else (is_at_most d length bound) (norm_after (before + 3) d q >>= from_end) held
          (λ t. discs.within_by_start (field_order radicand) p q bound (at_most_of_test (norm d p) bound (ap (λ x. is_at_most d x bound) (sym is) ∙ t)))
          (λ t further.
          let end = after_value (norm_after (before + 3) d q) from_end held further in
          second_end held (not_at_most_of_test (norm d p) bound (ap (λ x. is_at_most d x bound) (sym is) ∙ t)) end.0 (norm_value (before + 3) d q end.0 end.1) end.2) known

      -- where the formula gives a value, this says whether the segment comes within the bound
      pub comes_within_meaning : (held : Bool) → comes_within_after before d p q bound ≡ Ok held → IsTrue held ↔ ComesWithin d p q bound
      unfolding comes_within_after
      comes_within_meaning held known =
          let start = after_value (norm_after before d p) from_first held known in
          first_end held start.0 (norm_value before d p start.0 start.1) start.2

      -- so for a result of the formula
      pub comes_within_given : (result : Result Bool Place) → result ≡ comes_within_after before d p q bound → IfOk result (λ held. IsTrue held ↔ ComesWithin d p q bound)
      comes_within_given (Ok held) e = comes_within_meaning held (sym e)
      comes_within_given (Err stop) e = tt
