-- Laws of the circle formula: what it gives is the circle value, whose sign says whether the fourth vertex is inside the circle of the other three. A library for crates to come.
use Rattle.std.proofs.Common.{◌≡◌, ℕ, ◌+◌, Result, Ok, Err, IfOk, ◌↔◌, sym, ap, ◌∙◌, subst}
use Rattle.fs_quadratic.specs.declared.radicand.Field.{Field}
use Rattle.fs_quadratic.specs.Radicand.{IsRadicand}
use Rattle.fs_quadratic.specs.Ring.{Quadratic, IsPositive, add, mul}
use Rattle.fs_quadratic.specs.Width.{is_fitting, is_fitting_mul}
use Rattle.fs_quadratic.specs.Checked.{◌>>=◌, checked_product, checked_sum}
use Rattle.fs_quadratic.specs.declared.steps.Place.{Place}
use Rattle.fs_quadratic.proofs.Laws.{field_order}
use Rattle.fs_quadratic.proofs.StepChains.{step_value, step_fits}
use Rattle.fs_quadratic.proofs.WidthTests.{Decides-is_fitting, Decides-is_fitting_mul}
use Rattle.fs_ring.proofs.Circles as circles
use Rattle.fs_plane.specs.Vector.{PlaneVector, vector_add, vector_zero, cross, dot, circle, IsInsideFaceCircle, IsTinyVector}
use Rattle.fs_plane.specs.Formulas.{cross_after, dot_after, circle_term_after, circle_after}
use Rattle.fs_plane.proofs.FormulaLaws.{cross_value, dot_value}
use Rattle.fs_plane.proofs.ComputedSigns.{after_value}
use Rattle.fs_plane.proofs.SmallVectors.{small_cross, small_dot, small_of_tiny_vector}
use Rattle.fs_plane.proofs.TinyCircles.{tiny_term_fits, tiny_circle_fits}

-- a half of the circle value
abbrev term : ℕ → PlaneVector → PlaneVector → PlaneVector → PlaneVector → Quadratic
term d a b c g = mul d (cross d a b) (dot d c g)

term_value : (before d : ℕ) (a b c g : PlaneVector) (value : Quadratic) → circle_term_after before d a b c g ≡ Ok value → value ≡ term d a b c g
unfolding circle_term_after
term_value before d a b c g value e =
    let area = after_value (cross_after before d a b) (λ area. dot_after (before + 3) d c g >>= (λ angle. checked_product d (before + 7) area angle)) value e in
    let angle = after_value (dot_after (before + 3) d c g) (λ angle. checked_product d (before + 7) area.0 angle) value area.2 in
    step_value (before + 7) (is_fitting_mul d area.0 angle.0) (mul d area.0 angle.0) value angle.2
    ∙ ap (λ x. mul d x angle.0) (cross_value before d a b area.0 area.1)
    ∙ ap (λ x. mul d (cross d a b) x) (dot_value (before + 3) d c g angle.0 angle.1)

-- what the formula gives is the circle value
pub circle_value : (before d : ℕ) (a b c g : PlaneVector) (value : Quadratic) → circle_after before d a b c g ≡ Ok value → value ≡ circle d a b c g
unfolding circle_after
circle_value before d a b c g value e =
    let left = after_value (circle_term_after before d a b c g) (λ left. circle_term_after (before + 7) d c g a b >>= (λ right. checked_sum (before + 15) left right)) value e in
    let right = after_value (circle_term_after (before + 7) d c g a b) (λ right. checked_sum (before + 15) left.0 right) value left.2 in
    step_value (before + 15) (is_fitting (add left.0 right.0)) (add left.0 right.0) value right.2
    ∙ ap (λ x. add x right.0) (term_value before d a b c g left.0 left.1)
    ∙ ap (λ x. add (term d a b c g) x) (term_value (before + 7) d c g a b right.0 right.1)

module _ (before d : ℕ) (a b c g : PlaneVector) where
  -- a result of the formula has this value, where it has one
  pub circle_given : (result : Result Quadratic Place) → result ≡ circle_after before d a b c g → IfOk result (λ value. value ≡ circle d a b c g)
  circle_given (Ok value) e = circle_value before d a b c g value (sym e)
  circle_given (Err stop) e = tt

  -- and its sign says whether the fourth vertex is inside the circle of the other three
  pub circle_given_inside : IsRadicand d → vector_add (vector_add a b) (vector_add c g) ≡ vector_zero → IsPositive d (cross d a b) → (result : Result Quadratic Place)
      → result ≡ circle_after before d a b c g → IfOk result (λ value. IsPositive d value ↔ IsInsideFaceCircle d a b c)
  circle_given_inside radicand closed area (Ok value) e =
      subst (λ v. IsPositive d v ↔ IsInsideFaceCircle d a b c) (sym (circle_value before d a b c g value (sym e)))
      (circles.circle_positive-inside (field_order radicand) a b c g closed area)
  circle_given_inside radicand closed area (Err stop) e = tt

-- ---- tiny vectors

module _ (field : Field) where
  tiny_term : (before : ℕ) (a b c g : PlaneVector) → IsTinyVector a → IsTinyVector b → IsTinyVector c → IsTinyVector g
      → circle_term_after before field.d a b c g ≡ Ok (term field.d a b c g)
  unfolding circle_term_after
  tiny_term before a b c g ta tb tc tg =
      let d = field.d in
      ap (λ r. r >>= (λ area. dot_after (before + 3) d c g >>= (λ angle. checked_product d (before + 7) area angle)))
      (small_cross field a b (small_of_tiny_vector a ta) (small_of_tiny_vector b tb) before)
      ∙ ap (λ r. r >>= (λ angle. checked_product d (before + 7) (cross d a b) angle))
      (small_dot field c g (small_of_tiny_vector c tc) (small_of_tiny_vector g tg) (before + 3))
      ∙ step_fits (before + 7) (is_fitting_mul d (cross d a b) (dot d c g)) (term d a b c g) (Decides-is_fitting_mul d (cross d a b) (dot d c g))
      (tiny_term_fits d field.radicand.greatest a b c g ta tb tc tg)

  -- the formula gives the circle value of tiny vectors
  pub tiny_circle : (before : ℕ) (a b c g : PlaneVector) → IsTinyVector a → IsTinyVector b → IsTinyVector c → IsTinyVector g
      → circle_after before field.d a b c g ≡ Ok (circle field.d a b c g)
  unfolding circle_after
  tiny_circle before a b c g ta tb tc tg =
      let d = field.d in
      ap (λ r. r >>= (λ left. circle_term_after (before + 7) d c g a b >>= (λ right. checked_sum (before + 15) left right))) (tiny_term before a b c g ta tb tc tg)
      ∙ ap (λ r. r >>= (λ right. checked_sum (before + 15) (term d a b c g) right)) (tiny_term (before + 7) c g a b tc tg ta tb)
      ∙ step_fits (before + 15) (is_fitting (circle d a b c g)) (circle d a b c g) (Decides-is_fitting (circle d a b c g))
      (tiny_circle_fits d field.radicand.greatest a b c g ta tb tc tg)
