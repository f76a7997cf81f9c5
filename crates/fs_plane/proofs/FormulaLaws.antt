-- Laws of the formulas: they give the values of the plane exactly where all numbers fit, and else the first place where one doesn't. A library for crates to come.
use Rattle.std.proofs.Common.{◌≡◌, ℕ, ◌+◌, Bool, Result, Ok, Err, IfOk, ◌↔◌, sym, ap, ◌∙◌}
use Rattle.std.proofs.lemmas.Result.{OkIff-at_ok, Ok-from_Ok_iff}
use Rattle.std.specs.Result.{OkIff}
use Rattle.fs_quadratic.specs.Ring.{Quadratic, add, sub, mul, quadratic}
use Rattle.fs_quadratic.specs.Width.{Fits, MulFits, is_fitting, is_fitting_mul}
use Rattle.fs_quadratic.proofs.WidthTests.{Decides-is_fitting, Decides-is_fitting_mul}
use Rattle.fs_quadratic.specs.declared.steps.Place.{Place}
use Rattle.fs_plane.specs.Vector.{PlaneVector, vector_add, cross, dot, norm}
use Rattle.fs_quadratic.specs.Checked.{step, shifted, ◌>>=◌, IsFirstOfThree}
use Rattle.fs_plane.specs.Formulas.{cross_after, dot_after, norm_after, vector_sum_after, vector_difference_after, CrossFits, DotFits}
use Rattle.fs_quadratic.proofs.StepChains.{chain_ok, chain_stops, chain-shifted, step_value}
use Rattle.fs_ring.specs.Vector.{sub_vector}
use Rattle.fs_plane.proofs.ComputedSigns.{after_value}

module _ (before d : ℕ) (a b : PlaneVector) where
  -- ---- the cross product

  pub cross_ok : OkIff (cross_after before d a b) (CrossFits d a b) (cross d a b)
  unfolding cross_after
  cross_ok =
      chain_ok before (mul d a.x b.y) (mul d a.y b.x) (λ x y. is_fitting (sub x y)) sub (is_fitting_mul d a.x b.y) (is_fitting_mul d a.y b.x)
      (Decides-is_fitting_mul d a.x b.y) (Decides-is_fitting_mul d a.y b.x) (Decides-is_fitting (cross d a b))

  pub cross_stops : (stop : Place) → cross_after before d a b ≡ Err stop ↔ IsFirstOfThree (MulFits d a.x b.y) (MulFits d a.y b.x) (Fits (cross d a b)) before stop
  unfolding cross_after
  cross_stops stop =
      chain_stops before (mul d a.x b.y) (mul d a.y b.x) (λ x y. is_fitting (sub x y)) sub (is_fitting_mul d a.x b.y) (is_fitting_mul d a.y b.x) stop
      (Decides-is_fitting_mul d a.x b.y) (Decides-is_fitting_mul d a.y b.x) (Decides-is_fitting (cross d a b))

  -- what it gives is the cross product
  pub cross_value : (value : Quadratic) → cross_after before d a b ≡ Ok value → value ≡ cross d a b
  cross_value value e = (OkIff-at_ok (cross_after before d a b) (CrossFits d a b) (cross d a b) value cross_ok e).1

  -- a result of the formula has this value, where it has one
  pub cross_given : (result : Result Quadratic Place) → result ≡ cross_after before d a b → IfOk result (λ value. value ≡ cross d a b)
  cross_given (Ok value) e = cross_value value (sym e)
  cross_given (Err stop) e = tt

  pub cross_fits : CrossFits d a b → cross_after before d a b ≡ Ok (cross d a b)
  cross_fits h = Ok-from_Ok_iff (cross_after before d a b) (CrossFits d a b) (cross d a b) cross_ok h

  -- ---- the dot product

  pub dot_ok : OkIff (dot_after before d a b) (DotFits d a b) (dot d a b)
  unfolding dot_after
  dot_ok =
      chain_ok before (mul d a.x b.x) (mul d a.y b.y) (λ x y. is_fitting (add x y)) add (is_fitting_mul d a.x b.x) (is_fitting_mul d a.y b.y)
      (Decides-is_fitting_mul d a.x b.x) (Decides-is_fitting_mul d a.y b.y) (Decides-is_fitting (dot d a b))

  pub dot_stops : (stop : Place) → dot_after before d a b ≡ Err stop ↔ IsFirstOfThree (MulFits d a.x b.x) (MulFits d a.y b.y) (Fits (dot d a b)) before stop
  unfolding dot_after
  dot_stops stop =
      chain_stops before (mul d a.x b.x) (mul d a.y b.y) (λ x y. is_fitting (add x y)) add (is_fitting_mul d a.x b.x) (is_fitting_mul d a.y b.y) stop
      (Decides-is_fitting_mul d a.x b.x) (Decides-is_fitting_mul d a.y b.y) (Decides-is_fitting (dot d a b))

  pub dot_value : (value : Quadratic) → dot_after before d a b ≡ Ok value → value ≡ dot d a b
  dot_value value e = (OkIff-at_ok (dot_after before d a b) (DotFits d a b) (dot d a b) value dot_ok e).1

  -- a result of the formula has this value, where it has one
  pub dot_given : (result : Result Quadratic Place) → result ≡ dot_after before d a b → IfOk result (λ value. value ≡ dot d a b)
  dot_given (Ok value) e = dot_value value (sym e)
  dot_given (Err stop) e = tt

  pub dot_fits : DotFits d a b → dot_after before d a b ≡ Ok (dot d a b)
  dot_fits h = Ok-from_Ok_iff (dot_after before d a b) (DotFits d a b) (dot d a b) dot_ok h

-- ---- the squared length

pub norm_value : (before d : ℕ) (a : PlaneVector) (value : Quadratic) → norm_after before d a ≡ Ok value → value ≡ norm d a
unfolding norm_after
norm_value before d a value e = dot_value before d a a value e

pub norm_fits : (before d : ℕ) (a : PlaneVector) → DotFits d a a → norm_after before d a ≡ Ok (norm d a)
unfolding norm_after
norm_fits before d a h = dot_fits before d a a h

-- ---- after other steps the places are counted on

pub cross_after-shifted : (before d : ℕ) (a b : PlaneVector) → cross_after before d a b ≡ shifted before (cross_after 0 d a b)
unfolding cross_after
cross_after-shifted before d a b =
    chain-shifted before (mul d a.x b.y) (mul d a.y b.x) (λ x y. is_fitting (sub x y)) sub (is_fitting_mul d a.x b.y) (is_fitting_mul d a.y b.x)

pub dot_after-shifted : (before d : ℕ) (a b : PlaneVector) → dot_after before d a b ≡ shifted before (dot_after 0 d a b)
unfolding dot_after
dot_after-shifted before d a b =
    chain-shifted before (mul d a.x b.x) (mul d a.y b.y) (λ x y. is_fitting (add x y)) add (is_fitting_mul d a.x b.x) (is_fitting_mul d a.y b.y)

pub norm_after-shifted : (before d : ℕ) (a : PlaneVector) → norm_after before d a ≡ shifted before (norm_after 0 d a)
unfolding norm_after
norm_after-shifted before d a = dot_after-shifted before d a a

-- ---- sums and differences of vectors

pair_value : (n m : ℕ) (one two : Bool) (x y : Quadratic) (q : PlaneVector)
    → step n one x >>= (λ a. step m two y >>= (λ b. Ok (record { x = a; y = b }))) ≡ Ok q → q ≡ record { x = x; y = y }
pair_value n m one two x y q e =
    let first = after_value (step n one x) (λ a. step m two y >>= (λ b. Ok (record { x = a; y = b }))) q e in
    let second = after_value (step m two y) (λ b. Ok (record { x = first.0; y = b })) q first.2 in
    let same_x = step_value n one x first.0 first.1 in
    let same_y = step_value m two y second.0 second.1 in
    same_ok second.2 ∙ ap (λ a. record { x = a; y = second.0 }) same_x ∙ ap (λ b. record { x = x; y = b }) same_y
  where
    same_ok : {a b : PlaneVector} → ◌≡◌ {A = Result PlaneVector Place} (Ok a) (Ok b) → b ≡ a
    same_ok f = cc

-- a sum of vectors that is given is the sum
pub sum_value : (before : ℕ) (a b q : PlaneVector) → vector_sum_after before a b ≡ Ok q → q ≡ vector_add a b
unfolding vector_sum_after
sum_value before a b q e = pair_value (before + 1) (before + 2) (is_fitting (add a.x b.x)) (is_fitting (add a.y b.y)) (add a.x b.x) (add a.y b.y) q e

-- a difference of vectors that is given is the difference
pub difference_value : (d before : ℕ) (a b q : PlaneVector) → vector_difference_after before a b ≡ Ok q → q ≡ sub_vector (quadratic d) a b
unfolding vector_difference_after
difference_value d before a b q e = pair_value (before + 1) (before + 2) (is_fitting (sub a.x b.x)) (is_fitting (sub a.y b.y)) (sub a.x b.x) (sub a.y b.y) q e
