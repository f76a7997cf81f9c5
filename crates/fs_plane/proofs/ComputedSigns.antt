-- What the sign of a computed number says.
use Rattle.std.proofs.Common.{◌≡◌, ℕ, Bool, Result, Ok, Err, IsTrue, ◌↔◌, refl, sym, ap, ◌∙◌, subst}
use Rattle.std.specs.Ordering.{is_gt}
use Rattle.std.specs.declared.cmp.Ordering.{Ordering}
use Rattle.std.specs.declared.cmp.Ordering.TheVariants.{Less, Equal, Greater}
use Rattle.fs_quadratic.specs.Radicand.{IsRadicand}
use Rattle.fs_quadratic.specs.Ring.{Quadratic, IsPositive, sign}
use Rattle.fs_quadratic.proofs.SquareRoot.{radicand_no_square}
use Rattle.fs_quadratic.proofs.Signs.{sign-positive, positive_of_sign}
use Rattle.fs_quadratic.specs.declared.steps.Place.{Place}
use Rattle.fs_quadratic.specs.Checked.{◌>>=◌}
use Rattle.fs_plane.specs.Formulas.{is_above_zero}

greater_of : (o : Ordering) → IsTrue (is_gt o) → o ≡ Greater
greater_of Less h = cc
greater_of Equal h = cc
greater_of Greater h = refl

-- what follows a value is reached through it
pub after_value : {A B : Type 0} (computed : Result A Place) (next : A → Result B Place) (y : B) → computed >>= next ≡ Ok y → (x : A) × (computed ≡ Ok x) × (next x ≡ Ok y)
after_value (Ok x) next y e = (x, refl, e)
after_value (Err stop) next y e = absurd cc

-- equal results have equal values
pub same_answer : (a b : Bool) → ◌≡◌ {A = Result Bool Place} (Ok a) (Ok b) → b ≡ a
same_answer a b e = cc

module _ {d : ℕ} (radicand : IsRadicand d) where
  -- the test of a number's sign says whether it is above 0
  pub above_zero : (computed : Result Quadratic Place) (value : Quadratic) → ((x : Quadratic) → computed ≡ Ok x → x ≡ value) → (held : Bool) → is_above_zero d computed ≡ Ok held
      → IsTrue held ↔ IsPositive d value
  above_zero computed value exact held e =
      let found = after_value computed (λ x. Ok (is_gt (sign d x))) held e in
      let is_value = exact found.0 found.1 in
      let is_held = same_answer (is_gt (sign d found.0)) held found.2 in (
        (λ h. subst (IsPositive d) is_value (positive_of_sign (radicand_no_square radicand) found.0 (greater_of (sign d found.0) (sym is_held ∙ h)))),
        (λ h. is_held ∙ ap is_gt (sign-positive d found.0 (subst (IsPositive d) (sym is_value) h))),
      )
