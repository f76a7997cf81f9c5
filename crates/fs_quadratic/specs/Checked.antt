-- Checked computations: steps in turn, each with its place. One gives its value, or the place of its first step that overflows.
use Rattle.std.specs.Prelude.{◌≡◌, ℕ, ◌+◌, Bool, cond, Result, Ok, Err}
use Rattle.fs_quadratic.specs.Ring.{Quadratic, add, sub, mul}
use Rattle.fs_quadratic.specs.Width.{is_fitting, is_fitting_mul}
use Rattle.fs_quadratic.specs.declared.steps.Place.{Place}

abbrev pub place : ℕ → Place
place n = record { 0 = n }

-- one step: the exact value, or its place where the test of its numbers fails
abbrev pub step : {A : Type 0} → ℕ → Bool → A → Result A Place
step n test value = cond test (Ok value) (Err (place n))

-- where its places follow n others
abbrev pub shifted : {A : Type 0} → ℕ → Result A Place → Result A Place
shifted n (Ok x) = Ok x
shifted n (Err stop) = Err (place (n + stop.0))

-- what comes after a value
infixl 20 ◌>>=◌
abbrev pub ◌>>=◌ : {A B : Type 0} → Result A Place → (A → Result B Place) → Result B Place
Ok x >>= next = next x
Err stop >>= next = Err stop

abbrev pub checked_product : ℕ → ℕ → Quadratic → Quadratic → Result Quadratic Place
checked_product d n x y = step n (is_fitting_mul d x y) (mul d x y)

abbrev pub checked_sum : ℕ → Quadratic → Quadratic → Result Quadratic Place
checked_sum n x y = step n (is_fitting (add x y)) (add x y)

abbrev pub checked_difference : ℕ → Quadratic → Quadratic → Result Quadratic Place
checked_difference n x y = step n (is_fitting (sub x y)) (sub x y)

-- of three steps in turn, the numbers of each being within the width under P, Q and S, the first that overflows has this place
pub data IsFirstOfThree (P Q S : Type 0) (before : ℕ) (stop : Place) : Type 0 where
  first : ¬ P → stop ≡ place (before + 1) → IsFirstOfThree P Q S before stop
  second : P → ¬ Q → stop ≡ place (before + 2) → IsFirstOfThree P Q S before stop
  third : P → Q → ¬ S → stop ≡ place (before + 3) → IsFirstOfThree P Q S before stop
