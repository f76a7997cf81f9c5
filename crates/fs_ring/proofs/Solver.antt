-- The solver: an identity of polynomials holds in every commutative ring where its two sides have one normal form.
use Rattle.std.proofs.Common.{◌≡◌, ℕ, suc, Bool, true, List, [], ◌∷◌, refl, sym, ap, ◌∙◌, subst}
use Rattle.fs_ring.specs.Operations.{Operations, of_nat}
use Rattle.fs_ring.specs.CommutativeRing.{IsCommutativeRing}
use Rattle.fs_ring.proofs.RingLaws as ring
use Rattle.fs_ring.proofs.Polynomial.{Polynomial, constant, variable_at, plus, minus, times, is_zero, nth, value, value-variable_at, value-plus, value-minus, value-times, value-is_zero}

-- what the solver reads: numbered variables, numerals and the operations
pub data Expression : Type 0 where
  variable : ℕ → Expression
  numeral : ℕ → Expression
  sum : Expression → Expression → Expression
  product : Expression → Expression → Expression
  negative : Expression → Expression

-- expressions as a record of operations, so that a formula over any operations is an expression too
abbrev pub expressions : Operations Expression
expressions = record { add = sum; mul = product; neg = negative; zero = numeral 0; one = numeral 1 }

infixl 60 ◌⊕◌ ◌⊖◌
infixl 70 ◌⊗◌
abbrev pub ◌⊕◌ : Expression → Expression → Expression
x ⊕ y = sum x y

abbrev pub ◌⊖◌ : Expression → Expression → Expression
x ⊖ y = sum x (negative y)

abbrev pub ◌⊗◌ : Expression → Expression → Expression
x ⊗ y = product x y

-- two sides that are to be shown equal
pub record Equation : Type 0 where
  pub left : Expression
  pub right : Expression

infix 40 ◌≐◌
abbrev pub ◌≐◌ : Expression → Expression → Equation
x ≐ y = record { left = x; right = y }

-- a conclusion, and the equations that it follows from, each with its factor
pub record Derivation : Type 0 where
  pub conclusion : Equation
  pub premises : List (Expression × Equation)

infix 30 ◌from◌
abbrev pub ◌from◌ : Equation → List (Expression × Equation) → Derivation
e from ps = record { conclusion = e; premises = ps }

-- a B that may name one variable for each element of the list
abbrev pub Over : {A : Type 0} → List A → Type 0 → Type 0
Over [] B = B
Over (_ ∷ xs) B = Expression → Over xs B

-- it, at the variables from the n-th on
abbrev pub at_variables : {A B : Type 0} → ℕ → (xs : List A) → Over xs B → B
at_variables n [] b = b
at_variables n (_ ∷ xs) f = at_variables (suc n) xs (f (variable n))

abbrev pub normal : Expression → Polynomial
normal (variable i) = variable_at i
normal (numeral n) = constant n 0
normal (sum x y) = plus (normal x) (normal y)
normal (product x y) = times (normal x) (normal y)
normal (negative x) = minus (normal x)

-- the two sides of the equation have one normal form
abbrev pub is_identity : Equation → Bool
is_identity e = is_zero (plus (normal e.left) (minus (normal e.right)))

-- left side less right side
abbrev pub difference : Equation → Expression
difference e = sum e.left (negative e.right)

-- the differences of the premises, each times its factor, added up
abbrev pub combination : List (Expression × Equation) → Expression
combination [] = numeral 0
combination (p ∷ ps) = sum (product p.0 (difference p.1)) (combination ps)

-- the conclusion's difference is the combination of those of the premises
abbrev pub is_derivation : Derivation → Bool
is_derivation d = is_identity (difference d.conclusion ≐ combination d.premises)

module _ {A : Type 0} (R : Operations A) where
  -- the element that an expression stands for, with these elements for its variables
  abbrev pub evaluate : List A → Expression → A
  evaluate xs (variable i) = nth R xs i
  evaluate xs (numeral n) = of_nat R n
  evaluate xs (sum x y) = R.add (evaluate xs x) (evaluate xs y)
  evaluate xs (product x y) = R.mul (evaluate xs x) (evaluate xs y)
  evaluate xs (negative x) = R.neg (evaluate xs x)

  -- the equation holds of these elements
  abbrev pub Holds : List A → Equation → Type 0
  Holds xs e = evaluate xs e.left ≡ evaluate xs e.right

  -- each premise does, as (first, (second, tt))
  abbrev pub AllHold : List A → List (Expression × Equation) → Type 0
  AllHold xs [] = Unit {0}
  AllHold xs (p ∷ ps) = Holds xs p.1 × AllHold xs ps

module _ {A : Type 0} {R : Operations A} (L : IsCommutativeRing R) where
  value-normal : (xs : List A) (e : Expression) → value R xs (normal e) ≡ evaluate R xs e
  value-normal xs (variable i) = value-variable_at L xs i
  value-normal xs (numeral n) = ap (R.add (of_nat R n)) (ring.neg_zero L) ∙ L.add_zero (of_nat R n)
  value-normal xs (sum x y) = cc (value-plus L xs (normal x) (normal y), value-normal xs x, value-normal xs y)
  value-normal xs (product x y) = cc (value-times L xs (normal x) (normal y), value-normal xs x, value-normal xs y)
  value-normal xs (negative x) = cc (value-minus L xs (normal x), value-normal xs x)

  -- an equation that the test passes holds of any elements
  pub holds_by_test : (xs : List A) (e : Equation) → is_identity e ≡ true → Holds R xs e
  holds_by_test xs e passed =
      let l = normal e.left in
      let r = normal e.right in
      ring.eq_of_sub-zero L (evaluate R xs e.left) (evaluate R xs e.right)
      (cc (value-is_zero L xs (plus l (minus r)) passed, value-plus L xs l (minus r), value-minus L xs r, value-normal xs e.left, value-normal xs e.right))

  combination-zero : (xs : List A) (ps : List (Expression × Equation)) → AllHold R xs ps → evaluate R xs (combination ps) ≡ R.zero
  combination-zero xs [] all = refl
  combination-zero xs (p ∷ ps) all =
      let factor = evaluate R xs p.0 in
      cc (ring.sub-zero_of_eq L (evaluate R xs p.1.left) (evaluate R xs p.1.right) all.0, ring.mul_zero L factor, L.add_zero R.zero, combination-zero xs ps all.1)

  -- an identity at the elements xs, stated over a variable for each: `identity L (x ∷ y ∷ []) (λ x y. x ⊕ y ≐ y ⊕ x) refl`
  pub identity : (xs : List A) (f : Over xs Equation) → is_identity (at_variables 0 xs f) ≡ true → Holds R xs (at_variables 0 xs f)
  identity xs f passed = holds_by_test xs (at_variables 0 xs f) passed

  -- a conclusion holds where the test passes and the premises hold
  pub derived_by_test : (xs : List A) (d : Derivation) → is_derivation d ≡ true → AllHold R xs d.premises → Holds R xs d.conclusion
  derived_by_test xs d passed all =
      ring.eq_of_sub-zero L (evaluate R xs d.conclusion.left) (evaluate R xs d.conclusion.right)
      (holds_by_test xs (difference d.conclusion ≐ combination d.premises) passed ∙ combination-zero xs d.premises all)

  -- what follows from equations: `derived L (x ∷ y ∷ z ∷ []) (λ x y z. x ⊗ z ≐ y ⊗ z from (z, x ≐ y) ∷ []) refl (h, tt)`
  pub derived : (xs : List A) (f : Over xs Derivation) → is_derivation (at_variables 0 xs f) ≡ true
      → AllHold R xs (at_variables 0 xs f).premises → Holds R xs (at_variables 0 xs f).conclusion
  derived xs f passed all = derived_by_test xs (at_variables 0 xs f) passed all

  -- what holds of the right side holds of the left
  pub by_identity : (P : A → Type 0) (xs : List A) (f : Over xs Equation) → is_identity (at_variables 0 xs f) ≡ true
      → P (evaluate R xs (at_variables 0 xs f).right) → P (evaluate R xs (at_variables 0 xs f).left)
  by_identity P xs f passed = subst P (sym (identity xs f passed))
