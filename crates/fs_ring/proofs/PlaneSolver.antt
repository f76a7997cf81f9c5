-- The solver over vectors: a variable for each scalar, and a vector of two variables for each vector.
use Rattle.std.proofs.Common.{◌≡◌, ℕ, suc, Bool, true, ◌&&◌, List, [], ◌∷◌, sym, subst}
use Rattle.fs_ring.specs.Operations.{Operations}
use Rattle.fs_ring.specs.CommutativeRing.{IsCommutativeRing}
use Rattle.fs_ring.specs.Vector.{Vector}
use Rattle.fs_ring.proofs.Polynomial.{both_true}
use Rattle.fs_ring.proofs.Solver.{Expression, variable, Equation, ◌≐◌, Derivation, Over, is_identity, is_derivation, evaluate, Holds, AllHold, holds_by_test, derived_by_test}

abbrev pub OverVectors : {A : Type 0} → List (Vector A) → Type 0 → Type 0
OverVectors [] B = B
OverVectors (_ ∷ vs) B = Vector Expression → OverVectors vs B

-- a B that may name the scalars xs and the vectors vs
abbrev pub OverPlane : {A : Type 0} → List A → List (Vector A) → Type 0 → Type 0
OverPlane xs vs B = Over xs (OverVectors vs B)

abbrev pub at_vectors : {A B : Type 0} → ℕ → (vs : List (Vector A)) → OverVectors vs B → B
at_vectors n [] b = b
at_vectors n (_ ∷ vs) f = at_vectors (suc (suc n)) vs (f (record { x = variable n; y = variable (suc n) }))

-- it, at the variables from the n-th on
abbrev pub at_plane : {A B : Type 0} → ℕ → (xs : List A) (vs : List (Vector A)) → OverPlane xs vs B → B
at_plane n [] vs f = at_vectors n vs f
at_plane n (_ ∷ xs) vs f = at_plane (suc n) xs vs (f (variable n))

abbrev pub coordinates : {A : Type 0} → List (Vector A) → List A
coordinates [] = []
coordinates (a ∷ vs) = a.x ∷ (a.y ∷ coordinates vs)

-- the scalars, and then the parts of the vectors
abbrev pub elements : {A : Type 0} → List A → List (Vector A) → List A
elements [] vs = coordinates vs
elements (x ∷ xs) vs = x ∷ elements xs vs

-- two vectors that are to be shown equal
pub record VectorEquation : Type 0 where
  pub left : Vector Expression
  pub right : Vector Expression

infix 40 ◌≐ᵥ◌
abbrev pub ◌≐ᵥ◌ : Vector Expression → Vector Expression → VectorEquation
a ≐ᵥ b = record { left = a; right = b }

abbrev pub is_vector_identity : VectorEquation → Bool
is_vector_identity e = is_identity (e.left.x ≐ e.right.x) && is_identity (e.left.y ≐ e.right.y)

abbrev pub evaluate_vector : {A : Type 0} → Operations A → List A → Vector Expression → Vector A
evaluate_vector R xs a = record { x = evaluate R xs a.x; y = evaluate R xs a.y }

-- vectors are equal where their parts are
pub vector_eq : {A : Type 0} {a b : Vector A} → a.x ≡ b.x → a.y ≡ b.y → a ≡ b
vector_eq p q = λ i. record { x = p i; y = q i }

module _ {A : Type 0} {R : Operations A} (L : IsCommutativeRing R) where
  -- an identity over scalars and vectors: `plane_identity L (k ∷ []) (a ∷ b ∷ []) (λ k a b. cross expressions (scale expressions k a) b ≐ k ⊗ cross expressions a b) refl`
  pub plane_identity : (xs : List A) (vs : List (Vector A)) (f : OverPlane xs vs Equation) → is_identity (at_plane 0 xs vs f) ≡ true
      → Holds R (elements xs vs) (at_plane 0 xs vs f)
  plane_identity xs vs f passed = holds_by_test L (elements xs vs) (at_plane 0 xs vs f) passed

  -- what follows from equations, as `derived` has it
  pub plane_derived : (xs : List A) (vs : List (Vector A)) (f : OverPlane xs vs Derivation) → is_derivation (at_plane 0 xs vs f) ≡ true
      → AllHold R (elements xs vs) (at_plane 0 xs vs f).premises → Holds R (elements xs vs) (at_plane 0 xs vs f).conclusion
  plane_derived xs vs f passed all = derived_by_test L (elements xs vs) (at_plane 0 xs vs f) passed all

  -- an identity of vectors
  pub vector_identity : (xs : List A) (vs : List (Vector A)) (f : OverPlane xs vs VectorEquation)
      → is_vector_identity (at_plane 0 xs vs f) ≡ true
      → evaluate_vector R (elements xs vs) (at_plane 0 xs vs f).left ≡ evaluate_vector R (elements xs vs) (at_plane 0 xs vs f).right
  vector_identity xs vs f passed =
      let e = at_plane 0 xs vs f in
      let (first, second) = both_true (is_identity (e.left.x ≐ e.right.x)) (is_identity (e.left.y ≐ e.right.y)) passed in
      vector_eq (holds_by_test L (elements xs vs) (e.left.x ≐ e.right.x) first) (holds_by_test L (elements xs vs) (e.left.y ≐ e.right.y) second)

  -- what holds of the right side holds of the left
  pub by_plane_identity : (P : A → Type 0) (xs : List A) (vs : List (Vector A)) (f : OverPlane xs vs Equation)
      → is_identity (at_plane 0 xs vs f) ≡ true → P (evaluate R (elements xs vs) (at_plane 0 xs vs f).right)
      → P (evaluate R (elements xs vs) (at_plane 0 xs vs f).left)
  by_plane_identity P xs vs f passed = subst P (sym (plane_identity xs vs f passed))
