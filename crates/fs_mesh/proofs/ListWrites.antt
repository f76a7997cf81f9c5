-- Lists that are written at several places, each with the value that belongs there.
use Rattle.std.proofs.Common.{◌≡◌, ◌⊎◌, ℕ, ◌<◌, List, [], ◌∷◌, length, get_or, sym, ◌∙◌, subst, inl, inr, length-set, get_or-set_same, get_or-set_other}
use Rattle.std.proofs.Math.ListN.{set}
use Rattle.std.specs.List.{AllByRecursion}
use Rattle.std.proofs.lemmas.Bool.Decides.{eqb_tells}

module _ {B : Type 0} (none : B) (place : ℕ → ℕ) (value : ℕ → B) where
  -- at the place of y is the value of y
  abbrev pub IsWritten : List B → ℕ → Type 0
  IsWritten xs y = get_or xs (place y) none ≡ value y

  -- the list with the values of these written at their places, one after another
  abbrev pub written : List B → List ℕ → List B
  written xs [] = xs
  written xs (z ∷ zs) = written (set xs (place z) (value z)) zs

  -- y is one of these
  abbrev pub IsOneOf : ℕ → List ℕ → Type 0
  IsOneOf y [] = ⊥
  IsOneOf y (z ∷ zs) = (y ≡ z) ⊎ IsOneOf y zs

  -- writing keeps the length
  pub length-written : (xs : List B) (zs : List ℕ) → length (written xs zs) ≡ length xs
  length-written xs [] = λ i. length xs
  length-written xs (z ∷ zs) = length-written (set xs (place z) (value z)) zs ∙ length-set xs (place z) (value z)

  module _ (one_to_one : (y z : ℕ) → place y ≡ place z → y ≡ z) where
    written_same : (xs : List B) (z : ℕ) → place z < length xs → IsWritten (set xs (place z) (value z)) z
    written_same xs z h = get_or-set_same xs (place z) (value z) none h

    -- what is written stays so
    stays_written : (xs : List B) (z y : ℕ) → place z < length xs → IsWritten xs y → IsWritten (set xs (place z) (value z)) y
    stays_written xs z y h k = elim (eqb_tells (place y) (place z)) [
      | inl same ↦ subst (IsWritten (set xs (place z) (value z))) (sym (one_to_one y z same.1)) (written_same xs z h)
      | inr other ↦ get_or-set_other xs (place z) (place y) (value z) none other.1 ∙ k
    ]

    -- after the writes of zs, the value of y is at its place where y is one of zs, or where it was there before
    pub is_written : (xs : List B) (zs : List ℕ) (y : ℕ) → AllByRecursion (λ z. place z < length xs) zs → IsOneOf y zs ⊎ IsWritten xs y → IsWritten (written xs zs) y
    is_written xs [] y h (inl k) = absurd k
    is_written xs [] y h (inr k) = k
    is_written xs (z ∷ zs) y h k =
        is_written (set xs (place z) (value z)) zs y (shorter zs h.1) (elim k [
          | inl (inl same) ↦ inr (subst (IsWritten (set xs (place z) (value z))) (sym same) (written_same xs z h.0))
          | inl (inr later) ↦ inl later
          | inr before ↦ inr (stays_written xs z y h.0 before)
        ])
      where
        shorter : (ws : List ℕ) → AllByRecursion (λ w. place w < length xs) ws → AllByRecursion (λ w. place w < length (set xs (place z) (value z))) ws
        shorter [] l = tt
        shorter (w ∷ ws) l = (subst (λ n. place w < n) (sym (length-set xs (place z) (value z))) l.0, shorter ws l.1)
