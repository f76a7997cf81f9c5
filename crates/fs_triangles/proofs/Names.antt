-- A test that tells which names are the same, and what is chosen by it. A library for crates to come.
use Rattle.std.proofs.Common.{◌≡◌, ◌≢◌, ◌⊎◌, Bool, false, cond, ap, inl, inr}
use Rattle.std.proofs.lemmas.Bool.{cases_Bool}
use Rattle.fs_cuts.specs.EdgeRemoval.{TellsNames}

module _ {X : Type 0} {same : X → X → Bool} (tells : TellsNames same) where
  -- two names are the same, or not
  pub same_or_not : (x y : X) → (x ≡ y) ⊎ (x ≢ y)
  same_or_not x y = elim (cases_Bool (same x y)) [
    | inl f ↦ inl ((tells x y).0 f)
    | inr f ↦ inr (λ m. let t = (tells x y).1 m in cc)
  ]

  differ : {x y : X} → x ≢ y → same x y ≡ false
  differ {x} {y} n = elim (cases_Bool (same x y)) [
    | inl f ↦ absurd (n ((tells x y).0 f))
    | inr f ↦ f
  ]

  -- for the same names the first is chosen
  pub chosen : {B : Type 0} {x y : X} (b c : B) → x ≡ y → cond (same x y) b c ≡ b
  chosen {x = x} {y = y} b c f = ap (λ z. cond z b c) ((tells x y).1 f)

  -- and else the second
  pub not_chosen : {B : Type 0} {x y : X} (b c : B) → x ≢ y → cond (same x y) b c ≡ c
  not_chosen b c n = ap (λ z. cond z b c) (differ n)
