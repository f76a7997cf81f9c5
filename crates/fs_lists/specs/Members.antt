-- Members of a list, and lists whose members differ.
use Rattle.std.specs.Prelude.{◌≡◌, ◌≢◌, ◌⊎◌, List, [], ◌∷◌}

-- of two items it can be decided whether they are equal
abbrev pub IsDecidable : Type 0 → Type 0
IsDecidable X = (x y : X) → (x ≡ y) ⊎ (x ≢ y)

module _ {X : Type 0} where
  -- x is in the list
  abbrev pub IsIn : X → List X → Type 0
  IsIn x [] = ⊥
  IsIn x (y ∷ ys) = (x ≡ y) ⊎ IsIn x ys

  -- no item of the list is in the relation to a later one
  abbrev pub AreApart : (X → X → Type 0) → List X → Type 0
  AreApart R [] = Unit {0}
  AreApart R (x ∷ xs) = ((y : X) → IsIn y xs → ¬ R x y) × AreApart R xs

  -- no item is in the list twice
  abbrev pub IsDistinct : List X → Type 0
  IsDistinct xs = AreApart (λ x y. x ≡ y) xs
