-- The letters of a row, one after another, and their return vectors: as they are computed, they are those of the definition.
use Rattle.std.proofs.Common.{◌≡◌, ℕ, ◌∙◌, ◌++◌, ◌∷◌, [], List, length, get_or, sym, ap, subst, inl, inr, Some, Result, Ok, Err}
use Rattle.std.proofs.lemmas.Option.{get_or_from_slice_get}
use Rattle.std.specs.List.{slice_get}
use Rattle.std.specs.Result.{IsOk}
use Rattle.fs_plane.specs.declared.corners.Corner.{Corner}
use Rattle.fs_plane.specs.Vector.{PlaneVector}
use Rattle.fs_plane.proofs.FormulaLaws.{difference_value}
use Rattle.fs_gluing.specs.CrossingMap.{gluing_vector}
use Rattle.fs_gluing.specs.Exchanges.{Letter, IsLetterOf}
use Rattle.fs_gluing.specs.Surface.{GluedPolygons}
use Rattle.fs_iet.specs.ExchangeSites.{checked_return}
use Rattle.fs_iet.proofs.NumberedItems.{item_of_more}

-- the value of the formula
pub return_value : (s : GluedPolygons) (v : PlaneVector) (f : Corner) (back : PlaneVector) → checked_return s f ≡ Ok back → back ≡ gluing_vector s v f
return_value s v f back e = difference_value s.d 0 _ _ back e

-- an `Err` isn't `Ok`
pub not_ok : {X E : Type 0} (r : Result X E) (e : E) → r ≡ Err e → IsOk r → ⊥
not_ok (Ok x) e same h = cc
not_ok (Err x) e same h = cc

-- the letters of a row, and one more
pub letters_more : (s : GluedPolygons) (v : PlaneVector) (row : List Corner) (letters more : List Letter) (k : ℕ) (d : Corner) (letter : Letter) → more ≡ letters ++ letter ∷ [] → length letters ≡ k
    → ((n : ℕ) (f : Corner) (l : Letter) → slice_get row n ≡ Some f → slice_get letters n ≡ Some l → IsLetterOf s v f n l) → IsLetterOf s v (get_or row k d) k letter
    → (n : ℕ) (f : Corner) (l : Letter) → slice_get row n ≡ Some f → slice_get more n ≡ Some l → IsLetterOf s v f n l
letters_more s v row letters more k d letter whole long before last n f l e h = elim (item_of_more letters letter l n (ap (λ ls. slice_get ls n) (sym whole) ∙ h)) [
  | inl there ↦ before n f l e there
  | inr there ↦
      let number : k ≡ n = sym (there.0 ∙ long) in
      subst (λ x. IsLetterOf s v f n x) there.1
      (subst (λ x. IsLetterOf s v x n letter) (get_or_from_slice_get row n f d e)
      (subst (λ (j : ℕ). IsLetterOf s v (get_or row j d) j letter) number last))
]
