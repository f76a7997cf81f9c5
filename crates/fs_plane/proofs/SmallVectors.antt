-- The formulas of small vectors always fit.
use Rattle.std.proofs.Common.{◌≡◌, ℕ, Ok, sym, subst, arith}
use Rattle.fs_quadratic.specs.declared.radicand.Field.{Field}
use Rattle.fs_quadratic.specs.Ring.{Quadratic, add, sub}
use Rattle.fs_quadratic.specs.Width.{Fits, IsSmall, IsTiny}
use Rattle.fs_quadratic.proofs.Small.{small_fits, small_sum_fits, small_difference_fits}
use Rattle.fs_plane.specs.Vector.{PlaneVector, IsSmallVector, IsTinyVector, cross, dot}
use Rattle.fs_plane.specs.Formulas.{cross_after, dot_after}
use Rattle.fs_plane.proofs.FormulaLaws.{cross_fits, dot_fits}

pub fits_sub : {w x y z : Quadratic} → w ≡ y → x ≡ z → Fits (sub y z) → Fits (sub w x)
fits_sub {w} {x} {y} {z} e f h = subst (λ v. Fits (sub v x)) (sym e) (subst (λ v. Fits (sub y v)) (sym f) h)

pub fits_add : {w x y z : Quadratic} → w ≡ y → x ≡ z → Fits (add y z) → Fits (add w x)
fits_add {w} {x} {y} {z} e f h = subst (λ v. Fits (add v x)) (sym e) (subst (λ v. Fits (add y v)) (sym f) h)

small_of_tiny : (x : Quadratic) → IsTiny x → IsSmall x
small_of_tiny x t = (omega arith, omega arith)

-- tiny vectors are small
pub small_of_tiny_vector : (a : PlaneVector) → IsTinyVector a → IsSmallVector a
small_of_tiny_vector a t = (small_of_tiny a.x t.0, small_of_tiny a.y t.1)

module _ (field : Field) (a b : PlaneVector) (s : IsSmallVector a) (t : IsSmallVector b) where
  pub small_cross_fits : Fits (cross field.d a b)
  small_cross_fits = small_difference_fits field a.x b.y a.y b.x s.0 t.1 s.1 t.0

  pub small_dot_fits : Fits (dot field.d a b)
  small_dot_fits = small_sum_fits field a.x b.x a.y b.y s.0 t.0 s.1 t.1

  pub small_cross : (before : ℕ) → cross_after before field.d a b ≡ Ok (cross field.d a b)
  small_cross before =
      cross_fits before field.d a b (small_fits field.d a.x b.y field.radicand.greatest s.0 t.1, small_fits field.d a.y b.x field.radicand.greatest s.1 t.0, small_cross_fits)

  pub small_dot : (before : ℕ) → dot_after before field.d a b ≡ Ok (dot field.d a b)
  small_dot before =
      dot_fits before field.d a b (small_fits field.d a.x b.x field.radicand.greatest s.0 t.0, small_fits field.d a.y b.y field.radicand.greatest s.1 t.1, small_dot_fits)
