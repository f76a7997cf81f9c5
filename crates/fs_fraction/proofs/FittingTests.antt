-- The tests of the widths of fractions decide their conditions.
use Rattle.std.proofs.Common.{ℕ, pos, ◌*ℤ◌}
use Rattle.std.proofs.lemmas.Bool.Decides.{Decides-and}
use Rattle.std.specs.Bool.{Decides}
use Rattle.fs_quadratic.specs.Ring.{Quadratic, add}
use Rattle.fs_quadratic.specs.Width.{is_in_width, is_fitting, is_fitting_multiple, is_fitting_mul}
use Rattle.fs_quadratic.proofs.WidthTests.{Decides-is_in_width, Decides-is_fitting, Decides-multiple, Decides-is_fitting_mul, Decides-three, Decides-four}
use Rattle.fs_fraction.specs.Fraction.{Fraction}
use Rattle.fs_fraction.specs.Arithmetic.{SumFits, ProductFits, NormFits, ReciprocalFits, is_fitting_sum, is_fitting_product, is_fitting_norm, is_fitting_reciprocal, common_den, left_num, right_num, rest_num, rest_den, norm, primitive, inverse_num, inverse_den}

pub Decides-is_fitting_sum : (x y : Fraction) → Decides (is_fitting_sum x y) (SumFits x y)
Decides-is_fitting_sum x y =
    Decides-four (is_in_width (pos (common_den x y))) (is_fitting (left_num x y)) (is_fitting (right_num x y)) (is_fitting (add (left_num x y) (right_num x y)))
    (Decides-is_in_width (pos (common_den x y))) (Decides-is_fitting (left_num x y)) (Decides-is_fitting (right_num x y)) (Decides-is_fitting (add (left_num x y) (right_num x y)))

pub Decides-is_fitting_product : (d : ℕ) (x y : Fraction) → Decides (is_fitting_product d x y) (ProductFits d x y)
Decides-is_fitting_product d x y =
    Decides-and (is_fitting_mul d (rest_num x y) (rest_num y x)) (is_in_width (pos (rest_den x y)))
    (Decides-is_fitting_mul d (rest_num x y) (rest_num y x)) (Decides-is_in_width (pos (rest_den x y)))

Decides-norm : (d : ℕ) (x : Quadratic) → Decides (is_fitting_norm d x) (NormFits d x)
Decides-norm d x =
    Decides-three (is_in_width (x.p *ℤ x.p)) (is_fitting_multiple d x.q x.q) (is_in_width (norm d x))
    (Decides-is_in_width (x.p *ℤ x.p)) (Decides-multiple d x.q x.q) (Decides-is_in_width (norm d x))

pub Decides-is_fitting_reciprocal : (d : ℕ) (x : Fraction) → Decides (is_fitting_reciprocal d x) (ReciprocalFits d x)
Decides-is_fitting_reciprocal d x =
    Decides-three (is_fitting_norm d (primitive x.num)) (is_fitting (inverse_num x)) (is_in_width (pos (inverse_den d x)))
    (Decides-norm d (primitive x.num)) (Decides-is_fitting (inverse_num x)) (Decides-is_in_width (pos (inverse_den d x)))
