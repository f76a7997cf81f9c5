-- The tests of the width decide its conditions.
use Rattle.std.proofs.Common.{◌^◌, ℕ, Bool, ℤ, pos, ◌*ℤ◌, ◌&&◌}
use Rattle.std.proofs.lemmas.Bool.Decides.{Decides-ltb, Decides-like, Decides-and}
use Rattle.std.specs.Prelude.{unsigned_abs}
use Rattle.std.specs.Bool.{Decides}
use Rattle.fs_quadratic.specs.Ring.{Quadratic, rational_part, r_part}
use Rattle.fs_quadratic.specs.Width.{InWidth, Fits, MultipleFits, RationalPartFits, RPartFits, MulFits, is_in_width, is_fitting, is_fitting_multiple, is_fitting_rational_part, is_fitting_r_part, is_fitting_mul}
use Rattle.fs_quadratic.proofs.Bits.{within_of_abs, abs_of_within}

pub Decides-is_in_width : (z : ℤ) → Decides (is_in_width z) (InWidth z)
Decides-is_in_width z = Decides-like (is_in_width z) (within_of_abs z) (abs_of_within z) (Decides-ltb (unsigned_abs z) (2 ^ 127))

pub Decides-is_fitting : (x : Quadratic) → Decides (is_fitting x) (Fits x)
Decides-is_fitting x = Decides-and (is_in_width x.p) (is_in_width x.q) (Decides-is_in_width x.p) (Decides-is_in_width x.q)

-- three tests decide three conditions
pub Decides-three : {P Q S : Type 0} (a b c : Bool) → Decides a P → Decides b Q → Decides c S → Decides (a && b && c) (P × Q × S)
Decides-three a b c h k l =
    Decides-like (a && b && c) (λ all. (all.0.0, all.0.1, all.1)) (λ all. ((all.0, all.1), all.2)) (Decides-and (a && b) c (Decides-and a b h k) l)

-- four tests decide four conditions
pub Decides-four : {P Q S T : Type 0} (a b c d : Bool) → Decides a P → Decides b Q → Decides c S → Decides d T → Decides (a && b && c && d) (P × Q × S × T)
Decides-four a b c d h k l m =
    Decides-like (a && b && c && d) (λ all. (all.0.0, all.0.1, all.0.2, all.1)) (λ all. ((all.0, all.1, all.2), all.3))
    (Decides-and (a && b && c) d (Decides-three a b c h k l) m)

pub Decides-multiple : (d : ℕ) (a b : ℤ) → Decides (is_fitting_multiple d a b) (MultipleFits d a b)
Decides-multiple d a b =
    Decides-and (is_in_width (a *ℤ b)) (is_in_width (pos d *ℤ (a *ℤ b))) (Decides-is_in_width (a *ℤ b)) (Decides-is_in_width (pos d *ℤ (a *ℤ b)))

Decides-rational_part : (d : ℕ) (x y : Quadratic) → Decides (is_fitting_rational_part d x y) (RationalPartFits d x y)
Decides-rational_part d x y =
    Decides-three (is_in_width (x.p *ℤ y.p)) (is_fitting_multiple d x.q y.q) (is_in_width (rational_part d x y))
    (Decides-is_in_width (x.p *ℤ y.p)) (Decides-multiple d x.q y.q) (Decides-is_in_width (rational_part d x y))

Decides-r_part : (x y : Quadratic) → Decides (is_fitting_r_part x y) (RPartFits x y)
Decides-r_part x y =
    Decides-three (is_in_width (x.p *ℤ y.q)) (is_in_width (x.q *ℤ y.p)) (is_in_width (r_part x y))
    (Decides-is_in_width (x.p *ℤ y.q)) (Decides-is_in_width (x.q *ℤ y.p)) (Decides-is_in_width (r_part x y))

pub Decides-is_fitting_mul : (d : ℕ) (x y : Quadratic) → Decides (is_fitting_mul d x y) (MulFits d x y)
unfolding is_fitting_mul MulFits
Decides-is_fitting_mul d x y =
    Decides-and (is_fitting_rational_part d x y) (is_fitting_r_part x y) (Decides-rational_part d x y) (Decides-r_part x y)
