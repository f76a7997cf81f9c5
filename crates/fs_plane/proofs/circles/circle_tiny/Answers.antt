use Rattle.std.proofs.Common.{◌≡◌, ℕ, sym, subst, ◌∙◌}
use Rattle.fs_quadratic.specs.Ring.{Quadratic, mul}
use Rattle.fs_quadratic.specs.Width.{MulFits, IsNarrow}
use Rattle.fs_plane.proofs.TinyCircles.{tiny_cross_narrow, tiny_dot_narrow, tiny_term_fits, tiny_circle_fits}
use Rattle.fs_plane.proofs.SmallVectors.{fits_add}
use Rattle.fs_plane.proofs.circles.circle_tiny.Goals as goal

fits_of : (d : ℕ) {w x y z : Quadratic} → w ≡ y → x ≡ z → MulFits d y z → MulFits d w x
fits_of d {w} {x} {y} {z} e f h = subst (λ v. MulFits d v x) (sym e) (subst (λ v. MulFits d y v) (sym f) h)

products : (d : ℕ) {w x y z : Quadratic} → w ≡ y → x ≡ z → mul d w x ≡ mul d y z
products d e f = λ i. mul d (e i) (f i)

pub mul_narrow-left-requires-clause-left : goal.mul_narrow-left-requires-clause-left
mul_narrow-left-requires-clause-left c =
    subst IsNarrow (sym c.cross_tiny.ensures) (tiny_cross_narrow c.args.field.d c.args.field.radicand.greatest c.args.a c.args.b c.requires.a c.requires.b)

pub mul_narrow-left-requires-clause-right : goal.mul_narrow-left-requires-clause-right
mul_narrow-left-requires-clause-right c =
    subst IsNarrow (sym c.dot_tiny.ensures) (tiny_dot_narrow c.args.field.d c.args.field.radicand.greatest c.args.c c.args.g c.requires.c c.requires.g)

pub mul_narrow-left-requires-clause-fits : goal.mul_narrow-left-requires-clause-fits
mul_narrow-left-requires-clause-fits c =
    fits_of c.args.field.d c.cross_tiny.ensures c.dot_tiny.ensures
    (tiny_term_fits c.args.field.d c.args.field.radicand.greatest c.args.a c.args.b c.args.c c.args.g c.requires.a c.requires.b c.requires.c c.requires.g)

pub mul_narrow-requires-clause-left : goal.mul_narrow-requires-clause-left
mul_narrow-requires-clause-left c =
    subst IsNarrow (sym c.cross_tiny-2.ensures) (tiny_cross_narrow c.args.field.d c.args.field.radicand.greatest c.args.c c.args.g c.requires.c c.requires.g)

pub mul_narrow-requires-clause-right : goal.mul_narrow-requires-clause-right
mul_narrow-requires-clause-right c =
    subst IsNarrow (sym c.dot_tiny-2.ensures) (tiny_dot_narrow c.args.field.d c.args.field.radicand.greatest c.args.a c.args.b c.requires.a c.requires.b)

pub mul_narrow-requires-clause-fits : goal.mul_narrow-requires-clause-fits
mul_narrow-requires-clause-fits c =
    fits_of c.args.field.d c.cross_tiny-2.ensures c.dot_tiny-2.ensures
    (tiny_term_fits c.args.field.d c.args.field.radicand.greatest c.args.c c.args.g c.args.a c.args.b c.requires.c c.requires.g c.requires.a c.requires.b)

pub add_fitting-requires : goal.add_fitting-requires
add_fitting-requires c =
    fits_add (c.mul_narrow-left.ensures ∙ products c.args.field.d c.cross_tiny.ensures c.dot_tiny.ensures) (c.mul_narrow.ensures ∙ products c.args.field.d c.cross_tiny-2.ensures c.dot_tiny-2.ensures)
    (tiny_circle_fits c.args.field.d c.args.field.radicand.greatest c.args.a c.args.b c.args.c c.args.g c.requires.a c.requires.b c.requires.c c.requires.g)
