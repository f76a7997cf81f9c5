-- The squared length of the direction isn't 0.
use Rattle.std.proofs.Common.{sym, ap, ◌∙◌}
use Rattle.fs_fraction.specs.Fraction.{Fraction}
use Rattle.fs_plane.proofs.FormulaLaws.{norm_value}
use Rattle.fs_components.proofs.AlongSides.{norm-ne-zero}
use Rattle.fs_components.proofs.measures.find_inverse.Goals as goal

pub reciprocal_at-requires : goal.reciprocal_at-requires
reciprocal_at-requires c = λ e.
    norm-ne-zero c.args.field.radicand c.args.v c.requires
    (sym (norm_value 6 c.args.field.d c.args.v c.in_ok-norm.norm (sym c.in_ok-norm.ensures)) ∙ sym (ap (λ (x : Fraction). x.num) c.whole.ensures) ∙ e)
