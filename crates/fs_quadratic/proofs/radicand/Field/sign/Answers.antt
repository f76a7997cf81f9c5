use Rattle.std.proofs.Common.{◌≡◌, ap, ◌∙◌}
use Rattle.fs_quadratic.specs.Ring.{sign, zero}
use Rattle.fs_quadratic.proofs.Laws.{quadratic_ring}
use Rattle.fs_quadratic.proofs.Signs.{compare-is, greater_iff_positive, less_iff_negative}
use Rattle.fs_quadratic.proofs.SquareRoot.{radicand_no_square}
use Rattle.fs_quadratic.proofs.radicand.Field.sign.Goals as goal

pub returns : goal.returns
returns c =
    let value : c.cmp.result ≡ sign c.args.self.d c.args.x =
    c.cmp.ensures.value ∙ compare-is c.args.self.d c.args.x zero ∙ ap (sign c.args.self.d) ((quadratic_ring c.args.self.d).add_zero c.args.x) in
    let no_square = radicand_no_square c.args.self.radicand in
    record {
      value = value;
      greater = greater_iff_positive no_square c.cmp.result c.args.x value;
      less = less_iff_negative no_square c.cmp.result c.args.x value;
    }
