use Rattle.fs_quadratic.proofs.SquareRoot.{radicand_no_square}
use Rattle.fs_quadratic.proofs.Signs.{greater_iff_less, less_iff_less}
use Rattle.fs_quadratic.proofs.radicand.Field.cmp.Goals as goal

pub returns-clause-greater : goal.returns-clause-greater
returns-clause-greater c = greater_iff_less (radicand_no_square c.args.self.radicand) c.compare.result c.args.x c.args.y c.compare.ensures

pub returns-clause-less : goal.returns-clause-less
returns-clause-less c = less_iff_less (radicand_no_square c.args.self.radicand) c.compare.result c.args.x c.args.y c.compare.ensures
