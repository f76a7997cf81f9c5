use Rattle.fs_quadratic.proofs.Small.{small_fits}
use Rattle.fs_quadratic.proofs.radicand.Field.mul.Goals as goal

pub returns-then-is_small-2-clause-product : goal.returns-then-is_small-2-clause-product
returns-then-is_small-2-clause-product c =
    (small_fits c.args.self.d c.args.x c.args.y c.args.self.radicand.greatest (c.is_small.ensures.0 c.if-is_small.true) (c.is_small-then-is_small.ensures.0 c.if-is_small-2.true), c.mul_small.ensures)
