use Rattle.fs_quadratic.proofs.Small.{narrow_of_small, small_fits}
use Rattle.fs_quadratic.proofs.radicand.Field.mul_small.Goals as goal

pub mul_narrow-requires-clause-left : goal.mul_narrow-requires-clause-left
mul_narrow-requires-clause-left c = narrow_of_small c.args.x c.requires.left

pub mul_narrow-requires-clause-right : goal.mul_narrow-requires-clause-right
mul_narrow-requires-clause-right c = narrow_of_small c.args.y c.requires.right

pub mul_narrow-requires-clause-fits : goal.mul_narrow-requires-clause-fits
mul_narrow-requires-clause-fits c =
    small_fits c.args.self.d c.args.x c.args.y c.args.self.radicand.greatest c.requires.left c.requires.right
