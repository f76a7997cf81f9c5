use Rattle.std.proofs.Common.{rules}
use Rattle.fs_quadratic.proofs.StepChains.{step_of_call}
use Rattle.fs_fraction.specs.Arithmetic.{sum, SumFits, is_fitting_sum}
use Rattle.fs_fraction.proofs.FittingTests.{Decides-is_fitting_sum}
use Rattle.fs_fraction.proofs.steps.fraction_sum_at.Goals as goal

pub returns : goal.returns
returns c =
    let x = c.args.x in let y = c.args.y in
    step_of_call c.add.result c.map_err.result c.args.place (is_fitting_sum x y) (SumFits x y) (sum x y) (Decides-is_fitting_sum x y) c.add.ensures.sum (search rules)
