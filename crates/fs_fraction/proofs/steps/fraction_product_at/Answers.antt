use Rattle.std.proofs.Common.{rules}
use Rattle.fs_quadratic.proofs.StepChains.{step_of_call}
use Rattle.fs_fraction.specs.Arithmetic.{product, ProductFits, is_fitting_product}
use Rattle.fs_fraction.proofs.FittingTests.{Decides-is_fitting_product}
use Rattle.fs_fraction.proofs.steps.fraction_product_at.Goals as goal

pub returns : goal.returns
returns c =
    let d = c.args.field.d in let x = c.args.x in let y = c.args.y in
    step_of_call c.mul.result c.map_err.result c.args.place (is_fitting_product d x y) (ProductFits d x y) (product d x y) (Decides-is_fitting_product d x y) c.mul.ensures.product (search rules)
