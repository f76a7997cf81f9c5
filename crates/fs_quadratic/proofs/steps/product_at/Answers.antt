use Rattle.std.proofs.Common.{rules}
use Rattle.fs_quadratic.specs.Ring.{mul}
use Rattle.fs_quadratic.specs.Width.{MulFits, is_fitting_mul}
use Rattle.fs_quadratic.proofs.WidthTests.{Decides-is_fitting_mul}
use Rattle.fs_quadratic.proofs.StepChains.{step_of_call}
use Rattle.fs_quadratic.proofs.steps.product_at.Goals as goal

pub returns : goal.returns
returns c =
    let d = c.args.field.d in let x = c.args.x in let y = c.args.y in
    step_of_call c.mul.result c.map_err.result c.args.place (is_fitting_mul d x y) (MulFits d x y) (mul d x y) (Decides-is_fitting_mul d x y) c.mul.ensures.product (search rules)
