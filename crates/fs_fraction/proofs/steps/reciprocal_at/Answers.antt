use Rattle.std.proofs.Common.{rules}
use Rattle.fs_quadratic.proofs.StepChains.{step_of_call}
use Rattle.fs_fraction.specs.Arithmetic.{reciprocal, ReciprocalFits, is_fitting_reciprocal}
use Rattle.fs_fraction.proofs.FittingTests.{Decides-is_fitting_reciprocal}
use Rattle.fs_fraction.proofs.steps.reciprocal_at.Goals as goal

pub returns : goal.returns
returns c =
    let d = c.args.field.d in let x = c.args.x in
    step_of_call c.inv.result c.map_err.result c.args.place (is_fitting_reciprocal d x) (ReciprocalFits d x) (reciprocal d x) (Decides-is_fitting_reciprocal d x) c.inv.ensures.reciprocal (search rules)
