use Rattle.std.proofs.Common.{subst}
use Rattle.std.specs.Result.{OkIff}
use Rattle.fs_fraction.specs.Fraction.{Fraction}
use Rattle.fs_fraction.specs.Arithmetic.{product, ProductFits, ReciprocalFits}
use Rattle.fs_lists.proofs.Results.{ok_and}
use Rattle.fs_fraction.proofs.arithmetic.checked_quotient.Goals as goal

pub returns-in-Ok : goal.returns-in-Ok
returns-in-Ok c =
    let d = c.args.field.d in
    subst (λ (i : Fraction). OkIff c.mul.result (ReciprocalFits d c.args.y × ProductFits d c.args.x i) (product d c.args.x i)) c.in-Ok.ensures.reciprocal.1
    (ok_and c.mul.result (ReciprocalFits d c.args.y) (ProductFits d c.args.x c.in-Ok.inverse) (product d c.args.x c.in-Ok.inverse) c.in-Ok.ensures.reciprocal.0 c.mul.ensures.product)
