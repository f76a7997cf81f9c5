use Rattle.fs_quadratic.proofs.CompleteQuotients.{first_quotient}
use Rattle.fs_quadratic.proofs.complete_quotient.CompleteQuotient.first.Goals as goal

pub invariant_of-result : goal.invariant_of-result
invariant_of-result c =
    record { complete = first_quotient c.args.field.d c.isqrt.result c.args.field.radicand c.isqrt.ensures.square_le c.isqrt.ensures.next_square_gt }
