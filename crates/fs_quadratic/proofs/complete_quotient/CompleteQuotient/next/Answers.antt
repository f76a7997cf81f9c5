use Rattle.std.proofs.Common.{arith}
use Rattle.fs_quadratic.proofs.CompleteQuotients as quotients
use Rattle.fs_quadratic.proofs.complete_quotient.CompleteQuotient.next.Goals as goal

pub overflow_sub-m : goal.overflow_sub-m
overflow_sub-m c = rw c.whole_part.ensures (quotients.m_at_most c.args.self.complete)

pub overflow_mul-a : goal.overflow_mul-a
overflow_mul-a c =
    rw c.whole_part.ensures
    (let below = quotients.next_square_below c.args.self.complete in let greatest = c.args.self.field.radicand.greatest in omega arith)

pub overflow_sub-a : goal.overflow_sub-a
overflow_sub-a c = rw c.whole_part.ensures (let below = quotients.next_square_below c.args.self.complete in omega arith)

pub invariant_of-result : goal.invariant_of-result
invariant_of-result c = rw c.whole_part.ensures (record { complete = quotients.next_quotient c.args.self.complete })
