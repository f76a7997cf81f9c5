use Rattle.fs_fraction.proofs.Divisors.{multiple_positive}
use Rattle.fs_fraction.proofs.arithmetic.checked_sum.Goals as goal

pub in_lowest_terms-requires-clause-positive : goal.in_lowest_terms-requires-clause-positive
in_lowest_terms-requires-clause-positive c =
    rw (c.in-Some-Some-Some.ensures.1, c.greatest_divisor-common.ensures.value, c.denominator-m.ensures.value, c.denominator-n.ensures.value)
    (multiple_positive c.args.x.den c.args.y.den c.denominator-m.ensures.lowest.positive c.denominator-n.ensures.lowest.positive)
