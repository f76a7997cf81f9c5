use Rattle.fs_fraction.proofs.Divisors.{gcd_positive}
use Rattle.fs_fraction.proofs.LowestRatios.{reduced-ratio, reduced-across}
use Rattle.fs_fraction.proofs.value.reduced_ratio.Goals as goal

pub nonzero_div-result : goal.nonzero_div-result
nonzero_div-result c = rw c.narrow_divisor-common.ensures (gcd_positive c.args.over c.args.under c.requires.positive)

pub nonzero_div-result-2 : goal.nonzero_div-result-2
nonzero_div-result-2 c = rw c.narrow_divisor-common.ensures (gcd_positive c.args.over c.args.under c.requires.positive)

pub invariant_of-result : goal.invariant_of-result
invariant_of-result c = rw c.narrow_divisor-common.ensures (record { lowest = reduced-ratio c.args.over c.args.under c.requires.positive c.requires.over c.requires.under })

pub returns : goal.returns
returns c = rw c.narrow_divisor-common.ensures (reduced-across c.args.over c.args.under)
