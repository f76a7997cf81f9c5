use Rattle.fs_fraction.proofs.Lowest.{reduced-lowest}
use Rattle.fs_fraction.proofs.fraction.in_lowest_terms.Goals as goal

pub invariant_of-result : goal.invariant_of-result
invariant_of-result c = rw (c.divide.ensures, c.greatest_divisor-common.ensures.value, c.content.ensures.value) (reduced-lowest c.args.num c.args.den c.requires.positive c.requires.within)
