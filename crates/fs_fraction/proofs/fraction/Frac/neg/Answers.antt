use Rattle.fs_fraction.proofs.Lowest.{lowest-neg}
use Rattle.fs_fraction.proofs.fraction.Frac.neg.Goals as goal

pub invariant_of-result : goal.invariant_of-result
invariant_of-result c = rw c.neg.ensures (lowest-neg c.self.inside.num c.self.inside.den c.self.invariant)
