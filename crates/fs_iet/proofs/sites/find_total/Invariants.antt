-- The sides before this one are in the sum.
use Rattle.fs_iet.proofs.SiteSums.{SumsSidesUpTo}
use Rattle.fs_iet.proofs.sites.find_total.Given as goal

abbrev pub invariant-loop-e : goal.invariant-loop-e
invariant-loop-e l = SumsSidesUpTo l.surface l.v l.sides l.e-index l.sum
