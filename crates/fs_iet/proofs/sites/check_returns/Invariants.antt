-- The return vectors of the sides before this one don't overflow.
use Rattle.fs_iet.proofs.SiteSums.{FitReturnsUpTo}
use Rattle.fs_iet.proofs.sites.check_returns.Given as goal

abbrev pub invariant-loop-f : goal.invariant-loop-f
invariant-loop-f l = FitReturnsUpTo l.surface l.v l.sides l.f-index
