use Rattle.fs_fraction.proofs.Divisors.{gcd-of_zero, gcd-of_rest}
use Rattle.fs_fraction.proofs.divisor.divisor_of_narrow.Goals as goal

pub returns-then-b-eq0 : goal.returns-then-b-eq0
returns-then-b-eq0 c = gcd-of_zero c.args.a c.args.b c.if-b-eq0.true

pub returns-else-b-eq0 : goal.returns-else-b-eq0
returns-else-b-eq0 c = rw c.from-else-b-eq0-2.ensures (rw c.narrow_divisor-else-b-eq0.ensures (rw c.from-else-b-eq0.ensures (gcd-of_rest c.args.a c.args.b)))
