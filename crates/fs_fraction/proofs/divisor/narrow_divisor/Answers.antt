use Rattle.std.proofs.lemmas.Nat.Gcd.{IsGcd-from_zero, IsGcd-from_mod, same_from_IsGcd}
use Rattle.fs_fraction.proofs.Divisors.{gcd-is}
use Rattle.fs_fraction.proofs.divisor.narrow_divisor.Goals as goal

pub loop-smaller-preserved : goal.loop-smaller-preserved
loop-smaller-preserved c = λ g h. c.loop-smaller.invariant g (IsGcd-from_mod c.loop-smaller.larger c.loop-smaller.smaller g h)

pub returns : goal.returns
returns c = same_from_IsGcd c.args.a c.args.b _ _ (c.loop-smaller.invariant _ (IsGcd-from_zero c.loop-smaller.larger c.loop-smaller.smaller c.loop-smaller-test.false)) (gcd-is c.args.a c.args.b)
