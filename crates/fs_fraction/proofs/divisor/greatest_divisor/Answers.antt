use Rattle.std.proofs.Common.{◌≡◌}
use Rattle.std.proofs.Math.Path.{◌∙◌}
use Rattle.std.proofs.lemmas.Nat.Gcd.{IsGcd-from_mod, same_from_IsGcd}
use Rattle.fs_fraction.specs.Divisor.{gcd}
use Rattle.fs_fraction.proofs.Divisors.{gcd-is, gcd-greatest, gcd_positive, gcd_at_most}
use Rattle.fs_fraction.proofs.divisor.greatest_divisor.Goals as goal

pub loop-smaller-preserved : goal.loop-smaller-preserved
loop-smaller-preserved c = λ g h. c.loop-smaller.invariant g (IsGcd-from_mod c.loop-smaller.larger c.loop-smaller.smaller g h)

pub returns : goal.returns
returns c =
    let same : c.divisor_of_narrow.result ≡ gcd c.args.a c.args.b =
    c.divisor_of_narrow.ensures ∙ same_from_IsGcd c.args.a c.args.b _ _ (c.loop-smaller.invariant _ (gcd-is c.loop-smaller.larger c.loop-smaller.smaller)) (gcd-is c.args.a c.args.b) in
    record {
      value = same;
      greatest = rw same (gcd-greatest c.args.a c.args.b);
      positive = λ up. rw same (gcd_positive c.args.a c.args.b up);
      at_most = λ up. rw same (gcd_at_most c.args.a c.args.b up);
    }
