use Rattle.std.proofs.Common.{arith}
use Rattle.std.proofs.lemmas.Int.Digits.{digits_more}
use Rattle.fs_fraction.proofs.digits.split_digits.Goals as goal

pub loop-i-preserved : goal.loop-i-preserved
loop-i-preserved c = digits_more 10 c.args.text.now c.loop-i.i (omega arith) c.loop-i.invariant (rw c.if-not-is_ascii_digit.false at c.is_ascii_digit.ensures.bound)
