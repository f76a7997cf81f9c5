use Rattle.std.proofs.Common.{get_or, arith}
use Rattle.std.proofs.lemmas.Int.Digits.{digits_more, digits_value_more}
use Rattle.fs_lists.proofs.Digits.{digit_at, no_digit, digit_value_is, prefix_value_below}
use Rattle.fs_job.proofs.statements.numeral.Goals as goal

pub returns-then-not-is_ascii_digit : goal.returns-then-not-is_ascii_digit
returns-then-not-is_ascii_digit c = λ n spelled.
    let text = c.args.text.now in
    let i = c.loop-byte.byte-index in
    no_digit (get_or text i 0) (rw c.if-not-is_ascii_digit.true at c.is_ascii_digit.ensures.cases) (digit_at text i spelled.digits.1 (omega arith))

pub overflow_mul-value : goal.overflow_mul-value
overflow_mul-value c =
    let small = prefix_value_below c.args.text.now c.loop-byte.byte-index 3 c.loop-byte.invariant.digits (omega arith) (omega arith) in
    let number = c.loop-byte.invariant.number in
    omega arith

pub overflow_add-value : goal.overflow_add-value
overflow_add-value c =
    let small = prefix_value_below c.args.text.now c.loop-byte.byte-index 3 c.loop-byte.invariant.digits (omega arith) (omega arith) in
    let number = c.loop-byte.invariant.number in
    let digit = rw c.if-not-is_ascii_digit.false at c.is_ascii_digit.ensures.cases in
    let from = c.from.ensures in
    omega arith

pub loop-byte-preserved : goal.loop-byte-preserved
loop-byte-preserved c =
    let text = c.args.text.now in
    let i = c.loop-byte.byte-index in
    let number = c.loop-byte.invariant.number in
    let more = digits_value_more 10 text i (omega arith) in
    let digit = rw c.if-not-is_ascii_digit.false at c.is_ascii_digit.ensures.cases in
    let value = digit_value_is (get_or text i 0) digit in
    record {
      digits = digits_more 10 text i (omega arith) c.loop-byte.invariant.digits (omega arith);
      number = let from = c.from.ensures in omega arith;
    }
