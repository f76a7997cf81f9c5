use Rattle.std.proofs.Common.{◌≡◌, take, get_or, ◌∙◌, ap, arith}
use Rattle.std.proofs.lemmas.Int.Digits.{digits_more, digits_value_more}
use Rattle.std.specs.Str.Parse.{digits_value}
use Rattle.std.proofs.lemmas.List.{take_all}
use Rattle.fs_lists.proofs.Digits.{digit_at, digit_in_range, digit_value_is, digits_value_below, prefix_value_below}
use Rattle.fs_fraction.proofs.digits.number.Goals as goal

pub overflow_sub-byte : goal.overflow_sub-byte
overflow_sub-byte c =
    let range = digit_in_range (get_or c.args.digits.now c.loop-byte.byte-index 0) (digit_at c.args.digits.now c.loop-byte.byte-index c.requires.digits (omega arith)) in
    omega arith

pub overflow_mul-value : goal.overflow_mul-value
overflow_mul-value c =
    let small = prefix_value_below c.args.digits.now c.loop-byte.byte-index 17 c.loop-byte.invariant.digits (omega arith) c.requires.few in
    let number = c.loop-byte.invariant.number in
    omega arith

pub overflow_add-value : goal.overflow_add-value
overflow_add-value c =
    let small = prefix_value_below c.args.digits.now c.loop-byte.byte-index 17 c.loop-byte.invariant.digits (omega arith) c.requires.few in
    let number = c.loop-byte.invariant.number in
    let range = digit_in_range (get_or c.args.digits.now c.loop-byte.byte-index 0) (digit_at c.args.digits.now c.loop-byte.byte-index c.requires.digits (omega arith)) in
    let from = c.from.ensures in
    omega arith

pub loop-byte-preserved : goal.loop-byte-preserved
loop-byte-preserved c =
    let digits = c.args.digits.now in
    let i = c.loop-byte.byte-index in
    let number = c.loop-byte.invariant.number in
    let more = digits_value_more 10 digits i (omega arith) in
    let digit = digit_at digits i c.requires.digits (omega arith) in
    let value = digit_value_is (get_or digits i 0) (digit_in_range (get_or digits i 0) digit) in
    record {
      digits = digits_more 10 digits i (omega arith) c.loop-byte.invariant.digits digit;
      number = let from = c.from.ensures in omega arith;
    }

pub returns-clause-below : goal.returns-clause-below
returns-clause-below c =
    let all : take c.loop-byte.byte-index c.args.digits.now ≡ c.args.digits.now = take_all c.loop-byte.byte-index c.args.digits.now (omega arith) in
    let small = digits_value_below c.args.digits.now 18 c.requires.digits c.requires.few in
    let number : c.loop-byte.value ≡ digits_value 10 c.args.digits.now = c.loop-byte.invariant.number ∙ ap (digits_value 10) all in
    omega arith
