use Rattle.std.proofs.Common.{◌≡◌, ◌≢◌, ◌∷◌, [], rules, length, arith, ap}
use Rattle.std.proofs.lemmas.Slice.Eq.{bytes_eq-Decides}
use Rattle.std.proofs.lemmas.Bool.Decides.{nat_tests}
use Rattle.fs_fraction.proofs.Parts.{no_front, no_tail}
use Rattle.fs_fraction.proofs.written.parse.Goals as goal

pub returns-in_err-ratio : goal.returns-in_err-ratio
returns-in_err-ratio c = rw c.from_residual.ensures (no_front c.args.text.now c.strip_minus-minus.result.0 c.strip_minus-minus.result.1.now c.strip_minus-minus.ensures.whole c.strip_minus-minus.ensures.plain c.in_err-ratio.ensures)

pub returns-in_err-second_part : goal.returns-in_err-second_part
returns-in_err-second_part c = rw c.from_residual-in_err-second_part.ensures
    (let tail = c.in_ok-ratio.tail.now in
    let some : tail ≢ [] = λ e. absurd (let none : length tail ≡ 0 = ap length e in let a = c.if-is_empty.ensures in let b = c.if-is_empty.false in grind (arith, nat_tests)) in
    let other : tail ≢ 114 ∷ [] = search (rules, bytes_eq-Decides) in
    no_tail c.args.text.now c.strip_minus-minus.result.0 c.strip_minus-minus.result.1.now _ tail c.strip_minus-minus.ensures.whole c.strip_minus-minus.ensures.plain c.in_ok-ratio.ensures some other c.in_err-second_part.ensures)
