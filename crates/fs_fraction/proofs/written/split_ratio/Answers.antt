use Rattle.std.proofs.Common.{◌≡◌, ℕ, List, ◌∷◌, ◌∙◌, ap, subst, arith}
use Rattle.fs_fraction.specs.Parts.{BeginsNumeral}
use Rattle.fs_fraction.proofs.Parts.{no_over, no_under}
use Rattle.fs_fraction.proofs.written.split_ratio.Goals as goal

pub returns-in_err-over : goal.returns-in_err-over
returns-in_err-over c = rw c.from_residual.ensures (no_over c.args.text.now c.in_err-over.ensures)

pub returns-in_err-under-in-Some-eq47-default : goal.returns-in_err-under-in-Some-eq47-default
returns-in_err-under-in-Some-eq47-default c =
    let rest = c.in-Some-eq47-default.rest.now in
    let byte : c.in-Some-eq47-default.field-0-0.now ≡ 47 = omega arith in
    let stroke : c.in_ok-over.rest.now ≡ 47 ∷ rest = c.in-Some-eq47-default.ensures.cases.0 ∙ ap (λ (b : ℕ). b ∷ rest) byte in
    rw c.from_residual-in_err-under-in-Some-eq47-default.ensures
    (no_under c.args.text.now c.in_ok-over.over.now rest (subst (λ (t : List ℕ). BeginsNumeral c.args.text.now c.in_ok-over.over.now t) stroke c.in_ok-over.ensures) c.in_err-under-in-Some-eq47-default.ensures)
