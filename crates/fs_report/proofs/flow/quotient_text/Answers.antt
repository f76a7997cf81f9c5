use Rattle.std.proofs.Common.{ℤ, ap, ◌∙◌}
use Rattle.std.specs.Prelude.{unsigned_abs}
use Rattle.std.proofs.lemmas.Result.{IfOk-weaker}
use Rattle.fs_fraction.specs.Fraction.{reduced}
use Rattle.fs_fraction.specs.Number.{spelling}
use Rattle.fs_gluing.proofs.Base.ReadBack.{read_back}
use Rattle.fs_report.proofs.flow.quotient_text.Goals as goal

pub returns : goal.returns
returns c =
    IfOk-weaker c.print_number.result _ _
    (λ text spelled. spelled ∙ (ap spelling c.new.ensures.reduced ∙ ap (λ (den : ℤ). spelling (reduced c.args.x (unsigned_abs den))) (read_back c.args.den c.requires c.ranges.den.sfits)))
    c.print_number.ensures.spelled
