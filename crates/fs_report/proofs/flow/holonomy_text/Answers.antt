use Rattle.std.proofs.Common.{◌∙◌}
use Rattle.std.proofs.lemmas.Result.{IfOk-weaker}
use Rattle.std.specs.Prelude.{unsigned_abs}
use Rattle.fs_report.proofs.FlowTexts.{first_spelled, none_spelled}
use Rattle.fs_report.proofs.flow.holonomy_text.Goals as goal

pub returns-in-Some : goal.returns-in-Some
returns-in-Some c =
    IfOk-weaker c.vector_text.result _ _ (λ text e. e ∙ first_spelled (unsigned_abs c.args.surface.now.den) c.args.letters.now c.in-Some.letter.now c.in-Some.ensures.value) c.vector_text.ensures

pub returns-in-None : goal.returns-in-None
returns-in-None c = c.new.ensures.bytes ∙ none_spelled (unsigned_abs c.args.surface.now.den) c.args.letters.now c.in-None.ensures.value
