use Rattle.std.proofs.Common.{◌∙◌}
use Rattle.std.proofs.lemmas.Result.{IfOk-weaker}
use Rattle.fs_fraction.proofs.Spellings.{without_stroke}
use Rattle.fs_fraction.proofs.spelling.ratio_text.Goals as goal

pub returns-then-under-eq1 : goal.returns-then-under-eq1
returns-then-under-eq1 c = IfOk-weaker c.format.result _ _ (λ text e. e ∙ without_stroke c.args.n c.args.m c.greatest_divisor-common.result c.greatest_divisor-common.ensures.value c.if-under-eq1.true) c.format.ensures.ok
