-- The parts of the line, put together.
use Rattle.std.proofs.Common.{◌∙◌, append_assoc}
use Rattle.std.proofs.lemmas.Result.{IfOk-weaker}
use Rattle.fs_cli.proofs.summary.title.Goals as goal

pub returns : goal.returns
returns c = IfOk-weaker c.format.result _ _ (λ line e. e ∙ simp append_assoc) c.format.ensures.ok
