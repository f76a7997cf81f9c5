use Rattle.std.proofs.Common.{subst}
use Rattle.std.proofs.lemmas.Result.{IfOk-weaker}
use Rattle.fs_job.specs.Reading.{HasDirection}
use Rattle.fs_report.proofs.answers.find_answer.Goals as goal

pub returns-in-Flow : goal.returns-in-Flow
returns-in-Flow c = rw c.in-Flow.is (IfOk-weaker c.answer_flow.result _ _ (λ answer is. (subst HasDirection c.in-Flow.is c.requires.direction, is)) c.answer_flow.ensures)
