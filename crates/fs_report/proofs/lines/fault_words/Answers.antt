use Rattle.std.proofs.Common.{◌∙◌, append_assoc}
use Rattle.std.proofs.lemmas.Result.{IfOk-weaker}
use Rattle.fs_report.proofs.lines.fault_words.Goals as goal

pub returns-in-NotConvex : goal.returns-in-NotConvex
returns-in-NotConvex c = rw c.in-NotConvex.is (IfOk-weaker c.format-in-NotConvex.result _ _ (λ line e. e ∙ simp append_assoc) c.format-in-NotConvex.ensures.ok)

pub returns-in-Unglued : goal.returns-in-Unglued
returns-in-Unglued c = rw c.in-Unglued.is (IfOk-weaker c.format-in-Unglued.result _ _ (λ line e. e ∙ simp append_assoc) c.format-in-Unglued.ensures.ok)
