use Rattle.std.proofs.Common.{refl, ◌∙◌}
use Rattle.std.proofs.lemmas.Result.{IfOk-weaker}
use Rattle.fs_report.proofs.FlowUnique.{answered_flow, answered_at_flow_stop}
use Rattle.fs_report.proofs.flow.answer_flow.Goals as goal

pub returns-in-Ok : goal.returns-in-Ok
returns-in-Ok c =
    answered_flow c.args.surface.now c.args.budget c.args.v c.in-Ok.flow _ _ _ (c.deref.ensures ∙ c.in_ok-words.ensures) c.in-Ok.ensures.flow c.in-Ok.ensures.means c.in_ok-whole_text-in-Ok.ensures refl

pub returns : goal.returns
returns c =
    IfOk-weaker c.flow_stopped.result _ _
    (λ answer is. answered_at_flow_stop c.args.surface.now c.args.budget c.args.v _ _ _ c.in-Err.stop (c.deref-in-Err.ensures ∙ c.in_ok-words.ensures) c.in-Err.ensures.flow is)
    c.flow_stopped.ensures
