use Rattle.fs_report.proofs.FlowTexts.{base_spelled}
use Rattle.fs_report.proofs.flow.base_words.Goals as goal

pub returns : goal.returns
returns c = base_spelled _ _ _ _ _ c.in_ok-base.ensures c.in_ok-width.ensures c.in_ok-words.ensures.ok
