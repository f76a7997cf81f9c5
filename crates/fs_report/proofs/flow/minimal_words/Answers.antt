use Rattle.fs_report.proofs.FlowTexts.{minimal_spelled}
use Rattle.fs_report.proofs.flow.minimal_words.Goals as goal

pub returns : goal.returns
returns c =
    minimal_spelled _ _ c.args.from c.args.to _ _ _ _ _ c.in_ok-base.ensures c.len-letters.ensures c.in_ok-area.ensures.spelled c.in_ok-words.ensures.ok
