use Rattle.std.proofs.Common.{ap, ◌∙◌}
use Rattle.std.specs.Prelude.{unsigned_abs}
use Rattle.fs_report.specs.FlowText.{holonomy_text}
use Rattle.fs_report.proofs.FlowTexts.{cylinder_spelled}
use Rattle.fs_report.proofs.flow.cylinder_words.Goals as goal

pub returns : goal.returns
returns c =
    cylinder_spelled _ _ _ _ _ _ _ _ _ _ _ c.in_ok-base.ensures (c.in_ok-holonomy.ensures ∙ ap (holonomy_text (unsigned_abs c.args.surface.now.den)) c.as_slice.ensures) c.in_ok-square.ensures.spelled
    c.in_ok-height.ensures.spelled c.in_ok-area.ensures.spelled c.in_ok-words.ensures.ok
