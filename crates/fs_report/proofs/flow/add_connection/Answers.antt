use Rattle.std.proofs.Common.{ap, ◌∙◌}
use Rattle.std.specs.Prelude.{unsigned_abs}
use Rattle.fs_report.specs.DelaunayText.{vector_text}
use Rattle.fs_report.proofs.FlowTexts.{connection_written}
use Rattle.fs_report.proofs.flow.add_connection.Goals as goal

pub returns : goal.returns
returns c = connection_written _ _ _ _ _ _ c.start-start.ensures (c.in_ok-v.ensures ∙ ap (vector_text (unsigned_abs c.args.surface.now.den)) c.v.ensures) c.in_ok-write.ensures.bytes
