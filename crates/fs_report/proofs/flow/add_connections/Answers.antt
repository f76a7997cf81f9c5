use Rattle.std.proofs.Common.{◌++◌, ap, ◌∙◌, string_bytes}
use Rattle.std.specs.Prelude.{unsigned_abs}
use Rattle.fs_plane.specs.declared.listing.Listed.{Listed}
use Rattle.fs_report.specs.FlowText.{connection_line}
use Rattle.fs_report.proofs.DelaunayTexts.{items_written}
use Rattle.fs_report.proofs.flow.add_connections.Goals as goal

pub loop-entry-preserved : goal.loop-entry-preserved
loop-entry-preserved c = items_written (connection_line (unsigned_abs c.args.surface.now.den)) c.args.entries.now c.loop-entry.entry-index _ _ _ _ c.loop-entry-test.true c.loop-entry.invariant
    (c.in_ok-add_connection.ensures ∙ ap (λ (entry : Listed). string_bytes c.loop-entry.text ++ connection_line (unsigned_abs c.args.surface.now.den) entry) c.entry-item.is)
