use Rattle.std.proofs.Common.{ℕ, List, ◌++◌, ap, ◌∙◌, string_bytes}
use Rattle.std.specs.Prelude.{unsigned_abs}
use Rattle.fs_components.specs.declared.flow.Measured.{Measured}
use Rattle.fs_report.specs.FlowText.{part_line}
use Rattle.fs_report.specs.Text.{line_of}
use Rattle.fs_report.proofs.DelaunayTexts.{items_written}
use Rattle.fs_report.proofs.flow.add_parts.Goals as goal

pub loop-part-preserved : goal.loop-part-preserved
loop-part-preserved c = items_written (part_line (unsigned_abs c.args.surface.now.den)) c.args.parts.now c.loop-part.part-index _ _ _ _ c.loop-part-test.true c.loop-part.invariant
    (c.in_ok-write.ensures.bytes
    ∙ (ap (λ (words : List ℕ). string_bytes c.loop-part.text ++ line_of words) c.in_ok-words.ensures
    ∙ ap (λ (part : Measured). string_bytes c.loop-part.text ++ part_line (unsigned_abs c.args.surface.now.den) part) c.part-item.is))
