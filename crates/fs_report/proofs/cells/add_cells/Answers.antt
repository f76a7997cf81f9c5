use Rattle.std.proofs.Common.{ℕ, List, ◌++◌, ap, ◌∙◌, string_bytes}
use Rattle.fs_report.specs.DelaunayText.{cell_line}
use Rattle.fs_report.proofs.DelaunayTexts.{cells_written}
use Rattle.fs_report.proofs.cells.add_cells.Goals as goal

pub loop-c-preserved : goal.loop-c-preserved
loop-c-preserved c = cells_written c.args.cells.now c.loop-c.c _ _ _ _ c.loop-c-test.true c.loop-c.invariant
    (c.in_ok-add_cell.ensures ∙ ap (λ (faces : List ℕ). string_bytes c.loop-c.text ++ cell_line c.loop-c.c faces) (c.as_slice.ensures ∙ c.index-cells-c.is))
