-- No mark is set.
use Rattle.std.proofs.Common.{◌≡◌, ◌∙◌, ◌*◌, false, replicate, sym, ap, subst, length}
use Rattle.fs_stratum.specs.CornerMarks.{AreUnmarked}
use Rattle.fs_stratum.specs.MarkRows.{rows}
use Rattle.fs_stratum.proofs.MarkRows.{rows_unmarked}
use Rattle.fs_stratum.proofs.corner_marks.CornerMarks.new.Goals as goal

pub returns : goal.returns
returns c =
    let polygons = c.args.surface.now.polygons in
    let width = c.most_sides-width.result in
    let items : c.in_ok-marks.marks.items ≡ replicate (length polygons * width) false =
    c.in_ok-marks.ensures.items_if_clones_equal (λ b e. e) ∙ ap (λ n. replicate (n * width) false) c.polygons-polygons.ensures.polygons in
    subst (λ n. AreUnmarked polygons (rows n width c.in_ok-marks.marks.items)) (sym c.polygons-polygons.ensures.polygons)
    (subst (λ m. AreUnmarked polygons (rows (length polygons) width m)) (sym items) (rows_unmarked polygons width c.most_sides-width.ensures))
