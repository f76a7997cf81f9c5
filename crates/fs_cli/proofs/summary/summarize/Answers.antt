-- The surface is built, its line is written, and then the first line of each answer.
use Rattle.std.proofs.Common.{Ok, Err, ◌∙◌}
use Rattle.fs_cli.proofs.Summaries.{StaircaseLaw, writes_no_fault, writes_summary, writes_title, built_shape, writes_equal_commands}
use Rattle.fs_cli.proofs.summary.summarize.Goals as goal

pub returns-in-Err : goal.returns-in-Err
returns-in-Err g c =
    let law : StaircaseLaw = record { passes = c.staircase_builds.ensures.passes } in
    let made = c.args.made in
    let judged = built_shape made.rectangles made.seed c.in-Ok.job c.in-Polygons.shape (Err c.in-Err.stop) c.in-Ok.ensures.means c.in-Polygons.is c.in-Err.ensures.outcome in
    writes_no_fault law c.args.budget made c.requires.some c.requires.few _ _ _ _ _ c.in-Err.stop judged c.write_stop.ensures

pub returns-in-Done : goal.returns-in-Done
returns-in-Done g c =
    let law : StaircaseLaw = record { passes = c.staircase_builds.ensures.passes } in
    let made = c.args.made in
    let judged = built_shape made.rectangles made.seed c.in-Ok.job c.in-Polygons.shape (Ok c.in-Ok-build.surface) c.in-Ok.ensures.means c.in-Polygons.is c.in-Ok-build.ensures.outcome in
    writes_summary law c.args.budget made c.requires.some c.requires.few c.in-Ok-build.surface judged c.write_title.result _ _ _ _ _ _ _ c.in-Done.is c.write_title.ensures
    (writes_equal_commands _ _ _ _ _ c.in-Ok-build.surface c.args.budget (c.as_slice.ensures ∙ c.in-Ok.ensures.means.commands) c.answer_all.ensures)

pub returns : goal.returns
returns g c =
    let law : StaircaseLaw = record { passes = c.staircase_builds.ensures.passes } in
    let made = c.args.made in
    let judged = built_shape made.rectangles made.seed c.in-Ok.job c.in-Polygons.shape (Ok c.in-Ok-build.surface) c.in-Ok.ensures.means c.in-Polygons.is c.in-Ok-build.ensures.outcome in
    writes_title law c.args.budget made c.requires.some c.requires.few c.in-Ok-build.surface judged c.write_title.result _ _ _ _ c.in_default-write_title.not-Done c.write_title.ensures
