use Rattle.fs_report.proofs.ListTexts.{sides_written}
use Rattle.fs_report.proofs.segment.add_sides.Goals as goal

pub loop-side-preserved : goal.loop-side-preserved
loop-side-preserved c = sides_written c.args.sides.now c.loop-side.side-index _ _ _ _ c.loop-side-test.true c.loop-side.invariant c.in_ok-add_side.ensures
