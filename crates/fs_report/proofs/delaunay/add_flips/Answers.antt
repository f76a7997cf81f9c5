use Rattle.fs_report.specs.DelaunayText.{flip_line}
use Rattle.fs_report.proofs.DelaunayTexts.{items_written}
use Rattle.fs_report.proofs.delaunay.add_flips.Goals as goal

pub loop-edge-preserved : goal.loop-edge-preserved
loop-edge-preserved c = items_written flip_line c.args.edges.now c.loop-edge.edge-index _ _ _ _ c.loop-edge-test.true c.loop-edge.invariant c.in_ok-add_flip.ensures
