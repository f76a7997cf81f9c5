use Rattle.fs_report.proofs.ListTexts.{vertices_written}
use Rattle.fs_report.proofs.stratum.add_vertices.Goals as goal

pub loop-cone-preserved : goal.loop-cone-preserved
loop-cone-preserved c = vertices_written c.args.cones.now c.loop-cone.cone-index _ _ _ _ c.loop-cone-test.true c.loop-cone.invariant c.in_ok-add_vertex.ensures
