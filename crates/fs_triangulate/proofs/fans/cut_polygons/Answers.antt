-- The fan of one polygon more is added.
use Rattle.std.proofs.Common.{arith}
use Rattle.fs_triangulate.proofs.Added.{fans_more}
use Rattle.fs_triangulate.proofs.fans.cut_polygons.Goals as goal

pub loop-i-preserved : goal.loop-i-preserved
loop-i-preserved c = fans_more c.args.surface.now c.loop-i.i c.loop-i.triangles c.add_fan.new.triangles (omega arith) c.loop-i.invariant c.in_ok-add_fan.ensures
