-- The polygons are listed one after another.
use Rattle.std.proofs.Common.{arith}
use Rattle.fs_iet.proofs.SidesListed.{polygons_more, polygons_all}
use Rattle.fs_iet.proofs.widths.list_sides.Goals as goal

pub loop-i-preserved : goal.loop-i-preserved
loop-i-preserved c = polygons_more c.args.surface.now.polygons c.loop-i.i c.loop-i.sides _ (omega arith) c.loop-i.invariant c.in_ok-push_sides.ensures

pub returns : goal.returns
returns c = polygons_all c.args.surface.now.polygons c.loop-i.i _ (omega arith) c.loop-i.invariant
