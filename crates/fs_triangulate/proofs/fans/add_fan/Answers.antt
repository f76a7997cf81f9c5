-- A fan of n sides has n - 2 faces, which are added one after another.
use Rattle.std.proofs.Common.{arith}
use Rattle.fs_gluing.specs.NextCorner.{side_count}
use Rattle.fs_triangulate.proofs.Added.{fan_more, fan_all}
use Rattle.fs_triangulate.proofs.FaceBases.{count_of}
use Rattle.fs_triangulate.proofs.fans.add_fan.Goals as goal

pub loop-t-preserved : goal.loop-t-preserved
loop-t-preserved c = fan_more c.args.surface.now c.args.i c.loop-t.t c.args.triangles.now c.loop-t.triangles c.add_face.new.triangles c.loop-t.invariant c.in_ok-add_face.ensures

pub returns : goal.returns
returns c =
    let count = count_of c.args.surface.now.polygons c.args.i c.sides-t-end.result c.requires.polygon c.sides-t-end.ensures in
    fan_all c.args.surface.now c.args.i c.loop-t.t (side_count c.args.surface.now.polygons c.args.i) c.args.triangles.now c.loop-t.triangles (omega arith) c.loop-t.invariant
