-- The triangles are added one after another.
use Rattle.std.proofs.Common.{◌-◌, arith}
use Rattle.fs_lists.proofs.Items.{IsItem}
use Rattle.fs_gluing.proofs.SurfaceCalls.AreaSums.{added_more, added_all}
use Rattle.fs_gluing.proofs.areas.add_triangles.Goals as goal

pub loop-j-preserved : goal.loop-j-preserved
loop-j-preserved c =
    let first : IsItem c.args.positions.now (c.loop-j.j - 1) c.index-positions-j.result = record { inside = omega arith; is = c.index-positions-j.is } in
    let second : IsItem c.args.positions.now c.loop-j.j c.index-positions-j-in-loop-j.result = record { inside = c.loop-j-test.true; is = c.index-positions-j-in-loop-j.is } in
    added_more c.args.field.d c.args.sum c.args.i c.args.positions.now c.loop-j.j c.loop-j.total c.in_ok-total.total _ _ c.new-corner.result c.new-corner.ensures c.loop-j.auto.j first second c.in_ok-total.ensures c.loop-j.invariant

pub returns : goal.returns
returns c = added_all c.args.field.d c.args.sum c.args.i c.args.positions.now c.loop-j.j c.loop-j.total c.loop-j-test.false c.loop-j.invariant
