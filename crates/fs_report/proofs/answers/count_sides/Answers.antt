use Rattle.std.proofs.Common.{◌+◌, arith}
use Rattle.fs_lists.proofs.Sums.{lengths-take_more, lengths-take}
use Rattle.fs_report.proofs.answers.count_sides.Goals as goal

pub overflow_add-sides : goal.overflow_add-sides
overflow_add-sides c =
    let polygons = c.args.surface.now.polygons in
    let i = c.loop-i.i in
    let more = lengths-take_more polygons i c.sides-sides.result (omega arith) c.sides-sides.ensures in
    let prefix = lengths-take polygons (i + 1) in
    let few = c.polygons-i-end.ensures.surface.sides in
    let so_far = c.loop-i.invariant in
    omega arith

pub loop-i-preserved : goal.loop-i-preserved
loop-i-preserved c =
    let polygons = c.args.surface.now.polygons in
    let more = lengths-take_more polygons c.loop-i.i c.sides-sides.result (omega arith) c.sides-sides.ensures in
    let so_far = c.loop-i.invariant in
    omega arith
