-- The rows of positions are added one after another.
use Rattle.std.proofs.Common.{◌≡◌, refl, map}
use Rattle.fs_lists.proofs.Results.{at_exit}
use Rattle.fs_lists.proofs.Items.{item_read}
use Rattle.fs_quadratic.specs.Ring.{zero}
use Rattle.fs_gluing.specs.Area.{all_triangles, sum_after}
use Rattle.fs_gluing.specs.Surface.{side_vectors}
use Rattle.fs_gluing.proofs.SurfaceCalls.AreaSums.{row_short, row_summed, row_stops, rows_summed}
use Rattle.fs_gluing.proofs.areas.sum_triangles.Goals as goal

pub add_triangles-requires : goal.add_triangles-requires
add_triangles-requires c =
    row_short c.args.positions.now c.loop-i.i c.as_slice.result.now c.requires.short
    (item_read _ _ _ _ _ refl c.loop-i-test.true c.index-positions-i.is c.as_slice.ensures)

pub returns-in_err-sum : goal.returns-in_err-sum
returns-in_err-sum c = λ polygons same.
    at_exit (λ r. r ≡ sum_after c.args.field.d zero (all_triangles 0 (map side_vectors polygons))) c.from_residual.result c.in_err-sum.field-0.0 c.from_residual.ensures.1
    (row_stops c.args.field.d polygons c.args.positions.now c.loop-i.i c.loop-i.sum c.in_err-sum.field-0.0 c.as_slice.result.now same
    (item_read _ _ _ _ _ refl c.loop-i-test.true c.index-positions-i.is c.as_slice.ensures) c.in_err-sum.ensures (c.loop-i.invariant polygons same))

pub loop-i-preserved : goal.loop-i-preserved
loop-i-preserved c = λ polygons same.
    row_summed c.args.field.d polygons c.args.positions.now c.loop-i.i c.loop-i.sum c.in_ok-sum.sum c.as_slice.result.now same
    (item_read _ _ _ _ _ refl c.loop-i-test.true c.index-positions-i.is c.as_slice.ensures) c.in_ok-sum.ensures (c.loop-i.invariant polygons same)

pub returns : goal.returns
returns c = λ polygons same. rows_summed c.args.field.d polygons c.args.positions.now c.loop-i.i c.loop-i.sum same c.loop-i-test.false (c.loop-i.invariant polygons same)
