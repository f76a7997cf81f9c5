-- The vertices that were found have the genus that is counted.
use Rattle.std.proofs.Common.{sym, subst, arith}
use Rattle.fs_stratum.specs.VertexList.{AreVertices}
use Rattle.fs_report.proofs.StratumText.{all_spelled}
use Rattle.fs_report.proofs.stratum.whole_text.Goals as goal

pub genus-requires : goal.genus-requires
genus-requires c =
    let found = c.in_ok-cones.ensures in
    let few = found.surface.sides in
    (c.args.surface.now, found.surface.surface, omega arith, subst (AreVertices c.args.surface.now) (sym c.as_slice-cones.ensures) found.cones)

pub returns : goal.returns
returns c =
    let found = c.in_ok-cones.ensures in
    let are = subst (AreVertices c.args.surface.now) (sym c.as_slice-cones.ensures) found.cones in
    all_spelled c.args.surface.now c.args.area c.as_slice-cones.result.now c.in_ok-orders.orders c.as_slice.result.now c.genus.result _ _ are (c.genus.ensures c.args.surface.now found.surface.surface are)
    c.in_ok-orders.ensures c.as_slice.ensures c.in_ok-text.ensures c.in_ok-add_vertices.ensures
