-- The positions are found side by side, up to the first that overflows; then the polygon closes or not.
use Rattle.std.proofs.Common.{inr, arith}
use Rattle.fs_lists.proofs.Items.{IsItem}
use Rattle.fs_plane.specs.Vector.{vector_zero}
use Rattle.fs_gluing.proofs.Base.Equality.{differ_from_ne, same_from_ne}
use Rattle.fs_gluing.proofs.Polygon.Boundary.{positions_none, positions_more, x_fails, y_fails, closes, closes_fails, positions_complete}
use Rattle.fs_gluing.proofs.polygons.find_positions.Goals as goal

pub loop-j-init : goal.loop-j-init
loop-j-init c = positions_none c.args.sides.now c.new-positions.result c.new-positions.ensures

pub returns-in_default-clause-failed : goal.returns-in_default-clause-failed
returns-in_default-clause-failed c =
    let item : IsItem c.args.sides.now c.loop-j.j c.index-sides-j.result = record { inside = c.loop-j-test.true; is = c.index-sides-j.is } in
    inr (x_fails c.args.i c.args.sides.now c.loop-j.j c.loop-j.position c.index-sides-j.result c.loop-j.positions item c.loop-j.invariant _ _ c.position.view_is c.vector.view_is c.in_default.ensures.sum
    c.new-corner.result c.new-corner.ensures c.closing.result c.closing.ensures)

pub returns-in_default-add-clause-failed : goal.returns-in_default-add-clause-failed
returns-in_default-add-clause-failed c =
    let item : IsItem c.args.sides.now c.loop-j.j c.index-sides-j.result = record { inside = c.loop-j-test.true; is = c.index-sides-j.is } in
    inr (y_fails c.args.i c.args.sides.now c.loop-j.j c.loop-j.position c.index-sides-j.result c.loop-j.positions item c.loop-j.invariant _ _ c.position.view_is c.vector.view_is c.in-Ok.ensures.sum.0 c.in_default-add.ensures.sum
    c.new-corner.result c.new-corner.ensures c.closing-in_default-add.result c.closing-in_default-add.ensures)

pub loop-j-preserved : goal.loop-j-preserved
loop-j-preserved c =
    let item : IsItem c.args.sides.now c.loop-j.j c.index-sides-j.result = record { inside = c.loop-j-test.true; is = c.index-sides-j.is } in
    positions_more c.args.sides.now c.loop-j.j c.loop-j.position c.index-sides-j.result c.loop-j.positions c.push.new.self item c.loop-j.invariant c.in_ok-push.ensures.ok _ _ c.position.view_is c.vector.view_is
    c.in-Ok.x c.in-Ok-add.y c.in-Ok.ensures.sum.0 c.in-Ok.ensures.sum.1 c.in-Ok-add.ensures.sum.0 c.in-Ok-add.ensures.sum.1

pub returns-then-ne-clause-failed : goal.returns-then-ne-clause-failed
returns-then-ne-clause-failed c =
    inr (closes_fails c.args.i c.args.sides.now c.loop-j.j c.loop-j.position c.loop-j.positions (omega arith) c.loop-j.invariant (differ_from_ne c.loop-j.position vector_zero c.ne.result c.ne.ensures c.if-ne.true))

pub returns-clause-passed : goal.returns-clause-passed
returns-clause-passed c =
    closes c.args.sides.now c.loop-j.j c.loop-j.position c.loop-j.positions (omega arith) c.loop-j.invariant (same_from_ne c.loop-j.position vector_zero c.ne.result c.ne.ensures c.if-ne.false)

pub returns-clause-positions : goal.returns-clause-positions
returns-clause-positions c = positions_complete c.args.sides.now c.loop-j.j c.loop-j.position c.loop-j.positions (omega arith) c.loop-j.invariant
