-- Reflection after reflection is made.
use Rattle.std.proofs.Common.{◌+◌, take, sym, subst}
use Rattle.fs_quadratic.proofs.SquareRoot.{radicand_no_square}
use Rattle.fs_gluing.specs.Scaling.{scaled_vector}
use Rattle.fs_unfold.specs.Unfolding.{AreMirrors}
use Rattle.fs_unfold.proofs.Frames.{squared_length_not_zero}
use Rattle.fs_unfold.proofs.ProductLists.{get_in}
use Rattle.fs_unfold.proofs.ProductsInTurn.{item_some}
use Rattle.fs_unfold.proofs.SidesInTurn.{mirrors_next, mirror_stops}
use Rattle.fs_unfold.proofs.TableTests.{den_of, table_side}
use Rattle.fs_unfold.proofs.products.find_mirrors.Goals as goal

pub find_mirror-requires : goal.find_mirror-requires
find_mirror-requires c =
    let item = item_some c.args.table.now c.loop-i.i c.index-table-i.result (record { inside = c.loop-i-test.true; is = c.index-table-i.is }) in
    let side = table_side c.args.field.d c.args.table.now c.requires c.index-table-i.result (get_in c.args.table.now c.loop-i.i c.index-table-i.result item) in
    squared_length_not_zero (radicand_no_square c.args.field.radicand) (den_of c.args.table.now) c.index-table-i.result (scaled_vector (den_of c.args.table.now) c.index-table-i.result) side

pub returns-in-Err-clause-stops : goal.returns-in-Err-clause-stops
returns-in-Err-clause-stops c =
    mirror_stops c.args.field.d c.args.table.now c.loop-i.i c.index-table-i.result (record { inside = c.loop-i-test.true; is = c.index-table-i.is }) c.loop-i.mirrors.items c.loop-i.invariant c.in-Err.field-0
    (sym c.in-Err.ensures)

pub loop-i-preserved : goal.loop-i-preserved
loop-i-preserved c =
    subst (AreMirrors c.args.field.d (take (c.loop-i.i + 1) c.args.table.now)) (sym c.in_ok-push_mirror-in-Ok.ensures)
    (mirrors_next c.args.field.d c.args.table.now c.loop-i.i c.index-table-i.result (record { inside = c.loop-i-test.true; is = c.index-table-i.is }) c.loop-i.mirrors.items c.loop-i.invariant _ (sym c.in-Ok.ensures))
