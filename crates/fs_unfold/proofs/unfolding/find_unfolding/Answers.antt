-- Each step ends the unfolding, or the next one follows.
use Rattle.std.proofs.Common.{◌≡◌, ◌≤◌, false, length, map, refl, sym, subst}
use Rattle.std.specs.List.{AllByRecursion}
use Rattle.fs_lists.proofs.Results.{at_exit}
use Rattle.fs_unfold.specs.declared.products.TableCopy.{TableCopy}
use Rattle.fs_unfold.specs.Copies.{is_turned, copy}
use Rattle.fs_unfold.specs.InPlace.{OrNoMemory, rows_of, StopsAtCopy}
use Rattle.fs_unfold.specs.Unfolding.{AreMirrors, HaveImages, EndsUnfolding, ReturnsUnfolding}
use Rattle.fs_unfold.proofs.ProductsInTurn.{under_way_few}
use Rattle.fs_unfold.proofs.UnfoldingEnds.{ends_at_table, ends_at_mirror, ends_at_product, are_whole, ends_at_copy, ends_with_shape}
use Rattle.fs_unfold.proofs.unfolding.find_unfolding.Goals as goal

pub returns-in_err-check_table-clause-ends : goal.returns-in_err-check_table-clause-ends
returns-in_err-check_table-clause-ends c =
    at_exit (ReturnsUnfolding (EndsUnfolding c.args.field.d c.args.table.now)) c.from_residual.result c.in_err-check_table.field-0.0 c.from_residual.ensures.1
    (ends_at_table c.args.field.d c.args.table.now c.in_err-check_table.field-0.0 c.in_err-check_table.ensures.fails)

pub returns-in_err-mirrors-clause-ends : goal.returns-in_err-mirrors-clause-ends
returns-in_err-mirrors-clause-ends c =
    at_exit (ReturnsUnfolding (EndsUnfolding c.args.field.d c.args.table.now)) c.from_residual-in_err-mirrors.result c.in_err-mirrors.field-0.0 c.from_residual-in_err-mirrors.ensures.1
    (ends_at_mirror c.args.field.d c.args.table.now c.in_ok-check_table.ensures.passes c.in_err-mirrors.field-0.0 c.in_err-mirrors.ensures.stops)

pub returns-in_err-products-clause-ends : goal.returns-in_err-products-clause-ends
returns-in_err-products-clause-ends c =
    at_exit (ReturnsUnfolding (EndsUnfolding c.args.field.d c.args.table.now)) c.from_residual-in_err-products.result c.in_err-products.field-0.0 c.from_residual-in_err-products.ensures.1
    (ends_at_product c.args.field.d c.args.table.now c.in_ok-check_table.ensures.passes c.deref.result.now (subst (AreMirrors c.args.field.d c.args.table.now) (sym c.deref.ensures.value) c.in_ok-mirrors.ensures.mirrors) c.in_err-products.field-0.0 c.in_err-products.ensures.stops)

pub find_copies-requires-clause-few : goal.find_copies-requires-clause-few
find_copies-requires-clause-few c =
    subst (λ list. length list ≤ 24) (sym c.as_slice.ensures)
    (under_way_few c.args.field.d c.deref.result.now (length c.in_ok-products.products.list) 0 c.in_ok-products.products.list c.in_ok-products.products.neighbours c.in_ok-products.ensures.products)

pub find_copies-requires-clause-turned : goal.find_copies-requires-clause-turned
find_copies-requires-clause-turned c = subst (AllByRecursion (λ (x : TableCopy). x.turned ≡ is_turned c.args.field.d x.rows)) (sym c.as_slice.ensures) c.in_ok-products.ensures.products.turned

pub returns-in_err-polygons-clause-ends : goal.returns-in_err-polygons-clause-ends
returns-in_err-polygons-clause-ends c =
    at_exit (ReturnsUnfolding (EndsUnfolding c.args.field.d c.args.table.now)) c.from_residual-in_err-polygons.result c.in_err-polygons.field-0.0 c.from_residual-in_err-polygons.ensures.1
    (ends_at_copy c.args.field.d c.args.table.now c.in_ok-check_table.ensures.passes c.deref.result.now (subst (AreMirrors c.args.field.d c.args.table.now) (sym c.deref.ensures.value) c.in_ok-mirrors.ensures.mirrors) c.in_ok-products.products.list c.in_ok-products.products.neighbours c.in_ok-products.ensures.products
    c.in_err-polygons.field-0.0 (subst (λ list. OrNoMemory (StopsAtCopy c.args.field.d c.args.table.now (rows_of list)) c.in_err-polygons.field-0.0) c.as_slice.ensures c.in_err-polygons.ensures.stops))

pub glue_copies-requires-clause-whole : goal.glue_copies-requires-clause-whole
glue_copies-requires-clause-whole c =
    are_whole c.args.field.d c.args.table.now c.in_ok-check_table.ensures.passes c.deref.result.now (subst (AreMirrors c.args.field.d c.args.table.now) (sym c.deref.ensures.value) c.in_ok-mirrors.ensures.mirrors) c.in_ok-products.products.list c.in_ok-products.products.neighbours c.in_ok-products.ensures.products

pub returns-clause-ends : goal.returns-clause-ends
returns-clause-ends c =
    ends_with_shape c.args.field.d c.args.table.now c.in_ok-check_table.ensures.passes c.deref.result.now (subst (AreMirrors c.args.field.d c.args.table.now) (sym c.deref.ensures.value) c.in_ok-mirrors.ensures.mirrors) c.in_ok-products.products.list c.in_ok-products.products.neighbours c.in_ok-products.ensures.products
    (record { polygons = c.in_ok-polygons.polygons; glues = c.in_ok-glues.glues; straight = false })
    (subst (λ list. c.in_ok-polygons.polygons ≡ map (copy c.args.field.d c.args.table.now) (rows_of list)) c.as_slice.ensures c.in_ok-polygons.ensures.copies)
    (subst (λ list. AllByRecursion (HaveImages c.args.field.d c.args.table.now) (rows_of list)) c.as_slice.ensures c.in_ok-polygons.ensures.images) c.in_ok-glues.ensures refl
