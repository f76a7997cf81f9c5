-- Copy after copy is made.
use Rattle.std.proofs.Common.{◌≡◌, ◌+◌, refl, sym, subst, take}
use Rattle.std.specs.Result.{IfErr}
use Rattle.fs_lists.proofs.All.{All-slice_get}
use Rattle.fs_lists.proofs.Results.{at_exit}
use Rattle.fs_unfold.specs.declared.products.TableCopy.{TableCopy}
use Rattle.fs_unfold.specs.Copies.{is_turned}
use Rattle.fs_unfold.specs.InPlace.{OrNoMemory, rows_of, StopsAtCopy}
use Rattle.fs_unfold.proofs.ProductsInTurn.{item_some}
use Rattle.fs_unfold.proofs.SidesInTurn.{HaveCopies, copies_next, copy_stops_or_no_memory}
use Rattle.fs_unfold.proofs.copies.find_copies.Goals as goal

pub returns-in_err-find_copy-clause-stops : goal.returns-in_err-find_copy-clause-stops
returns-in_err-find_copy-clause-stops c =
    at_exit (λ r. IfErr r (OrNoMemory (StopsAtCopy c.args.field.d c.args.table.now (rows_of c.args.products.now)))) c.from_residual.result c.in_err-find_copy.field-0.0 c.from_residual.ensures.1
    (copy_stops_or_no_memory c.args.field.d c.args.table.now c.args.products.now c.loop-k.k c.index-products-k.result (record { inside = c.loop-k-test.true; is = c.index-products-k.is }) c.loop-k.copies c.loop-k.invariant
    c.loop-k.k c.in_err-find_copy.field-0.0 refl c.in_err-find_copy.ensures.stops)

pub loop-k-preserved : goal.loop-k-preserved
loop-k-preserved c =
    subst (HaveCopies c.args.field.d c.args.table.now (take (c.loop-k.k + 1) c.args.products.now)) (sym c.in_ok-push.ensures.ok)
    (copies_next c.args.field.d c.args.table.now c.args.products.now c.loop-k.k c.index-products-k.result (record { inside = c.loop-k-test.true; is = c.index-products-k.is }) c.loop-k.copies c.loop-k.invariant
    c.in_ok-find_copy.field-0
    (All-slice_get (λ (x : TableCopy). x.turned ≡ is_turned c.args.field.d x.rows) c.args.products.now c.loop-k.k c.index-products-k.result c.requires.turned
    (item_some c.args.products.now c.loop-k.k c.index-products-k.result (record { inside = c.loop-k-test.true; is = c.index-products-k.is })))
    c.in_ok-find_copy.ensures.images c.in_ok-find_copy.ensures.copy)
