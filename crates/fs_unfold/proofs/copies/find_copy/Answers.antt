-- Side after side is made, and they are in the opposite order where the product turns the orientation.
use Rattle.std.proofs.Common.{◌≡◌, ◌+◌, if◌then◌else◌, take, sym, ap, ◌∙◌, subst}
use Rattle.fs_unfold.specs.Copies.{opposite}
use Rattle.fs_unfold.proofs.SidesInTurn.{HaveSides, sides_next, side_stops}
use Rattle.fs_unfold.proofs.copies.find_copy.Goals.{then-product, else-product}
use Rattle.fs_unfold.proofs.copies.find_copy.Goals as goal

pub returns-in-Err-clause-stops : goal.returns-in-Err-clause-stops
returns-in-Err-clause-stops c =
    side_stops c.args.field.d c.args.table.now c.args.k c.args.product.now.rows c.loop-i.i c.index-table-i.result (record { inside = c.loop-i-test.true; is = c.index-table-i.is }) c.in-Err.field-0 c.loop-i.invariant.images
    (sym c.in-Err.ensures)

pub loop-i-preserved : goal.loop-i-preserved
loop-i-preserved c =
    let pushed : c.if-product.push ≡ (if c.args.product.now.turned then opposite c.in-Ok.image else c.in-Ok.image) = elim c.if-product.branch [
      | then-product w ↦ w.push-is ∙ w.opposite.ensures ∙ ap (λ t. if t then opposite c.in-Ok.image else c.in-Ok.image) (sym w.if-product.true)
      | else-product w ↦ w.push-is ∙ ap (λ t. if t then opposite c.in-Ok.image else c.in-Ok.image) (sym w.if-product.false)
    ] in
    subst (HaveSides c.args.field.d c.args.product.now.turned c.args.product.now.rows (take (c.loop-i.i + 1) c.args.table.now)) (sym c.in_ok-push-in-Ok.ensures.ok)
    (sides_next c.args.field.d c.args.table.now c.args.k c.args.product.now.rows c.loop-i.i c.index-table-i.result (record { inside = c.loop-i-test.true; is = c.index-table-i.is }) c.args.product.now.turned c.loop-i.sides
    c.in-Ok.image c.if-product.push c.loop-i.invariant (sym c.in-Ok.ensures) pushed)
