-- An equal matrix is found, or one more isn't equal.
use Rattle.std.proofs.Common.{Some, sym, ap, ◌∙◌}
use Rattle.fs_unfold.proofs.EqualMatrices.{Decides-is_same_matrix}
use Rattle.fs_unfold.proofs.ProductsInTurn.{item_some, rows_at, not_among}
use Rattle.fs_unfold.proofs.products.find_rows.Goals as goal

pub returns-then-eq-clause-there : goal.returns-then-eq-clause-there
returns-then-eq-clause-there c =
    rows_at c.args.list.now c.loop-k.k c.index-list-k.result (item_some c.args.list.now c.loop-k.k c.index-list-k.result (record { inside = c.loop-k-test.true; is = c.index-list-k.is }))
    ∙ ap Some ((Decides-is_same_matrix c.index-list-k.result.rows c.args.rows.now).0 (sym c.if-eq.ensures))

pub loop-k-preserved : goal.loop-k-preserved
loop-k-preserved c =
    not_among c.args.rows.now c.args.list.now c.loop-k.k c.index-list-k.result (record { inside = c.loop-k-test.true; is = c.index-list-k.is })
    (λ same. let h = sym ((Decides-is_same_matrix c.index-list-k.result.rows c.args.rows.now).1 same) ∙ sym c.if-eq.ensures in cc) c.loop-k.invariant
