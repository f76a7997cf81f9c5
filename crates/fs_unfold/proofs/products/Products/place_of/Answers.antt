-- The matrix is in the list, or it is put at the end.
use Rattle.std.proofs.Common.{refl, sym, ◌∙◌, subst, arith}
use Rattle.std.specs.List.{slice_get}
use Rattle.fs_lists.specs.Members.{IsIn}
use Rattle.fs_unfold.specs.InPlace.{rows_of, IsPlaced, was_there, is_new}
use Rattle.fs_unfold.proofs.ProductLists.{get_in}
use Rattle.fs_unfold.proofs.ProductsInTurn.{placed_at_end}
use Rattle.fs_unfold.proofs.products.Products.place_of.Goals as goal

pub returns-in-Some-clause-list : goal.returns-in-Some-clause-list
returns-in-Some-clause-list c = was_there (subst (λ xs. IsIn c.args.rows (rows_of xs)) c.as_slice.ensures (get_in (rows_of c.as_slice.result.now) c.in-Some.place c.args.rows c.in-Some.ensures.there))

pub returns-clause-there : goal.returns-clause-there
returns-clause-there c =
    (λ i. slice_get (rows_of (c.in_ok-push.ensures.ok i)) (c.len-place.ensures i)) ∙ placed_at_end c.args.self.now.list (record { rows = c.args.rows; turned = c.args.turned })

pub returns-clause-list : goal.returns-clause-list
returns-clause-list c =
    subst (IsPlaced c.args.rows c.args.turned c.args.self.now.list) (sym c.in_ok-push.ensures.ok)
    (is_new (subst (λ xs. ¬ IsIn c.args.rows (rows_of xs)) c.as_slice.ensures (c.in_default.ensures.none refl))
    (let most = c.requires in let other = c.if-len-eq-MOST_PRODUCTS.false in let same = c.len.ensures in omega (arith, most, other, same)))
