-- The identity is the first product.
use Rattle.std.proofs.Common.{false, ◌∷◌, [], ◌++◌, sym, ◌∙◌, subst}
use Rattle.fs_quadratic.proofs.SquareRoot.{radicand_no_square}
use Rattle.fs_unfold.specs.InPlace.{IsUnderWay}
use Rattle.fs_unfold.proofs.ProductsInTurn.{under_way_first}
use Rattle.fs_unfold.proofs.products.Products.first.Goals as goal

pub returns : goal.returns
returns c = λ rs.
    subst (IsUnderWay c.args.field.d rs 0 0 c.push.new.self) (sym c.new.ensures)
    (subst (λ list. IsUnderWay c.args.field.d rs 0 0 list []) (sym (c.in_ok-push.ensures.ok ∙ (λ i. c.new-list.ensures i ++ record { rows = c.identity.ensures i; turned = false } ∷ [])))
    (under_way_first c.args.field.d rs (radicand_no_square c.args.field.radicand)))
