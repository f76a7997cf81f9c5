-- Product after product is multiplied.
use Rattle.std.proofs.Common.{arith}
use Rattle.fs_unfold.proofs.ProductsInTurn.{under_way_few, under_way_inside}
use Rattle.fs_unfold.proofs.products.find_products.Goals as goal

pub loop-g-smaller : goal.loop-g-smaller
loop-g-smaller c =
    let few = under_way_few c.args.field.d c.args.mirrors.now c.loop-g.g 0 c.loop-g.found.list c.loop-g.found.neighbours c.loop-g.invariant.0 in
    omega (arith, few)

pub loop-g-preserved : goal.loop-g-preserved
loop-g-preserved c = (
  c.in_ok-multiply.ensures.after,
  under_way_inside c.args.field.d c.args.mirrors.now c.requires _ 0 c.multiply.new.self.list c.multiply.new.self.neighbours c.in_ok-multiply.ensures.after,
)
