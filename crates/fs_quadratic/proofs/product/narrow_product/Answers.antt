use Rattle.fs_quadratic.proofs.Bits.{within_of_eq}
use Rattle.fs_quadratic.proofs.Narrow.{narrow_product_fits, of_bits-narrow_product}
use Rattle.fs_quadratic.proofs.product.narrow_product.Goals as goal

pub returns-clause-value : goal.returns-clause-value
returns-clause-value c = of_bits-narrow_product c.args.a c.args.b c.requires.a c.requires.b c.from.ensures c.from-2.ensures

pub returns-clause-within : goal.returns-clause-within
returns-clause-within c = within_of_eq
    (of_bits-narrow_product c.args.a c.args.b c.requires.a c.requires.b c.from.ensures c.from-2.ensures)
    (narrow_product_fits c.args.a c.args.b c.requires.a c.requires.b)
