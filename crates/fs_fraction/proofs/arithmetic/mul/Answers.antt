use Rattle.fs_lists.proofs.Results.{ok_value}
use Rattle.fs_fraction.proofs.Values.{product-value}
use Rattle.fs_fraction.proofs.arithmetic.mul.Goals as goal

pub returns-clause-value : goal.returns-clause-value
returns-clause-value c = ok_value _ _ _ c.checked_product.result c.checked_product.ensures (product-value c.args.field.d c.args.x c.args.y)
