use Rattle.fs_lists.proofs.Results.{ok_value}
use Rattle.fs_quadratic.proofs.SquareRoot.{radicand_no_square}
use Rattle.fs_fraction.proofs.ExactResults.{inverse_exact}
use Rattle.fs_fraction.proofs.arithmetic.inv.Goals as goal

pub returns-clause-value : goal.returns-clause-value
returns-clause-value c =
    ok_value _ _ _ c.checked_inverse.result c.checked_inverse.ensures (inverse_exact (radicand_no_square c.args.field.radicand) c.args.x c.requires)
