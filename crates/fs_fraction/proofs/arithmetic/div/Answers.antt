use Rattle.fs_lists.proofs.Results.{ok_value}
use Rattle.fs_quadratic.proofs.SquareRoot.{radicand_no_square}
use Rattle.fs_fraction.proofs.ExactResults.{quotient_exact}
use Rattle.fs_fraction.proofs.arithmetic.div.Goals as goal

pub returns-clause-value : goal.returns-clause-value
returns-clause-value c =
    ok_value _ _ _ c.checked_quotient.result c.checked_quotient.ensures (quotient_exact (radicand_no_square c.args.field.radicand) c.args.x c.args.y c.requires)
