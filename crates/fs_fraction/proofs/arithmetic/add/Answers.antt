use Rattle.fs_lists.proofs.Results.{ok_value}
use Rattle.fs_fraction.proofs.Values.{sum-value}
use Rattle.fs_fraction.proofs.arithmetic.add.Goals as goal

pub returns-clause-value : goal.returns-clause-value
returns-clause-value c = ok_value _ _ _ c.checked_sum.result c.checked_sum.ensures (sum-value c.args.x c.args.y)
