use Rattle.std.proofs.Common.{subst}
use Rattle.std.specs.Result.{OkIff}
use Rattle.fs_lists.proofs.Results.{ok_value}
use Rattle.fs_fraction.specs.Fraction.{Fraction}
use Rattle.fs_fraction.specs.Arithmetic.{sum, SumFits}
use Rattle.fs_fraction.proofs.ExactResults.{difference_exact}
use Rattle.fs_fraction.proofs.arithmetic.sub.Goals as goal

pub returns : goal.returns
returns c =
    let x = c.args.x in
    let difference = subst (λ (y : Fraction). OkIff c.add.result (SumFits x y) (sum x y)) c.neg.ensures c.add.ensures.sum in
    record { difference = difference; value = ok_value _ _ _ c.add.result difference (difference_exact x c.args.y) }
