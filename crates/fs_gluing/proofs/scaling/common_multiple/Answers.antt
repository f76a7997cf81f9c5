-- Equal numbers are their own common multiple.
use Rattle.std.proofs.Common.{◌∙◌}
use Rattle.fs_gluing.proofs.Scale.EqualDenominators.{multiple_of_same}
use Rattle.fs_gluing.proofs.scaling.common_multiple.Goals as goal

pub returns-then-m-n-clause-value : goal.returns-then-m-n-clause-value
returns-then-m-n-clause-value c =
    multiple_of_same c.args.m c.args.x.den (c.if-m-n.true ∙ c.denominator-n.ensures.value) c.requires c.denominator-n.ensures.lowest.within
