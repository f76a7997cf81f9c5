-- Where the denominator is the common one, the coordinate stays.
use Rattle.std.proofs.Common.{◌∙◌}
use Rattle.fs_gluing.proofs.Scale.EqualDenominators.{scaled_once}
use Rattle.fs_gluing.proofs.scaling.scale_coordinate.Goals as goal

pub returns-then-den-denominator-clause-scaled : goal.returns-then-den-denominator-clause-scaled
returns-then-den-denominator-clause-scaled c =
    c.num.ensures ∙ scaled_once c.args.den c.args.x.den c.args.x.num (c.if-den-denominator.true ∙ c.denominator.ensures.value) c.denominator.ensures.lowest.positive
