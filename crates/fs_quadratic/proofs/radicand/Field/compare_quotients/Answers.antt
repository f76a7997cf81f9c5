use Rattle.std.proofs.Common.{ap, ◌∙◌}
use Rattle.fs_quadratic.specs.Ring.{sign}
use Rattle.fs_quadratic.specs.CompleteQuotient.{excess}
use Rattle.fs_quadratic.proofs.Excess.{excess-first}
use Rattle.fs_quadratic.proofs.radicand.Field.compare_quotients.Goals as goal

pub returns : goal.returns
returns c =
    c.compare_fraction.ensures
    ∙ (λ i. sign (c.first.ensures.field i).d (excess (c.first.ensures.m i) (c.first.ensures.a i) c.args.p c.args.q))
    ∙ ap (sign c.args.self.d) (excess-first c.args.p c.args.q)
