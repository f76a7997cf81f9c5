use Rattle.std.proofs.Common.{◌≡◌, ◌-◌, ◌*◌, ◌/◌, ◌%◌, sym, ap, ◌∙◌, arith}
use Rattle.std.specs.Ordering.{nat_cmp}
use Rattle.fs_quadratic.specs.Ring.{sign}
use Rattle.fs_quadratic.specs.CompleteQuotient.{excess}
use Rattle.fs_quadratic.proofs.SquareRoot.{radicand_no_square}
use Rattle.fs_quadratic.proofs.CompleteQuotients.{next_a}
use Rattle.fs_quadratic.proofs.Excess.{sign-excess_zero}
use Rattle.fs_quadratic.proofs.RootOrder.{by_whole_parts, by_next}
use Rattle.fs_quadratic.proofs.complete_quotient.CompleteQuotient.+compare_fraction.Goals as goal

pub returns-then-b-eq0 : goal.returns-then-b-eq0
returns-then-b-eq0 t c =
    rw c.if-b-eq0.true (sym (sign-excess_zero (radicand_no_square c.args.self.field.radicand) c.args.self.m c.args.self.a c.args.n c.args.self.complete.positive c.requires))

pub returns-in-Equal : goal.returns-in-Equal
returns-in-Equal t c =
    let d = c.args.self.field.d in
    let a : c.next.result.a ≡ next_a c.args.self.complete = c.next.ensures.a ∙ ap (λ m. (d - m * m) / c.args.self.a) c.next.ensures.m in
    c.reverse.ensures
    ∙ by_next (radicand_no_square c.args.self.field.radicand) c.args.self.complete c.args.n c.args.b (omega arith) c.compare_fraction.result
    (sym c.in-Equal.is ∙ c.cmp.ensures ∙ ap (nat_cmp (c.args.n / c.args.b)) (c.from.ensures ∙ c.whole_part.ensures))
    (c.compare_fraction.ensures ∙ (λ i. sign (c.next.ensures.field i).d (excess (c.next.ensures.m i) (a i) c.args.b (c.args.n % c.args.b))))

pub returns-in_default : goal.returns-in_default
returns-in_default t c =
    by_whole_parts (radicand_no_square c.args.self.field.radicand) c.args.self.complete c.args.n c.args.b (omega arith) c.cmp.result
    (c.cmp.ensures ∙ ap (nat_cmp (c.args.n / c.args.b)) (c.from.ensures ∙ c.whole_part.ensures)) c.in_default.not-Equal
