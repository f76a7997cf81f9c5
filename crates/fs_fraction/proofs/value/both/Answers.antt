use Rattle.std.proofs.Common.{◌≡◌, ℕ, ◌*◌, ◌/◌, ◌*ℤ◌, pos, ap, ◌∙◌, sym, subst}
use Rattle.fs_quadratic.specs.Ring.{Quadratic}
use Rattle.fs_quadratic.proofs.Laws.{quadratic_eq}
use Rattle.fs_fraction.specs.Divisor.{gcd}
use Rattle.fs_fraction.specs.Fraction.{Fraction, IsLowest, HasValue}
use Rattle.fs_fraction.specs.Number.{signed}
use Rattle.fs_fraction.proofs.Divisors.{gcd_positive}
use Rattle.fs_fraction.proofs.Inverses.{through_bits}
use Rattle.fs_fraction.proofs.Values.{fraction_eq}
use Rattle.fs_fraction.proofs.LowestRatios.{both-lowest, both-value}
use Rattle.fs_fraction.proofs.value.both.Goals as goal
use Rattle.fs_fraction.proofs.value.both.Goals.{After-product-3}

pub nonzero_div-left : goal.nonzero_div-left
nonzero_div-left c = rw c.narrow_divisor-common.ensures (gcd_positive c.args.a.under c.args.b.under c.args.b.lowest.positive)

pub nonzero_div-right : goal.nonzero_div-right
nonzero_div-right c = rw c.narrow_divisor-common.ensures (gcd_positive c.args.a.under c.args.b.under c.args.b.lowest.positive)

-- the numerator and the denominator
num : (c : After-product-3) → let g = gcd c.args.a.under c.args.b.under in
    c.new.result ≡ record { p = signed c.args.minus (c.args.a.over * (c.args.b.under / g)); q = signed c.args.other (c.args.b.over * (c.args.a.under / g)) }
num c =
    let left = c.product.ensures.value ∙ ap (λ (g : ℕ). c.args.a.over * (c.args.b.under / g)) c.narrow_divisor-common.ensures in
    let right = c.product-2.ensures.value ∙ ap (λ (g : ℕ). c.args.b.over * (c.args.a.under / g)) c.narrow_divisor-common.ensures in
    c.new.ensures ∙ quadratic_eq
    (through_bits c.signed-p.result c.signed-p.ensures.within ∙ (c.signed-p.ensures.value ∙ ap (signed c.args.minus) left))
    (through_bits c.signed-q.result c.signed-q.ensures.within ∙ (c.signed-q.ensures.value ∙ ap (signed c.args.other) right))

den : (c : After-product-3) → c.product-3.result ≡ c.args.a.under * (c.args.b.under / gcd c.args.a.under c.args.b.under)
den c = c.product-3.ensures.value ∙ ap (λ (g : ℕ). c.args.a.under * (c.args.b.under / g)) c.narrow_divisor-common.ensures

pub lowest-requires : goal.lowest-requires
lowest-requires c =
    subst (λ (x : Quadratic). IsLowest x c.product-3.result) (sym (num c))
    (rw (den c) (both-lowest c.args.a.over c.args.a.under c.args.b.over c.args.b.under c.args.a.lowest c.args.b.lowest c.args.minus c.args.other))

pub returns-clause-value : goal.returns-clause-value
returns-clause-value c = λ k l m n e f.
    let at = (goal.at.returns-clause-value c).After-product-3 in
    subst (λ (x : Fraction). HasValue x (record { p = signed c.args.minus k *ℤ pos n; q = signed c.args.other m *ℤ pos l }) (l * n))
    (sym (c.lowest.ensures ∙ fraction_eq (num at) (den at)))
    (both-value c.args.minus c.args.other c.args.a.over c.args.a.under c.args.b.over c.args.b.under k l m n e f)
