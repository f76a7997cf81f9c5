use Rattle.std.proofs.Common.{◌≡◌, pos, refl, ap, ◌∙◌, sym, subst}
use Rattle.fs_quadratic.specs.Ring.{Quadratic}
use Rattle.fs_quadratic.proofs.Laws.{quadratic_eq}
use Rattle.fs_fraction.specs.Fraction.{IsLowest}
use Rattle.fs_fraction.specs.Number.{signed}
use Rattle.fs_fraction.proofs.Inverses.{through_bits}
use Rattle.fs_fraction.proofs.LowestRatios.{rational-lowest}
use Rattle.fs_fraction.proofs.value.rational.Goals as goal

pub lowest-requires : goal.lowest-requires
lowest-requires c =
    let num : c.new.result ≡ record { p = signed c.args.minus c.args.a.over; q = pos 0 } =
    c.new.ensures ∙ quadratic_eq (through_bits c.signed-p.result c.signed-p.ensures.within ∙ (c.signed-p.ensures.value ∙ ap (signed c.args.minus) c.from.ensures)) refl in
    rw c.from-2.ensures (subst (λ (x : Quadratic). IsLowest x c.args.a.under) (sym num) (rational-lowest c.args.minus c.args.a.over c.args.a.under c.args.a.lowest))
