use Rattle.std.proofs.Common.{◌≡◌, pos, refl, ap, ◌∙◌, sym, subst}
use Rattle.fs_quadratic.specs.Ring.{Quadratic}
use Rattle.fs_quadratic.proofs.Laws.{quadratic_eq}
use Rattle.fs_fraction.specs.Fraction.{IsLowest}
use Rattle.fs_fraction.specs.Number.{signed}
use Rattle.fs_fraction.proofs.Inverses.{through_bits}
use Rattle.fs_fraction.proofs.LowestRatios.{root-lowest}
use Rattle.fs_fraction.proofs.value.root.Goals as goal

pub lowest-requires : goal.lowest-requires
lowest-requires c =
    let num : c.new.result ≡ record { p = pos 0; q = signed c.args.minus c.args.a.over } =
    c.new.ensures ∙ quadratic_eq refl (through_bits c.signed-q.result c.signed-q.ensures.within ∙ (c.signed-q.ensures.value ∙ ap (signed c.args.minus) c.from.ensures)) in
    rw c.from-2.ensures (subst (λ (x : Quadratic). IsLowest x c.args.a.under) (sym num) (root-lowest c.args.minus c.args.a.over c.args.a.under c.args.a.lowest))
