-- The part without √d is scaled, then the part of √d; the first that overflows gives the site.
use Rattle.std.proofs.Common.{ap, ◌∙◌}
use Rattle.fs_quadratic.specs.Ring.{Quadratic}
use Rattle.fs_gluing.proofs.Scale.ScalingInTurn.{factor_passed, part_passed, p_fails, q_fails, part_is_within}
use Rattle.fs_gluing.proofs.scaling.scale_parts.Goals as goal

pub returns-in_default-clause-failed : goal.returns-in_default-clause-failed
returns-in_default-clause-failed c =
    let factor = factor_passed c.args.den c.args.x.den c.factor-factor.result c.requires.within c.factor-factor.ensures in
    let p = part_passed c.p.result c.num.result.p c.p.ensures.within c.p.ensures.value ∙ ap (λ (x : Quadratic). x.p) c.num.ensures in
    p_fails c.args.corner.polygon c.args.corner.side c.args.place _ _ _ _ _ _ c.overflow.ensures factor p c.in_default.ensures

pub returns-in_default-checked_product-clause-failed : goal.returns-in_default-checked_product-clause-failed
returns-in_default-checked_product-clause-failed c =
    let factor = factor_passed c.args.den c.args.x.den c.factor-factor.result c.requires.within c.factor-factor.ensures in
    let p = part_passed c.p.result c.num.result.p c.p.ensures.within c.p.ensures.value ∙ ap (λ (x : Quadratic). x.p) c.num.ensures in
    let q = part_passed c.q.result c.num-2.result.q c.q.ensures.within c.q.ensures.value ∙ ap (λ (x : Quadratic). x.q) c.num-2.ensures in
    q_fails c.args.corner.polygon c.args.corner.side c.args.place _ _ _ _ _ _ c.overflow-in_default-checked_product.ensures
    (part_is_within _ _ _ _ factor p c.in-Some.ensures.0) factor q c.in_default-checked_product.ensures
