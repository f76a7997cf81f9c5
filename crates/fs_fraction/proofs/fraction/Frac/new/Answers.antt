use Rattle.std.proofs.Common.{◌≡◌, ◌∙◌, sym, subst, rules}
use Rattle.std.specs.Prelude.{unsigned_abs}
use Rattle.fs_fraction.specs.Fraction.{Fraction, HasValue, reduced}
use Rattle.fs_fraction.proofs.Lowest.{reduced-value}
use Rattle.fs_fraction.proofs.Values.{reduced-unique}
use Rattle.fs_fraction.proofs.fraction.Frac.new.Goals as goal

pub returns-clause-value : goal.returns-clause-value
returns-clause-value c =
    let same : c.in_lowest_terms.result ≡ reduced c.args.num (unsigned_abs c.args.den) = search rules in
    subst (λ (x : Fraction). HasValue x c.args.num (unsigned_abs c.args.den)) (sym same) (reduced-value c.args.num (unsigned_abs c.args.den))

pub returns-clause-only : goal.returns-clause-only
returns-clause-only c =
    let same : c.in_lowest_terms.result ≡ reduced c.args.num (unsigned_abs c.args.den) = search rules in
    λ y lowest value. reduced-unique y c.args.num (unsigned_abs c.args.den) lowest (search rules) value ∙ sym same
