use Rattle.std.proofs.Common.{◌≡◌, sym, subst, rules, ◌<◌, ℕ}
use Rattle.fs_fraction.specs.Divisor.{content}
use Rattle.fs_fraction.proofs.Lowest.{content_positive, content_within}
use Rattle.fs_fraction.proofs.fraction.content.Goals as goal

pub returns : goal.returns
returns c =
    let same : c.greatest_divisor.result ≡ content c.args.x = search rules in
    record {
      value = same;
      positive = λ other. subst (λ (n : ℕ). 0 < n) (sym same) (content_positive c.args.x other);
      within = λ other. subst (λ (n : ℕ). n < 170141183460469231731687303715884105728) (sym same) (content_within c.args.x (search rules) other);
    }
