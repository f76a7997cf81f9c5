-- By the remainder.
use Rattle.std.proofs.Common.{ℕ, ◌%◌, ◌==◌, ◌↔◌, IsTrue, sym, subst}
use Rattle.std.specs.Int.{◌∣◌}
use Rattle.fs_develop.proofs.ScaledVectors.{divides_by_rest}
use Rattle.fs_develop.proofs.grid.divides.Goals as goal

pub returns : goal.returns
returns c = subst (λ (m : ℕ). IsTrue (c.args.n % m == 0) ↔ (c.args.x.den ∣ c.args.n)) (sym c.denominator.ensures.value) (divides_by_rest c.args.x.den c.args.n)
