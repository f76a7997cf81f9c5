-- The test of std for powers of two.
use Rattle.std.proofs.Common.{◌≡◌, ◌+◌, ◌^◌, ◌↔◌, ℕ, IsTrue, sym, subst}
use Rattle.fs_rauzy.proofs.PowersOfTwo.{power_of_two}
use Rattle.fs_rauzy.proofs.checkpoints.is_saved.Goals as goal

pub returns : goal.returns
returns c = subst (λ b. IsTrue b ↔ ((j : ℕ) × (c.args.number + 1 ≡ 2 ^ j))) (sym c.is_power_of_two.ensures) (power_of_two (c.args.number + 1))
