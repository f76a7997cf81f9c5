-- Numbers with equal r parts compare as their rational parts do.
use Rattle.std.proofs.Common.{◌≡◌, ℕ}
use Rattle.std.specs.Ordering.{int_cmp}
use Rattle.std.specs.declared.cmp.Ordering.{Ordering}
use Rattle.std.specs.declared.cmp.Ordering.TheVariants.{Less, Equal, Greater}
use Rattle.fs_quadratic.specs.Ring.{Quadratic, compare}
use Rattle.fs_quadratic.proofs.Comparison.{compare-equal_p, compare-greater_p, compare-less_p}

pub by_rational_parts : (d : ℕ) (x y : Quadratic) (r : Ordering) → r ≡ int_cmp x.p y.p → Equal ≡ int_cmp x.q y.q → r ≡ compare d x y
by_rational_parts d x y Less e f = compare-less_p d x y Equal e f (λ g. cc)
by_rational_parts d x y Equal e f = compare-equal_p d x y Equal e f
by_rational_parts d x y Greater e f = compare-greater_p d x y Equal e f (λ g. cc)
