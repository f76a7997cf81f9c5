-- A comparison by squares.
use Rattle.std.proofs.Common.{◌≡◌, ℕ, zero, suc, ◌*◌, ◌<◌, pos, neg_ℤ, refl, sym, ap, arith}
use Rattle.std.proofs.lemmas.Int.{ints}
use Rattle.std.specs.Ordering.{MatchOrdering}
use Rattle.std.specs.declared.cmp.Ordering.{Ordering}
use Rattle.std.specs.declared.cmp.Ordering.TheVariants.{Less, Equal, Greater}
use Rattle.fs_quadratic.specs.Ring.{sign}
use Rattle.fs_quadratic.proofs.Signs.{sign_from, sign_without}

-- a positive p compares with q·√d as their squares do
pub sign-by_squares : (d p q : ℕ) (r : Ordering) → 0 < p → MatchOrdering r (p * p < d * (q * q)) (p * p ≡ d * (q * q)) (d * (q * q) < p * p) → r ≡ sign d (record { p = pos p; q = neg_ℤ (pos q) })
sign-by_squares d zero q r l h = absurd (omega (arith, l))
sign-by_squares d (suc p) zero Less l h = absurd (omega (arith, h))
sign-by_squares d (suc p) zero Equal l h = absurd (omega (arith, h))
sign-by_squares d (suc p) zero Greater l h = sym (sign_without d (record { p = pos (suc p); q = pos 0 }) Greater Equal (omega (arith, ints, l)) refl)
sign-by_squares d (suc p) (suc q) Less l h =
    sym (sign_from d (record { p = pos (suc p); q = neg_ℤ (pos (suc q)) }) Greater Less Less (omega (arith, ints, l)) (omega (arith, ints)) (omega (arith, ints, h)))
sign-by_squares d (suc p) (suc q) Equal l h =
    sym (sign_from d (record { p = pos (suc p); q = neg_ℤ (pos (suc q)) }) Greater Less Equal (omega (arith, ints, l)) (omega (arith, ints)) (ap pos h))
sign-by_squares d (suc p) (suc q) Greater l h =
    sym (sign_from d (record { p = pos (suc p); q = neg_ℤ (pos (suc q)) }) Greater Less Greater (omega (arith, ints, l)) (omega (arith, ints)) (omega (arith, ints, h)))
