-- The comparison of two numbers from the comparisons and the distances of their parts.
use Rattle.std.proofs.Common.{◌≡◌, ◌≢◌, ℕ, ℤ, pos, negsuc, neg_ℤ, ◌-ℤ◌, ◌*ℤ◌, ◌<ℤ◌, refl, sym, ap, ◌∙◌, arith}
use Rattle.std.proofs.lemmas.Int.{ints}
use Rattle.std.proofs.lemmas.Cmp.{int_ranked}
use Rattle.std.specs.Prelude.{unsigned_abs}
use Rattle.std.specs.Ordering.{int_cmp, ordering_reverse, MatchOrdering}
use Rattle.std.specs.Cmp.{int_ranks, int_cmp_is}
use Rattle.std.specs.declared.cmp.Ordering.{Ordering}
use Rattle.std.specs.declared.cmp.Ordering.TheVariants.{Less, Equal, Greater}
use Rattle.fs_quadratic.specs.Width.{InWidth}
use Rattle.fs_quadratic.specs.Ring.{Quadratic, sub, neg, sign_by_parts, sign, compare}
use Rattle.fs_quadratic.proofs.Bits.{of_bits, of_bits-is}
use Rattle.fs_quadratic.proofs.Laws.{quadratic_eq}
use Rattle.fs_quadratic.proofs.Signs.{sign-neg, reverse-reverse}

-- ---- the difference of two whole numbers

stands_sub : (y z : ℤ) (r : Ordering) → MatchOrdering r (y <ℤ z) (y ≡ z) (z <ℤ y)
    → MatchOrdering r ((y -ℤ z) <ℤ pos 0) (y -ℤ z ≡ pos 0) (pos 0 <ℤ (y -ℤ z))
stands_sub y z Less h = omega (arith, ints)
stands_sub y z Equal h = omega (arith, ints)
stands_sub y z Greater h = omega (arith, ints)

int_cmp-sub : (y z : ℤ) → int_cmp (y -ℤ z) (pos 0) ≡ int_cmp y z
int_cmp-sub y z = sym (int_cmp_is (y -ℤ z) (pos 0) (int_cmp y z) (stands_sub y z (int_cmp y z) (int_ranks y z)))

-- a number above zero, and one below, by its size
size_above : (z : ℤ) → pos 0 <ℤ z → z ≡ pos (unsigned_abs z)
size_above (pos n) h = refl
size_above (negsuc n) h = absurd (omega (arith, ints))

size_below : (z : ℤ) → z <ℤ pos 0 → z ≡ neg_ℤ (pos (unsigned_abs z))
size_below (pos n) h = absurd (omega (arith, ints))
size_below (negsuc n) h = refl

neg_size_below : (z : ℤ) → z <ℤ pos 0 → neg_ℤ z ≡ pos (unsigned_abs z)
neg_size_below z h = let e = size_below z h in omega (arith, ints)

neg_size_above : (z : ℤ) → pos 0 <ℤ z → neg_ℤ z ≡ neg_ℤ (pos (unsigned_abs z))
neg_size_above z h = ap neg_ℤ (size_above z h)

-- ---- what the code compares, which it reads from bits

pub int_cmp-bits : {a b y z : ℤ} {r : Ordering} → r ≡ int_cmp (of_bits a) (of_bits b) → a ≡ y → InWidth y → b ≡ z → InWidth z → r ≡ int_cmp y z
int_cmp-bits e f h g k = e ∙ (λ i. int_cmp (of_bits-is f h i) (of_bits-is g k i))

-- ---- two numbers

module _ (d : ℕ) (x y : Quadratic) where
  abbrev difference : Quadratic
  difference = sub x y

  -- the distances of the parts, the second below zero
  abbrev pub distances : Quadratic
  distances = record { p = pos (unsigned_abs (x.p -ℤ y.p)); q = neg_ℤ (pos (unsigned_abs (x.q -ℤ y.q))) }

  compare-by_parts : (p q : Ordering) → p ≡ int_cmp x.p y.p → q ≡ int_cmp x.q y.q
      → compare d x y ≡ sign_by_parts p q (int_cmp (difference.p *ℤ difference.p) (pos d *ℤ (difference.q *ℤ difference.q)))
  unfolding compare sign
  compare-by_parts p q e f =
      λ i. sign_by_parts ((int_cmp-sub x.p y.p ∙ sym e) i) ((int_cmp-sub x.q y.q ∙ sym f) i) (int_cmp (difference.p *ℤ difference.p) (pos d *ℤ (difference.q *ℤ difference.q)))

  pub compare-equal_p : (q : Ordering) → Equal ≡ int_cmp x.p y.p → q ≡ int_cmp x.q y.q → q ≡ compare d x y
  compare-equal_p q e f = sym (compare-by_parts Equal q e f)

  pub compare-greater_p : (q : Ordering) → Greater ≡ int_cmp x.p y.p → q ≡ int_cmp x.q y.q → q ≢ Less → Greater ≡ compare d x y
  compare-greater_p Less e f n = absurd (n refl)
  compare-greater_p Equal e f n = sym (compare-by_parts Greater Equal e f)
  compare-greater_p Greater e f n = sym (compare-by_parts Greater Greater e f)

  pub compare-less_p : (q : Ordering) → Less ≡ int_cmp x.p y.p → q ≡ int_cmp x.q y.q → q ≢ Greater → Less ≡ compare d x y
  compare-less_p Less e f n = sym (compare-by_parts Less Less e f)
  compare-less_p Equal e f n = sym (compare-by_parts Less Equal e f)
  compare-less_p Greater e f n = absurd (n refl)

  pub compare-greater_less : Greater ≡ int_cmp x.p y.p → Less ≡ int_cmp x.q y.q → sign d distances ≡ compare d x y
  unfolding compare
  compare-greater_less e f =
      let p_above = int_ranked x.p y.p Greater e in
      let q_below = int_ranked x.q y.q Less f in
      sym (ap (sign d) (quadratic_eq {x = difference} {y = distances} (size_above (x.p -ℤ y.p) (omega (arith, ints))) (size_below (x.q -ℤ y.q) (omega (arith, ints)))))

  pub compare-less_greater : Less ≡ int_cmp x.p y.p → Greater ≡ int_cmp x.q y.q → ordering_reverse (sign d distances) ≡ compare d x y
  unfolding compare
  compare-less_greater e f =
      let p_below = int_ranked x.p y.p Less e in
      let q_above = int_ranked x.q y.q Greater f in
      ap ordering_reverse
      (sym (ap (sign d) (quadratic_eq {x = neg difference} {y = distances} (neg_size_below (x.p -ℤ y.p) (omega (arith, ints))) (neg_size_above (x.q -ℤ y.q) (omega (arith, ints)))))
      ∙ sign-neg d difference)
      ∙ reverse-reverse (compare d x y)
