-- Orders that a whole number leads: among elements of one number another order decides, which may depend on the number. A library for crates to come.
use Rattle.std.proofs.Common.{◌≡◌, ℕ, ◌<◌, refl, sym, ap, ◌∙◌, subst}
use Rattle.std.specs.Ordering.{nat_cmp, ordering_then, ordering_reverse, MatchOrdering}
use Rattle.std.specs.Cmp.{IsTotalOrder, nat_cmp_total, ranks}
use Rattle.std.specs.declared.cmp.Ordering.{Ordering}
use Rattle.std.specs.declared.cmp.Ordering.TheVariants.{Less, Equal, Greater}

pub eq_of_nat_cmp : (x y : ℕ) → nat_cmp x y ≡ Equal → x ≡ y
eq_of_nat_cmp x y e = subst (λ r. MatchOrdering r (x < y) (x ≡ y) (y < x)) e (ranks x y)

then_reverse : (r s i j : Ordering) → r ≡ ordering_reverse s → (r ≡ Equal → i ≡ ordering_reverse j) → ordering_then r i ≡ ordering_reverse (ordering_then s j)
then_reverse Less Greater i j e h = refl
then_reverse Equal Equal i j e h = h refl
then_reverse Greater Less i j e h = refl
then_reverse Less Less i j e h = cc
then_reverse Less Equal i j e h = cc
then_reverse Equal Less i j e h = cc
then_reverse Equal Greater i j e h = cc
then_reverse Greater Equal i j e h = cc
then_reverse Greater Greater i j e h = cc

-- both are equal where the first and then the second is
pub then_equal_first : (r i : Ordering) → ordering_then r i ≡ Equal → r ≡ Equal
then_equal_first Less i e = e
then_equal_first Equal i e = refl
then_equal_first Greater i e = e

pub then_equal_second : (r i : Ordering) → ordering_then r i ≡ Equal → i ≡ Equal
then_equal_second Less i e = cc
then_equal_second Equal i e = e
then_equal_second Greater i e = cc

module _ {K : Type 0} (lead : K → ℕ) (inner : ℕ → K → K → Ordering) (inner_total : (x : K) → IsTotalOrder (inner (lead x))) where
  abbrev led : K → K → Ordering
  led x y = ordering_then (nat_cmp (lead x) (lead y)) (inner (lead x) x y)

  led_antisymm : (x y : K) → led x y ≡ ordering_reverse (led y x)
  led_antisymm x y =
      then_reverse (nat_cmp (lead x) (lead y)) (nat_cmp (lead y) (lead x)) (inner (lead x) x y) (inner (lead y) y x) (nat_cmp_total.antisymm (lead x) (lead y))
      (λ e. (inner_total x).antisymm x y ∙ ap (λ d. ordering_reverse (inner d y x)) (eq_of_nat_cmp (lead x) (lead y) e))

  chain_by : (x y z : K) (r s : Ordering) → nat_cmp (lead x) (lead y) ≡ r → nat_cmp (lead y) (lead z) ≡ s
      → ordering_then r (inner (lead x) x y) ≡ Less → ordering_then s (inner (lead y) y z) ≡ Less → led x z ≡ Less
  chain_by x y z Less Less p q h k = ap (λ r. ordering_then r (inner (lead x) x z)) (nat_cmp_total.trans (lead x) (lead y) (lead z) p q)
  chain_by x y z Less Equal p q h k = ap (λ r. ordering_then r (inner (lead x) x z)) (ap (nat_cmp (lead x)) (sym (eq_of_nat_cmp (lead y) (lead z) q)) ∙ p)
  chain_by x y z Equal Less p q h k = ap (λ r. ordering_then r (inner (lead x) x z)) (nat_cmp_total.congr (lead x) (lead y) (lead z) p ∙ q)
  chain_by x y z Equal Equal p q h k =
      ap (λ r. ordering_then r (inner (lead x) x z)) (nat_cmp_total.congr (lead x) (lead y) (lead z) p ∙ q)
      ∙ (inner_total x).trans x y z h (ap (λ d. inner d y z) (eq_of_nat_cmp (lead x) (lead y) p) ∙ k)
  chain_by x y z Less Greater p q h k = cc
  chain_by x y z Equal Greater p q h k = cc
  chain_by x y z Greater s p q h k = cc

  led_congr : (x y z : K) → led x y ≡ Equal → led x z ≡ led y z
  led_congr x y z e =
      let first = then_equal_first (nat_cmp (lead x) (lead y)) (inner (lead x) x y) e in
      let second = then_equal_second (nat_cmp (lead x) (lead y)) (inner (lead x) x y) e in
      (λ i. ordering_then (nat_cmp_total.congr (lead x) (lead y) (lead z) first i) ((inner_total x).congr x y z second i))
      ∙ ap (λ d. ordering_then (nat_cmp (lead y) (lead z)) (inner d y z)) (eq_of_nat_cmp (lead x) (lead y) first)

  -- it is total where the other order is, at each number that there is
  pub led_total : IsTotalOrder led
  led_total = record {
    antisymm = led_antisymm;
    trans = λ x y z h k. chain_by x y z (nat_cmp (lead x) (lead y)) (nat_cmp (lead y) (lead z)) refl refl h k;
    congr = led_congr;
  }
