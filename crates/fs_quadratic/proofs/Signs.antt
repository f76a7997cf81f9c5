-- The computed sign and the computed comparison say what the order says.
use Rattle.std.proofs.Common.{◌≡◌, ◌↔◌, ℕ, ℤ, pos, neg_ℤ, ◌*ℤ◌, ◌<ℤ◌, ◌≤ℤ◌, [], ◌∷◌, refl, sym, ap, ◌∙◌, subst, arith}
use Rattle.std.proofs.lemmas.Int.{ints, by_lt_z}
use Rattle.std.specs.Ordering.{int_cmp, ordering_reverse, MatchOrdering}
use Rattle.std.specs.Cmp.{int_ranks, int_cmp_is}
use Rattle.std.specs.declared.cmp.Ordering.{Ordering}
use Rattle.std.specs.declared.cmp.Ordering.TheVariants.{Less, Equal, Greater}
use Rattle.fs_ring.specs.OrderedRing.{positive, null, negative}
use Rattle.fs_ring.proofs.RingLaws as ring
use Rattle.fs_ring.proofs.Integers.{integer_ring}
use Rattle.fs_ring.proofs.Solver.{expressions as E, ◌⊗◌, ◌≐◌, identity}
use Rattle.fs_quadratic.specs.Radicand.{IsNoSquare}
use Rattle.fs_quadratic.specs.Ring.{Quadratic, zero, neg, sub, IsPositive, both, by_p, by_q, IsLess, sign_by_parts, sign, compare}
use Rattle.fs_quadratic.proofs.Laws.{quadratic_ring, quadratic_order}

-- how a whole number compares with another
abbrev ComparesAs : Ordering → ℤ → ℤ → Type 0
ComparesAs r y z = MatchOrdering r (y <ℤ z) (y ≡ z) (z <ℤ y)

-- from the comparisons of the parts with 0, and of the squares
pub sign_from : (d : ℕ) (x : Quadratic) (a b c : Ordering) → ComparesAs a x.p (pos 0) → ComparesAs b x.q (pos 0)
    → ComparesAs c (x.p *ℤ x.p) (pos d *ℤ (x.q *ℤ x.q)) → sign d x ≡ sign_by_parts a b c
unfolding sign
sign_from d x a b c ha hb hc =
    λ i. sign_by_parts (sym (int_cmp_is x.p (pos 0) a ha) i) (sym (int_cmp_is x.q (pos 0) b hb) i) (sym (int_cmp_is (x.p *ℤ x.p) (pos d *ℤ (x.q *ℤ x.q)) c hc) i)

-- where the squares don't matter
pub sign_without : (d : ℕ) (x : Quadratic) (a b : Ordering) → ComparesAs a x.p (pos 0) → ComparesAs b x.q (pos 0)
    → sign d x ≡ sign_by_parts a b (int_cmp (x.p *ℤ x.p) (pos d *ℤ (x.q *ℤ x.q)))
sign_without d x a b ha hb = sign_from d x a b (int_cmp (x.p *ℤ x.p) (pos d *ℤ (x.q *ℤ x.q))) ha hb (int_ranks (x.p *ℤ x.p) (pos d *ℤ (x.q *ℤ x.q)))

zero_between : (z : ℤ) → pos 0 ≤ℤ z → z ≤ℤ pos 0 → z ≡ pos 0
zero_between z h k = omega (arith, ints)

pub sign-positive : (d : ℕ) (x : Quadratic) → IsPositive d x → sign d x ≡ Greater
sign-positive d x (both hp hq n) =
    by_lt_z (pos 0) x.p
    (λ p_above. by_lt_z (pos 0) x.q
    (λ q_above. sign_without d x Greater Greater p_above q_above)
    (λ q_below. sign_without d x Greater Equal p_above (zero_between x.q hq q_below)))
    (λ p_below. by_lt_z (pos 0) x.q
    (λ q_above. sign_without d x Equal Greater (zero_between x.p hp p_below) q_above)
    (λ q_below. absurd (n (zero_between x.p hp p_below, zero_between x.q hq q_below))))
sign-positive d x (by_p hp hq h) = sign_from d x Greater Less Greater hp hq h
sign-positive d x (by_q hp hq h) = sign_from d x Less Greater Less hp hq h

pub sign-zero : (d : ℕ) (x : Quadratic) → x ≡ zero → sign d x ≡ Equal
unfolding sign
sign-zero d x e = ap (sign d) e

-- ---- the sign of the negative

stands_neg : (z : ℤ) (r : Ordering) → ComparesAs r z (pos 0) → ComparesAs (ordering_reverse r) (neg_ℤ z) (pos 0)
stands_neg z Less h = omega (arith, ints)
stands_neg z Equal h = ap neg_ℤ h
stands_neg z Greater h = omega (arith, ints)

int_cmp-neg : (z : ℤ) → int_cmp (neg_ℤ z) (pos 0) ≡ ordering_reverse (int_cmp z (pos 0))
int_cmp-neg z = sym (int_cmp_is (neg_ℤ z) (pos 0) (ordering_reverse (int_cmp z (pos 0))) (stands_neg z (int_cmp z (pos 0)) (int_ranks z (pos 0))))

pub reverse-reverse : (r : Ordering) → ordering_reverse (ordering_reverse r) ≡ r
reverse-reverse Less = refl
reverse-reverse Equal = refl
reverse-reverse Greater = refl

sign_by_parts-reverse : (a b c : Ordering)
    → sign_by_parts (ordering_reverse a) (ordering_reverse b) c ≡ ordering_reverse (sign_by_parts a b c)
sign_by_parts-reverse Equal b c = refl
sign_by_parts-reverse Greater Less c = refl
sign_by_parts-reverse Greater Equal c = refl
sign_by_parts-reverse Greater Greater c = refl
sign_by_parts-reverse Less Less c = refl
sign_by_parts-reverse Less Equal c = refl
sign_by_parts-reverse Less Greater c = sym (reverse-reverse c)

square-neg : (z : ℤ) → neg_ℤ z *ℤ neg_ℤ z ≡ z *ℤ z
square-neg z = identity integer_ring (z ∷ []) (λ z. E.neg z ⊗ E.neg z ≐ z ⊗ z) refl

pub sign-neg : (d : ℕ) (x : Quadratic) → sign d (neg x) ≡ ordering_reverse (sign d x)
unfolding sign
sign-neg d x =
    (λ i. sign_by_parts (int_cmp-neg x.p i) (int_cmp-neg x.q i) (int_cmp (square-neg x.p i) (pos d *ℤ square-neg x.q i)))
    ∙ sign_by_parts-reverse (int_cmp x.p (pos 0)) (int_cmp x.q (pos 0)) (int_cmp (x.p *ℤ x.p) (pos d *ℤ (x.q *ℤ x.q)))

pub sign-negative : (d : ℕ) (x : Quadratic) → IsPositive d (neg x) → sign d x ≡ Less
sign-negative d x h = sym (reverse-reverse (sign d x)) ∙ ap ordering_reverse (sym (sign-neg d x) ∙ sign-positive d (neg x) h)

-- the comparison is the sign of the difference
pub compare-is : (d : ℕ) (x y : Quadratic) → compare d x y ≡ sign d (sub x y)
unfolding compare
compare-is d x y = refl

-- ---- where d isn't a square, the sign says how the number compares with 0

module _ {d : ℕ} (no_square : IsNoSquare d) where
  pub sign_ranks : (x : Quadratic) → MatchOrdering (sign d x) (IsPositive d (neg x)) (x ≡ zero) (IsPositive d x)
  sign_ranks x =
      elim ((quadratic_order no_square).trichotomy x) [
        | positive h ↦ subst Ranks (sym (sign-positive d x h)) h
        | null e ↦ subst Ranks (sym (sign-zero d x e)) e
        | negative h ↦ subst Ranks (sym (sign-negative d x h)) h
      ]
    where
      Ranks : Ordering → Type 0
      Ranks r = MatchOrdering r (IsPositive d (neg x)) (x ≡ zero) (IsPositive d x)

  pub positive_of_sign : (x : Quadratic) → sign d x ≡ Greater → IsPositive d x
  positive_of_sign x e = subst (λ r. MatchOrdering r (IsPositive d (neg x)) (x ≡ zero) (IsPositive d x)) e (sign_ranks x)

  pub negative_of_sign : (x : Quadratic) → sign d x ≡ Less → IsPositive d (neg x)
  negative_of_sign x e = subst (λ r. MatchOrdering r (IsPositive d (neg x)) (x ≡ zero) (IsPositive d x)) e (sign_ranks x)

  pub zero_of_sign : (x : Quadratic) → sign d x ≡ Equal → x ≡ zero
  zero_of_sign x e = subst (λ r. MatchOrdering r (IsPositive d (neg x)) (x ≡ zero) (IsPositive d x)) e (sign_ranks x)

  -- a result that is the sign is Greater exactly where the number is above 0, and Less exactly where its negation is
  pub greater_iff_positive : (r : Ordering) (x : Quadratic) → r ≡ sign d x → r ≡ Greater ↔ IsPositive d x
  greater_iff_positive r x e = ((λ h. positive_of_sign x (sym e ∙ h)), (λ h. e ∙ sign-positive d x h))

  pub less_iff_negative : (r : Ordering) (x : Quadratic) → r ≡ sign d x → r ≡ Less ↔ IsPositive d (neg x)
  less_iff_negative r x e = ((λ h. negative_of_sign x (sym e ∙ h)), (λ h. e ∙ sign-negative d x h))

  -- and one that is the comparison says likewise which number is less
  pub greater_iff_less : (r : Ordering) (x y : Quadratic) → r ≡ compare d x y → r ≡ Greater ↔ IsLess d y x
  greater_iff_less r x y e = greater_iff_positive r (sub x y) (e ∙ compare-is d x y)

  pub less_iff_less : (r : Ordering) (x y : Quadratic) → r ≡ compare d x y → r ≡ Less ↔ IsLess d x y
  less_iff_less r x y e =
      subst (λ z. r ≡ Less ↔ IsPositive d z) (ring.neg-sub (quadratic_ring d) x y) (less_iff_negative r (sub x y) (e ∙ compare-is d x y))
