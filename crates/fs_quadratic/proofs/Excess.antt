-- What says how n/b compares with a complete quotient turns its sign in one step of Euclid's.
use Rattle.std.proofs.Common.{◌≡◌, ℕ, zero, suc, ◌+◌, ◌*◌, ◌<◌, ℤ, pos, neg_ℤ, ◌+ℤ◌, ◌-ℤ◌, ◌*ℤ◌, [], ◌∷◌, refl, sym, ap, ◌∙◌, subst, arith, mul-pos}
use Rattle.std.proofs.lemmas.Int.{ints}
use Rattle.std.specs.Ordering.{ordering_reverse}
use Rattle.std.specs.declared.cmp.Ordering.TheVariants.{Less, Greater}
use Rattle.fs_ring.specs.OrderedRing.{positive, null, negative}
use Rattle.fs_ring.proofs.RingLaws as ring
use Rattle.fs_ring.proofs.Signs as signs
use Rattle.fs_ring.proofs.Integers.{integer_ring}
use Rattle.fs_ring.proofs.Solver.{expressions as E, numeral, ◌⊕◌, ◌⊖◌, ◌⊗◌, ◌≐◌, ◌from◌, identity, derived}
use Rattle.fs_quadratic.specs.Radicand.{IsNoSquare}
use Rattle.fs_quadratic.specs.CompleteQuotient.{excess}
use Rattle.fs_quadratic.specs.Ring.{Quadratic, add, mul, neg, IsPositive, both, by_p, by_q, sign}
use Rattle.fs_quadratic.proofs.Laws.{quadratic_eq, quadratic_ring, quadratic_order}
use Rattle.fs_quadratic.proofs.Signs.{sign-positive, sign-negative, sign-zero, sign-neg}

-- m + √d
abbrev above_root : ℕ → Quadratic
above_root m = record { p = pos m; q = pos 1 }

-- the number n
abbrev whole_number : ℕ → Quadratic
whole_number n = record { p = pos n; q = pos 0 }

above_root_positive : (d m : ℕ) → IsPositive d (above_root m)
above_root_positive d m = both (omega (arith, ints)) (omega (arith, ints)) (λ zeros. let e = zeros.1 in absurd (omega (arith, ints)))

whole_number_positive : (d n : ℕ) → 0 < n → IsPositive d (whole_number n)
whole_number_positive d n h = both (omega (arith, ints)) (omega (arith, ints)) (λ zeros. let e = zeros.0 in absurd (omega (arith, ints)))

-- with √d itself, n and b·√d are compared
pub excess-first : (n b : ℕ) → excess 0 1 n b ≡ record { p = pos n; q = neg_ℤ (pos b) }
excess-first n b = quadratic_eq (first_p n b) refl
  where
    first_p : (n b : ℕ) → pos (n * 1) -ℤ pos (0 * b) ≡ pos n
    first_p n b = omega (arith, ints)

-- ---- one step

step_p : (d k m next a below n b r : ℤ) → k *ℤ a ≡ m +ℤ next → (a *ℤ below) +ℤ (next *ℤ next) ≡ d → n ≡ (k *ℤ b) +ℤ r
    → (((n *ℤ a) -ℤ (m *ℤ b)) *ℤ next) +ℤ (d *ℤ (neg_ℤ b *ℤ pos 1)) ≡ neg_ℤ ((a *ℤ ((b *ℤ below) -ℤ (next *ℤ r))) +ℤ (d *ℤ (pos 0 *ℤ neg_ℤ r)))
step_p d k m next a below n b r e f g =
    derived integer_ring (d ∷ k ∷ m ∷ next ∷ a ∷ below ∷ n ∷ b ∷ r ∷ [])
    (λ d k m next a below n b r. (n ⊗ a ⊖ m ⊗ b) ⊗ next ⊕ d ⊗ (E.neg b ⊗ numeral 1) ≐ E.neg (a ⊗ (b ⊗ below ⊖ next ⊗ r) ⊕ d ⊗ (numeral 0 ⊗ E.neg r))
    from (b ⊗ next, k ⊗ a ≐ m ⊕ next) ∷ (b, a ⊗ below ⊕ next ⊗ next ≐ d) ∷ (a ⊗ next, n ≐ k ⊗ b ⊕ r) ∷ []) refl (e, (f, (g, tt)))

step_q : (d k m next a below n b r : ℤ) → k *ℤ a ≡ m +ℤ next → n ≡ (k *ℤ b) +ℤ r
    → (((n *ℤ a) -ℤ (m *ℤ b)) *ℤ pos 1) +ℤ (neg_ℤ b *ℤ next) ≡ neg_ℤ ((a *ℤ neg_ℤ r) +ℤ (pos 0 *ℤ ((b *ℤ below) -ℤ (next *ℤ r))))
step_q d k m next a below n b r e g =
    derived integer_ring (d ∷ k ∷ m ∷ next ∷ a ∷ below ∷ n ∷ b ∷ r ∷ [])
    (λ d k m next a below n b r. (n ⊗ a ⊖ m ⊗ b) ⊗ numeral 1 ⊕ E.neg b ⊗ next ≐ E.neg (a ⊗ E.neg r ⊕ numeral 0 ⊗ (b ⊗ below ⊖ next ⊗ r))
    from (b, k ⊗ a ≐ m ⊕ next) ∷ (a, n ≐ k ⊗ b ⊕ r) ∷ []) refl (e, (g, tt))

-- times next + √d it is what the next step has, times -a
step_product : (d k m next a below n b r : ℕ) → k * a ≡ m + next → a * below + next * next ≡ d → n ≡ k * b + r
    → mul d (excess m a n b) (above_root next) ≡ neg (mul d (whole_number a) (excess next below b r))
unfolding mul
step_product d k m next a below n b r e f g =
    quadratic_eq
    (step_p (pos d) (pos k) (pos m) (pos next) (pos a) (pos below) (pos n) (pos b) (pos r) (ap pos e) (ap pos f) (ap pos g))
    (step_q (pos d) (pos k) (pos m) (pos next) (pos a) (pos below) (pos n) (pos b) (pos r) (ap pos e) (ap pos g))

-- the excess over a whole part, as a multiple of the excess of 1/1, and the rest t
greater_p : (d m a n b t s : ℤ) → n *ℤ a ≡ ((s +ℤ m) *ℤ b) +ℤ t → (n *ℤ a) -ℤ (m *ℤ b) ≡ ((b *ℤ s) +ℤ (d *ℤ (pos 0 *ℤ neg_ℤ (pos 1)))) +ℤ t
greater_p d m a n b t s e =
    derived integer_ring (d ∷ m ∷ a ∷ n ∷ b ∷ t ∷ s ∷ [])
    (λ d m a n b t s. n ⊗ a ⊖ m ⊗ b ≐ b ⊗ s ⊕ d ⊗ (numeral 0 ⊗ E.neg (numeral 1)) ⊕ t from (numeral 1, n ⊗ a ≐ (s ⊕ m) ⊗ b ⊕ t) ∷ []) refl (e, tt)

greater_q : (b s : ℤ) → neg_ℤ b ≡ ((b *ℤ neg_ℤ (pos 1)) +ℤ (pos 0 *ℤ s)) +ℤ pos 0
greater_q b s = identity integer_ring (b ∷ s ∷ []) (λ b s. E.neg b ≐ b ⊗ E.neg (numeral 1) ⊕ numeral 0 ⊗ s ⊕ numeral 0) refl

less_p : (d m a n b t s : ℤ) → (s +ℤ m) *ℤ b ≡ (n *ℤ a) +ℤ t → ((b *ℤ neg_ℤ s) +ℤ (d *ℤ (pos 0 *ℤ pos 1))) +ℤ t ≡ neg_ℤ ((n *ℤ a) -ℤ (m *ℤ b))
less_p d m a n b t s e =
    derived integer_ring (d ∷ m ∷ a ∷ n ∷ b ∷ t ∷ s ∷ [])
    (λ d m a n b t s. b ⊗ E.neg s ⊕ d ⊗ (numeral 0 ⊗ numeral 1) ⊕ t ≐ E.neg (n ⊗ a ⊖ m ⊗ b) from (E.neg (numeral 1), (s ⊕ m) ⊗ b ≐ n ⊗ a ⊕ t) ∷ []) refl (e, tt)

less_q : (b s : ℤ) → ((b *ℤ pos 1) +ℤ (pos 0 *ℤ neg_ℤ s)) +ℤ pos 0 ≡ neg_ℤ (neg_ℤ b)
less_q b s = identity integer_ring (b ∷ s ∷ []) (λ b s. b ⊗ numeral 1 ⊕ numeral 0 ⊗ E.neg s ⊕ numeral 0 ≐ E.neg (E.neg b)) refl

zero_p : (m a n : ℕ) → pos (n * a) -ℤ pos (m * 0) ≡ pos (n * a)
zero_p m a n = omega (arith, ints)

-- s - √d
abbrev above : ℕ → Quadratic
above s = record { p = pos s; q = neg_ℤ (pos 1) }

above_positive : (d s : ℕ) → 0 < s → d < s * s → IsPositive d (above s)
above_positive d s h k = by_p (omega (arith, ints)) (omega (arith, ints)) (omega (arith, ints))

-- √d - s
abbrev below : ℕ → Quadratic
below s = record { p = neg_ℤ (pos s); q = pos 1 }

below_positive : (d s : ℕ) → s * s < d → IsPositive d (below s)
below_positive d zero h = above_root_positive d 0
below_positive d (suc s) h = by_q (omega (arith, ints)) (omega (arith, ints)) (omega (arith, ints))

module _ {d : ℕ} (no_square : IsNoSquare d) where
  -- a positive factor keeps the sign
  pub sign-mul_positive : (x y : Quadratic) → IsPositive d y → sign d (mul d x y) ≡ sign d x
  sign-mul_positive x y h =
      let L = quadratic_order no_square in
      elim (L.trichotomy x) [
        | positive p ↦ sign-positive d (mul d x y) (L.mul_positive p h) ∙ sym (sign-positive d x p)
        | null e ↦ sign-zero d (mul d x y) (ap (λ z. mul d z y) e ∙ ring.zero_mul L.ring y) ∙ sym (sign-zero d x e)
        | negative n ↦ sign-negative d (mul d x y) (signs.mul_negative_positive L n h) ∙ sym (sign-negative d x n)
      ]

  pub sign-positive_mul : (x y : Quadratic) → IsPositive d x → sign d (mul d x y) ≡ sign d y
  sign-positive_mul x y h = ap (sign d) ((quadratic_ring d).mul_comm x y) ∙ sign-mul_positive y x h

  -- the next step compares the other way round
  pub sign-step : (k m next a below n b r : ℕ) → 0 < a → k * a ≡ m + next → a * below + next * next ≡ d → n ≡ k * b + r
      → sign d (excess m a n b) ≡ ordering_reverse (sign d (excess next below b r))
  sign-step k m next a below n b r h e f g =
      sym (sign-mul_positive (excess m a n b) (above_root next) (above_root_positive d next))
      ∙ ap (sign d) (step_product d k m next a below n b r e f g)
      ∙ sign-neg d (mul d (whole_number a) (excess next below b r))
      ∙ ap ordering_reverse (sign-positive_mul (whole_number a) (excess next below b r) (whole_number_positive d a h))

  -- ---- where the whole parts differ, or nothing is left

  -- n/0 is above each number
  pub sign-excess_zero : (m a n : ℕ) → 0 < a → 0 < n → sign d (excess m a n 0) ≡ Greater
  sign-excess_zero m a n h k =
      ap (sign d) (quadratic_eq {x = excess m a n 0} {y = whole_number (n * a)} (zero_p m a n) refl) ∙ sign-positive d (whole_number (n * a)) (whole_number_positive d (n * a) (mul-pos k h))

  positive_sum : (x : Quadratic) (t : ℕ) → IsPositive d x → IsPositive d (add x (whole_number t))
  positive_sum x zero h = subst (IsPositive d) (sym ((quadratic_ring d).add_zero x)) h
  positive_sum x (suc t) h = (quadratic_order no_square).add_positive h (whole_number_positive d (suc t) (omega arith))

  multiple_positive : (b : ℕ) (x : Quadratic) → 0 < b → IsPositive d x → IsPositive d (mul d (whole_number b) x)
  multiple_positive b x h p = (quadratic_order no_square).mul_positive (whole_number_positive d b h) p

  -- n/b is at least (m + s)/a, for an s above √d
  pub sign-excess_greater : (m a n b t s : ℕ) → 0 < b → 0 < s → d < s * s → n * a ≡ (s + m) * b + t → sign d (excess m a n b) ≡ Greater
  unfolding mul
  sign-excess_greater m a n b t s h k high e =
      ap (sign d) (quadratic_eq {x = excess m a n b} {y = add (mul d (whole_number b) (above s)) (whole_number t)} (greater_p (pos d) (pos m) (pos a) (pos n) (pos b) (pos t) (pos s) (ap pos e)) (greater_q (pos b) (pos s)))
      ∙ sign-positive d (add (mul d (whole_number b) (above s)) (whole_number t)) (positive_sum (mul d (whole_number b) (above s)) t (multiple_positive b (above s) h (above_positive d s k high)))

  -- n/b is at most (m + s)/a, for an s below √d
  pub sign-excess_less : (m a n b t s : ℕ) → 0 < b → s * s < d → (s + m) * b ≡ n * a + t → sign d (excess m a n b) ≡ Less
  unfolding mul
  sign-excess_less m a n b t s h low e =
      sign-negative d (excess m a n b)
      (subst (IsPositive d)
      (quadratic_eq {x = add (mul d (whole_number b) (below s)) (whole_number t)} {y = neg (excess m a n b)} (less_p (pos d) (pos m) (pos a) (pos n) (pos b) (pos t) (pos s) (ap pos e)) (less_q (pos b) (pos s)))
      (positive_sum (mul d (whole_number b) (below s)) t (multiple_positive b (below s) h (below_positive d s low))))
