-- The root of a number that isn't a square is no fraction.
use Rattle.std.proofs.Common.{◌≡◌, ◌≢◌, ℕ, zero, suc, ◌+◌, ◌*◌, ◌%◌, ◌<◌, ◌≤◌, ℤ, pos, negsuc, ◌*ℤ◌, nat_abs, [], ◌∷◌, refl, sym, ap, ◌∙◌, subst, arith}
use Rattle.std.proofs.lemmas.Int.{ints}
use Rattle.std.proofs.Math.Nat.{mod_self}
use native.Mathlib.Decide.{dec_lt}
use Rattle.fs_ring.specs.Operations.{Operations, sub, square}
use Rattle.fs_ring.specs.OrderedRing.{IsOrderedRing, IsNonNegative}
use Rattle.fs_ring.specs.Integers.{integers, IsPositiveInteger}
use Rattle.fs_ring.proofs.Integers.{integer_order, non_negative-is}
use Rattle.fs_ring.proofs.Signs as signs
use Rattle.fs_ring.proofs.Order as order
use Rattle.fs_ring.proofs.Solver.{expressions as E, numeral, ◌⊕◌, ◌⊖◌, ◌⊗◌, ◌≐◌, ◌from◌, derived}
use Rattle.fs_quadratic.specs.Radicand.{IsRadicand, IsNoSquare}

pub radicand_no_square : {d : ℕ} → IsRadicand d → IsNoSquare d
radicand_no_square h zero e = omega arith
radicand_no_square h (suc zero) e = omega arith
radicand_no_square h (suc (suc k)) e =
    let square_above = suc (suc k) * suc (suc k) in
    h.squarefree (suc (suc k)) (omega arith) (subst (λ v. v % square_above ≡ 0) e (mod_self square_above))

-- the whole root of n
abbrev IsRoot : ℕ → ℕ → Type 0
IsRoot n k = (k * k ≤ n) × (n < suc k * suc k)

next_root : (n k : ℕ) → IsRoot n k → Dec (suc n < suc k * suc k) → (j : ℕ) × IsRoot (suc n) j
next_root n k h (yes below) = (k, omega arith)
next_root n k h (no above) = (suc k, omega arith)

root : (n : ℕ) → (k : ℕ) × IsRoot n k
root zero = (0, omega arith)
root (suc n) = let (k, h) = root n in next_root n k h (dec_lt (suc n) (suc k * suc k))

module _ {A : Type 0} {R : Operations A} {IsPositive : A → Type 0} (L : IsOrderedRing R IsPositive) where
  open R use {add as ◌⊞◌, mul as ◌⊠◌, one as 𝟙}

  infixl 60 ◌⊞◌ ◌⊟◌
  infixl 70 ◌⊠◌
  abbrev ◌⊟◌ : A → A → A
  x ⊟ y = sub R x y

  -- from m² = d·n², with k² < d < (k + 1)², to a smaller pair
  descent : (d k m n : A) → IsNonNegative R IsPositive m → IsNonNegative R IsPositive k → IsPositive n → IsPositive (d ⊟ square R k)
      → IsPositive (square R (k ⊞ 𝟙) ⊟ d) → square R m ≡ d ⊠ square R n
      → IsPositive (m ⊟ k ⊠ n) × IsPositive (n ⊟ (m ⊟ k ⊠ n)) × (square R (d ⊠ n ⊟ k ⊠ m) ≡ d ⊠ square R (m ⊟ k ⊠ n))
  descent d k m n hm hk hn low high e = (
    order.less_of_square_less L (k ⊠ n) m hm
        (signs.positive_of_eq L
        (derived L.ring (d ∷ k ∷ m ∷ n ∷ []) (λ d k m n. square E m ⊖ square E (k ⊗ n) ≐ (d ⊖ square E k) ⊗ square E n from (numeral 1, square E m ≐ d ⊗ square E n) ∷ []) refl (e, tt))
        (L.mul_positive low (L.mul_positive hn hn))),
    signs.positive_by L (d ∷ k ∷ m ∷ n ∷ []) (λ d k m n. n ⊖ (m ⊖ k ⊗ n) ≐ (k ⊕ numeral 1) ⊗ n ⊖ m) refl
        (order.less_of_square_less L m ((k ⊞ 𝟙) ⊠ n) (signs.mul_non_negative L (signs.add_non_negative L hk (signs.non_negative_of_positive L L.one_positive)) (signs.non_negative_of_positive L hn))
        (signs.positive_of_eq L
        (derived L.ring (d ∷ k ∷ m ∷ n ∷ []) (λ d k m n. square E ((k ⊕ numeral 1) ⊗ n) ⊖ square E m ≐ (square E (k ⊕ numeral 1) ⊖ d) ⊗ square E n from (E.neg (numeral 1), square E m ≐ d ⊗ square E n) ∷ []) refl (e, tt))
        (L.mul_positive high (L.mul_positive hn hn)))),
    derived L.ring (d ∷ k ∷ m ∷ n ∷ []) (λ d k m n. square E (d ⊗ n ⊖ k ⊗ m) ≐ d ⊗ square E (m ⊖ k ⊗ n) from (E.neg (d ⊖ square E k), square E m ≐ d ⊗ square E n) ∷ []) refl (e, tt),
  )

square-nat_abs : (z : ℤ) → pos (nat_abs z) *ℤ pos (nat_abs z) ≡ z *ℤ z
square-nat_abs (pos n) = refl
square-nat_abs (negsuc n) = refl

nat_abs-zero : (z : ℤ) → nat_abs z ≡ 0 → z ≡ pos 0
nat_abs-zero (pos n) e = ap pos e
nat_abs-zero (negsuc n) e = absurd (omega arith)

pos_non_negative : (n : ℕ) → IsNonNegative integers IsPositiveInteger (pos n)
pos_non_negative n = (non_negative-is (pos n)).0 (omega (arith, ints))

difference_positive : (a b : ℕ) → a < b → IsPositiveInteger (sub integers (pos b) (pos a))
difference_positive a b h = omega (arith, ints)

strictly_below : (a b : ℕ) → a ≤ b → a ≢ b → a < b
strictly_below a b h n = omega arith

-- a smaller solution of m² = d·n²
abbrev Smaller : ℕ → ℕ → Type 0
Smaller d n = (t : ℕ) × (0 < t) × (t < n) × ((u : ℤ) × (u *ℤ u ≡ pos d *ℤ (pos t *ℤ pos t)))

smaller_of : (d n : ℕ) (t u : ℤ) → IsPositiveInteger t → IsPositiveInteger (sub integers (pos n) t) → u *ℤ u ≡ pos d *ℤ (t *ℤ t)
    → Smaller d n
smaller_of d n (pos t) u h k e = (t, omega (arith, ints), omega (arith, ints), (u, e))
smaller_of d n (negsuc t) u h k e = absurd h.lt

module _ {d : ℕ} (no_square : IsNoSquare d) where
  smaller : (n : ℕ) (m : ℤ) → 0 < n → m *ℤ m ≡ pos d *ℤ (pos n *ℤ pos n) → Smaller d n
  smaller n m h e =
      let (k, bounds) = root d in
      let low : k * k < d = strictly_below (k * k) d bounds.0 (no_square k) in
      let a = nat_abs m in
      let (t_positive, t_below, equation) =
      descent integer_order (pos d) (pos k) (pos a) (pos n) (pos_non_negative a) (pos_non_negative k) (omega (arith, ints))
      (difference_positive (k * k) d low) (difference_positive d ((k + 1) * (k + 1)) (omega arith)) (square-nat_abs m ∙ e) in
      smaller_of d n (sub integers (pos a) (pos (k * n))) (sub integers (pos (d * n)) (pos (k * a))) t_positive t_below equation

  no_root : (bound n : ℕ) → n ≤ bound → (m : ℤ) → m *ℤ m ≡ pos d *ℤ (pos n *ℤ pos n) → n ≡ 0
  no_root bound zero h m e = refl
  no_root zero (suc n) h m e = absurd (omega arith)
  no_root (suc bound) (suc n) h m e =
      let (t, t_positive, t_below, (u, equation)) = smaller (suc n) m (omega arith) e in
      let t_zero : t ≡ 0 = no_root bound t (omega arith) u equation in
      absurd (omega arith)

  -- p² = d·q² only where q is 0
  pub irrational : (p q : ℤ) → p *ℤ p ≡ pos d *ℤ (q *ℤ q) → q ≡ pos 0
  irrational p q e =
      let n = nat_abs q in
      let n_zero : n ≡ 0 = no_root n n (omega arith) p (e ∙ ap (λ v. pos d *ℤ v) (sym (square-nat_abs q))) in
      nat_abs-zero q n_zero
