-- The sign of a number from its two parts p and q·√d, and from their squares.
use Rattle.std.proofs.Common.{◌≡◌, ℕ, pos, ◌*ℤ◌, [], ◌∷◌, refl}
use Rattle.std.specs.Ordering.{int_cmp}
use Rattle.std.specs.declared.cmp.Ordering.{Ordering}
use Rattle.fs_ring.proofs.Integers.{integer_ring}
use Rattle.fs_ring.proofs.Solver.{expressions as E, ◌⊕◌, ◌⊗◌, ◌≐◌, identity}
use Rattle.fs_quadratic.specs.Ring.{Quadratic, mul, sign_by_parts, sign}

module _ (d : ℕ) (x : Quadratic) where
  -- each part alone
  abbrev pub p_alone : Quadratic
  p_alone = record { p = x.p; q = pos 0 }

  abbrev pub q_alone : Quadratic
  q_alone = record { p = pos 0; q = x.q }

  -- its square
  pub square_of_p : (mul d p_alone p_alone).p ≡ x.p *ℤ x.p
  unfolding mul
  square_of_p = identity integer_ring (pos d ∷ x.p ∷ []) (λ d p. (p ⊗ p) ⊕ d ⊗ (E.zero ⊗ E.zero) ≐ p ⊗ p) refl

  pub square_of_q : (mul d q_alone q_alone).p ≡ pos d *ℤ (x.q *ℤ x.q)
  unfolding mul
  square_of_q = identity integer_ring (pos d ∷ x.q ∷ []) (λ d q. (E.zero ⊗ E.zero) ⊕ d ⊗ (q ⊗ q) ≐ d ⊗ (q ⊗ q)) refl

  -- the sign from those of the parts, and from how the squares compare
  pub sign_by_squares : (p q squares : Ordering) → p ≡ int_cmp x.p (pos 0) → q ≡ int_cmp x.q (pos 0) → squares ≡ int_cmp (x.p *ℤ x.p) (pos d *ℤ (x.q *ℤ x.q)) → sign_by_parts p q squares ≡ sign d x
  unfolding sign
  sign_by_squares p q squares e f g = λ i. sign_by_parts (e i) (f i) (g i)
