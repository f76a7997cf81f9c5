-- The circle value of tiny vectors always fits.
use Rattle.std.proofs.Common.{ℕ, ◌+◌, ◌^◌, ◌-◌, ◌≤◌, lit<}
use Rattle.fs_quadratic.specs.Ring.{mul}
use Rattle.fs_quadratic.specs.Width.{Fits, MulFits, IsNarrow}
use Rattle.fs_quadratic.proofs.Sizes.{IsWithin, greatest_rational, greatest_r, within_add, within_sub, within_mul, within_fits, within_narrow, within_tiny, mul_fits}
use Rattle.fs_plane.specs.Vector.{PlaneVector, IsTinyVector, cross, dot, circle}

-- the greatest part of a tiny number
abbrev tiny : ℕ
tiny = 2 ^ 26 - 1

-- the greatest parts of a cross or dot product of tiny vectors, and of a product of two of those
abbrev rational : ℕ
rational = greatest_rational tiny tiny tiny tiny + greatest_rational tiny tiny tiny tiny

abbrev root : ℕ
root = greatest_r tiny tiny tiny tiny + greatest_r tiny tiny tiny tiny

abbrev product_rational : ℕ
product_rational = greatest_rational rational root rational root

abbrev product_root : ℕ
product_root = greatest_r rational root rational root

module _ (d : ℕ) (most : d ≤ 999) where
  cross_within : (a b : PlaneVector) → IsTinyVector a → IsTinyVector b → IsWithin rational root (cross d a b)
  cross_within a b s t =
      within_sub (within_mul d most (within_tiny s.0) (within_tiny t.1)) (within_mul d most (within_tiny s.1) (within_tiny t.0))

  dot_within : (a b : PlaneVector) → IsTinyVector a → IsTinyVector b → IsWithin rational root (dot d a b)
  dot_within a b s t =
      within_add (within_mul d most (within_tiny s.0) (within_tiny t.0)) (within_mul d most (within_tiny s.1) (within_tiny t.1))

  pub tiny_cross_narrow : (a b : PlaneVector) → IsTinyVector a → IsTinyVector b → IsNarrow (cross d a b)
  tiny_cross_narrow a b s t = within_narrow (cross_within a b s t) (lit< tt) (lit< tt)

  pub tiny_dot_narrow : (a b : PlaneVector) → IsTinyVector a → IsTinyVector b → IsNarrow (dot d a b)
  tiny_dot_narrow a b s t = within_narrow (dot_within a b s t) (lit< tt) (lit< tt)

  module _ (a b c g : PlaneVector) (ta : IsTinyVector a) (tb : IsTinyVector b) (tc : IsTinyVector c) (tg : IsTinyVector g) where
    term_within : IsWithin product_rational product_root (mul d (cross d a b) (dot d c g))
    term_within = within_mul d most (cross_within a b ta tb) (dot_within c g tc tg)

    pub tiny_term_fits : MulFits d (cross d a b) (dot d c g)
    tiny_term_fits = mul_fits d most (cross_within a b ta tb) (dot_within c g tc tg) (lit< tt) (lit< tt)

  pub tiny_circle_fits : (a b c g : PlaneVector) → IsTinyVector a → IsTinyVector b → IsTinyVector c → IsTinyVector g → Fits (circle d a b c g)
  tiny_circle_fits a b c g ta tb tc tg =
      within_fits (within_add (term_within a b c g ta tb tc tg) (term_within c g a b tc tg ta tb)) (lit< tt) (lit< tt)
