-- Tests of an order, and the sign of a number without an r part.
use Rattle.std.proofs.Common.{◌≡◌, ◌≢◌, ℕ, true, false, refl, ap, ◌∙◌, ℤ, pos, ◌*ℤ◌, sym}
use Rattle.std.specs.Ordering.{is_lt, int_cmp}
use Rattle.std.specs.declared.cmp.Ordering.{Ordering}
use Rattle.std.specs.declared.cmp.Ordering.TheVariants.{Less, Equal, Greater}
use Rattle.fs_quadratic.specs.Ring.{Quadratic, sign, sign_by_parts}

-- the test is true of Less alone
pub less_of : (o : Ordering) → is_lt o ≡ true → o ≡ Less
less_of Less e = refl
less_of Equal e = absurd cc
less_of Greater e = absurd cc

pub not_less_of : (o : Ordering) → is_lt o ≡ false → o ≢ Less
not_less_of Less e = absurd cc
not_less_of Equal e = λ f. cc
not_less_of Greater e = λ f. cc

-- the sign of a number without an r part is that of its rational part
pub rational_sign : (d : ℕ) (x : Quadratic) → x.q ≡ pos 0 → int_cmp x.p (pos 0) ≡ sign d x
unfolding sign
rational_sign d x e =
    sym (ap (λ (r : Ordering). sign_by_parts (int_cmp x.p (pos 0)) r (int_cmp (x.p *ℤ x.p) (pos d *ℤ (x.q *ℤ x.q)))) (ap (λ (z : ℤ). int_cmp z (pos 0)) e)
    ∙ by_rational_part (int_cmp x.p (pos 0)) (int_cmp (x.p *ℤ x.p) (pos d *ℤ (x.q *ℤ x.q))))
  where
    by_rational_part : (o squares : Ordering) → sign_by_parts o Equal squares ≡ o
    by_rational_part Less squares = refl
    by_rational_part Equal squares = refl
    by_rational_part Greater squares = refl
