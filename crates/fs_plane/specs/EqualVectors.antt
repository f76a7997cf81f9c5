-- The tests for equal numbers and equal vectors decide. A reader of contracts needn't read this.
use Rattle.std.proofs.Common.{◌≡◌, ap, ◌∙◌}
use Rattle.std.specs.Bool.{Decides}
use Rattle.std.proofs.lemmas.Bool.Decides.{Decides-int_eq, Decides-and, Decides-like}
use Rattle.fs_quadratic.specs.Ring.{Quadratic}
use Rattle.fs_plane.specs.Vector.{PlaneVector, is_same_number, is_same_vector}

-- the test of two numbers is true where they are equal
pub Decides-is_same_number : (a b : Quadratic) → Decides (is_same_number a b) (a ≡ b)
Decides-is_same_number a b = Decides-like _
    (λ e. ap (λ p. record { p = p; q = a.q }) e.0 ∙ ap (λ q. record { p = b.p; q = q }) e.1)
    (λ e. (ap (λ (x : Quadratic). x.p) e, ap (λ (x : Quadratic). x.q) e))
    (Decides-and _ _ (Decides-int_eq a.p b.p) (Decides-int_eq a.q b.q))

-- so is that of two vectors
pub Decides-is_same_vector : (a b : PlaneVector) → Decides (is_same_vector a b) (a ≡ b)
Decides-is_same_vector a b = Decides-like _
    (λ e. ap (λ x. record { x = x; y = a.y }) e.0 ∙ ap (λ y. record { x = b.x; y = y }) e.1)
    (λ e. (ap (λ (v : PlaneVector). v.x) e, ap (λ (v : PlaneVector). v.y) e))
    (Decides-and _ _ (Decides-is_same_number a.x b.x) (Decides-is_same_number a.y b.y))
