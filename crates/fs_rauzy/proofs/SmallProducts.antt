-- Products of small numbers are within the width.
use Rattle.std.proofs.Common.{◌≡◌, ℕ, ◌≤◌, Ok, sym, ap, ◌∙◌}
use Rattle.fs_quadratic.specs.Checked.{checked_product}
use Rattle.fs_quadratic.specs.Ring.{Quadratic, mul}
use Rattle.fs_quadratic.specs.Width.{IsSmall, is_fitting_mul}
use Rattle.fs_quadratic.proofs.Small.{small_fits}
use Rattle.fs_quadratic.proofs.StepChains.{step_fits}
use Rattle.fs_quadratic.proofs.WidthTests.{Decides-is_fitting_mul}

-- the product of two small numbers
pub small_product : (d n : ℕ) (x y product : Quadratic) → d ≤ 999 → IsSmall x → IsSmall y → product ≡ mul d x y → Ok product ≡ checked_product d n x y
small_product d n x y product few s t is =
    ap (λ z. Ok z) is ∙ sym (step_fits n (is_fitting_mul d x y) (mul d x y) (Decides-is_fitting_mul d x y) (small_fits d x y few s t))
