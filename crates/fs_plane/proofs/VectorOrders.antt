-- The comparison of vectors says which is before the other. A library for crates to come.
use Rattle.std.proofs.Common.{◌≡◌, ◌≢◌, ◌↔◌, ℕ, subst}
use Rattle.std.specs.Ordering.{MatchOrdering}
use Rattle.std.specs.declared.cmp.Ordering.TheVariants.{Less}
use Rattle.fs_ring.proofs.VectorOrder.{IsVectorLess, by_direction, by_length, zero_last, zero_first}
use Rattle.fs_ring.proofs.VectorComparison.{less_of_vector_less}
use Rattle.fs_quadratic.specs.Radicand.{IsRadicand}
use Rattle.fs_quadratic.specs.Ring.{quadratic, IsPositive, sign, compare}
use Rattle.fs_quadratic.proofs.Laws.{field_order}
use Rattle.fs_quadratic.proofs.SquareRoot.{radicand_no_square}
use Rattle.fs_quadratic.proofs.Signs.{sign_ranks}
use Rattle.fs_plane.specs.Vector.{PlaneVector, vector_zero, upper_by_signs}
use Rattle.fs_plane.specs.Listing.{vector_cmp, IsVectorBefore}
use Rattle.fs_plane.specs.Listing as listing
use Rattle.fs_plane.specs.ListedLaws.{tests_upper, vector_ranks}

module _ {d : ℕ} (radicand : IsRadicand d) where
  abbrev VectorLess : PlaneVector → PlaneVector → Type 0
  VectorLess v w = IsVectorLess (quadratic d) (IsPositive d) v w

  before_of_less : {v w : PlaneVector} → v ≢ vector_zero → w ≢ vector_zero → VectorLess v w → IsVectorBefore d v w
  before_of_less m n (by_direction h) = listing.by_direction h
  before_of_less m n (by_length h l) = listing.by_length h l
  before_of_less m n (zero_last h e) = absurd (n e)
  before_of_less m n (zero_first e h) = absurd (m e)

  less_of_before : {v w : PlaneVector} → IsVectorBefore d v w → VectorLess v w
  less_of_before (listing.by_direction h) = by_direction h
  less_of_before (listing.by_length h l) = by_length h l

  -- of vectors that aren't (0, 0), the lesser is the one before
  pub vector_less_iff_before : (v w : PlaneVector) → v ≢ vector_zero → w ≢ vector_zero → vector_cmp d v w ≡ Less ↔ IsVectorBefore d v w
  unfolding compare
  vector_less_iff_before v w m n = (
    (λ e. before_of_less m n (subst (λ r. MatchOrdering r (VectorLess v w) (v ≡ w) (VectorLess w v)) e (vector_ranks radicand v w))),
    (λ h. less_of_vector_less (field_order radicand) (sign d) (sign_ranks (radicand_no_square radicand)) upper_by_signs tests_upper v w (less_of_before h)),
  )
