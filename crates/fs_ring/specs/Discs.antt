-- Segments that come within a bound of (0, 0).
use Rattle.fs_ring.specs.Operations.{Operations, square}
use Rattle.fs_ring.specs.OrderedRing.{IsAtMost, IsNonNegative}
use Rattle.fs_ring.specs.Vector.{Vector, add_vector, sub_vector, scale, norm}

module _ {A : Type 0} (R : Operations A) (IsPositive : A → Type 0) where
  -- some point of the segment from p to q, both ends included, lies in the closed disc about (0, 0) of that squared radius: the point that is part/whole of the way from p to q, as a quotient, since a ring has none
  pub record ComesWithin (p q : Vector A) (squared_radius : A) : Type 0 where
    pub whole : A
    pub part : A
    pub whole_positive : IsPositive whole
    pub part_from_zero : IsNonNegative R IsPositive part
    pub part_to_whole : IsAtMost R IsPositive part whole
    pub within : IsAtMost R IsPositive (norm R (add_vector R (scale R whole p) (scale R part (sub_vector R q p)))) (R.mul (square R whole) squared_radius)
