-- Circles through three points over an ordered ring, by their centres.
use Rattle.std.specs.Prelude.{◌≡◌}
use Rattle.fs_ring.specs.Operations.{Operations}
use Rattle.fs_ring.specs.OrderedRing.{IsLess}
use Rattle.fs_ring.specs.Vector.{Vector, sub_vector, scale, norm}

-- a point of the plane as a quotient, since a ring has none: the vector `multiple` over `weight`
pub record QuotientPoint (A : Type 0) : Type 0 where
  pub weight : A
  pub multiple : Vector A

module _ {A : Type 0} (R : Operations A) (IsPositive : A → Type 0) where
  -- the squared distance of p from such a point, times the square of its weight
  abbrev pub distance : QuotientPoint A → Vector A → A
  distance m p = norm R (sub_vector R (scale R m.weight p) m.multiple)

  -- m is the centre of a circle through p, q and r: a point as far from each
  pub record IsCentre (p q r : Vector A) (m : QuotientPoint A) : Type 0 where
    pub weight_positive : IsPositive m.weight
    pub as_far_second : distance m q ≡ distance m p
    pub as_far_third : distance m r ≡ distance m p

  -- s is strictly inside the circle through p, q and r: nearer to its centre than they are
  abbrev pub IsInsideCircle : Vector A → Vector A → Vector A → Vector A → Type 0
  IsInsideCircle p q r s = (m : QuotientPoint A) × IsCentre p q r m × IsLess R IsPositive (distance m s) (distance m p)
