-- Vectors of the plane over any ring, and the numbers that are computed from them.
use Rattle.fs_ring.specs.Operations.{Operations, sub}

-- a vector by its two coordinates
pub record Vector (A : Type 0) : Type 0 where
  pub x : A
  pub y : A

module _ {A : Type 0} (R : Operations A) where
  -- (0, 0)
  abbrev pub zero_vector : Vector A
  zero_vector = record { x = R.zero; y = R.zero }

  -- (1, 0)
  abbrev pub unit_vector : Vector A
  unit_vector = record { x = R.one; y = R.zero }

  -- a + b
  abbrev pub add_vector : Vector A → Vector A → Vector A
  add_vector a b = record { x = R.add a.x b.x; y = R.add a.y b.y }

  -- a - b
  abbrev pub sub_vector : Vector A → Vector A → Vector A
  sub_vector a b = record { x = sub R a.x b.x; y = sub R a.y b.y }

  -- the opposite vector
  abbrev pub neg_vector : Vector A → Vector A
  neg_vector a = record { x = R.neg a.x; y = R.neg a.y }

  -- k·a
  abbrev pub scale : A → Vector A → Vector A
  scale k a = record { x = R.mul k a.x; y = R.mul k a.y }

  -- the cross product: positive where b is to the left of a
  abbrev pub cross : Vector A → Vector A → A
  cross a b = sub R (R.mul a.x b.y) (R.mul a.y b.x)

  -- the dot product
  abbrev pub dot : Vector A → Vector A → A
  dot a b = R.add (R.mul a.x b.x) (R.mul a.y b.y)

  -- the squared length
  abbrev pub norm : Vector A → A
  norm a = dot a a

  -- twice the signed area of the triangle of three points
  abbrev pub twice_area : Vector A → Vector A → Vector A → A
  twice_area a b c = cross (sub_vector b a) (sub_vector c a)

  -- the circle value of an edge of two counterclockwise triangles, which go on with the sides a, b and c, g:
  -- positive where the fourth point is strictly inside the circle of the other three
  abbrev pub circle : Vector A → Vector A → Vector A → Vector A → A
  circle a b c g = R.add (R.mul (cross a b) (dot c g)) (R.mul (cross c g) (dot a b))
