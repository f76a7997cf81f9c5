-- Vectors of the plane, by their exact parts.
use Rattle.std.specs.Prelude.{ℕ, List, [], ◌∷◌, Bool, true, false, ◌&&◌}
use Rattle.std.specs.Ordering.{is_gt, is_lt, int_eq}
use Rattle.std.specs.declared.cmp.Ordering.{Ordering}
use Rattle.std.specs.declared.cmp.Ordering.TheVariants.{Less, Equal, Greater}
use Rattle.fs_ring.specs.Vector as plane
use Rattle.fs_ring.specs.Vector.{Vector}
use Rattle.fs_ring.specs.Direction.{InSector, InHalfPlane}
use Rattle.fs_ring.specs.Circle.{IsInsideCircle}
use Rattle.fs_ring.specs.Discs as discs
use Rattle.fs_quadratic.specs.Ring.{Quadratic, quadratic, zero, one, add, neg, sign, IsPositive}
use Rattle.fs_quadratic.specs.Width.{IsSmall, IsTiny}

-- whether both parts of two numbers are equal
abbrev pub is_same_number : Quadratic → Quadratic → Bool
is_same_number a b = int_eq a.p b.p && int_eq a.q b.q

-- a vector with parts p + q·√d, as contracts see a `V2`
abbrev pub PlaneVector : Type 0
PlaneVector = Vector Quadratic

abbrev pub vector_zero : PlaneVector
vector_zero = record { x = zero; y = zero }

-- (1, 0)
abbrev pub east : PlaneVector
east = record { x = one; y = zero }

-- the sum, by parts
abbrev pub vector_add : PlaneVector → PlaneVector → PlaneVector
vector_add a b = record { x = add a.x b.x; y = add a.y b.y }

-- whether all parts of two vectors are equal
abbrev pub is_same_vector : PlaneVector → PlaneVector → Bool
is_same_vector a b = is_same_number a.x b.x && is_same_number a.y b.y

-- both parts are small
abbrev pub IsSmallVector : PlaneVector → Type 0
IsSmallVector a = IsSmall a.x × IsSmall a.y

-- both parts are tiny
abbrev pub IsTinyVector : PlaneVector → Type 0
IsTinyVector a = IsTiny a.x × IsTiny a.y

-- the opposite vector
abbrev pub vector_neg : PlaneVector → PlaneVector
vector_neg a = record { x = neg a.x; y = neg a.y }

-- the sum of a list of vectors, from the left
abbrev pub vector_total_from : PlaneVector → List PlaneVector → PlaneVector
vector_total_from a [] = a
vector_total_from a (b ∷ bs) = vector_total_from (vector_add a b) bs

-- the sum of a list of vectors
abbrev pub vector_total : List PlaneVector → PlaneVector
vector_total vectors = vector_total_from vector_zero vectors

-- the cross product: positive where b is to the left of a
abbrev pub cross : ℕ → PlaneVector → PlaneVector → Quadratic
cross d a b = plane.cross (quadratic d) a b

-- the dot product
abbrev pub dot : ℕ → PlaneVector → PlaneVector → Quadratic
dot d a b = plane.dot (quadratic d) a b

-- v is in the sector of a corner, which runs counterclockwise from the side that begins there, included, to the opposite of the side that ends there, excluded
abbrev pub IsInSector : ℕ → PlaneVector → PlaneVector → PlaneVector → Type 0
IsInSector d outgoing incoming v = InSector (quadratic d) (IsPositive d) outgoing (vector_neg incoming) v

-- a corner at which a polygon's boundary comes along a and leaves along b is strictly convex: its angle is less than π
abbrev pub IsStrictlyConvex : ℕ → PlaneVector → PlaneVector → Type 0
IsStrictlyConvex d a b = IsPositive d (cross d a b)

-- it doesn't bend right: it is strictly convex, or straight, where b is along a and its angle is π
abbrev pub BendsNoRight : ℕ → PlaneVector → PlaneVector → Type 0
BendsNoRight d a b = InHalfPlane (quadratic d) (IsPositive d) a b

-- a polygon may have such a corner, by whether straight corners are allowed
abbrev pub IsAllowedCorner : Bool → ℕ → PlaneVector → PlaneVector → Type 0
IsAllowedCorner true d a b = BendsNoRight d a b
IsAllowedCorner false d a b = IsStrictlyConvex d a b

-- the squared length
abbrev pub norm : ℕ → PlaneVector → Quadratic
norm d a = plane.norm (quadratic d) a

-- the circle value of an edge between two counterclockwise triangles, which go on with the sides a, b and c, g
abbrev pub circle : ℕ → PlaneVector → PlaneVector → PlaneVector → PlaneVector → Quadratic
circle d a b c g = plane.circle (quadratic d) a b c g

-- a triangle has its first vertex at (0,0), and from its second on the sides a and b; c leads from its first vertex to a point strictly inside the circle through all three
abbrev pub IsInsideFaceCircle : ℕ → PlaneVector → PlaneVector → PlaneVector → Type 0
IsInsideFaceCircle d a b c = IsInsideCircle (quadratic d) (IsPositive d) vector_zero (vector_neg (vector_add a b)) (vector_neg b) c

-- the upper half by the signs of y and x: y > 0, or y = 0 and x > 0
abbrev pub upper_by_signs : Ordering → Ordering → Bool
upper_by_signs Greater x = true
upper_by_signs Equal x = is_gt x
upper_by_signs Less x = false

-- some point of the segment from p to q, both ends included, is at most so far from (0,0), by the squared distance
abbrev pub ComesWithin : ℕ → PlaneVector → PlaneVector → Quadratic → Type 0
ComesWithin d p q bound = discs.ComesWithin (quadratic d) (IsPositive d) p q bound

-- the vector points into the upper half
abbrev pub is_upper : ℕ → PlaneVector → Bool
is_upper d v = upper_by_signs (sign d v.y) (sign d v.x)

-- the other half, to which (-1,0) belongs and not (1,0): y > 0, or y = 0 and x < 0
abbrev pub raised_by_signs : Ordering → Ordering → Bool
raised_by_signs Greater x = true
raised_by_signs Equal x = is_lt x
raised_by_signs Less x = false

-- the vector is raised: it points above the line of (1,0), or along (-1,0)
abbrev pub is_raised : ℕ → PlaneVector → Bool
is_raised d v = raised_by_signs (sign d v.y) (sign d v.x)
