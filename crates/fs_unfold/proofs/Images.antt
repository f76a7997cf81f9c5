-- What a frame takes the sides of a polygon to: the vectors of a copy, before their order is turned.
use Rattle.std.specs.Prelude.{◌≡◌, ℕ, Bool, if◌then◌else◌, List, [], ◌∷◌, map, reverse}
use Rattle.fs_quadratic.specs.Ring.{Quadratic, neg, mul}
use Rattle.fs_plane.specs.Vector.{PlaneVector, vector_neg, dot, cross}

-- a frame takes v to this vector, over the frame's number
abbrev pub framed : ℕ → PlaneVector → Bool → PlaneVector → PlaneVector
framed d f turned v = record { x = dot d f v; y = if turned then neg (cross d f v) else cross d f v }

-- α times q is β times what the frame takes v to
abbrev pub IsImage : ℕ → PlaneVector → Bool → Quadratic → Quadratic → PlaneVector → PlaneVector → Type 0
IsImage d f turned α β v q = (mul d α q.x ≡ mul d β (framed d f turned v).x) × (mul d α q.y ≡ mul d β (framed d f turned v).y)

-- so it is for each of these vectors in order
abbrev pub AreImages : ℕ → PlaneVector → Bool → Quadratic → Quadratic → List PlaneVector → List PlaneVector → Type 0
AreImages d f turned α β [] [] = Unit {0}
AreImages d f turned α β [] (q ∷ qs) = ⊥
AreImages d f turned α β (v ∷ vs) [] = ⊥
AreImages d f turned α β (v ∷ vs) (q ∷ qs) = IsImage d f turned α β v q × AreImages d f turned α β vs qs

-- the sides of a copy with these images: in the opposite order, and opposite, where the orientation is turned
abbrev pub copied : Bool → List PlaneVector → List PlaneVector
copied turned qs = if turned then reverse (map vector_neg qs) else qs
