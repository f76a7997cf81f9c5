-- The sides of polygons as a gluing by names, in which the name of a side is the corner where it begins.
use Rattle.std.specs.Prelude.{ℕ, Bool, List, Option, Some, None, is_some}
use Rattle.fs_quadratic.specs.Ring.{Quadratic, sign}
use Rattle.fs_plane.specs.declared.corners.Corner.{Corner}
use Rattle.fs_plane.specs.Vector.{vector_zero, PlaneVector, cross, dot, upper_by_signs}
use Rattle.fs_paths.specs.SideGluing.{SideGluing}
use Rattle.fs_gluing.specs.declared.surfaces.Side.{Side}
use Rattle.fs_gluing.specs.Polygons.{at_side}
use Rattle.fs_gluing.specs.NextCorner.{side_before, corner_after}

-- the partner of a side, or c where there is none
abbrev pub partner_or : Corner → Option Side → Corner
partner_or c None = c
partner_or c (Some side) = side.partner

-- the side that side c is glued to, or c where there is no such side
abbrev pub partner : List (List Side) → Corner → Corner
partner polygons c = partner_or c (at_side polygons c)

-- the vector of a side, or (0,0) where there is none
abbrev pub vector_or : Option Side → PlaneVector
vector_or None = vector_zero
vector_or (Some side) = side.vector

-- the vector of side c, or (0,0) where there is no such side
abbrev pub vector_of : List (List Side) → Corner → PlaneVector
vector_of polygons c = vector_or (at_side polygons c)

-- the sides of the polygons: which there are, the next one and the one before in the same polygon, the one that a side is glued to, and the vector of a side
abbrev pub polygon_sides : List (List Side) → SideGluing Corner Quadratic
polygon_sides polygons = record {
  has = λ c. is_some (at_side polygons c);
  next = corner_after polygons;
  prev = side_before polygons;
  twin = partner polygons;
  vector = vector_of polygons;
}

-- x is in the half plane of v: left of v, or along it
abbrev pub is_ahead : ℕ → PlaneVector → PlaneVector → Bool
is_ahead d v x = upper_by_signs (sign d (cross d v x)) (sign d (dot d v x))
