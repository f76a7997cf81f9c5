-- The positions of the corners of polygons.
use Rattle.std.specs.Prelude.{List, [], ◌∷◌, map}
use Rattle.fs_plane.specs.Vector.{vector_zero, vector_add, PlaneVector}

-- the positions at which these sides begin, where the first begins at the given one
abbrev pub positions_from : PlaneVector → List PlaneVector → List PlaneVector
positions_from at [] = []
positions_from at (side ∷ sides) = at ∷ positions_from (vector_add at side) sides

-- the positions of all corners, where corner 0 of each polygon is at (0,0)
abbrev pub all_positions : List (List PlaneVector) → List (List PlaneVector)
all_positions polygons = map (positions_from vector_zero) polygons
