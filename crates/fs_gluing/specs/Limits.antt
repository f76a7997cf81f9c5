-- The limits of a surface and of the shape that it is built from.
use Rattle.std.specs.Prelude.{ℕ}

-- the most polygons of a surface
abbrev pub most_polygons : ℕ
most_polygons = 256

-- the most sides of a surface, those of all its polygons counted
abbrev pub most_sides : ℕ
most_sides = 1024

-- the most faces of a triangulation of a surface: a polygon of n sides has n - 2
abbrev pub most_faces : ℕ
most_faces = 1022
