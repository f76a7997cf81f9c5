-- Lists of polygons, each a list with an item for each of its sides.
use Rattle.std.specs.Prelude.{ℕ, ◌+◌, List, [], ◌∷◌, ◌++◌, Option, IsSome, length, map, option_and_then}
use Rattle.std.specs.List.{slice_get, range_with_len}
use Rattle.fs_plane.specs.declared.corners.Corner.{Corner}

-- the item of a side, where that side exists
abbrev pub at_side : {X : Type 0} → List (List X) → Corner → Option X
at_side polygons c = option_and_then (λ polygon. slice_get polygon c.side) (slice_get polygons c.polygon)

-- that side exists
abbrev pub HasSide : {X : Type 0} → List (List X) → Corner → Type 0
HasSide polygons c = IsSome (at_side polygons c)

-- the sides of the polygons, the first of which has the number i
abbrev pub sides_from : {X : Type 0} → ℕ → List (List X) → List Corner
sides_from i [] = []
sides_from i (polygon ∷ polygons) = map (λ j. record { polygon = i; side = j }) (range_with_len 0 (length polygon)) ++ sides_from (i + 1) polygons

-- all sides, by polygon, then by side
abbrev pub all_sides : {X : Type 0} → List (List X) → List Corner
all_sides polygons = sides_from 0 polygons
