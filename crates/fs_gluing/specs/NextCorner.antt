-- The next corner round a vertex.
use Rattle.std.specs.Prelude.{◌≡◌, ℕ, ◌+◌, ◌-◌, List, Option, Some, None, length, if◌then◌else◌, ◌==◌}
use Rattle.std.specs.List.{slice_get}
use Rattle.fs_plane.specs.declared.corners.Corner.{Corner}
use Rattle.fs_gluing.specs.declared.surfaces.Side.{Side}
use Rattle.fs_gluing.specs.Polygons.{at_side}

-- the length of a polygon, or 0 where there is none
abbrev pub length_or_0 : {X : Type 0} → Option (List X) → ℕ
length_or_0 None = 0
length_or_0 (Some polygon) = length polygon

-- how many sides polygon i has; 0 where it doesn't exist
abbrev pub side_count : {X : Type 0} → List (List X) → ℕ → ℕ
side_count polygons i = length_or_0 (slice_get polygons i)

-- the side that ends where side c begins
abbrev pub side_before : {X : Type 0} → List (List X) → Corner → Corner
side_before polygons c = record { polygon = c.polygon; side = if c.side == 0 then side_count polygons c.polygon - 1 else c.side - 1 }

-- the corner where side c ends
abbrev pub corner_after : {X : Type 0} → List (List X) → Corner → Corner
corner_after polygons c = record { polygon = c.polygon; side = if c.side + 1 == side_count polygons c.polygon then 0 else c.side + 1 }

-- e is the next corner counterclockwise round the vertex of c: the start of the side that the side before c is glued to
pub record IsNextCorner (polygons : List (List Side)) (c e : Corner) : Type 0 where
  pub side : Side
  pub there : at_side polygons (side_before polygons c) ≡ Some side
  pub is : side.partner ≡ e

-- gluing identifies both corners: a side ends at c whose partner begins at e
pub record AreOnePoint (polygons : List (List Side)) (c e : Corner) : Type 0 where
  pub corner : Corner
  pub side : Side
  pub there : at_side polygons corner ≡ Some side
  pub ends : corner_after polygons corner ≡ c
  pub begins : side.partner ≡ e
