-- Translation surfaces: polygons with a gluing.
use Rattle.std.specs.Prelude.{◌≡◌, ◌≢◌, ℕ, ℤ, Bool, pos, ◌<◌, ◌≤◌, ◌<ℤ◌, List, Some, length, map, sum_by}
use Rattle.std.specs.List.{AllByRecursion}
use Rattle.fs_quadratic.specs.Radicand.{IsRadicand}
use Rattle.fs_plane.specs.declared.corners.Corner.{Corner}
use Rattle.fs_plane.specs.Vector.{vector_neg, IsAllowedCorner, PlaneVector}
use Rattle.fs_gluing.specs.Limits.{most_polygons, most_sides}
use Rattle.fs_gluing.specs.declared.surfaces.Side.{Side}
use Rattle.fs_gluing.specs.Convex.{IsClosed, HasTurningNumberOne, corners_of}
use Rattle.fs_gluing.specs.Polygons.{at_side}
use Rattle.fs_gluing.specs.Reached.{IsReached}

-- polygons, each the list of its sides, with the field's d, whether straight corners are allowed, and the denominator by which all vectors were multiplied
pub record GluedPolygons : Type 0 where
  pub d : ℕ
  pub straight : Bool
  pub den : ℤ
  pub polygons : List (List Side)

-- the vectors of a polygon's sides
abbrev pub side_vectors : List Side → List PlaneVector
side_vectors polygon = map (λ side. side.vector) polygon

-- a polygon: it has three sides or more, closes, is strictly convex at each corner, or also straight, where straight corners are allowed, and has turning number 1
pub record IsPolygon (straight : Bool) (d : ℕ) (polygon : List PlaneVector) : Type 0 where
  pub three : 3 ≤ length polygon
  pub closed : IsClosed polygon
  pub convex : AllByRecursion (λ corner. IsAllowedCorner straight d corner.before corner.after) (corners_of polygon)
  pub turning_number : HasTurningNumberOne d polygon

-- the side at c is glued to another side, which has the opposite vector and is glued to it
pub record IsGlued (polygons : List (List Side)) (c : Corner) (side : Side) : Type 0 where
  pub other : side.partner ≢ c
  pub back : at_side polygons side.partner ≡ Some (record { vector = vector_neg side.vector; partner = c })

-- some side of polygon i is glued to one of polygon j
pub record AreNeighbours (polygons : List (List Side)) (i j : ℕ) : Type 0 where
  pub corner : Corner
  pub side : Side
  pub there : at_side polygons corner ≡ Some side
  pub from : corner.polygon ≡ i
  pub to : side.partner.polygon ≡ j

-- a translation surface: polygons, each side of which is glued to exactly one other, and which are connected
pub record IsTranslationSurface (s : GluedPolygons) : Type 0 where
  pub radicand : IsRadicand s.d
  pub den : pos 0 <ℤ s.den
  pub some_polygon : 0 < length s.polygons
  pub each : AllByRecursion (λ polygon. IsPolygon s.straight s.d (side_vectors polygon)) s.polygons
  pub glued : (c : Corner) (side : Side) → at_side s.polygons c ≡ Some side → IsGlued s.polygons c side
  pub connected : (k : ℕ) → k < length s.polygons → IsReached (AreNeighbours s.polygons) k

-- a translation surface within the limits of the type `Surface`
pub record IsSurface (s : GluedPolygons) : Type 0 where
  pub surface : IsTranslationSurface s
  pub open surface use *
  pub polygons : length s.polygons ≤ most_polygons
  pub sides : sum_by length s.polygons ≤ most_sides
