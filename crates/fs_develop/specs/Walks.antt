-- What a walk along a straight path returns.
use Rattle.std.specs.Prelude.{◌≡◌, ℕ, ◌<◌, ◌↔◌, Bool, IsTrue, List, ◌∷◌, ◌++◌, length, Result, Ok, Err}
use Rattle.fs_quadratic.specs.Ring.{quadratic, IsPositive}
use Rattle.fs_plane.specs.declared.corners.Corner.{Corner}
use Rattle.fs_plane.specs.declared.sites.Site.{Site}
use Rattle.fs_plane.specs.declared.sites.Stop.{Stop}
use Rattle.fs_plane.specs.declared.sites.Stop.TheVariants as stops
use Rattle.fs_plane.specs.Vector.{PlaneVector}
use Rattle.fs_paths.specs.Segments.{IsSegment}
use Rattle.fs_paths.specs.Ends.{PathEnd, IsEnd, outside_sector, segment, corner_before_end, ends_inside, longer}
use Rattle.fs_gluing.specs.Surface.{GluedPolygons}
use Rattle.fs_gluing.specs.SurfaceSides.{polygon_sides}
use Rattle.fs_develop.specs.declared.walking.Walk.{Walk}
use Rattle.fs_develop.specs.declared.walking.Walk.TheVariants as walks
use Rattle.fs_develop.specs.Following.{LeadsTo}

-- the end of the path that a walk names
abbrev pub end_of : Walk → PathEnd Corner
end_of (walks.Segment word end) = segment word end
end_of (walks.Vertex word) = corner_before_end word
end_of (walks.Inside word) = ends_inside word
end_of (walks.LongWord word) = longer word
end_of walks.OutOfSector = outside_sector

-- the path from the corner c of the surface along v ends so, within n crossings
abbrev pub IsPathEnd : GluedPolygons → Corner → PlaneVector → ℕ → PathEnd Corner → Type 0
IsPathEnd s c v n end = IsEnd (quadratic s.d) (IsPositive s.d) (polygon_sides s.polygons) c v n end

-- v leads from the corner c of the surface across the sides of the word to the corner y, and meets no corner before
abbrev pub IsSurfaceSegment : GluedPolygons → Corner → List Corner → PlaneVector → Corner → Type 0
IsSurfaceSegment s c word v y = IsSegment (quadratic s.d) (IsPositive s.d) (polygon_sides s.polygons) c word v y

-- a path of so few crossings crosses one more within n
abbrev pub IsWithin : ℕ → List Corner → Corner → Type 0
IsWithin n word side = length word < n

-- the side is the next one of the given word
abbrev pub IsNextOf : List Corner → List Corner → Corner → Type 0
IsNextOf given word side = (rest : List Corner) × (given ≡ word ++ side ∷ rest)

-- the path is followed within n crossings to this end, or to the site of the first formula that overflows
abbrev pub WalksTo : GluedPolygons → Corner → PlaneVector → ℕ → Result (PathEnd Corner) Site → Type 0
WalksTo s c v n result = LeadsTo s.d (polygon_sides s.polygons) v (IsWithin n) c result

-- the path is followed along the given word
abbrev pub FollowsWord : GluedPolygons → Corner → PlaneVector → List Corner → Result (PathEnd Corner) Site → Type 0
FollowsWord s c v given result = LeadsTo s.d (polygon_sides s.polygons) v (IsNextOf given) c result

-- the only one with P
pub record IsOnly {X : Type 0} (P : X → Type 0) (x : X) : Type 0 where
  pub is : P x
  pub only : (y : X) → P y → y ≡ x

-- what is returned has P; out of memory is no result, and no budget is spent
abbrev pub ReturnsWalk : (Result (PathEnd Corner) Site → Type 0) → Result Walk Stop → Type 0
ReturnsWalk P (Ok walk) = P (Ok (end_of walk))
ReturnsWalk P (Err (stops.Overflow site)) = P (Err site)
ReturnsWalk P (Err (stops.Undecided steps)) = ⊥
ReturnsWalk P (Err stops.NoMemory) = Unit {0}

-- the end is a corner to which the given word leads
abbrev pub IsSegmentEnd : List Corner → PathEnd Corner → Type 0
IsSegmentEnd given end = (y : Corner) × (end ≡ segment given y)

-- what the check of a word returns is whether an end with P is a corner to which the word leads, or a site with P
abbrev pub ReturnsCheck : (Result (PathEnd Corner) Site → Type 0) → List Corner → Result Bool Site → Type 0
ReturnsCheck P given (Ok held) = (end : PathEnd Corner) × P (Ok end) × (IsTrue held ↔ IsSegmentEnd given end)
ReturnsCheck P given (Err site) = P (Err site)
