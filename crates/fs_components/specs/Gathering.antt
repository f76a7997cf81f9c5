-- How connections are gathered and kept, and what the parts of a run are like. The contracts of public calls don't rest on this file.
use Rattle.std.specs.Prelude.{◌≡◌, ◌≢◌, ℕ, ◌≤◌, Ok, Err, List, [], ◌∷◌, ◌++◌, length, map}
use Rattle.fs_ring.specs.Direction.{IsAlong}
use Rattle.fs_quadratic.specs.Ring.{quadratic, IsPositive}
use Rattle.fs_quadratic.specs.declared.steps.Place.{Place}
use Rattle.fs_plane.specs.declared.corners.Corner.{Corner}
use Rattle.fs_plane.specs.declared.listing.Listed.{Listed}
use Rattle.fs_plane.specs.declared.sites.Site.{Site}
use Rattle.fs_plane.specs.declared.sites.Site.TheVariants.{Keep}
use Rattle.fs_plane.specs.declared.sites.Stop.{Stop}
use Rattle.fs_plane.specs.declared.sites.Stop.TheVariants.{Undecided, Overflow, NoMemory}
use Rattle.fs_plane.specs.Listing.{keep}
use Rattle.fs_plane.specs.Vector.{PlaneVector, vector_zero}
use Rattle.fs_gluing.specs.Surface.{GluedPolygons}
use Rattle.fs_gluing.specs.SurfaceSides.{vector_of}
use Rattle.fs_iet.specs.ExchangeValue.{most_letters}
use Rattle.fs_rauzy.specs.declared.events.Found.{Found}
use Rattle.fs_rauzy.specs.declared.parts.Kind.TheVariants.{Cylinder}
use Rattle.fs_rauzy.specs.declared.parts.Part.{Part}
use Rattle.fs_components.specs.Connections.{ArePicked, side_connection, IsEntryOf, AreKeepable, AreEntriesOf}
use Rattle.fs_components.specs.Flows.{StopsMeasuring}

-- those of these sides that are along the direction, as connections
pub record AreSidesAlong (s : GluedPolygons) (v : PlaneVector) (sides : List Corner) (connections : List Found) : Type 0 where
  pub picked : List Corner
  pub along : ArePicked (λ e. IsAlong (quadratic s.d) (IsPositive s.d) v (vector_of s.polygons e)) sides picked
  pub are : connections ≡ map (side_connection s) picked

-- all connections can be kept, as these entries
pub record AreKept (d : ℕ) (connections : List Found) (list : List Listed) : Type 0 where
  pub keepable : AreKeepable connections
  pub entries : AreEntriesOf d connections list

-- one connection more: these are the entries after it
pub data IsKeptAfter (d : ℕ) (connection : Found) (before : List Listed) : List Listed → Type 0 where
  is_zero : connection.v ≡ vector_zero → IsKeptAfter d connection before before
  is_kept : (entry : Listed) → connection.v ≢ vector_zero → keep connection.v ≡ Ok connection.v → IsEntryOf d connection entry
      → IsKeptAfter d connection before (before ++ entry ∷ [])

-- connection number n can't be kept
pub record IsTooLarge (connection : Found) (n : ℕ) (site : Site) : Type 0 where
  pub nonzero : connection.v ≢ vector_zero
  pub stop : Place
  pub overflows : keep connection.v ≡ Err stop
  pub at : site ≡ Keep n stop.0

-- why it isn't
abbrev pub StopsAtConnection : Found → ℕ → Stop → Type 0
StopsAtConnection connection n NoMemory = Unit {0}
StopsAtConnection connection n (Undecided k) = ⊥
StopsAtConnection connection n (Overflow site) = IsTooLarge connection n site

-- the first connection that can't be kept
pub record FirstUnkept (connections : List Found) (site : Site) : Type 0 where
  pub before : List Found
  pub connection : Found
  pub after : List Found
  pub is : connections ≡ before ++ connection ∷ after
  pub keepable : AreKeepable before
  pub too_large : IsTooLarge connection (length before) site

-- why not all connections are kept
abbrev pub StopsKeeping : List Found → Stop → Type 0
StopsKeeping connections NoMemory = Unit {0}
StopsKeeping connections (Undecided n) = ⊥
StopsKeeping connections (Overflow site) = FirstUnkept connections site

-- why not all parts are measured
abbrev pub StopsAtMeasure : GluedPolygons → PlaneVector → List Part → Stop → Type 0
StopsAtMeasure s v parts NoMemory = Unit {0}
StopsAtMeasure s v parts (Undecided n) = ⊥
StopsAtMeasure s v parts (Overflow site) = StopsMeasuring s v parts site

-- a part has at most as many letters as an exchange, and a cylinder has one
pub record IsShort (p : Part) : Type 0 where
  pub few : length p.letters ≤ most_letters
  pub one : p.kind ≡ Cylinder → length p.letters ≡ 1
