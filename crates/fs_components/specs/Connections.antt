-- The list of connections along a direction: the sides along it, and the connections that the induction finds.
use Rattle.std.specs.Prelude.{◌≡◌, ◌≢◌, ℕ, Result, Ok, Err, List, [], ◌∷◌, ◌++◌, length, map, IsSorted, IsPermutation}
use Rattle.std.specs.List.{AllByRecursion}
use Rattle.fs_ring.specs.Direction.{IsAlong}
use Rattle.fs_quadratic.specs.Ring.{quadratic, IsPositive}
use Rattle.fs_quadratic.specs.declared.steps.Place.{Place}
use Rattle.fs_plane.specs.declared.corners.Corner.{Corner}
use Rattle.fs_plane.specs.declared.listing.Listed.{Listed}
use Rattle.fs_plane.specs.declared.sites.Site.TheVariants.{Keep}
use Rattle.fs_plane.specs.declared.sites.Stop.{Stop}
use Rattle.fs_plane.specs.declared.sites.Stop.TheVariants.{Undecided, Overflow, NoMemory}
use Rattle.fs_plane.specs.Listing.{keep}
use Rattle.fs_plane.specs.ListedOrder.{listed_cmp}
use Rattle.fs_plane.specs.Vector.{PlaneVector, vector_zero}
use Rattle.fs_gluing.specs.Polygons.{all_sides}
use Rattle.fs_gluing.specs.Surface.{GluedPolygons}
use Rattle.fs_gluing.specs.SurfaceSides.{vector_of}
use Rattle.fs_gluing.specs.Exchanges.{Component}
use Rattle.fs_iet.specs.ExchangeSites.{GivesExchange}
use Rattle.fs_rauzy.specs.declared.events.Found.{Found}
use Rattle.fs_rauzy.specs.declared.parts.Run.{Run}
use Rattle.fs_rauzy.specs.Runs.{EndsRun}

-- the second list has those items of the first one of which P holds, in order
pub data ArePicked {X : Type 0} (P : X → Type 0) : List X → List X → Type 0 where
  none : ArePicked P [] []
  picks : (x : X) (xs ys : List X) → P x → ArePicked P xs ys → ArePicked P (x ∷ xs) (x ∷ ys)
  skips : (x : X) (xs ys : List X) → ¬ P x → ArePicked P xs ys → ArePicked P (x ∷ xs) ys

-- a side, as a connection from the corner where it begins
abbrev pub side_connection : GluedPolygons → Corner → Found
side_connection s e = record { start = e; v = vector_of s.polygons e }

-- the sides along the direction in order, and then what the induction found
pub record AreConnections (s : GluedPolygons) (v : PlaneVector) (found connections : List Found) : Type 0 where
  pub sides : List Corner
  pub along : ArePicked (λ e. IsAlong (quadratic s.d) (IsPositive s.d) v (vector_of s.polygons e)) (all_sides s.polygons) sides
  pub together : connections ≡ map (side_connection s) sides ++ found

-- a connection is kept as this entry
pub record IsEntryOf (d : ℕ) (connection : Found) (entry : Listed) : Type 0 where
  pub field : entry.field.d ≡ d
  pub vector : entry.v ≡ connection.v
  pub corner : entry.start ≡ connection.start

-- connections that can be kept: no part is too large, where the vector isn't 0
abbrev pub AreKeepable : List Found → Type 0
AreKeepable connections = AllByRecursion (λ connection. connection.v ≢ vector_zero → keep connection.v ≡ Ok connection.v) connections

-- these are the entries of the connections whose vectors aren't 0, in order
pub data AreEntriesOf (d : ℕ) : List Found → List Listed → Type 0 where
  no_entry : AreEntriesOf d [] []
  left_out : (connection : Found) (connections : List Found) (entries : List Listed) → connection.v ≡ vector_zero → AreEntriesOf d connections entries
      → AreEntriesOf d (connection ∷ connections) entries
  kept : (connection : Found) (connections : List Found) (entry : Listed) (entries : List Listed) → connection.v ≢ vector_zero → IsEntryOf d connection entry
      → AreEntriesOf d connections entries → AreEntriesOf d (connection ∷ connections) (entry ∷ entries)

-- how the list ends: ascending, or at the first part that is too large
pub data EndsConnections (s : GluedPolygons) (v : PlaneVector) (found : List Found) : Result (List Listed) Stop → Type 0 where
  keep_overflows : (connections before after : List Found) (connection : Found) (stop : Place) → AreConnections s v found connections → connections ≡ before ++ connection ∷ after
      → AreKeepable before → connection.v ≢ vector_zero → keep connection.v ≡ Err stop → EndsConnections s v found (Err (Overflow (Keep (length before) stop.0)))
  listed : (connections : List Found) (entries list : List Listed) → AreConnections s v found connections → AreKeepable connections → AreEntriesOf s.d connections entries
      → IsPermutation entries list → IsSorted listed_cmp list → EndsConnections s v found (Ok list)

-- what holds of the end of the list holds of what a call returns; where memory runs out it returns neither
abbrev pub ReturnsConnections : (Result (List Listed) Stop → Type 0) → Result (List Listed) Stop → Type 0
ReturnsConnections P (Ok list) = P (Ok list)
ReturnsConnections P (Err NoMemory) = Unit {0}
ReturnsConnections P (Err (Undecided n)) = ⊥
ReturnsConnections P (Err (Overflow site)) = P (Err (Overflow site))

-- the run is that of the exchange of the direction, within some budget
pub record IsRunOf (s : GluedPolygons) (v : PlaneVector) (run : Run) : Type 0 where
  pub exchange : Component
  pub given : GivesExchange s v (Ok exchange)
  pub budget : ℕ
  pub ended : EndsRun s.d budget (exchange ∷ []) (Ok run)
