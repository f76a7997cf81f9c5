-- How the list of connections ends, from what is gathered and kept.
use Rattle.std.proofs.Common.{◌≡◌, ℕ, Ok, Err, List, sym, subst}
use Rattle.std.specs.Prelude.{IsSorted, IsPermutation}
use Rattle.fs_plane.specs.declared.listing.Listed.{Listed}
use Rattle.fs_plane.specs.declared.sites.Stop.{Stop}
use Rattle.fs_plane.specs.declared.sites.Stop.TheVariants.{Undecided, Overflow, NoMemory}
use Rattle.fs_plane.specs.ListedOrder.{listed_cmp}
use Rattle.fs_plane.specs.Vector.{PlaneVector}
use Rattle.fs_gluing.specs.Surface.{GluedPolygons}
use Rattle.fs_rauzy.specs.declared.events.Found.{Found}
use Rattle.fs_components.specs.Connections.{AreConnections, AreEntriesOf, EndsConnections, keep_overflows, listed, ReturnsConnections}
use Rattle.fs_components.specs.Gathering.{AreKept, StopsKeeping}

-- the connections, by what was read
pub connections_read : (s : GluedPolygons) (v : PlaneVector) (read found items again : List Found) → read ≡ found → again ≡ items → AreConnections s v read items → AreConnections s v found again
connections_read s v read found items again is same are = subst (AreConnections s v found) (sym same) (subst (λ fs. AreConnections s v fs items) is are)

module _ (s : GluedPolygons) (v : PlaneVector) (found connections : List Found) (are : AreConnections s v found connections) where
  -- one can't be kept
  pub list_stopped : (stop : Stop) → StopsKeeping connections stop → ReturnsConnections (EndsConnections s v found) (Err stop)
  list_stopped NoMemory k = tt
  list_stopped (Undecided n) k = absurd k
  list_stopped (Overflow site) k =
      subst (λ x. EndsConnections s v found (Err (Overflow x))) (sym k.too_large.at)
      (keep_overflows connections k.before k.after k.connection k.too_large.stop are k.is k.keepable k.too_large.nonzero k.too_large.overflows)

  -- all are kept, and sorted
  pub list_ended : (d : ℕ) (entries after list : List Listed) → d ≡ s.d → AreKept d connections entries → IsPermutation entries after → IsSorted listed_cmp after → list ≡ after
      → EndsConnections s v found (Ok list)
  list_ended d entries after list field kept all ascending is =
      subst (λ (l : List Listed). EndsConnections s v found (Ok l)) (sym is)
      (listed connections entries after are kept.keepable (subst (λ n. AreEntriesOf n connections entries) field kept.entries) all ascending)
