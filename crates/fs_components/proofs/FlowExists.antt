-- The decomposition of a flow within a budget has an end.
use Rattle.std.proofs.Common.{◌≢◌, ℕ, Result, Ok, Err, List, [], ◌∷◌}
use Rattle.fs_plane.specs.declared.listing.Listed.{Listed}
use Rattle.fs_plane.specs.declared.sites.Site.{Site}
use Rattle.fs_plane.specs.declared.sites.Stop.{Stop}
use Rattle.fs_plane.specs.Vector.{PlaneVector, vector_zero}
use Rattle.fs_gluing.specs.Exchanges.{Component}
use Rattle.fs_gluing.specs.Surface.{GluedPolygons, IsSurface}
use Rattle.fs_iet.specs.ExchangeSites.{GivesExchange}
use Rattle.fs_iet.proofs.ExchangeExists.{exchange_end_exists}
use Rattle.fs_rauzy.specs.declared.parts.Run.{Run}
use Rattle.fs_rauzy.specs.Runs.{EndsRun}
use Rattle.fs_rauzy.proofs.RunExists.{run_exists}
use Rattle.fs_components.specs.declared.flow.Flow.{Flow}
use Rattle.fs_components.specs.declared.flow.Measured.{Measured}
use Rattle.fs_components.specs.Connections.{EndsConnections}
use Rattle.fs_components.specs.Flows.{EndsFlow, exchange_stops, run_stops, keep_stops, value_stops, decomposed}
use Rattle.fs_components.proofs.ConnectionsExist.{connections_end_exists}
use Rattle.fs_components.proofs.ExchangeStates.{given_state, given_sizes}
use Rattle.fs_components.proofs.MeasuresExist.{measure_all_exists}
use Rattle.fs_components.proofs.MeasuresUnique.{MeasureAll, all_measured, one_stops}

module _ (s : GluedPolygons) (surface : IsSurface s) (v : PlaneVector) (some : v ≢ vector_zero) (n : ℕ) (no_end : (end : Result Flow Stop) → ¬ EndsFlow s v n end) where
  module _ (c : Component) (given : GivesExchange s v (Ok c)) where
    module _ (run : Run) (ends : EndsRun s.d n (c ∷ []) (Ok run)) where
      -- not after the measures
      after_measures : (list : List Listed) → EndsConnections s v run.found (Ok list) → (r : Result (List Measured) Site) → MeasureAll s v run.parts r → ⊥
      after_measures list connected _ (all_measured parts are) = no_end _ (decomposed c run list parts given ends connected are)
      after_measures list connected _ (one_stops site stops) = no_end _ (value_stops c run list site given ends connected stops)

      -- not after the connections
      after_connections : (r : Result (List Listed) Stop) → EndsConnections s v run.found r → ⊥
      after_connections (Ok list) connected =
          let measures = measure_all_exists s v run.parts (given_sizes s surface v some c given n run ends).1 in
          after_measures list connected measures.0 measures.1
      after_connections (Err stop) stops = no_end _ (keep_stops c run stop given ends stops)

    -- not after the run
    after_run : (r : Result Run Stop) → EndsRun s.d n (c ∷ []) r → ⊥
    after_run (Ok run) ends = let connections = connections_end_exists s surface.radicand v run.found in after_connections run ends connections.0 connections.1
    after_run (Err stop) ends = no_end _ (run_stops c stop given ends)

  -- not after the exchange
  after_exchange : (r : Result Component Site) → GivesExchange s v r → ⊥
  after_exchange (Ok c) given = run_exists surface.radicand c (given_state s surface v some c given) n (λ r ends. after_run c given r ends)
  after_exchange (Err site) given = no_end _ (exchange_stops site given)

  by_exchange : ⊥
  by_exchange = let exchange = exchange_end_exists s surface v some in after_exchange exchange.0 exchange.1

-- the decomposition of a flow has an end
pub flow_exists : (s : GluedPolygons) → IsSurface s → (v : PlaneVector) → v ≢ vector_zero → (n : ℕ) → ((end : Result Flow Stop) → ¬ EndsFlow s v n end) → ⊥
flow_exists = by_exchange
