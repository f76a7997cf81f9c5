-- How the decomposition of a flow ends, stage after stage.
use Rattle.std.proofs.Common.{◌≡◌, ℕ, Result, Ok, Err, List, [], ◌∷◌, ◌∙◌, subst}
use Rattle.fs_plane.specs.declared.listing.Listed.{Listed}
use Rattle.fs_plane.specs.declared.sites.Stop.{Stop}
use Rattle.fs_plane.specs.declared.sites.Stop.TheVariants.{Undecided, Overflow, NoMemory}
use Rattle.fs_plane.specs.Vector.{PlaneVector}
use Rattle.fs_gluing.specs.Exchanges.{Component}
use Rattle.fs_gluing.specs.Surface.{GluedPolygons}
use Rattle.fs_iet.specs.ExchangeSites.{GivesExchange}
use Rattle.fs_iet.specs.ExchangeValue.{ReturnsExchange}
use Rattle.fs_rauzy.specs.declared.parts.Logged.{Logged}
use Rattle.fs_rauzy.specs.declared.parts.Parts.{Parts}
use Rattle.fs_rauzy.specs.declared.parts.Run.{Run}
use Rattle.fs_rauzy.specs.Runs.{EndsRun, EndsParts, ReturnsParts}
use Rattle.fs_components.specs.declared.flow.Measured.{Measured}
use Rattle.fs_components.specs.Connections.{EndsConnections, ReturnsConnections, IsRunOf}
use Rattle.fs_components.specs.Flows.{EndsFlow, exchange_stops, run_stops, keep_stops, value_stops, decomposed, ReturnsFlow, AreMeasured}
use Rattle.fs_components.specs.Gathering.{StopsAtMeasure}

-- the run of a state is that of its exchange
pub run_read : (d : ℕ) (components : List Component) (s_d n : ℕ) (c : Component) (x_d : ℕ) (r : Result Parts Stop) → d ≡ x_d → x_d ≡ s_d → components ≡ c ∷ [] → ReturnsParts (EndsParts d n components) r
    → ReturnsParts (EndsParts s_d n (c ∷ [])) r
run_read d components s_d n c x_d r field same is h = subst (λ cs. ReturnsParts (EndsParts s_d n cs) r) is (subst (λ k. ReturnsParts (EndsParts k n components) r) (field ∙ same) h)

-- the run of these parts with its events
abbrev pub run_with : Parts → List Logged → Run
run_with parts events = record { events = events; parts = parts.parts; found = parts.found; steps = parts.steps }

module _ (s : GluedPolygons) (v : PlaneVector) (n : ℕ) where
  abbrev Returns : Stop → Type 0
  Returns stop = ReturnsFlow (EndsFlow s v n) (Err stop)

  -- the exchange has a site
  pub exchange_ended : (stop : Stop) → ReturnsExchange (GivesExchange s v) (Err stop) → Returns stop
  exchange_ended NoMemory h = tt
  exchange_ended (Undecided k) h = absurd h
  exchange_ended (Overflow site) h = exchange_stops site h

  module _ (c : Component) (given : GivesExchange s v (Ok c)) where
    -- the run stops
    pub run_ended : (stop : Stop) → ReturnsParts (EndsParts s.d n (c ∷ [])) (Err stop) → Returns stop
    run_ended NoMemory h = tt
    run_ended (Undecided k) h = run_stops c (Undecided k) given h
    run_ended (Overflow site) h = run_stops c (Overflow site) given h

    module _ (run : Run) (ends : EndsRun s.d n (c ∷ []) (Ok run)) where
      -- the run is that of the exchange
      pub is_run : IsRunOf s v run
      is_run = record { exchange = c; given = given; budget = n; ended = ends }

      -- a connection can't be kept
      pub connections_ended : (stop : Stop) → ReturnsConnections (EndsConnections s v run.found) (Err stop) → Returns stop
      connections_ended NoMemory h = tt
      connections_ended (Undecided k) h = absurd h
      connections_ended (Overflow site) h = keep_stops c run (Overflow site) given ends h

      module _ (list : List Listed) (listed : EndsConnections s v run.found (Ok list)) where
        -- the measures of a part overflow
        pub parts_ended : (stop : Stop) → StopsAtMeasure s v run.parts stop → Returns stop
        parts_ended NoMemory h = tt
        parts_ended (Undecided k) h = absurd h
        parts_ended (Overflow site) h = value_stops c run list site given ends listed h

        -- all are measured
        pub flow_ended : (parts : List Measured) → AreMeasured s v run.parts parts → EndsFlow s v n (Ok (record { connections = list; parts = parts; steps = run.steps }))
        flow_ended parts h = decomposed c run list parts given ends listed h
