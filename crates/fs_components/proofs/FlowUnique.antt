-- The decomposition of a flow ends in exactly one way.
use Rattle.std.proofs.Common.{◌≡◌, ◌≢◌, ℕ, Result, Ok, Err, List, [], ◌∷◌, refl, sym, ◌∙◌, subst}
use Rattle.fs_quadratic.proofs.Laws.{field_order}
use Rattle.fs_plane.specs.declared.listing.Listed.{Listed}
use Rattle.fs_plane.specs.declared.sites.Site.{Site}
use Rattle.fs_plane.specs.declared.sites.Stop.{Stop}
use Rattle.fs_plane.specs.declared.sites.Stop.TheVariants.{Undecided, Overflow, NoMemory}
use Rattle.fs_plane.specs.Vector.{PlaneVector, vector_zero}
use Rattle.fs_gluing.specs.Exchanges.{Component}
use Rattle.fs_gluing.specs.Surface.{GluedPolygons, IsSurface}
use Rattle.fs_iet.specs.ExchangeSites.{GivesExchange}
use Rattle.fs_iet.proofs.ExchangeUnique.{given_unique}
use Rattle.fs_rauzy.specs.declared.parts.Run.{Run}
use Rattle.fs_rauzy.specs.Runs.{EndsRun}
use Rattle.fs_rauzy.proofs.RunUnique.{end_unique}
use Rattle.fs_components.specs.declared.flow.Flow.{Flow}
use Rattle.fs_components.specs.declared.flow.Measured.{Measured}
use Rattle.fs_components.specs.Connections.{EndsConnections}
use Rattle.fs_components.specs.Flows.{EndsFlow, exchange_stops, run_stops, keep_stops, value_stops, decomposed, ReturnsFlow}
use Rattle.fs_components.proofs.ConnectionsUnique.{list_unique}
use Rattle.fs_components.proofs.ExchangeStates.{given_state}
use Rattle.fs_components.proofs.MeasuresUnique.{MeasureAll, all_measured, one_stops, all_unique}

module _ (s : GluedPolygons) (v : PlaneVector) (n : ℕ) where
  -- ---- stage after stage

  -- how it ends once all parts are measured, or one overflows
  abbrev AfterMeasures : Run → List Listed → Result (List Measured) Site → Result Flow Stop → Type 0
  AfterMeasures run list (Ok parts) end = end ≡ Ok (record { connections = list; parts = parts; steps = run.steps })
  AfterMeasures run list (Err site) end = end ≡ Err (Overflow site)

  -- once the connections are listed, or one can't be kept
  abbrev AfterList : Run → Result (List Listed) Stop → Result Flow Stop → Type 0
  AfterList run (Ok list) end = (m : Result (List Measured) Site) × MeasureAll s v run.parts m × AfterMeasures run list m end
  AfterList run (Err stop) end = end ≡ Err stop

  -- once the run has ended
  abbrev AfterRun : Result Run Stop → Result Flow Stop → Type 0
  AfterRun (Ok run) end = (l : Result (List Listed) Stop) × EndsConnections s v run.found l × AfterList run l end
  AfterRun (Err stop) end = end ≡ Err stop

  -- and once the exchange is found, or has a site
  abbrev AfterExchange : Result Component Site → Result Flow Stop → Type 0
  AfterExchange (Ok c) end = (r : Result Run Stop) × EndsRun s.d n (c ∷ []) r × AfterRun r end
  AfterExchange (Err site) end = end ≡ Err (Overflow site)

  record Staged (end : Result Flow Stop) : Type 0 where
    pub exchange : Result Component Site
    pub given : GivesExchange s v exchange
    pub after : AfterExchange exchange end

  staged : (end : Result Flow Stop) → EndsFlow s v n end → Staged end
  staged _ (exchange_stops site g) = record { exchange = Err site; given = g; after = refl }
  staged _ (run_stops c stop g r) = record { exchange = Ok c; given = g; after = (Err stop, r, refl) }
  staged _ (keep_stops c run stop g r l) = record { exchange = Ok c; given = g; after = (Ok run, r, (Err stop, l, refl)) }
  staged _ (value_stops c run list site g r l m) = record { exchange = Ok c; given = g; after = (Ok run, r, (Ok list, l, (Err site, one_stops site m, refl))) }
  staged _ (decomposed c run list parts g r l m) = record { exchange = Ok c; given = g; after = (Ok run, r, (Ok list, l, (Ok parts, all_measured parts m, refl))) }

  after_measures_unique : (run : Run) (list : List Listed) (m : Result (List Measured) Site) (a b : Result Flow Stop) → AfterMeasures run list m a → AfterMeasures run list m b → a ≡ b
  after_measures_unique run list (Ok parts) a b h k = h ∙ sym k
  after_measures_unique run list (Err site) a b h k = h ∙ sym k

  after_list_unique : (run : Run) (l : Result (List Listed) Stop) (a b : Result Flow Stop) → AfterList run l a → AfterList run l b → a ≡ b
  after_list_unique run (Ok list) a b h k =
      after_measures_unique run list h.0 a b h.2 (subst (λ m. AfterMeasures run list m b) (all_unique s v run.parts k.0 h.0 k.1 h.1) k.2)
  after_list_unique run (Err stop) a b h k = h ∙ sym k

  after_run_unique : (r : Result Run Stop) (a b : Result Flow Stop) → AfterRun r a → AfterRun r b → a ≡ b
  after_run_unique (Ok run) a b h k = after_list_unique run h.0 a b h.2 (subst (λ l. AfterList run l b) (list_unique s v run.found k.0 h.0 k.1 h.1) k.2)
  after_run_unique (Err stop) a b h k = h ∙ sym k

  module _ (surface : IsSurface s) (some : v ≢ vector_zero) where
    after_exchange_unique : (e : Result Component Site) → GivesExchange s v e → (a b : Result Flow Stop) → AfterExchange e a → AfterExchange e b → a ≡ b
    after_exchange_unique (Ok c) g a b h k =
        after_run_unique h.0 a b h.2
        (subst (λ r. AfterRun r b) (end_unique (field_order surface.radicand) n (c ∷ []) k.0 h.0 (given_state s surface v some c g) k.1 h.1) k.2)
    after_exchange_unique (Err site) g a b h k = h ∙ sym k

    -- a flow ends in one way
    pub flow_unique : (a b : Result Flow Stop) → EndsFlow s v n a → EndsFlow s v n b → a ≡ b
    flow_unique a b h k =
        let x = staged a h in
        let y = staged b k in
        after_exchange_unique x.exchange x.given a b x.after
        (subst (λ e. AfterExchange e b) (given_unique s surface.surface v some y.exchange x.exchange y.given x.given) y.after)

    -- what a call returns is the one end
    pub flow_returned : (result : Result Flow Stop) → ReturnsFlow (EndsFlow s v n) result → (given : Result Flow Stop) → EndsFlow s v n given → ReturnsFlow (λ returned. returned ≡ given) result
    flow_returned (Ok flow) h given ends = flow_unique (Ok flow) given h ends
    flow_returned (Err NoMemory) h given ends = tt
    flow_returned (Err (Undecided k)) h given ends = flow_unique (Err (Undecided k)) given h ends
    flow_returned (Err (Overflow site)) h given ends = flow_unique (Err (Overflow site)) given h ends
