-- `flow` has one answer about a surface, and no other.
use Rattle.std.proofs.Common.{◌≡◌, ◌≢◌, ℕ, Bool, true, false, Result, Ok, Err, List, [], ◌∷◌, refl, sym, ap, ◌∙◌, subst}
use Rattle.std.specs.Prelude.{unsigned_abs}
use Rattle.fs_plane.specs.declared.sites.Stop.{Stop}
use Rattle.fs_plane.specs.declared.sites.Stop.TheVariants.{Undecided, Overflow, NoMemory}
use Rattle.fs_plane.specs.Vector.{PlaneVector, vector_zero}
use Rattle.fs_gluing.specs.Exchanges.{Component}
use Rattle.fs_gluing.specs.Surface.{GluedPolygons, IsSurface}
use Rattle.fs_rauzy.specs.declared.parts.Run.{Run}
use Rattle.fs_rauzy.specs.Runs as runs
use Rattle.fs_rauzy.specs.Runs.{EndsRun}
use Rattle.fs_plane.specs.declared.listing.Listed.{Listed}
use Rattle.fs_components.specs.Connections as connections
use Rattle.fs_components.specs.Connections.{EndsConnections}
use Rattle.fs_components.specs.declared.flow.Flow.{Flow}
use Rattle.fs_components.specs.FlowMeaning.{FlowMeans}
use Rattle.fs_components.specs.Flows.{EndsFlow, ReturnsFlow, exchange_stops, run_stops, keep_stops, value_stops, decomposed}
use Rattle.fs_components.proofs.FlowUnique.{flow_unique}
use Rattle.fs_components.proofs.FlowExists.{flow_exists}
use Rattle.fs_components.proofs.FlowMeans.{flow_means}
use Rattle.fs_report.specs.Text.{overflow_line}
use Rattle.fs_report.specs.FlowText.{AnswersFlow, whole, overflowed, undecided, IsFlowStopText, flow_words, flow_text, steps_line}

-- ---- how a decomposition ends

-- one with a spent budget took as many steps, and none ends because memory runs out
abbrev IsFlowEnd : ℕ → Result Flow Stop → Type 0
IsFlowEnd n (Ok flow) = Unit {0}
IsFlowEnd n (Err (Overflow site)) = Unit {0}
IsFlowEnd n (Err (Undecided m)) = m ≡ n
IsFlowEnd n (Err NoMemory) = ⊥

-- so it is of a run
abbrev IsRunStop : ℕ → Stop → Type 0
IsRunStop n (Overflow site) = Unit {0}
IsRunStop n (Undecided m) = m ≡ n
IsRunStop n NoMemory = ⊥

abbrev IsRunEnd : ℕ → Result Run Stop → Type 0
IsRunEnd n (Ok run) = Unit {0}
IsRunEnd n (Err stop) = IsRunStop n stop

-- and of a list of connections
abbrev IsListEnd : ℕ → Result (List Listed) Stop → Type 0
IsListEnd n (Ok list) = Unit {0}
IsListEnd n (Err stop) = IsRunStop n stop

flow_end_of : (n : ℕ) (stop : Stop) → IsRunStop n stop → IsFlowEnd n (Err stop)
flow_end_of n (Overflow site) is = tt
flow_end_of n (Undecided m) is = is
flow_end_of n NoMemory is = is

run_end_is : (d n : ℕ) (components : List Component) (end : Result Run Stop) → EndsRun d n components end → IsRunEnd n end
run_end_is d n components _ (runs.all_closed p leads closed few) = tt
run_end_is d n components _ (runs.budget_spent p outcome leads spent going next step) = refl
run_end_is d n components _ (runs.event_stops p stop leads few going stopped step) = tt
run_end_is d n components _ (runs.comparison_stops p outcome c saved stop leads few compares) = tt

module _ (s : GluedPolygons) (v : PlaneVector) (n : ℕ) where
  list_end_is : (run : Run) (end : Result (List Listed) Stop) → EndsConnections s v run.found end → IsListEnd n end
  list_end_is run _ (connections.keep_overflows all before after connection stop are is keepable some overflows) = tt
  list_end_is run _ (connections.listed all entries list are keepable entry permutes sorted) = tt

  flow_end_is : (end : Result Flow Stop) → EndsFlow s v n end → IsFlowEnd n end
  flow_end_is _ (exchange_stops site g) = tt
  flow_end_is _ (run_stops c stop g r) = flow_end_of n stop (run_end_is s.d n (c ∷ []) (Err stop) r)
  flow_end_is _ (keep_stops c run stop g r l) = flow_end_of n stop (list_end_is run (Err stop) l)
  flow_end_is _ (value_stops c run list site g r l m) = tt
  flow_end_is _ (decomposed c run list parts g r l m) = tt

-- ---- one answer

module _ (s : GluedPolygons) (budget : ℕ) (v : PlaneVector) where
  -- the text of an end
  abbrev end_text : Result Flow Stop → List ℕ
  end_text (Ok flow) = flow_text (unsigned_abs s.den) (flow_words v) flow
  end_text (Err (Overflow site)) = overflow_line (flow_words v) site
  end_text (Err (Undecided n)) = steps_line (flow_words v) n
  end_text (Err NoMemory) = []

  -- whether it is in place of the decomposition
  abbrev is_partial : Result Flow Stop → Bool
  is_partial (Ok flow) = false
  is_partial (Err stop) = true

  -- an answer, by its end
  record IsByEnd (text : List ℕ) (partial : Bool) : Type 0 where
    pub end : Result Flow Stop
    pub ends : EndsFlow s v budget end
    pub line : text ≡ end_text end
    pub kind : partial ≡ is_partial end

  by_end : (text : List ℕ) (partial : Bool) → AnswersFlow s budget v text partial → IsByEnd text partial
  by_end text partial (whole flow ends means line kind) = record { end = Ok flow; ends = ends; line = line; kind = kind }
  by_end text partial (overflowed site ends line kind) = record { end = Err (Overflow site); ends = ends; line = line; kind = kind }
  by_end text partial (undecided ends line kind) = record { end = Err (Undecided budget); ends = ends; line = line; kind = kind }

  module _ (surface : IsSurface s) (some : v ≢ vector_zero) where
    -- `flow` has one answer at most
    pub flow_answer_unique : (m n : List ℕ) (p q : Bool) → AnswersFlow s budget v m p → AnswersFlow s budget v n q → (m ≡ n) × (p ≡ q)
    flow_answer_unique m n p q a b =
        let x = by_end m p a in
        let y = by_end n q b in
        let same = flow_unique s v budget surface some x.end y.end x.ends y.ends in
        (x.line ∙ (ap end_text same ∙ sym y.line), x.kind ∙ (ap is_partial same ∙ sym y.kind))

    at_end : (end : Result Flow Stop) → EndsFlow s v budget end → (text : List ℕ) × (partial : Bool) × AnswersFlow s budget v text partial
    at_end (Ok flow) ends = (_, _, whole flow ends (flow_means s surface v some budget flow ends) refl refl)
    at_end (Err (Overflow site)) ends = (_, _, overflowed site ends refl refl)
    at_end (Err (Undecided n)) ends =
        let same : n ≡ budget = flow_end_is s v budget (Err (Undecided n)) ends in
        (_, _, undecided (subst (λ (k : ℕ). EndsFlow s v budget (Err (Undecided k))) same ends) refl refl)
    at_end (Err NoMemory) ends = absurd (flow_end_is s v budget (Err NoMemory) ends)

    -- `flow` has an answer
    pub flow_answer_exists : ((text : List ℕ) (partial : Bool) → ¬ AnswersFlow s budget v text partial) → ⊥
    flow_answer_exists none = flow_exists s surface v some budget (λ end ends. let answer = at_end end ends in none answer.0 answer.1 answer.2)

  -- ---- what is answered

  -- a decomposition
  pub answered_flow : (flow : Flow) (words text : List ℕ) (partial : Bool) → words ≡ flow_words v → ReturnsFlow (EndsFlow s v budget) (Ok flow) → FlowMeans s v flow.parts
      → text ≡ flow_text (unsigned_abs s.den) words flow → partial ≡ false → AnswersFlow s budget v text partial
  answered_flow flow words text partial same ends means line kind = whole flow ends means (line ∙ ap (λ (ws : List ℕ). flow_text (unsigned_abs s.den) ws flow) same) kind

  -- one that stops
  pub answered_at_flow_stop : (words text : List ℕ) (partial : Bool) (stop : Stop) → words ≡ flow_words v → ReturnsFlow (EndsFlow s v budget) (Err stop) → IsFlowStopText stop words text partial
      → AnswersFlow s budget v text partial
  answered_at_flow_stop words text partial (Overflow site) same ends is = overflowed site ends (is.0 ∙ ap (λ (ws : List ℕ). overflow_line ws site) same) is.1
  answered_at_flow_stop words text partial (Undecided n) same ends is =
      let spent : n ≡ budget = flow_end_is s v budget (Err (Undecided n)) ends in
      undecided (subst (λ (k : ℕ). EndsFlow s v budget (Err (Undecided k))) spent ends) (is.0 ∙ (λ i. steps_line (same i) (spent i))) is.1
  answered_at_flow_stop words text partial NoMemory same ends is = absurd is
