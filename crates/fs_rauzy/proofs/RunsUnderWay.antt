-- A run under way: the loop's invariant, and how the run ends.
use Rattle.std.proofs.Common.{◌≡◌, ◌↔◌, ℕ, ◌+◌, ◌-◌, ◌<◌, ◌≤◌, Bool, true, false, IsTrue, Result, Ok, Err, List, [], ◌∷◌, ◌++◌, refl, sym, ap, ◌∙◌, subst, arith}
use Rattle.std.proofs.lemmas.List.{append-nil}
use Rattle.fs_quadratic.specs.Radicand.{IsRadicand}
use Rattle.fs_quadratic.proofs.Laws.{field_order}
use Rattle.fs_plane.specs.declared.sites.Stop.{Stop}
use Rattle.fs_plane.specs.declared.sites.Stop.TheVariants.{Undecided, Overflow, NoMemory}
use Rattle.fs_gluing.specs.Exchanges.{Component}
use Rattle.fs_rauzy.specs.declared.parts.Logged.{Logged}
use Rattle.fs_rauzy.specs.declared.parts.Parts.{Parts}
use Rattle.fs_rauzy.specs.declared.parts.Run.{Run}
use Rattle.fs_rauzy.specs.Measures.{weight}
use Rattle.fs_rauzy.specs.Runs as runs
use Rattle.fs_rauzy.specs.Runs.{start_of, event_number, Goes, Leads, EndsRun, ReturnsRun, without_events, EndsParts, ReturnsParts, ArePartsAscending}
use Rattle.fs_rauzy.specs.RunsInPlace.{ProgressValue, Counts, all_closed, StopsRun, StopsFrom, CanGo}
use Rattle.fs_rauzy.specs.States.{StateValue, IsState}
use Rattle.fs_rauzy.specs.Steps.{IsOpen}
use Rattle.fs_rauzy.proofs.AscendingBases.{run_ascending}
use Rattle.fs_rauzy.proofs.EarlierEvents.{with_earlier, goes_with_earlier}
use Rattle.fs_rauzy.proofs.NumberedEvents.{event_number-joined}
use Rattle.fs_rauzy.proofs.RunBounds.{run_can_go, goes_smaller}
use Rattle.fs_rauzy.proofs.RunUnique.{ends_run, led_state, returned_unique}

-- after these earlier events, the run leads there from its start, within the budget
pub record IsUnderWay (start : StateValue) (n : ℕ) (earlier : List Logged) (v : ProgressValue) : Type 0 where
  pub field : v.d ≡ start.d
  pub leads : Leads start.d (start_of start.components) (with_earlier earlier v.point)
  pub within : v.point.steps ≤ n
  pub counted : event_number earlier + event_number v.point.events ≡ v.numbered

pub run_starts : (start : StateValue) (n : ℕ) (v : ProgressValue) → v ≡ record { d = start.d; numbered = 0; point = start_of start.components } → IsUnderWay start n [] v
run_starts start n v is = subst (IsUnderWay start n []) (sym is) (record { field = refl; leads = runs.no_event; within = omega arith; counted = refl })

open_of_some : (components : List Component) → (components ≡ [] → ⊥) → IsOpen components
open_of_some [] h = h refl
open_of_some (c ∷ rest) h = tt

module _ (x now : ProgressValue) (same : x ≡ now) where
  as_now : x.point.components ≡ now.point.components
  as_now = ap (λ (v : ProgressValue). v.point.components) same

  -- some component is open where a test says that it isn't so that none is
  pub open_here : (done : Bool) → done ≡ false → IsTrue done ↔ (x.point.components ≡ []) → IsOpen now.point.components
  open_here done is h = open_of_some now.point.components (λ e. let t = h.1 (as_now ∙ e) in absurd (not_true done is t))
    where
      not_true : (b : Bool) → b ≡ false → IsTrue b → ⊥
      not_true true e t = absurd cc
      not_true false e t = absurd cc

  -- and none is where it says so
  pub done_here : (done : Bool) → done ≡ true → IsTrue done ↔ (x.point.components ≡ []) → now.point.components ≡ []
  done_here done is h = sym as_now ∙ h.0 (is_true done is)
    where
      is_true : (b : Bool) → b ≡ true → IsTrue b
      is_true b e = e

-- the events so far become earlier ones
pub events_forgotten : (start : StateValue) (n : ℕ) (earlier : List Logged) (v w : ProgressValue) → w ≡ record v { point = record v.point { events = [] } } → IsUnderWay start n earlier v
    → IsUnderWay start n (earlier ++ v.point.events) w
events_forgotten start n earlier v w is u =
    let joined = event_number-joined earlier v.point.events in
    let counted = u.counted in
    let same : earlier ++ v.point.events ≡ (earlier ++ v.point.events) ++ [] = sym (append-nil (earlier ++ v.point.events)) in
    subst (IsUnderWay start n (earlier ++ v.point.events)) (sym is) (record {
      field = u.field;
      leads = subst (λ (es : List Logged). Leads start.d (start_of start.components) (record v.point { events = es })) same u.leads;
      within = u.within;
      counted = omega arith;
    })

module _ (start : StateValue) (n : ℕ) (radicand : IsRadicand start.d) (state : IsState start) (earlier : List Logged) (v : ProgressValue) (u : IsUnderWay start n earlier v) where
  -- it can go on where a component is open
  pub under_way_can_go : IsOpen v.point.components → CanGo v.d n v.numbered v.point
  under_way_can_go some =
      let can = run_can_go radicand start.components state n (with_earlier earlier v.point) u.leads some u.within in
      let joined = event_number-joined earlier v.point.events in
      let counted = u.counted in
      let few = can.few in
      subst (λ d. CanGo d n v.numbered v.point) (sym u.field) (record {
        radicand = can.radicand;
        state = can.state;
        is_open = can.is_open;
        saved = can.saved;
        within = can.within;
        numbered = can.numbered;
        few = omega arith;
      })

  module _ (w : ProgressValue) (goes : Goes v.d v.point w.point) (within : w.point.steps ≤ n) where
    goes_there : Goes start.d v.point w.point
    goes_there = subst (λ d. Goes d v.point w.point) u.field goes

    pub goes_on : w.d ≡ v.d → Counts v w → IsUnderWay start n earlier w
    goes_on field counts =
        let counted = u.counted in
        record {
          field = field ∙ u.field;
          leads = runs.event (with_earlier earlier v.point) (with_earlier earlier w.point) u.leads (goes_with_earlier start.d earlier v.point w.point goes_there);
          within = within;
          counted = omega arith;
        }

    pub is_smaller : (n - w.point.steps) + weight w.point.components < (n - v.point.steps) + weight v.point.components
    is_smaller =
        let L = field_order radicand in
        goes_smaller L 0 v.point w.point (led_state L start.components (with_earlier earlier v.point) state u.leads) n goes_there within

  -- where it stops, it ends
  stop_ends : (stop : Stop) → StopsRun start.d n (with_earlier earlier v.point) stop → ReturnsRun (EndsRun start.d n start.components) (Err stop)
  stop_ends NoMemory h = tt
  stop_ends (Undecided m) h = ends_run start.d n start.components (with_earlier earlier v.point) (Err (Undecided m)) u.leads h
  stop_ends (Overflow site) h = ends_run start.d n start.components (with_earlier earlier v.point) (Err (Overflow site)) u.leads h

  pub stop_returned : (stop : Stop) → StopsFrom v.d n v.numbered v.point stop → ReturnsRun (EndsRun start.d n start.components) (Err stop)
  stop_returned stop h =
      stop_ends stop (subst (λ d. StopsRun d n (with_earlier earlier v.point) stop) u.field (h (earlier ++ v.point.events) (event_number-joined earlier v.point.events ∙ u.counted)))

  -- where no component is open it ends with the run so far
  module _ (done : v.point.components ≡ []) where
    run_ends : EndsRun start.d n start.components (Ok (record { events = earlier ++ v.point.events; parts = v.point.parts; found = v.point.found; steps = v.point.steps }))
    run_ends = ends_run start.d n start.components (with_earlier earlier v.point) _ u.leads (all_closed done u.within)

    parts_ascend : ArePartsAscending start.d v.point.parts
    parts_ascend = run_ascending (field_order radicand) start.components state (with_earlier earlier v.point) u.leads

    pub parts_returned : (result : Parts) → result ≡ record { parts = v.point.parts; found = v.point.found; steps = v.point.steps } → EndsParts start.d n start.components (Ok result)
    parts_returned result is = subst (λ (r : Parts). EndsParts start.d n start.components (Ok r)) (sym is) (earlier ++ v.point.events, run_ends)

    pub parts_ascending : (result : Parts) → result ≡ record { parts = v.point.parts; found = v.point.found; steps = v.point.steps } → ArePartsAscending start.d result.parts
    parts_ascending result is = subst (λ (r : Parts). ArePartsAscending start.d r.parts) (sym is) parts_ascend

-- with no earlier events it ends with all its events
module _ (start : StateValue) (n : ℕ) (radicand : IsRadicand start.d) (state : IsState start) (v : ProgressValue) (u : IsUnderWay start n [] v) (done : v.point.components ≡ [])
    (result : Run) (is : result ≡ record { events = v.point.events; parts = v.point.parts; found = v.point.found; steps = v.point.steps }) where
  pub run_returned : EndsRun start.d n start.components (Ok result)
  run_returned = subst (λ (r : Run). EndsRun start.d n start.components (Ok r)) (sym is) (run_ends start n radicand state [] v u done)

  pub ascending_returned : ArePartsAscending start.d result.parts
  ascending_returned = subst (λ (r : Run). ArePartsAscending start.d r.parts) (sym is) (parts_ascend start n radicand state [] v u done)

-- what stops a run stops it without its events
pub stop_without_events : (d n : ℕ) (components : List Component) (stop : Stop) → ReturnsRun (EndsRun d n components) (Err stop) → ReturnsParts (EndsParts d n components) (Err stop)
stop_without_events d n components NoMemory h = tt
stop_without_events d n components (Undecided m) h = h
stop_without_events d n components (Overflow site) h = h

-- there is no other end
pub returned_only : (start : StateValue) (n : ℕ) → IsRadicand start.d → IsState start → (result : Result Run Stop) → ReturnsRun (EndsRun start.d n start.components) result
    → (end : Result Run Stop) → EndsRun start.d n start.components end → ReturnsRun (λ returned. returned ≡ end) result
returned_only start n radicand state result h end ends = returned_unique (field_order radicand) n start.components state result h end ends

-- nor is there one without the events
pub parts_only : (start : StateValue) (n : ℕ) → IsRadicand start.d → IsState start → (result : Result Parts Stop) → ReturnsParts (EndsParts start.d n start.components) result
    → (end : Result Run Stop) → EndsRun start.d n start.components end → ReturnsParts (λ returned. returned ≡ without_events end) result
parts_only start n radicand state (Ok parts) h end ends =
    ap without_events (returned_only start n radicand state (Ok (record { events = h.0; parts = parts.parts; found = parts.found; steps = parts.steps })) h.1 end ends)
parts_only start n radicand state (Err NoMemory) h end ends = tt
parts_only start n radicand state (Err (Undecided m)) h end ends = ap without_events (returned_only start n radicand state (Err (Undecided m)) h end ends)
parts_only start n radicand state (Err (Overflow site)) h end ends = ap without_events (returned_only start n radicand state (Err (Overflow site)) h end ends)
