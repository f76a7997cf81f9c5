-- A run within a budget ends in exactly one way.
use Rattle.std.proofs.Common.{◌≡◌, ◌⊎◌, ℕ, ◌+◌, ◌<◌, ◌≤◌, Bool, true, false, cond, Ok, Err, Result, List, [], ◌∷◌, refl, sym, ap, ◌∙◌, subst, inl, inr, arith}
use Rattle.fs_lists.proofs.Results.{ok_not_err}
use Rattle.fs_ring.specs.OrderedRing.{IsOrderedRing}
use Rattle.fs_quadratic.specs.Ring.{quadratic, IsPositive}
use Rattle.fs_quadratic.specs.declared.steps.Place.{Place}
use Rattle.fs_plane.specs.declared.sites.Site.TheVariants as sites
use Rattle.fs_plane.specs.declared.sites.Stop.{Stop}
use Rattle.fs_plane.specs.declared.sites.Stop.TheVariants.{Undecided, Overflow, NoMemory}
use Rattle.fs_gluing.specs.Exchanges.{Component}
use Rattle.fs_rauzy.specs.declared.events.Event.{Event}
use Rattle.fs_rauzy.specs.declared.events.Event.TheVariants.{Won, Merged, Split, Closed}
use Rattle.fs_rauzy.specs.declared.parts.Run.{Run}
use Rattle.fs_rauzy.specs.Events.{Outcome, Makes}
use Rattle.fs_rauzy.specs.Rule.{IsNext, StopsAt, is_step}
use Rattle.fs_rauzy.specs.Runs as run
use Rattle.fs_rauzy.specs.Runs.{Point, Checkpoint, start_of, event_number, ComparesAt, Goes, Leads, no_event, event, EndsRun, ReturnsRun}
use Rattle.fs_rauzy.specs.RunsInPlace.{EndsAt, all_closed, budget_spent, event_stops, comparison_stops}
use Rattle.fs_rauzy.specs.States.{IsState}
use Rattle.fs_rauzy.proofs.LawfulEvents.{event_keeps_state}
use Rattle.fs_rauzy.proofs.OutcomeUnique.{next_unique, stops_unique, not_made_and_stopped}
use Rattle.fs_rauzy.proofs.RunSteps.{WinsTo, StepsTo, Becomes, AfterEvent, goes_cases, goes_unique, goes_makes, compared_unique}

-- ---- ends of a run, and ends at a point

-- a run that ends where it leads ends so
pub ends_run : (d n : ℕ) (components : List Component) (p : Point) (end : Result Run Stop) → Leads d (start_of components) p → EndsAt d n p end → EndsRun d n components end
ends_run d n components p _ leads (all_closed closed few) = run.all_closed p leads closed few
ends_run d n components p _ leads (budget_spent o all going next step) = run.budget_spent p o leads all going next step
ends_run d n components p _ leads (event_stops stop few going stopped room) = run.event_stops p stop leads few going stopped room
ends_run d n components p _ leads (comparison_stops o c saved stop room k) = run.comparison_stops p o c saved stop leads room k

-- it ends somewhere
record EndsSomewhere (d n : ℕ) (components : List Component) (end : Result Run Stop) : Type 0 where
  pub point : Point
  pub leads : Leads d (start_of components) point
  pub ends : EndsAt d n point end

ends_somewhere : (d n : ℕ) (components : List Component) (end : Result Run Stop) → EndsRun d n components end → EndsSomewhere d n components end
ends_somewhere d n components _ (run.all_closed p leads closed few) = record { point = p; leads = leads; ends = all_closed closed few }
ends_somewhere d n components _ (run.budget_spent p o leads all going next step) = record { point = p; leads = leads; ends = budget_spent o all going next step }
ends_somewhere d n components _ (run.event_stops p stop leads few going stopped room) = record { point = p; leads = leads; ends = event_stops stop few going stopped room }
ends_somewhere d n components _ (run.comparison_stops p o c saved stop leads room k) = record { point = p; leads = leads; ends = comparison_stops o c saved stop room k }

-- at most n steps are made then
ends_within : (d n : ℕ) (p : Point) (end : Result Run Stop) → EndsAt d n p end → p.steps ≤ n
ends_within d n p _ (all_closed closed few) = few
ends_within d n p _ (budget_spent o all going next step) = omega arith
ends_within d n p _ (event_stops stop few going stopped room) = few
ends_within d n p _ (comparison_stops o c saved stop room k) = omega arith

-- ---- steps along a run

becomes_steps : (p : Point) (o : Outcome) (c : Component) (same : Bool) (q : Point) → Becomes p o c same q → q.steps ≡ p.steps + 1
becomes_steps p o c true q b = ap (λ (x : Point). x.steps) b
becomes_steps p o c false q (inl b) = ap (λ (x : Point). x.steps) b.1
becomes_steps p o c false q (inr b) = ap (λ (x : Point). x.steps) b.1

-- a step counts
pub after_steps : (d : ℕ) (p : Point) (o : Outcome) (e : Event) (q : Point) → o.event ≡ e → AfterEvent d p o e q → q.steps ≡ (cond (is_step e) (p.steps + 1) p.steps)
after_steps d p o (Won top) q is h = becomes_steps p o h.component h.same q h.becomes
after_steps d p o (Merged found) q is h = ap (λ (x : Point). x.steps) h ∙ ap (λ e. cond (is_step e) (p.steps + 1) p.steps) is
after_steps d p o (Split k found) q is h = ap (λ (x : Point). x.steps) h ∙ ap (λ e. cond (is_step e) (p.steps + 1) p.steps) is
after_steps d p o Closed q is h = ap (λ (x : Point). x.steps) h.becomes ∙ ap (λ e. cond (is_step e) (p.steps + 1) p.steps) is

at_least : (b : Bool) (m n : ℕ) → n ≡ cond b (m + 1) m → m ≤ n
at_least true m n e = omega arith
at_least false m n e = omega arith

goes_steps : (d : ℕ) (p q : Point) → Goes d p q → p.steps ≤ q.steps
goes_steps d p q g = elim (goes_cases d p q g) [
  | inl h ↦ let same : q.steps ≡ p.steps = ap (λ (x : Point). x.steps) h.1.becomes in omega arith
  | inr h ↦ at_least (is_step h.1.outcome.event) p.steps q.steps (after_steps d p h.1.outcome h.1.outcome.event q refl h.1.after)
]

leads_steps : (d : ℕ) (p q : Point) → Leads d p q → p.steps ≤ q.steps
leads_steps d p _ no_event = omega arith
leads_steps d p q (event r _ before g) = let a = leads_steps d p r before in let b = goes_steps d r q g in omega arith

-- ---- two ways from one start

-- the run leads nowhere, or it goes on
leads_first : (d : ℕ) (p q : Point) → Leads d p q → (p ≡ q) ⊎ ((r : Point) × Goes d p r × Leads d r q)
leads_first d p _ no_event = inl refl
leads_first d p q (event r _ before g) = elim (leads_first d p r before) [
  | inl same ↦ inr (q, subst (λ x. Goes d x q) (sym same) g, no_event)
  | inr first ↦ inr (first.0, first.1, event r q first.2 g)
]

-- with the state at its start
leads_state : {d : ℕ} → IsOrderedRing (quadratic d) (IsPositive d) → (p q : Point) → IsState (record { d = d; components = p.components }) → Leads d p q → IsState (record { d = d; components = q.components })
leads_state L p _ state no_event = state
leads_state {d} L p q state (event r _ before g) =
    let made = goes_makes d r q g in
    let S : List Component → Type 0 = λ components. IsState (record { d = d; components = components }) in
    subst S (sym made.2) (event_keeps_state L (leads_state L p r state before) made.1)

-- where a run leads, the open components are a state
pub led_state : {d : ℕ} → IsOrderedRing (quadratic d) (IsPositive d) → (components : List Component) (p : Point) → IsState (record { d = d; components = components }) → Leads d (start_of components) p
    → IsState (record { d = d; components = p.components })
led_state L components p state leads = leads_state L (start_of components) p state leads

closed_makes_none : (d : ℕ) (components : List Component) (o : Outcome) → Makes d components o → components ≡ [] → ⊥
closed_makes_none d _ _ (Makes.splits c left right rest k found s) e = absurd cc
closed_makes_none d _ _ (Makes.closes c rest) e = absurd cc
closed_makes_none d _ _ (Makes.wins_above c after rest w) e = absurd cc
closed_makes_none d _ _ (Makes.wins_below c after rest w) e = absurd cc
closed_makes_none d _ _ (Makes.merges c after rest found m) e = absurd cc

module _ {d : ℕ} (L : IsOrderedRing (quadratic d) (IsPositive d)) where
  -- of two ways from one start the one is part of the other
  leads_compare : (start p q : Point) → IsState (record { d = d; components = start.components }) → Leads d start p → Leads d start q → (Leads d p q) ⊎ (Leads d q p)
  leads_compare start _ q state no_event h = inl h
  leads_compare start p q state (event r _ before g) h = elim (leads_compare start r q state before h) [
    | inr back ↦ inr (event r p back g)
    | inl on ↦ elim (leads_first d r q on) [
      | inl same ↦ inr (event r p (subst (λ x. Leads d x r) same no_event) g)
      | inr first ↦ inl (subst (λ x. Leads d x q) (goes_unique L r (leads_state L start r state before) first.0 p first.1 g) first.2)
    ]
  ]

  -- ---- one end at a point

  module _ (p : Point) (state : IsState (record { d = d; components = p.components })) where
    -- the comparisons after two won ones agree
    compares_unique : (o u : Outcome) (c e : Component) (s t : Checkpoint) (x y : Result Bool Place) → ComparesAt d p o c s x → ComparesAt d p u e t y → x ≡ y
    compares_unique o u c e s t x y h k =
        let same : u ≡ o = next_unique L state.lawful k.made.made.next h.made.made.next in
        compared_unique d o p c e h.rest k.rest s t x y h.components (subst (λ (z : Outcome). z.components ≡ e ∷ k.rest) same k.components) h.saved_before k.saved_before h.compared k.compared

    spent_or_stopped : (n : ℕ) (o : Outcome) → p.steps ≡ n → IsNext d p.components o → is_step o.event ≡ true → (stop : Place) (stopped : StopsAt d p.components stop) → (is_step stopped.outcome.event ≡ true → p.steps < n) → ⊥
    spent_or_stopped n o all next step stop stopped room =
        let same = next_unique L state.lawful next stopped.next in
        let r : p.steps < n = room (ap (λ (x : Outcome). is_step x.event) (sym same) ∙ step) in
        absurd (omega arith)

    no_next : (o : Outcome) → p.components ≡ [] → IsNext d p.components o → ⊥
    no_next o closed next = closed_makes_none d p.components o next.made closed

    -- it ends there in one way
    ends_unique : (n : ℕ) (a b : Result Run Stop) → EndsAt d n p a → EndsAt d n p b → a ≡ b
    ends_unique n _ _ (all_closed closed few) (all_closed closed_too few_too) = refl
    ends_unique n _ _ (all_closed closed few) (budget_spent o all going next step) = absurd (no_next o closed next)
    ends_unique n _ _ (all_closed closed few) (event_stops stop few_too going stopped room) = absurd (no_next stopped.outcome closed stopped.next)
    ends_unique n _ _ (all_closed closed few) (comparison_stops o c saved stop room k) = absurd (no_next o closed k.made.made.next)
    ends_unique n _ _ (budget_spent o all going next step) (all_closed closed few) = absurd (no_next o closed next)
    ends_unique n _ _ (budget_spent o all going next step) (budget_spent u all_too going_too next_too step_too) = refl
    ends_unique n _ _ (budget_spent o all going next step) (event_stops stop few going_too stopped room) = absurd (spent_or_stopped n o all next step stop stopped room)
    ends_unique n _ _ (budget_spent o all going next step) (comparison_stops u c saved stop room k) = absurd (omega arith)
    ends_unique n _ _ (event_stops stop few going stopped room) (all_closed closed few_too) = absurd (no_next stopped.outcome closed stopped.next)
    ends_unique n _ _ (event_stops stop few going stopped room) (budget_spent o all going_too next step) = absurd (spent_or_stopped n o all next step stop stopped room)
    ends_unique n _ _ (event_stops stop few going stopped room) (event_stops other few_too going_too stopped_too room_too) =
        ap (λ (s : Place). Err (Overflow (sites.Event (event_number p.events) s.0))) (stops_unique L state.lawful stopped stopped_too)
    ends_unique n _ _ (event_stops stop few going stopped room) (comparison_stops o c saved other room_too k) = absurd (not_made_and_stopped L state.lawful k.made.made stopped)
    ends_unique n _ _ (comparison_stops o c saved stop room k) (all_closed closed few) = absurd (no_next o closed k.made.made.next)
    ends_unique n _ _ (comparison_stops o c saved stop room k) (budget_spent u all going next step) = absurd (omega arith)
    ends_unique n _ _ (comparison_stops o c saved stop room k) (event_stops other few going stopped room_too) = absurd (not_made_and_stopped L state.lawful k.made.made stopped)
    ends_unique n _ _ (comparison_stops o c saved stop room k) (comparison_stops u e saved_too other room_too h) =
        let same : stop ≡ other = err_same stop other (compares_unique o u c e saved saved_too (Err stop) (Err other) k h) in
        ap (λ (s : Place). Err (Overflow (sites.Event (event_number p.events) s.0))) same
      where
        err_same : (s t : Place) → ◌≡◌ {A = Result Bool Place} (Err s) (Err t) → s ≡ t
        err_same s t e = cc

    -- ---- no end goes on

    steps_on : (n : ℕ) (o : Outcome) (q : Point) → p.steps ≡ n → IsNext d p.components o → is_step o.event ≡ true → StepsTo d p q → n < q.steps
    steps_on n o q all next step s =
        let same : o ≡ s.outcome = next_unique L state.lawful next s.made.next in
        let is : is_step s.outcome.event ≡ true = ap (λ (x : Outcome). is_step x.event) (sym same) ∙ step in
        let counts : q.steps ≡ cond (is_step s.outcome.event) (p.steps + 1) p.steps = after_steps d p s.outcome s.outcome.event q refl s.after in
        let more : q.steps ≡ p.steps + 1 = counts ∙ ap (λ b. cond b (p.steps + 1) p.steps) is in
        omega arith

    not_compared : (o : Outcome) (c : Component) (saved : Checkpoint) (stop : Place) (q : Point) → ComparesAt d p o c saved (Err stop) → StepsTo d p q → ⊥
    not_compared o c saved stop q k s =
        let same : s.outcome ≡ o = next_unique L state.lawful s.made.next k.made.made.next in
        let is : s.outcome.event ≡ Won k.top = ap (λ (x : Outcome). x.event) same ∙ k.event in
        let w : WinsTo d p s.outcome q = subst (λ e. AfterEvent d p s.outcome e q) is s.after in
        let components : o.components ≡ w.component ∷ w.rest = subst (λ (x : Outcome). x.components ≡ w.component ∷ w.rest) same w.components in
        ok_not_err w.same stop (compared_unique d o p w.component c w.rest k.rest w.saved saved (Ok w.same) (Err stop) components k.components w.saved_before k.saved_before w.compared k.compared)

    true_false : (b : Bool) → b ≡ true → b ≡ false → ⊥
    true_false b e f = absurd cc

    by_step : (q : Point) → p.looped ≡ false → Goes d p q → StepsTo d p q
    by_step q going g = elim (goes_cases d p q g) [
      | inl h ↦ absurd (true_false p.looped h.0 going)
      | inr h ↦ h.1
    ]

    -- where the run can end it goes on at most beyond the budget
    ends_or_goes : (n : ℕ) (end : Result Run Stop) (q : Point) → EndsAt d n p end → Goes d p q → n < q.steps
    ends_or_goes n _ q (all_closed closed few) g = let made = goes_makes d p q g in absurd (closed_makes_none d p.components made.0 made.1 closed)
    ends_or_goes n _ q (budget_spent o all going next step) g = steps_on n o q all next step (by_step q going g)
    ends_or_goes n _ q (event_stops stop few going stopped room) g = let s = by_step q going g in absurd (not_made_and_stopped L state.lawful s.made stopped)
    ends_or_goes n _ q (comparison_stops o c saved stop room k) g = absurd (not_compared o c saved stop q k (by_step q k.made.going g))

  -- ---- one end of a run

  one_end : (n : ℕ) (p q : Point) (a b : Result Run Stop) → IsState (record { d = d; components = p.components }) → Leads d p q → EndsAt d n p a → EndsAt d n q b → a ≡ b
  one_end n p q a b state leads h k = elim (leads_first d p q leads) [
    | inl same ↦ ends_unique p state n a b h (subst (λ x. EndsAt d n x b) (sym same) k)
    | inr first ↦
        let beyond = ends_or_goes p state n a first.0 h first.1 in
        let more = leads_steps d first.0 q first.2 in
        let within = ends_within d n q b k in
        absurd (omega arith)
  ]

  -- a run ends in one way
  pub end_unique : (n : ℕ) (components : List Component) (a b : Result Run Stop) → IsState (record { d = d; components = components }) → EndsRun d n components a → EndsRun d n components b → a ≡ b
  end_unique n components a b state g h =
      let x = ends_somewhere d n components a g in
      let y = ends_somewhere d n components b h in
      elim (leads_compare (start_of components) x.point y.point state x.leads y.leads) [
        | inl on ↦ one_end n x.point y.point a b (led_state L components x.point state x.leads) on x.ends y.ends
        | inr back ↦ sym (one_end n y.point x.point b a (led_state L components y.point state y.leads) back y.ends x.ends)
      ]

  -- what a call returns is the one end of the run
  pub returned_unique : (n : ℕ) (components : List Component) → IsState (record { d = d; components = components }) → (result : Result Run Stop) → ReturnsRun (EndsRun d n components) result
      → (end : Result Run Stop) → EndsRun d n components end → ReturnsRun (λ returned. returned ≡ end) result
  returned_unique n components state (Ok r) h end ends = end_unique n components (Ok r) end state h ends
  returned_unique n components state (Err NoMemory) h end ends = tt
  returned_unique n components state (Err (Undecided m)) h end ends = end_unique n components (Err (Undecided m)) end state h ends
  returned_unique n components state (Err (Overflow site)) h end ends = end_unique n components (Err (Overflow site)) end state h ends
