-- The numbers of a run: they are in bounds, and each event lessens the steps left or the weight of the open components.
use Rattle.std.proofs.Common.{◌≡◌, ℕ, ◌+◌, ◌-◌, ◌*◌, ◌<◌, ◌≤◌, Bool, true, false, cond, Option, Some, IsSome, List, [], ◌∷◌, ◌++◌, length, refl, sym, ap, subst, inl, inr, arith, length-append}
use Rattle.std.proofs.lemmas.List.{length-map}
use Rattle.fs_ring.specs.OrderedRing.{IsOrderedRing}
use Rattle.fs_quadratic.specs.Radicand.{IsRadicand}
use Rattle.fs_quadratic.specs.Ring.{quadratic, IsPositive}
use Rattle.fs_gluing.specs.Exchanges.{Letter, Component, names_of}
use Rattle.fs_rauzy.specs.declared.events.Event.{Event}
use Rattle.fs_rauzy.specs.declared.events.Event.TheVariants.{Won, Merged, Split, Closed}
use Rattle.fs_rauzy.specs.declared.parts.Logged.{Logged}
use Rattle.fs_rauzy.specs.declared.parts.Part.{Part}
use Rattle.fs_rauzy.specs.Events.{Outcome, Makes}
use Rattle.fs_rauzy.specs.Measures.{weight, weight_taken}
use Rattle.fs_rauzy.specs.Rule.{is_step}
use Rattle.fs_rauzy.specs.Runs.{Point, Checkpoint, first_checkpoint, start_of, begun, event_number, Goes, Leads, no_event, event}
use Rattle.fs_rauzy.specs.RunsInPlace.{CanGo}
use Rattle.fs_rauzy.specs.States.{IsState, open_names}
use Rattle.fs_rauzy.specs.Steps.{IsOpen}
use Rattle.fs_quadratic.proofs.Laws.{field_order}
use Rattle.fs_rauzy.proofs.NumberedEvents.{one_more_event}
use Rattle.fs_rauzy.proofs.EventWeights.{event_weight}
use Rattle.fs_rauzy.proofs.RunSteps.{Becomes, AfterEvent, goes_cases, after_open, closing, loop_makes}
use Rattle.fs_rauzy.proofs.RunUnique.{after_steps, led_state}

-- ---- events in the list

abbrev logged_of : Outcome → Logged
logged_of o = record { event = o.event; length = o.length }

becomes_events : (p : Point) (o : Outcome) (c : Component) (same : Bool) (q : Point) → Becomes p o c same q → q.events ≡ p.events ++ logged_of o ∷ []
becomes_events p o c true q b = ap (λ (x : Point). x.events) b
becomes_events p o c false q (inl b) = ap (λ (x : Point). x.events) b.1
becomes_events p o c false q (inr b) = ap (λ (x : Point). x.events) b.1

-- the event is the last one in the list
pub after_events : (d : ℕ) (p : Point) (o : Outcome) (e : Event) (q : Point) → AfterEvent d p o e q → q.events ≡ p.events ++ logged_of o ∷ []
after_events d p o (Won top) q h = becomes_events p o h.component h.same q h.becomes
after_events d p o (Merged found) q h = ap (λ (x : Point). x.events) h
after_events d p o (Split k found) q h = ap (λ (x : Point). x.events) h
after_events d p o Closed q h = ap (λ (x : Point). x.events) h.becomes

-- ---- bounds

-- where a component is open it has a checkpoint; the states of a component are no more than the steps; the events are no more than the steps and what the weight lost
pub record IsInBounds (most : ℕ) (p : Point) : Type 0 where
  pub saved : IsOpen p.components → IsSome p.saved
  pub numbered : p.number ≤ p.steps
  pub few : event_number p.events + weight p.components ≤ p.steps + most

first_saved : (components : List Component) → IsOpen components → IsSome (first_checkpoint components)
first_saved [] h = absurd h
first_saved (c ∷ rest) h = refl

begun_saved : (p q : Point) (o : Outcome) (parts : List Part) → q ≡ begun p o parts → (IsOpen q.components → IsSome q.saved) × (q.number ≤ q.steps)
begun_saved p q o parts e =
    let P : Point → Type 0 = λ x. (IsOpen x.components → IsSome x.saved) × (x.number ≤ x.steps) in
    subst P (sym e) (first_saved o.components, omega arith)

kept_saved : (s : Option Checkpoint) (c : Checkpoint) → s ≡ Some c → IsSome s
kept_saved s c e = subst IsSome (sym e) refl

becomes_saved : (p q : Point) (o : Outcome) (c : Component) (same : Bool) (saved : Checkpoint) → p.saved ≡ Some saved → Becomes p o c same q → IsSome q.saved
becomes_saved p q o c true saved before b = subst IsSome (sym (ap (λ (x : Point). x.saved) b)) (kept_saved p.saved saved before)
becomes_saved p q o c false saved before (inl b) = subst IsSome (sym (ap (λ (x : Point). x.saved) b.1)) refl
becomes_saved p q o c false saved before (inr b) = subst IsSome (sym (ap (λ (x : Point). x.saved) b.1)) (kept_saved p.saved saved before)

becomes_number : (p q : Point) (o : Outcome) (c : Component) (same : Bool) → Becomes p o c same q → (q.number ≡ p.number + 1) × (q.steps ≡ p.steps + 1)
becomes_number p q o c true b = (ap (λ (x : Point). x.number) b, ap (λ (x : Point). x.steps) b)
becomes_number p q o c false (inl b) = (ap (λ (x : Point). x.number) b.1, ap (λ (x : Point). x.steps) b.1)
becomes_number p q o c false (inr b) = (ap (λ (x : Point). x.number) b.1, ap (λ (x : Point). x.steps) b.1)

after_saved : (d : ℕ) (p : Point) (o : Outcome) (e : Event) (q : Point) → p.number ≤ p.steps → AfterEvent d p o e q → (IsOpen q.components → IsSome q.saved) × (q.number ≤ q.steps)
after_saved d p o (Won top) q numbered h =
    let n = becomes_number p q o h.component h.same h.becomes in
    let a = n.0 in
    let b = n.1 in
    (λ components. becomes_saved p q o h.component h.same h.saved h.saved_before h.becomes, omega arith)
after_saved d p o (Merged found) q numbered h = begun_saved p q o p.parts h
after_saved d p o (Split k found) q numbered h = begun_saved p q o p.parts h
after_saved d p o Closed q numbered h = begun_saved p q o _ h.becomes

counted : (b : Bool) (events events_after steps steps_after w w_after most : ℕ) → events_after ≤ events + 1 → steps_after ≡ cond b (steps + 1) steps → w_after + cond b 0 1 ≤ w → events + w ≤ steps + most
    → events_after + w_after ≤ steps_after + most
counted true events events_after steps steps_after w w_after most e s l h = omega arith
counted false events events_after steps steps_after w w_after most e s l h = omega arith

taken : (e : Event) → cond (is_step e) 0 1 ≤ weight_taken e
taken (Won top) = omega arith
taken (Merged found) = omega arith
taken (Split k found) = omega arith
taken Closed = omega arith

module _ {d : ℕ} (L : IsOrderedRing (quadratic d) (IsPositive d)) (most : ℕ) (p q : Point) (state : IsState (record { d = d; components = p.components })) where
  -- the weight, with one less where the event is no step
  weight_after : (o : Outcome) → Makes d p.components o → q.components ≡ o.components → weight q.components + cond (is_step o.event) 0 1 ≤ weight p.components
  weight_after o made components = let w : weight q.components ≡ weight o.components = ap weight components in let less = event_weight L state.lawful made in let part = taken o.event in omega arith

  goes_few : Goes d p q → event_number p.events + weight p.components ≤ p.steps + most → event_number q.events + weight q.components ≤ q.steps + most
  goes_few g few = elim (goes_cases d p q g) [
    | inl h ↦
        let o = closing h.1.rest in
        counted false (event_number p.events) (event_number q.events) p.steps q.steps (weight p.components) (weight q.components) most
        (one_more_event p.events q.events (logged_of o) (ap (λ (x : Point). x.events) h.1.becomes)) (ap (λ (x : Point). x.steps) h.1.becomes)
        (weight_after o (loop_makes d p q h.1) (ap (λ (x : Point). x.components) h.1.becomes)) few
    | inr h ↦
        let o = h.1.outcome in
        counted (is_step o.event) (event_number p.events) (event_number q.events) p.steps q.steps (weight p.components) (weight q.components) most
        (one_more_event p.events q.events (logged_of o) (after_events d p o o.event q h.1.after)) (after_steps d p o o.event q refl h.1.after)
        (weight_after o h.1.made.next.made (after_open d p o o.event q h.1.after)) few
  ]

  goes_saved : p.number ≤ p.steps → Goes d p q → (IsOpen q.components → IsSome q.saved) × (q.number ≤ q.steps)
  goes_saved numbered g = elim (goes_cases d p q g) [
    | inl h ↦ begun_saved p q (closing h.1.rest) _ h.1.becomes
    | inr h ↦ after_saved d p h.1.outcome h.1.outcome.event q numbered h.1.after
  ]

  goes_in_bounds : Goes d p q → IsInBounds most p → IsInBounds most q
  goes_in_bounds g b = let s = goes_saved b.numbered g in record { saved = s.0; numbered = s.1; few = goes_few g b.few }

  smaller : (b : Bool) (n steps steps_after w w_after : ℕ) → steps_after ≤ n → steps_after ≡ cond b (steps + 1) steps → w_after + cond b 0 1 ≤ w → (n - steps_after) + w_after < (n - steps) + w
  smaller true n steps steps_after w w_after within s l = omega arith
  smaller false n steps steps_after w w_after within s l = omega arith

  -- an event lessens the steps left or the weight
  pub goes_smaller : (n : ℕ) → Goes d p q → q.steps ≤ n → (n - q.steps) + weight q.components < (n - p.steps) + weight p.components
  goes_smaller n g within = elim (goes_cases d p q g) [
    | inl h ↦
        let o = closing h.1.rest in
        smaller false n p.steps q.steps (weight p.components) (weight q.components) within (ap (λ (x : Point). x.steps) h.1.becomes)
        (weight_after o (loop_makes d p q h.1) (ap (λ (x : Point). x.components) h.1.becomes))
    | inr h ↦
        let o = h.1.outcome in
        smaller (is_step o.event) n p.steps q.steps (weight p.components) (weight q.components) within (after_steps d p o o.event q refl h.1.after)
        (weight_after o h.1.made.next.made (after_open d p o o.event q h.1.after))
  ]

-- ---- along a run

-- the weight is at most twice the letters
weight_of_names : (components : List Component) → weight components ≤ 2 * length (open_names components)
weight_of_names [] = omega arith
weight_of_names (c ∷ components) =
    let more = weight_of_names components in
    let names = length-append (names_of c.top) (open_names components) in
    let letters = length-map c.top (λ (letter : Letter). letter.name) in
    omega arith

module _ {d : ℕ} (radicand : IsRadicand d) (components : List Component) (state : IsState (record { d = d; components = components })) where
  L : IsOrderedRing (quadratic d) (IsPositive d)
  L = field_order radicand

  run_in_bounds : (p : Point) → Leads d (start_of components) p → IsInBounds (weight components) p
  run_in_bounds _ no_event = record { saved = first_saved components; numbered = omega arith; few = omega arith }
  run_in_bounds p (event r _ before g) = goes_in_bounds L (weight components) r p (led_state L components r state before) g (run_in_bounds r before)

  -- where a run leads, and a component is open, it can go on
  pub run_can_go : (n : ℕ) (p : Point) → Leads d (start_of components) p → IsOpen p.components → p.steps ≤ n → CanGo d n (event_number p.events) p
  run_can_go n p leads is_open within =
      let b = run_in_bounds p leads in
      let few = b.few in
      let names = state.few in
      let most = weight_of_names components in
      record { radicand = radicand; state = led_state L components p state leads; is_open = is_open; saved = b.saved is_open; within = within; numbered = b.numbered; few = omega arith }
