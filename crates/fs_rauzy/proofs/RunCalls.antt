-- The calls on a run under way, by the values that they see: x is what its fields say, and now its value.
use Rattle.std.proofs.Common.{◌≡◌, ℕ, ◌+◌, ◌<◌, ◌≤◌, Bool, true, false, cond, Some, Result, Ok, Err, OnOk, IfErr, List, [], ◌∷◌, ◌++◌, reverse, refl, sym, ap, ◌∙◌, subst, inl, inr, arith}
use Rattle.std.proofs.lemmas.List.{reverse-append}
use Rattle.fs_quadratic.specs.declared.steps.Place.{Place}
use Rattle.fs_plane.specs.declared.sites.Site.TheVariants as sites
use Rattle.fs_plane.specs.declared.sites.Stop.{Stop}
use Rattle.fs_plane.specs.declared.sites.Stop.TheVariants.{Undecided, Overflow, NoMemory}
use Rattle.std.specs.List.{AllByRecursion}
use Rattle.fs_quadratic.proofs.Laws.{field_order}
use Rattle.fs_gluing.specs.Exchanges.{Component, IsLawful}
use Rattle.fs_rauzy.specs.declared.events.Event.{Event}
use Rattle.fs_rauzy.specs.declared.events.Event.TheVariants.{Won, Merged, Split, Closed}
use Rattle.fs_rauzy.specs.declared.parts.Kind.{Kind}
use Rattle.fs_rauzy.specs.declared.parts.Kind.TheVariants.{Cylinder, Looped}
use Rattle.fs_rauzy.specs.declared.parts.Logged.{Logged}
use Rattle.fs_rauzy.specs.declared.parts.Part.{Part}
use Rattle.fs_rauzy.specs.declared.states.Choice.TheVariants as choices
use Rattle.fs_rauzy.specs.Events.{Outcome}
use Rattle.fs_rauzy.specs.Rule.{IsNext, is_step}
use Rattle.fs_rauzy.specs.Runs.{Point, Checkpoint, part_of, is_numbered, event_number, BeginsAnew, Goes}
use Rattle.fs_rauzy.specs.RunsInPlace.{ProgressValue, noted, renumbered, counted, Counts, ClosesTo, IsCompared, LooksTo, LooksBack, OverflowsWhere, budget_spent, StopsRun, StopsFrom, CanGo}
use Rattle.fs_rauzy.specs.StatesInPlace.{IsChoice}
use Rattle.fs_rauzy.specs.Steps.{AtCurrent, SplitsAt, IsMadeBy, IsStoppedBy}
use Rattle.fs_rauzy.proofs.NumberedEvents.{event_number-append}
use Rattle.fs_rauzy.proofs.StepExists.{next_step_exists}
use Rattle.fs_rauzy.proofs.RunChanges as changes
use Rattle.fs_rauzy.proofs.RunChanges.{outcome_of}

-- what follows from what holds of a value
pub on_ok : {A E : Type 0} {P Q : Type 0} (r : Result A E) → (P → Q) → OnOk r P → OnOk r Q
on_ok (Ok v) f h = f h
on_ok (Err e) f h = tt

pub on_both : {A E : Type 0} {P Q S : Type 0} (r : Result A E) → (P → Q → S) → OnOk r P → OnOk r Q → OnOk r S
on_both (Ok v) f h k = f h k
on_both (Err e) f h k = tt

-- or of an error
pub if_err : {A E : Type 0} {P Q : E → Type 0} (r : Result A E) → ((e : E) → P e → Q e) → IfErr r P → IfErr r Q
if_err (Ok v) f h = tt
if_err (Err e) f h = f e h

-- a step that isn't a won comparison begins anew
pub step_begins : (e : Event) → is_step e ≡ true → ((top : Bool) → e ≡ Won top → ⊥) → BeginsAnew e
step_begins (Won top) s other = absurd (other top refl)
step_begins (Merged found) s other = tt
step_begins (Split k found) s other = tt
step_begins Closed s other = absurd cc

-- a comparison doesn't depend on the events
overflow_with : (d : ℕ) (p : Point) (events : List Logged) (m : ℕ) → event_number events ≡ m → (stop : Stop) → OverflowsWhere m (λ place. IsCompared d p (Err place)) stop
    → OverflowsWhere (event_number events) (λ place. IsCompared d (record p { events = events }) (Err place)) stop
overflow_with d p events m numbered NoMemory h = tt
overflow_with d p events m numbered (Undecided n) h = absurd h
overflow_with d p events m numbered (Overflow site) h =
    let k = h.2 in (
      h.0,
      h.1 ∙ ap (λ number. sites.Event number h.0.0) (sym numbered),
      record { component = k.component; rest = k.rest; components = k.components; saved = k.saved; saved_before = k.saved_before; compared = k.compared },
    )

-- an event of the list is numbered, or not
noted_counts : (event : Event) (n m before after : ℕ) → m ≡ counted event n → after ≡ before + cond (is_numbered event) 1 0 → m + before ≡ n + after
noted_counts (Won top) n m before after e f = omega arith
noted_counts (Merged found) n m before after e f = omega arith
noted_counts (Split k found) n m before after e f = omega arith
noted_counts Closed n m before after e f = omega arith

looked_events : (d : ℕ) (logged : Logged) (p q : Point) (same : Bool) → LooksTo logged p same q → q.events ≡ p.events ++ logged ∷ []
looked_events d logged p q true b = ap (λ (x : Point). x.events) b
looked_events d logged p q false (inl b) = ap (λ (x : Point). x.events) b.1
looked_events d logged p q false (inr b) = ap (λ (x : Point). x.events) b.1

module _ (x now : ProgressValue) (same : x ≡ now) where
  -- an event came to the list, and was numbered where it has a number
  counts_listed : (logged : Logged) (q : ProgressValue) → q.numbered ≡ counted logged.event x.numbered → q.point.events ≡ x.point.events ++ logged ∷ [] → Counts now q
  counts_listed logged q numbered listed =
      subst (λ (v : ProgressValue). Counts v q) same
      (noted_counts logged.event x.numbered q.numbered (event_number x.point.events) (event_number q.point.events) numbered
      (ap event_number listed ∙ event_number-append x.point.events logged))

  -- it is noted, and the states are numbered anew
  pub counts_begun : (logged : Logged) (between q : ProgressValue) → between.numbered ≡ counted logged.event x.numbered → between.point.events ≡ x.point.events ++ logged ∷ []
      → q ≡ record between { point = renumbered between.point } → Counts now q
  counts_begun logged between q numbered listed e =
      counts_listed logged q (ap (λ (v : ProgressValue). v.numbered) e ∙ numbered) (ap (λ (v : ProgressValue). v.point.events) e ∙ listed)

  -- it is noted, and the component is compared with its checkpoint
  pub counts_looked : (logged : Logged) (d : ℕ) (between : Point) (q : ProgressValue) → between.events ≡ x.point.events → LooksBack d logged between q.point
      → q.numbered ≡ counted logged.event x.numbered → Counts now q
  counts_looked logged d between q events back numbered =
      counts_listed logged q numbered (looked_events d logged between q.point back.same back.becomes ∙ ap (λ (es : List Logged). es ++ logged ∷ []) events)

  -- a component closes
  pub close_closes : (kind : Kind) (part : Part) (logged : Logged) (after : List Component) (items items_after : List Part) (between q : Point) → x.point.parts ≡ reverse items
      → AtCurrent (λ c. part ≡ part_of c kind) x.point.components → items_after ≡ items ++ part ∷ [] → IsMadeBy x.d (λ event. event ≡ Closed) x.point.components (outcome_of logged after)
      → between ≡ noted logged (record x.point { components = after; parts = reverse items_after }) → q ≡ renumbered between → ClosesTo kind now.point q
  close_closes kind part logged after items items_after between q parts is_part pushed made b e =
      let turned : reverse items_after ≡ part ∷ x.point.parts = ap reverse pushed ∙ reverse-append items (part ∷ []) ∙ ap (λ ps. part ∷ ps) (sym parts) in
      subst (λ (v : ProgressValue). ClosesTo kind v.point q) same
      (changes.closes_to x.d kind part logged after x.point q is_part made
      (e ∙ ap renumbered b ∙ ap (λ ps. renumbered (noted logged (record x.point { components = after; parts = ps }))) turned))

  -- a loop closes
  pub loop_goes : (s : Checkpoint) (from : ℕ) (q : Point) → x.point.saved ≡ Some s → from ≡ s.number → now.point.looped ≡ true → ClosesTo (Looped from x.point.number) now.point q → Goes now.d now.point q
  loop_goes s from q is numbered looped closes =
      let closes_now : ClosesTo (Looped s.number now.point.number) now.point q =
      subst (λ (v : ProgressValue). ClosesTo (Looped s.number v.point.number) now.point q) same (subst (λ n. ClosesTo (Looped n x.point.number) now.point q) numbered closes) in
      changes.goes_by_loop now.d now.point q s looped (ap (λ (v : ProgressValue). v.point.saved) (sym same) ∙ is) closes_now

  -- a cylinder closes
  pub cylinder_goes : (after : List Component) (q : Point) → after ≡ x.point.components → x.point.looped ≡ false → IsChoice x.point.components choices.Close
      → ClosesTo Cylinder (record x.point { components = after }) q → Goes now.d now.point q
  cylinder_goes after q kept going choice closes =
      let closes_x : ClosesTo Cylinder x.point q = subst (λ cs. ClosesTo Cylinder (record x.point { components = cs }) q) kept closes in
      subst (λ (v : ProgressValue). Goes v.d v.point q) same (changes.goes_by_cylinder x.d x.point q going choice closes_x)

  -- the budget is spent
  pub budget_stops : (n : ℕ) → CanGo now.d n now.numbered now.point → x.point.looped ≡ false → IsChoice x.point.components choices.Compare → x.point.steps ≡ n → StopsFrom now.d n now.numbered now.point (Undecided n)
  budget_stops n ready going choice spent = λ events numbered.
      let next = next_of now.point.components ready.state.lawful (subst (λ (v : ProgressValue). IsChoice v.point.components choices.Compare) same choice) in
      budget_spent next.0 (ap (λ (v : ProgressValue). v.point.steps) (sym same) ∙ spent) (ap (λ (v : ProgressValue). v.point.looped) (sym same) ∙ going) next.1 next.2
    where
      next_of : (components : List Component) → AllByRecursion (IsLawful now.d) components → IsChoice components choices.Compare → (o : Outcome) × IsNext now.d components o × (is_step o.event ≡ true)
      next_of [] lawful choice = absurd choice
      next_of (c ∷ rest) lawful choice = next_step_exists (field_order ready.radicand) c rest lawful.0 choice.0 choice.1

  -- a split is made
  pub split_goes : (k : ℕ) (logged : Logged) (after : List Component) (between q : Point) → now.point.looped ≡ false → IsChoice now.point.components (choices.Split k)
      → IsMadeBy x.d (SplitsAt k) x.point.components (outcome_of logged after) → between ≡ noted logged (record x.point { components = after }) → q ≡ renumbered between → Goes now.d now.point q
  split_goes k logged after between q going choice made b e =
      changes.goes_by_split now.d k logged after now.point q going choice (subst (λ (v : ProgressValue). IsMadeBy v.d (SplitsAt k) v.point.components (outcome_of logged after)) same made)
      (e ∙ ap renumbered b ∙ ap (λ (v : ProgressValue). renumbered (noted logged (record v.point { components = after }))) same)

  site_now : (stop : Place) (result : Stop) (events : List Logged) → event_number events ≡ now.numbered → result ≡ Overflow (sites.Event x.numbered stop.0)
      → Overflow (sites.Event (event_number events) stop.0) ≡ result
  site_now stop result events numbered is = ap (λ m. Overflow (sites.Event m stop.0)) (numbered ∙ ap (λ (v : ProgressValue). v.numbered) (sym same)) ∙ sym is

  -- it stops
  pub split_stops : (k : ℕ) (stop : Place) (result : Stop) → now.point.looped ≡ false → IsChoice now.point.components (choices.Split k) → IsStoppedBy x.d (SplitsAt k) x.point.components stop
      → result ≡ Overflow (sites.Event x.numbered stop.0) → (n : ℕ) → now.point.steps ≤ n → StopsFrom now.d n now.numbered now.point result
  split_stops k stop result going choice s is n few = λ events numbered.
      subst (StopsRun now.d n (record now.point { events = events })) (site_now stop result events numbered is)
      (changes.split_stops now.d k (record now.point { events = events }) stop going choice (subst (λ (v : ProgressValue). IsStoppedBy v.d (SplitsAt k) v.point.components stop) same s) n few)

  -- a comparison of the last letters stops
  pub comparison_stops : (stop : Place) (result : Stop) → now.point.looped ≡ false → IsChoice now.point.components choices.Compare → IsStoppedBy x.d (λ event. is_step event ≡ true) x.point.components stop
      → result ≡ Overflow (sites.Event x.numbered stop.0) → (n : ℕ) → now.point.steps < n → StopsFrom now.d n now.numbered now.point result
  comparison_stops stop result going choice s is n room = λ events numbered.
      subst (StopsRun now.d n (record now.point { events = events })) (site_now stop result events numbered is)
      (changes.comparison_of_last_stops now.d (record now.point { events = events }) stop going choice (subst (λ (v : ProgressValue). IsStoppedBy v.d (λ event. is_step event ≡ true) v.point.components stop) same s) n room)

  module _ (logged : Logged) (after : List Component) (going : now.point.looped ≡ false) (choice : IsChoice now.point.components choices.Compare)
      (made : IsMadeBy x.d (λ event. is_step event ≡ true) x.point.components (outcome_of logged after)) where
    made_now : IsMadeBy now.d (λ event. is_step event ≡ true) now.point.components (outcome_of logged after)
    made_now = subst (λ (v : ProgressValue). IsMadeBy v.d (λ event. is_step event ≡ true) v.point.components (outcome_of logged after)) same made

    -- a merge is made
    pub merge_goes : (between q : Point) → BeginsAnew logged.event → between ≡ noted logged (record x.point { components = after; steps = x.point.steps + 1 }) → q ≡ renumbered between → Goes now.d now.point q
    merge_goes between q anew b e =
        changes.goes_by_merge now.d logged after now.point going choice made_now q anew
        (e ∙ ap renumbered b ∙ ap (λ (v : ProgressValue). renumbered (noted logged (record v.point { components = after; steps = v.point.steps + 1 }))) same)

    -- a won comparison
    pub win_goes : (top : Bool) (d : ℕ) (q : Point) → logged.event ≡ Won top → d ≡ x.d → LooksBack d logged (record x.point { components = after; steps = x.point.steps + 1 }) q → Goes now.d now.point q
    win_goes top d q event field back =
        changes.goes_by_win now.d logged after now.point going choice made_now top event q
        (subst (λ (v : ProgressValue). LooksBack v.d logged (record v.point { components = after; steps = v.point.steps + 1 }) q) same
        (subst (λ e. LooksBack e logged (record x.point { components = after; steps = x.point.steps + 1 }) q) field back))

    -- the comparison after it stops
    pub look_stops : (top : Bool) (d : ℕ) (stop : Stop) → logged.event ≡ Won top → d ≡ x.d
        → OverflowsWhere x.numbered (λ place. IsCompared d (record x.point { components = after; steps = x.point.steps + 1 }) (Err place)) stop
        → (n : ℕ) → now.point.steps < n → StopsFrom now.d n now.numbered now.point stop
    look_stops top d stop event field h n room = λ events numbered.
        let at : ProgressValue → ℕ → Type 0 = λ v e. OverflowsWhere v.numbered (λ place. IsCompared e (record v.point { components = after; steps = v.point.steps + 1 }) (Err place)) stop in
        let there : at now now.d = subst (λ (v : ProgressValue). at v v.d) same (subst (at x) field h) in
        changes.stops_at_comparison now.d logged after (record now.point { events = events }) going choice made_now top event stop
        (overflow_with now.d (record now.point { components = after; steps = now.point.steps + 1 }) events now.numbered numbered stop there) n room
