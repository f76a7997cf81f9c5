-- What the calls on a run under way do with its point: it goes on, or it ends there.
use Rattle.std.proofs.Common.{◌≡◌, ℕ, ◌+◌, ◌<◌, ◌≤◌, Bool, true, false, cond, Option, Some, Result, Ok, Err, List, [], ◌∷◌, ◌++◌, refl, sym, ap, ◌∙◌, subst, inl, inr, arith}
use Rattle.std.proofs.lemmas.List.{append-nil}
use Rattle.fs_quadratic.specs.declared.steps.Place.{Place}
use Rattle.fs_plane.specs.declared.sites.Site.TheVariants as sites
use Rattle.fs_plane.specs.declared.sites.Stop.{Stop}
use Rattle.fs_plane.specs.declared.sites.Stop.TheVariants.{Undecided, Overflow, NoMemory}
use Rattle.fs_gluing.specs.Exchanges.{Component}
use Rattle.fs_rauzy.specs.declared.events.Event.{Event}
use Rattle.fs_rauzy.specs.declared.events.Event.TheVariants.{Won, Merged, Split, Closed}
use Rattle.fs_rauzy.specs.declared.parts.Kind.{Kind}
use Rattle.fs_rauzy.specs.declared.parts.Kind.TheVariants.{Cylinder, Looped}
use Rattle.fs_rauzy.specs.declared.parts.Logged.{Logged}
use Rattle.fs_rauzy.specs.declared.parts.Part.{Part}
use Rattle.fs_rauzy.specs.declared.states.Choice.TheVariants as choices
use Rattle.fs_rauzy.specs.Events.{Outcome, Makes}
use Rattle.fs_rauzy.specs.Rule.{FollowsRule, IsMade, Tests, is_step}
use Rattle.fs_rauzy.specs.Runs.{Point, Checkpoint, part_of, begun, won_on, found_by, event_number, BeginsAnew, IsMadeAt, ComparesAt, Goes, closes_loop, closes_cylinder, begins_anew, finds_loop, wins, wins_and_saves}
use Rattle.fs_rauzy.specs.RunsInPlace.{noted, renumbered, checkpoint_of, ClosesTo, IsCompared, LooksTo, LooksBack, OverflowsWhere, EndsAt, event_stops, comparison_stops, StopsRun}
use Rattle.fs_rauzy.specs.StatesInPlace.{IsChoice}
use Rattle.fs_rauzy.specs.Steps.{AtCurrent, SplitsAt, IsMadeBy, IsStoppedBy}
use Rattle.fs_rauzy.proofs.RunSteps.{closing}

-- what is noted of an outcome
abbrev pub outcome_of : Logged → List Component → Outcome
outcome_of logged components = record { event = logged.event; length = logged.length; components = components }

-- ---- closings

record ClosedAs (components : List Component) (o : Outcome) : Type 0 where
  pub component : Component
  pub rest : List Component
  pub was : components ≡ component ∷ rest
  pub is : o ≡ closing rest

closed_as : (d : ℕ) (components : List Component) (o : Outcome) → Makes d components o → o.event ≡ Closed → ClosedAs components o
closed_as d _ _ (Makes.splits c left right rest k found s) e = absurd cc
closed_as d _ _ (Makes.closes c rest) e = record { component = c; rest = rest; was = refl; is = refl }
closed_as d _ _ (Makes.wins_above c after rest w) e = absurd cc
closed_as d _ _ (Makes.wins_below c after rest w) e = absurd cc
closed_as d _ _ (Makes.merges c after rest found m) e = absurd cc

-- the current component closes
pub closes_to : (d : ℕ) (kind : Kind) (part : Part) (logged : Logged) (after : List Component) (p q : Point) → AtCurrent (λ c. part ≡ part_of c kind) p.components
    → IsMadeBy d (λ event. event ≡ Closed) p.components (outcome_of logged after) → q ≡ renumbered (noted logged (record p { components = after; parts = part ∷ p.parts })) → ClosesTo kind p q
closes_to d kind part logged after p q is_part made becomes =
    let a = closed_as d p.components (outcome_of logged after) made.made made.kind in
    let same_part : part ≡ part_of a.component kind = subst (AtCurrent (λ c. part ≡ part_of c kind)) a.was is_part in
    record {
      component = a.component;
      rest = a.rest;
      components = a.was;
      becomes =
          becomes
          ∙ (λ i. renumbered (noted (record { event = (a.is i).event; length = (a.is i).length }) (record p { components = (a.is i).components; parts = same_part i ∷ p.parts })));
    }

-- as a loop
pub goes_by_loop : (d : ℕ) (p q : Point) (saved : Checkpoint) → p.looped ≡ true → p.saved ≡ Some saved → ClosesTo (Looped saved.number p.number) p q → Goes d p q
goes_by_loop d p q saved looped is h = subst (Goes d p) (sym h.becomes) (closes_loop h.component h.rest saved looped h.components is)

cylinder_made : (d : ℕ) (components : List Component) (c : Component) (rest : List Component) → components ≡ c ∷ rest → IsChoice components choices.Close → IsMade d components (closing rest)
cylinder_made d components c rest e choice =
    subst (λ cs. IsMade d cs (closing rest)) (sym e) (record {
      next = record { made = Makes.closes c rest; by_rule = subst (λ cs. IsChoice cs choices.Close) e choice };
      fits = Tests.of_closed c rest;
    })

-- as a cylinder
pub goes_by_cylinder : (d : ℕ) (p q : Point) → p.looped ≡ false → IsChoice p.components choices.Close → ClosesTo Cylinder p q → Goes d p q
goes_by_cylinder d p q going choice h =
    subst (Goes d p) (sym h.becomes)
    (closes_cylinder (closing h.rest) h.component h.rest (record { going = going; made = cylinder_made d p.components h.component h.rest h.components choice }) refl h.components)

pub closed_steps : (kind : Kind) (p q : Point) → ClosesTo kind p q → q.steps ≡ p.steps
closed_steps kind p q h = ap (λ (x : Point). x.steps) h.becomes

-- ---- splits

split_by_rule : (k : ℕ) (components : List Component) (e : Event) → IsChoice components (choices.Split k) → SplitsAt k e → FollowsRule components e
split_by_rule k [] e choice s = absurd choice
split_by_rule k (c ∷ rest) e choice s = subst (FollowsRule (c ∷ rest)) (sym s.1) choice.1

anew_steps : (p : Point) (o : Outcome) (b : Bool) → is_step o.event ≡ b → cond (is_step o.event) (p.steps + 1) p.steps ≡ cond b (p.steps + 1) p.steps
anew_steps p o b e = ap (λ x. cond x (p.steps + 1) p.steps) e

-- a split, at the point with its components
pub goes_by_split : (d k : ℕ) (logged : Logged) (after : List Component) (p q : Point) → p.looped ≡ false → IsChoice p.components (choices.Split k)
    → IsMadeBy d (SplitsAt k) p.components (outcome_of logged after) → q ≡ renumbered (noted logged (record p { components = after })) → Goes d p q
goes_by_split d k logged after p q going choice made becomes =
    let o = outcome_of logged after in
    let made_at : IsMadeAt d p o = record { going = going; made = record { next = record { made = made.made; by_rule = split_by_rule k p.components o.event choice made.kind }; fits = made.fits } } in
    let anew : BeginsAnew o.event = subst BeginsAnew (sym made.kind.1) tt in
    let steps : p.steps ≡ cond (is_step o.event) (p.steps + 1) p.steps = sym (anew_steps p o false (ap is_step made.kind.1)) in
    let as_begun : begun p o p.parts ≡ q = (λ i. record (begun p o p.parts) { steps = (sym steps) i }) ∙ sym becomes in
    subst (Goes d p) as_begun (begins_anew o made_at anew)

-- ---- comparisons of the last letters

compared_by_rule : (components : List Component) (e : Event) → IsChoice components choices.Compare → is_step e ≡ true → FollowsRule components e
compared_by_rule [] e choice s = absurd choice
compared_by_rule (c ∷ rest) (Won top) choice s = choice.0
compared_by_rule (c ∷ rest) (Merged found) choice s = choice.0
compared_by_rule (c ∷ rest) (Split k found) choice s = absurd cc
compared_by_rule (c ∷ rest) Closed choice s = absurd cc

module _ (d : ℕ) (logged : Logged) (after : List Component) (p : Point) (going : p.looped ≡ false) (choice : IsChoice p.components choices.Compare)
    (made : IsMadeBy d (λ event. is_step event ≡ true) p.components (outcome_of logged after)) where
  abbrev o : Outcome
  o = outcome_of logged after

  -- the point with its components, and one step more
  abbrev between : Point
  between = record p { components = after; steps = p.steps + 1 }

  made_at : IsMadeAt d p o
  made_at = record { going = going; made = record { next = record { made = made.made; by_rule = compared_by_rule p.components o.event choice made.kind }; fits = made.fits } }

  -- a merge
  pub goes_by_merge : (q : Point) → BeginsAnew logged.event → q ≡ renumbered (noted logged between) → Goes d p q
  goes_by_merge q anew becomes =
      let steps : cond (is_step o.event) (p.steps + 1) p.steps ≡ p.steps + 1 = anew_steps p o true made.kind in
      let as_begun : begun p o p.parts ≡ q = (λ i. record (begun p o p.parts) { steps = steps i }) ∙ sym becomes in
      subst (Goes d p) as_begun (begins_anew o made_at anew)

  module _ (top : Bool) (event : logged.event ≡ Won top) where
    compares_at : (result : Result Bool Place) (k : IsCompared d between result) → ComparesAt d p o k.component k.saved result
    compares_at result k = record { made = made_at; top = top; event = event; rest = k.rest; components = k.components; saved_before = k.saved_before; compared = k.compared }

    none_found : p.found ++ found_by logged.event ≡ p.found
    none_found = ap (λ e. p.found ++ found_by e) event ∙ append-nil p.found

    as_won : (saved : Option Checkpoint) (looped : Bool) → record (noted logged between) { number = p.number + 1; saved = saved; looped = looped } ≡ won_on p o saved looped
    as_won saved looped = λ i. record (won_on p o saved looped) { found = none_found i }

    -- a won comparison
    pub goes_by_win : (q : Point) → LooksBack d logged between q → Goes d p q
    goes_by_win q back = by_answer back.same back.compared back.becomes
      where
        by_answer : (same : Bool) → IsCompared d between (Ok same) → LooksTo logged between same q → Goes d p q
        by_answer true k becomes =
            subst (Goes d p) (sym (becomes ∙ as_won p.saved true)) (finds_loop o k.component k.saved (compares_at (Ok true) k))
        by_answer false k (inl saves) =
            let now : checkpoint_of (p.number + 1) after ≡ Some (record { number = p.number + 1; component = k.component }) = ap (checkpoint_of (p.number + 1)) k.components in
            subst (Goes d p) (sym (saves.1 ∙ as_won (checkpoint_of (p.number + 1) after) false ∙ ap (λ s. won_on p o s false) now))
            (wins_and_saves o k.component k.saved (compares_at (Ok false) k) saves.0)
        by_answer false k (inr keeps) =
            subst (Goes d p) (sym (keeps.1 ∙ as_won p.saved false)) (wins o k.component k.saved (compares_at (Ok false) k) keeps.0)

    -- the comparison after it overflows
    pub stops_at_comparison : (stop : Stop) → OverflowsWhere (event_number p.events) (λ place. IsCompared d between (Err place)) stop → (n : ℕ) → p.steps < n → StopsRun d n p stop
    stops_at_comparison NoMemory h n room = tt
    stops_at_comparison (Undecided m) h n room = absurd h
    stops_at_comparison (Overflow site) h n room =
        let ends = comparison_stops o h.2.component h.2.saved h.0 room (compares_at (Err h.0) h.2) in
        subst (λ s. EndsAt d n p (Err (Overflow s))) (sym h.1) ends

-- ---- stops

-- the next event overflows
pub split_stops : (d k : ℕ) (p : Point) (stop : Place) → p.looped ≡ false → IsChoice p.components (choices.Split k) → IsStoppedBy d (SplitsAt k) p.components stop → (n : ℕ) → p.steps ≤ n
    → StopsRun d n p (Overflow (sites.Event (event_number p.events) stop.0))
split_stops d k p stop going choice s n few =
    event_stops stop few going (record { outcome = s.outcome; next = record { made = s.made; by_rule = split_by_rule k p.components s.outcome.event choice s.kind }; overflows = s.overflows })
    (λ step. absurd (no_step (ap is_step s.kind.1) step))
  where
    no_step : {b : Bool} → b ≡ false → b ≡ true → ⊥
    no_step e f = absurd cc

pub comparison_of_last_stops : (d : ℕ) (p : Point) (stop : Place) → p.looped ≡ false → IsChoice p.components choices.Compare
    → IsStoppedBy d (λ event. is_step event ≡ true) p.components stop → (n : ℕ) → p.steps < n → StopsRun d n p (Overflow (sites.Event (event_number p.events) stop.0))
comparison_of_last_stops d p stop going choice s n room =
    event_stops stop (omega arith) going
    (record { outcome = s.outcome; next = record { made = s.made; by_rule = compared_by_rule p.components s.outcome.event choice s.kind }; overflows = s.overflows })
    (λ step. room)
