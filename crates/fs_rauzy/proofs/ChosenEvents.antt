-- An event that is made by the rule's choice is the next one.
use Rattle.std.proofs.Common.{◌≡◌, ◌≢◌, ℕ, length, arith, true, false, List, [], ◌∷◌, sym, subst}
use Rattle.std.specs.List.{AllByRecursion}
use Rattle.fs_quadratic.specs.Radicand.{IsRadicand}
use Rattle.fs_quadratic.proofs.Laws.{field_order}
use Rattle.fs_quadratic.specs.declared.steps.Place.{Place}
use Rattle.fs_gluing.specs.Exchanges.{Component, IsLawful}
use Rattle.fs_rauzy.specs.declared.events.Event.{Event}
use Rattle.fs_rauzy.specs.declared.events.Event.TheVariants as events
use Rattle.fs_rauzy.specs.declared.states.Choice.TheVariants as choices
use Rattle.fs_rauzy.specs.Events.{HasSplit, Outcome}
use Rattle.fs_rauzy.specs.Rule.{FollowsRule, IsMade, StopsAt, is_step}
use Rattle.fs_rauzy.specs.StatesInPlace.{IsChoice}
use Rattle.fs_rauzy.specs.Steps.{AtCurrent, CanCompare, SplitsAt, IsMadeBy, IsStoppedBy}
use Rattle.fs_rauzy.proofs.SplitPlaces.{can_compare}

-- where a split is chosen, the current component can be split so
pub splits_now : (components : List Component) (k : ℕ) → IsChoice components (choices.Split k) → AtCurrent (λ c. HasSplit c k) components
splits_now [] k h = absurd h
splits_now (c ∷ rest) k h = h.0

-- where a comparison is chosen, its last letters differ
pub compares_now : (components : List Component) → IsChoice components choices.Compare → AtCurrent CanCompare components
compares_now [] h = absurd h
compares_now (c ∷ rest) h = h.1

-- a component of several letters that can't be split is compared
pub compare_chosen : (d : ℕ) (components : List Component) (n : ℕ) → IsRadicand d → AllByRecursion (IsLawful d) components → AtCurrent (λ c. (k : ℕ) → ¬ HasSplit c k) components
    → AtCurrent (λ c. n ≡ length c.top) components → n ≢ 1 → IsChoice components choices.Compare
compare_chosen d [] n radicand lawful none long more = absurd none
compare_chosen d (c ∷ rest) n radicand lawful none long more =
    let some = lawful.0.some_letter in
    (none, can_compare (field_order radicand) lawful.0 none (omega arith))

-- ---- the rule

rule_of_split : (components : List Component) (k : ℕ) (event : Event) → IsChoice components (choices.Split k) → SplitsAt k event → FollowsRule components event
rule_of_split [] k event h e = absurd h
rule_of_split (c ∷ rest) k event h e = subst (λ event. FollowsRule (c ∷ rest) event) (sym e.1) h.1

rule_of_close : (components : List Component) (event : Event) → IsChoice components choices.Close → event ≡ events.Closed → FollowsRule components event
rule_of_close [] event h e = absurd h
rule_of_close (c ∷ rest) event h e = subst (λ event. FollowsRule (c ∷ rest) event) (sym e) h

no_step : false ≡ true → ⊥
no_step h = cc

rule_of_compare : (components : List Component) (event : Event) → IsChoice components choices.Compare → is_step event ≡ true → FollowsRule components event
rule_of_compare [] event h e = absurd h
rule_of_compare (c ∷ rest) (events.Won top) h e = h.0
rule_of_compare (c ∷ rest) (events.Merged found) h e = h.0
rule_of_compare (c ∷ rest) (events.Split k found) h e = absurd (no_step e)
rule_of_compare (c ∷ rest) events.Closed h e = absurd (no_step e)

-- ---- the next event

module _ {d : ℕ} {P : Event → Type 0} {components : List Component} (by_rule : (event : Event) → P event → FollowsRule components event) where
  next_made : {outcome : Outcome} → IsMadeBy d P components outcome → IsMade d components outcome
  next_made {outcome} made = record { next = record { made = made.made; by_rule = by_rule outcome.event made.kind }; fits = made.fits }

  next_stops : {stop : Place} → IsStoppedBy d P components stop → StopsAt d components stop
  next_stops stopped = record { outcome = stopped.outcome; next = record { made = stopped.made; by_rule = by_rule stopped.outcome.event stopped.kind }; overflows = stopped.overflows }

module _ {d : ℕ} {components : List Component} where
  -- a chosen split that is made is the next event, and so is one that stops
  pub split_made : {k : ℕ} {outcome : Outcome} → IsChoice components (choices.Split k) → IsMadeBy d (SplitsAt k) components outcome → IsMade d components outcome
  split_made {k} h made = next_made (λ event e. rule_of_split components k event h e) made

  pub split_stops : {k : ℕ} {stop : Place} → IsChoice components (choices.Split k) → IsStoppedBy d (SplitsAt k) components stop → StopsAt d components stop
  split_stops {k} h stopped = next_stops (λ event e. rule_of_split components k event h e) stopped

  -- so is a chosen closing
  pub close_made : {outcome : Outcome} → IsChoice components choices.Close → IsMadeBy d (λ event. event ≡ events.Closed) components outcome → IsMade d components outcome
  close_made h made = next_made (λ event e. rule_of_close components event h e) made

  -- and a chosen comparison
  pub compare_made : {outcome : Outcome} → IsChoice components choices.Compare → IsMadeBy d (λ event. is_step event ≡ true) components outcome → IsMade d components outcome
  compare_made h made = next_made (λ event e. rule_of_compare components event h e) made

  pub compare_stops : {stop : Place} → IsChoice components choices.Compare → IsStoppedBy d (λ event. is_step event ≡ true) components stop → StopsAt d components stop
  compare_stops h stopped = next_stops (λ event e. rule_of_compare components event h e) stopped
