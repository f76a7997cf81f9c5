-- The number of events with numbers in a list with one more.
use Rattle.std.proofs.Common.{◌≡◌, ℕ, ◌+◌, ◌≤◌, Bool, true, false, cond, List, [], ◌∷◌, ◌++◌, refl, ap, ◌∙◌, arith}
use Rattle.fs_rauzy.specs.declared.events.Event.{Event}
use Rattle.fs_rauzy.specs.declared.events.Event.TheVariants.{Won, Merged, Split, Closed}
use Rattle.fs_rauzy.specs.declared.parts.Logged.{Logged}
use Rattle.fs_rauzy.specs.Runs.{is_numbered, event_number}

-- one more event counts where it has a number
pub event_number-append : (events : List Logged) (logged : Logged) → event_number (events ++ logged ∷ []) ≡ event_number events + cond (is_numbered logged.event) 1 0
event_number-append [] logged = omega arith
event_number-append (e ∷ events) logged = let more = event_number-append events logged in omega arith

-- the events of two lists with numbers are those of both
pub event_number-joined : (earlier events : List Logged) → event_number (earlier ++ events) ≡ event_number earlier + event_number events
event_number-joined [] events = omega arith
event_number-joined (e ∷ earlier) events = let more = event_number-joined earlier events in omega arith

-- a closing has none
pub closing_number : (events after : List Logged) (logged : Logged) → after ≡ events ++ logged ∷ [] → logged.event ≡ Closed → event_number after ≡ event_number events
closing_number events after logged e closed =
    let longer : event_number after ≡ event_number events + cond (is_numbered logged.event) 1 0 = ap event_number e ∙ event_number-append events logged in
    let none : cond {A = ℕ} (is_numbered logged.event) 1 0 ≡ 0 = ap (λ x. cond {A = ℕ} (is_numbered x) 1 0) closed in
    omega (arith, longer, none)

-- each other event has one
pub other_number : (events after : List Logged) (logged : Logged) → after ≡ events ++ logged ∷ [] → (logged.event ≡ Closed → ⊥) → event_number after ≡ event_number events + 1
other_number events after logged e other =
    let longer : event_number after ≡ event_number events + cond (is_numbered logged.event) 1 0 = ap event_number e ∙ event_number-append events logged in
    let one = counts logged.event other in
    omega (arith, longer, one)
  where
    counts : (x : Event) → (x ≡ Closed → ⊥) → cond {A = ℕ} (is_numbered x) 1 0 ≡ 1
    counts (Won top) h = refl
    counts (Merged found) h = refl
    counts (Split k found) h = refl
    counts Closed h = absurd (h refl)

-- at most one
pub one_more_event : (events after : List Logged) (logged : Logged) → after ≡ events ++ logged ∷ [] → event_number after ≤ event_number events + 1
one_more_event events after logged e =
    let longer : event_number after ≡ event_number events + cond (is_numbered logged.event) 1 0 = ap event_number e ∙ event_number-append events logged in
    let few = at_most_one (is_numbered logged.event) in
    omega arith
  where
    at_most_one : (b : Bool) → cond b 1 0 ≤ 1
    at_most_one true = omega arith
    at_most_one false = omega arith
