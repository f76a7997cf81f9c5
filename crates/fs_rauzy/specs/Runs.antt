-- The run of the induction from a state within a budget of steps: its events, its checkpoints, and how it ends.
use Rattle.std.specs.Prelude.{◌≡◌, ℕ, ◌+◌, ◌^◌, ◌<◌, ◌≤◌, if◌then◌else◌, Bool, true, false, Option, Some, None, Result, Ok, Err, List, [], ◌∷◌, ◌++◌, map}
use Rattle.fs_ring.specs.OrderedRing.{IsAtMost}
use Rattle.fs_quadratic.specs.Ring as ring
use Rattle.fs_quadratic.specs.Ring.{quadratic, IsPositive, add}
use Rattle.fs_quadratic.specs.declared.steps.Place.{Place}
use Rattle.fs_plane.specs.declared.sites.Site.TheVariants as sites
use Rattle.fs_plane.specs.declared.sites.Stop.{Stop}
use Rattle.fs_plane.specs.declared.sites.Stop.TheVariants.{Undecided, Overflow, NoMemory}
use Rattle.fs_gluing.specs.Exchanges.{Component}
use Rattle.fs_rauzy.specs.declared.events.Event.{Event}
use Rattle.fs_rauzy.specs.declared.events.Event.TheVariants.{Won, Merged, Split, Closed}
use Rattle.fs_rauzy.specs.declared.events.Found.{Found}
use Rattle.fs_rauzy.specs.declared.parts.Kind.{Kind}
use Rattle.fs_rauzy.specs.declared.parts.Kind.TheVariants.{Cylinder, Looped}
use Rattle.fs_rauzy.specs.declared.parts.Logged.{Logged}
use Rattle.fs_rauzy.specs.declared.parts.Part.{Part}
use Rattle.fs_rauzy.specs.declared.parts.Parts.{Parts}
use Rattle.fs_rauzy.specs.declared.parts.Run.{Run}
use Rattle.fs_rauzy.specs.Comparisons.{IsComparison}
use Rattle.fs_rauzy.specs.Events.{Outcome}
use Rattle.fs_rauzy.specs.Rule.{IsNext, IsMade, StopsAt, is_step}

-- ---- points of a run

-- a state of the current component that was saved, and its number
pub record Checkpoint : Type 0 where
  pub number : ℕ
  pub component : Component

-- a point of a run: the open components; the number of the current component's state; the checkpoint that it is compared with, if any is open; whether it was found to be alike; and the steps, the events, the closed parts (the latest first) and the found connections so far
pub record Point : Type 0 where
  pub components : List Component
  pub number : ℕ
  pub saved : Option Checkpoint
  pub looped : Bool
  pub steps : ℕ
  pub events : List Logged
  pub parts : List Part
  pub found : List Found

-- state 0 of the current component
abbrev pub first_checkpoint : List Component → Option Checkpoint
first_checkpoint [] = None
first_checkpoint (c ∷ rest) = Some (record { number = 0; component = c })

-- where a run begins
abbrev pub start_of : List Component → Point
start_of components = record { components = components; number = 0; saved = first_checkpoint components; looped = false; steps = 0; events = []; parts = []; found = [] }

-- a number of a state that is saved: 2^j - 1
abbrev pub IsSaved : ℕ → Type 0
IsSaved number = (j : ℕ) × (number + 1 ≡ 2 ^ j)

-- the connection that an event finds
abbrev pub found_by : Event → List Found
found_by (Merged (Some found)) = found ∷ []
found_by (Split k (Some found)) = found ∷ []
found_by event = []

-- the part that a component becomes when it closes
abbrev pub part_of : Component → Kind → Part
part_of c kind = record { base = c.base; width = c.total; letters = map (λ letter. record { length = letter.length; back = letter.back }) c.top; kind = kind }

-- the point after an event by which another component becomes current, or the same one with other letters: its states are numbered from 0 again
abbrev pub begun : Point → Outcome → List Part → Point
begun p outcome parts = record {
  components = outcome.components;
  number = 0;
  saved = first_checkpoint outcome.components;
  looped = false;
  steps = (if is_step outcome.event then p.steps + 1 else p.steps);
  events = p.events ++ (record { event = outcome.event; length = outcome.length }) ∷ [];
  parts = parts;
  found = p.found ++ found_by outcome.event;
}

-- the point after a won comparison, with the checkpoint that it has then, and whether it was alike
abbrev pub won_on : Point → Outcome → Option Checkpoint → Bool → Point
won_on p outcome saved looped = record {
  components = outcome.components;
  number = p.number + 1;
  saved = saved;
  looped = looped;
  steps = p.steps + 1;
  events = p.events ++ (record { event = outcome.event; length = outcome.length }) ∷ [];
  parts = p.parts;
  found = p.found;
}

-- the event splits or merges
abbrev pub BeginsAnew : Event → Type 0
BeginsAnew (Split k found) = Unit {0}
BeginsAnew (Merged found) = Unit {0}
BeginsAnew (Won top) = ⊥
BeginsAnew Closed = ⊥

-- ---- how a run goes on

-- the next event of a component that wasn't found to be alike
pub record IsMadeAt (d : ℕ) (p : Point) (outcome : Outcome) : Type 0 where
  pub going : p.looped ≡ false
  pub made : IsMade d p.components outcome

-- a won comparison is made, and the component is compared with its checkpoint, with this result
pub record ComparesAt (d : ℕ) (p : Point) (outcome : Outcome) (c : Component) (saved : Checkpoint) (result : Result Bool Place) : Type 0 where
  pub made : IsMadeAt d p outcome
  pub top : Bool
  pub event : outcome.event ≡ Won top
  pub rest : List Component
  pub components : outcome.components ≡ c ∷ rest
  pub saved_before : p.saved ≡ Some saved
  pub compared : IsComparison d saved.component c result

-- the run goes on from one point to the next by one event
pub data Goes (d : ℕ) (p : Point) : Point → Type 0 where
  -- a component that was found to be alike closes as looped
  closes_loop : (c : Component) (rest : List Component) (saved : Checkpoint) → p.looped ≡ true → p.components ≡ c ∷ rest → p.saved ≡ Some saved
      → Goes d p (begun p (record { event = Closed; length = ring.zero; components = rest }) (part_of c (Looped saved.number p.number) ∷ p.parts))
  -- one of one letter closes as a cylinder
  closes_cylinder : (outcome : Outcome) (c : Component) (rest : List Component) → IsMadeAt d p outcome → outcome.event ≡ Closed → p.components ≡ c ∷ rest
      → Goes d p (begun p outcome (part_of c Cylinder ∷ p.parts))
  -- a split or a merge
  begins_anew : (outcome : Outcome) → IsMadeAt d p outcome → BeginsAnew outcome.event → Goes d p (begun p outcome p.parts)
  -- a won comparison after which the component is alike: its checkpoint stays
  finds_loop : (outcome : Outcome) (c : Component) (saved : Checkpoint) → ComparesAt d p outcome c saved (Ok true) → Goes d p (won_on p outcome p.saved true)
  -- one after which it isn't, with a number that isn't saved
  wins : (outcome : Outcome) (c : Component) (saved : Checkpoint) → ComparesAt d p outcome c saved (Ok false) → ¬ IsSaved (p.number + 1) → Goes d p (won_on p outcome p.saved false)
  -- with a number that is
  wins_and_saves : (outcome : Outcome) (c : Component) (saved : Checkpoint) → ComparesAt d p outcome c saved (Ok false) → IsSaved (p.number + 1)
      → Goes d p (won_on p outcome (Some (record { number = p.number + 1; component = c })) false)

-- the run leads from its start to a point
pub data Leads (d : ℕ) (start : Point) : Point → Type 0 where
  no_event : Leads d start start
  event : (p q : Point) → Leads d start p → Goes d p q → Leads d start q

-- ---- how a run ends

-- whether an event has a number: closings have none
abbrev pub is_numbered : Event → Bool
is_numbered Closed = false
is_numbered (Won top) = true
is_numbered (Merged found) = true
is_numbered (Split k found) = true

-- the number of the next event: how many of these have one
abbrev pub event_number : List Logged → ℕ
event_number [] = 0
event_number (logged ∷ events) = (if is_numbered logged.event then 1 else 0) + event_number events

-- how a run of at most n steps ends
pub data EndsRun (d n : ℕ) (components : List Component) : Result Run Stop → Type 0 where
  -- no component is open
  all_closed : (p : Point) → Leads d (start_of components) p → p.components ≡ [] → p.steps ≤ n
      → EndsRun d n components (Ok (record { events = p.events; parts = p.parts; found = p.found; steps = p.steps }))
  -- n steps are made, and the next event is a step
  budget_spent : (p : Point) (outcome : Outcome) → Leads d (start_of components) p → p.steps ≡ n → p.looped ≡ false → IsNext d p.components outcome → is_step outcome.event ≡ true
      → EndsRun d n components (Err (Undecided n))
  -- the next event overflows, and isn't a step beyond the budget
  event_stops : (p : Point) (stop : Place) → Leads d (start_of components) p → p.steps ≤ n → p.looped ≡ false → (stopped : StopsAt d p.components stop)
      → (is_step stopped.outcome.event ≡ true → p.steps < n) → EndsRun d n components (Err (Overflow (sites.Event (event_number p.events) stop.0)))
  -- the comparison after a won one overflows: it is part of that event
  comparison_stops : (p : Point) (outcome : Outcome) (c : Component) (saved : Checkpoint) (stop : Place) → Leads d (start_of components) p → p.steps < n
      → ComparesAt d p outcome c saved (Err stop) → EndsRun d n components (Err (Overflow (sites.Event (event_number p.events) stop.0)))

-- what holds of the run or of its stop holds of what a call returns; where memory runs out it returns neither
abbrev pub ReturnsRun : (Result Run Stop → Type 0) → Result Run Stop → Type 0
ReturnsRun P (Ok run) = P (Ok run)
ReturnsRun P (Err NoMemory) = Unit {0}
ReturnsRun P (Err (Undecided n)) = P (Err (Undecided n))
ReturnsRun P (Err (Overflow site)) = P (Err (Overflow site))

-- ---- runs without their events

-- a run, or its stop, without the events
abbrev pub without_events : Result Run Stop → Result Parts Stop
without_events (Ok run) = Ok (record { parts = run.parts; found = run.found; steps = run.steps })
without_events (Err stop) = Err stop

-- how a run of at most n steps ends, where its events aren't kept: with some events it ends so
abbrev pub EndsParts : ℕ → ℕ → List Component → Result Parts Stop → Type 0
EndsParts d n components (Ok parts) = (events : List Logged) × EndsRun d n components (Ok (record { events = events; parts = parts.parts; found = parts.found; steps = parts.steps }))
EndsParts d n components (Err stop) = EndsRun d n components (Err stop)

-- what holds of the parts or of the stop holds of what a call returns; where memory runs out it returns neither
abbrev pub ReturnsParts : (Result Parts Stop → Type 0) → Result Parts Stop → Type 0
ReturnsParts P (Ok parts) = P (Ok parts)
ReturnsParts P (Err NoMemory) = Unit {0}
ReturnsParts P (Err (Undecided n)) = P (Err (Undecided n))
ReturnsParts P (Err (Overflow site)) = P (Err (Overflow site))

-- each part ends where the next one begins, or left of that
abbrev pub ArePartsAscending : ℕ → List Part → Type 0
ArePartsAscending d [] = Unit {0}
ArePartsAscending d (p ∷ []) = Unit {0}
ArePartsAscending d (p ∷ (q ∷ parts)) = IsAtMost (quadratic d) (IsPositive d) (add p.base p.width) q.base × ArePartsAscending d (q ∷ parts)
