-- Where a run is, and how it goes on and ends there, as its inner calls say it. The contracts of public calls don't rest on this file.
use Rattle.std.specs.Prelude.{◌≡◌, ◌⊎◌, ℕ, ◌+◌, ◌<◌, ◌≤◌, if◌then◌else◌, Bool, true, false, Option, Some, None, IsSome, Result, Ok, Err, List, [], ◌∷◌, ◌++◌}
use Rattle.fs_quadratic.specs.Radicand.{IsRadicand}
use Rattle.fs_quadratic.specs.Ring as ring
use Rattle.fs_quadratic.specs.declared.steps.Place.{Place}
use Rattle.fs_plane.specs.declared.sites.Site.TheVariants as sites
use Rattle.fs_plane.specs.declared.sites.Stop.{Stop}
use Rattle.fs_plane.specs.declared.sites.Stop.TheVariants.{Undecided, Overflow, NoMemory}
use Rattle.fs_gluing.specs.Exchanges.{Component}
use Rattle.fs_rauzy.specs.declared.events.Event.{Event}
use Rattle.fs_rauzy.specs.declared.events.Event.TheVariants.{Closed}
use Rattle.fs_rauzy.specs.declared.parts.Kind.{Kind}
use Rattle.fs_rauzy.specs.declared.parts.Logged.{Logged}
use Rattle.fs_rauzy.specs.declared.parts.Run.{Run}
use Rattle.fs_rauzy.specs.Comparisons.{IsComparison}
use Rattle.fs_rauzy.specs.Events.{Outcome}
use Rattle.fs_rauzy.specs.Measures.{weight}
use Rattle.fs_rauzy.specs.Rule.{IsNext, StopsAt, is_step}
use Rattle.fs_rauzy.specs.Runs.{Point, Checkpoint, IsSaved, first_checkpoint, found_by, part_of, begun, is_numbered, event_number, ComparesAt}
use Rattle.fs_rauzy.specs.States.{IsState}
use Rattle.fs_rauzy.specs.Steps.{IsOpen}

-- the field's d, how many events were numbered, and the point where a run is; of the events it lists the latest ones
pub record ProgressValue : Type 0 where
  pub d : ℕ
  pub numbered : ℕ
  pub point : Point

-- the checkpoint of a number and the current one of these components
abbrev pub checkpoint_of : ℕ → List Component → Option Checkpoint
checkpoint_of number [] = None
checkpoint_of number (c ∷ rest) = Some (record { number = number; component = c })

-- ---- changes of a point

-- how many events are numbered, with this one
abbrev pub counted : Event → ℕ → ℕ
counted event n = if is_numbered event then n + 1 else n

-- as many events were numbered as came to the list with a number
abbrev pub Counts : ProgressValue → ProgressValue → Type 0
Counts v w = w.numbered + event_number v.point.events ≡ v.numbered + event_number w.point.events

-- an event is noted, and what it found
abbrev pub noted : Logged → Point → Point
noted logged p = record p { events = p.events ++ logged ∷ []; found = p.found ++ found_by logged.event }

-- the states of the current component are numbered from 0
abbrev pub renumbered : Point → Point
renumbered p = record p { number = 0; saved = first_checkpoint p.components; looped = false }

-- the state is saved
abbrev pub saved_now : Point → Point
saved_now p = record p { saved = checkpoint_of p.number p.components }

-- the current component closes
pub record ClosesTo (kind : Kind) (p q : Point) : Type 0 where
  pub component : Component
  pub rest : List Component
  pub components : p.components ≡ component ∷ rest
  pub becomes : q ≡ begun p (record { event = Closed; length = ring.zero; components = rest }) (part_of component kind ∷ p.parts)

-- the current component is compared with its checkpoint, with this result
pub record IsCompared (d : ℕ) (p : Point) (result : Result Bool Place) : Type 0 where
  pub component : Component
  pub rest : List Component
  pub components : p.components ≡ component ∷ rest
  pub saved : Checkpoint
  pub saved_before : p.saved ≡ Some saved
  pub compared : IsComparison d saved.component component result

-- after a won comparison the event is noted, with this answer, and the state saved where its number is saved
abbrev pub LooksTo : Logged → Point → Bool → Point → Type 0
LooksTo logged p true q = q ≡ record (noted logged p) { number = p.number + 1; looped = true }
LooksTo logged p false q =
    (IsSaved (p.number + 1) × (q ≡ record (noted logged p) { number = p.number + 1; looped = false; saved = checkpoint_of (p.number + 1) p.components }))
    ⊎ ((¬ IsSaved (p.number + 1)) × (q ≡ record (noted logged p) { number = p.number + 1; looped = false }))

-- how the look back after a won comparison goes on
pub record LooksBack (d : ℕ) (logged : Logged) (p q : Point) : Type 0 where
  pub same : Bool
  pub compared : IsCompared d p (Ok same)
  pub becomes : LooksTo logged p same q

-- the place of event m, or of the comparison after it, for which this holds, is where a run overflows
abbrev pub OverflowsWhere : ℕ → (Place → Type 0) → Stop → Type 0
OverflowsWhere m P NoMemory = Unit {0}
OverflowsWhere m P (Undecided n) = ⊥
OverflowsWhere m P (Overflow site) = (stop : Place) × (site ≡ sites.Event m stop.0) × P stop

-- ---- ends

-- how a run of at most n steps ends at a point
pub data EndsAt (d n : ℕ) (p : Point) : Result Run Stop → Type 0 where
  all_closed : p.components ≡ [] → p.steps ≤ n → EndsAt d n p (Ok (record { events = p.events; parts = p.parts; found = p.found; steps = p.steps }))
  budget_spent : (outcome : Outcome) → p.steps ≡ n → p.looped ≡ false → IsNext d p.components outcome → is_step outcome.event ≡ true → EndsAt d n p (Err (Undecided n))
  event_stops : (stop : Place) → p.steps ≤ n → p.looped ≡ false → (stopped : StopsAt d p.components stop) → (is_step stopped.outcome.event ≡ true → p.steps < n)
      → EndsAt d n p (Err (Overflow (sites.Event (event_number p.events) stop.0)))
  comparison_stops : (outcome : Outcome) (c : Component) (saved : Checkpoint) (stop : Place) → p.steps < n → ComparesAt d p outcome c saved (Err stop)
      → EndsAt d n p (Err (Overflow (sites.Event (event_number p.events) stop.0)))

-- what is returned ends a run of at most n steps there, or memory runs out
abbrev pub StopsRun : ℕ → ℕ → Point → Stop → Type 0
StopsRun d n p NoMemory = Unit {0}
StopsRun d n p (Undecided m) = EndsAt d n p (Err (Undecided m))
StopsRun d n p (Overflow site) = EndsAt d n p (Err (Overflow site))

-- so it is with each list of events of which m have numbers
abbrev pub StopsFrom : ℕ → ℕ → ℕ → Point → Stop → Type 0
StopsFrom d n m p stop = (events : List Logged) → event_number events ≡ m → StopsRun d n (record p { events = events }) stop

-- a run of at most n steps, of which m events were numbered, can go on here: a component is open, it has a checkpoint, and the numbers are in bounds
pub record CanGo (d n m : ℕ) (p : Point) : Type 0 where
  pub radicand : IsRadicand d
  pub state : IsState (record { d = d; components = p.components })
  pub is_open : IsOpen p.components
  pub saved : IsSome p.saved
  pub within : p.steps ≤ n
  pub numbered : p.number ≤ p.steps
  pub few : m + weight p.components ≤ p.steps + 1024
