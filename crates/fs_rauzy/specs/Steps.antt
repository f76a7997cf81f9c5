-- How the calls on a state say what they do with its current component.
use Rattle.std.specs.Prelude.{◌≡◌, ℕ, true, Option, Ok, Err, List, [], ◌∷◌}
use Rattle.fs_quadratic.specs.declared.steps.Place.{Place}
use Rattle.fs_gluing.specs.Exchanges.{Letter, Component}
use Rattle.fs_rauzy.specs.declared.events.Event.{Event}
use Rattle.fs_rauzy.specs.declared.events.Event.TheVariants.{Split}
use Rattle.fs_rauzy.specs.declared.events.Found.{Found}
use Rattle.fs_rauzy.specs.Events.{AreLast, Makes, Outcome}
use Rattle.fs_rauzy.specs.Rule.{Tests}

-- a component is open, and this holds of the current one
abbrev pub AtCurrent : (Component → Type 0) → List Component → Type 0
AtCurrent P [] = ⊥
AtCurrent P (c ∷ rest) = P c

-- a component is open
abbrev pub IsOpen : List Component → Type 0
IsOpen components = AtCurrent (λ c. Unit {0}) components

-- components are open in both states, and this holds of the current ones
abbrev pub AtBoth : (Component → Component → Type 0) → List Component → List Component → Type 0
AtBoth P before after = AtCurrent (λ b. AtCurrent (P b) after) before

-- the last letters of both rows differ
abbrev pub CanCompare : Component → Type 0
CanCompare c = (x y : Letter) × AreLast c x y

-- the event splits after k letters
abbrev pub SplitsAt : ℕ → Event → Type 0
SplitsAt k event = (found : Option Found) × (event ≡ Split k found)

-- such an event is made, whether or not the rule chooses it: its numbers fit
pub record IsMadeBy (d : ℕ) (P : Event → Type 0) (components : List Component) (outcome : Outcome) : Type 0 where
  pub kind : P outcome.event
  pub made : Makes d components outcome
  pub fits : Tests components outcome.event (Ok true)

-- such an event stops at this place, the first one where it overflows
pub record IsStoppedBy (d : ℕ) (P : Event → Type 0) (components : List Component) (stop : Place) : Type 0 where
  pub outcome : Outcome
  pub kind : P outcome.event
  pub made : Makes d components outcome
  pub overflows : Tests components outcome.event (Err stop)
