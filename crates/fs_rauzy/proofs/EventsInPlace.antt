-- What a call that makes an event shows of the lists that a state keeps, and what it knows of them before.
use Rattle.std.proofs.Common.{◌≡◌, ℕ, true, Result, Ok, Err, List, ◌∷◌, ◌++◌, length, take, drop, refl, sym, ap, subst}
use Rattle.std.proofs.Math.Seq.{take_at}
use Rattle.std.specs.List.{AllByRecursion}
use Rattle.fs_lists.specs.Members.{IsIn}
use Rattle.fs_ring.specs.OrderedRing.{IsOrderedRing}
use Rattle.fs_quadratic.specs.Ring.{Quadratic, quadratic, IsPositive}
use Rattle.fs_quadratic.specs.declared.steps.Place.{Place}
use Rattle.fs_gluing.specs.Exchanges.{Letter, Component, IsLawful}
use Rattle.fs_rauzy.specs.declared.events.Event.{Event}
use Rattle.fs_rauzy.specs.declared.rows.Extent.{Extent}
use Rattle.fs_rauzy.specs.Events.{Makes}
use Rattle.fs_rauzy.specs.FirstReturns.{KeepsReturns}
use Rattle.fs_rauzy.specs.Rule.{Tests, passed}
use Rattle.fs_rauzy.specs.States.{StateValue, IsState}
use Rattle.fs_rauzy.specs.StatesInPlace.{component_at, opened, IsInPlace, AreLastNames}
use Rattle.fs_rauzy.specs.Steps.{AtCurrent, IsMadeBy}
use Rattle.fs_rauzy.proofs.EventReturns.{events_keep_returns}
use Rattle.fs_rauzy.proofs.LastInPlace.{AreLastInPlace, last_in_place, x_below}
use Rattle.fs_rauzy.proofs.LawfulEvents.{event_keeps_state}
use Rattle.fs_rauzy.proofs.WrittenLetters.{in_drop}

-- the event is made of the state's components, and gives those of these lists
pub record IsEventInPlace (v : StateValue) (event : Event) (noted : Quadratic) (letters : List Letter) (top bottom : List ℕ) (extents : List Extent) : Type 0 where
  pub made : Makes v.d v.components (record { event = event; length = noted; components = opened letters top bottom extents })
  pub fits : Tests v.components event (Ok true)
  pub state : IsState (record { d = v.d; components = opened letters top bottom extents })
  pub place : IsInPlace letters top bottom extents
  pub returns : KeepsReturns v.d v.components (opened letters top bottom extents)

-- an event that is made keeps what a state keeps, and returns
pub event_in_place : {v : StateValue} {event : Event} {noted : Quadratic} {letters : List Letter} {top bottom : List ℕ} {extents : List Extent} (L : IsOrderedRing (quadratic v.d) (IsPositive v.d))
    → IsState v → Makes v.d v.components (record { event = event; length = noted; components = opened letters top bottom extents }) → Tests v.components event (Ok true)
    → IsInPlace letters top bottom extents → IsEventInPlace v event noted letters top bottom extents
event_in_place {v = v} {event = event} {noted = noted} {letters = letters} {top = top} {bottom = bottom} {extents = extents} L state made fits place =
    record { made = made; fits = fits; state = event_keeps_state L state made; place = place; returns = events_keep_returns state.lawful made }

-- lists that are equal to those after an event
pub event_at : {v : StateValue} {event : Event} {noted : Quadratic} {letters : List Letter} {top bottom : List ℕ} {extents : List Extent}
    {noted2 : Quadratic} {letters2 : List Letter} {top2 bottom2 : List ℕ} {extents2 : List Extent} → noted2 ≡ noted → letters2 ≡ letters → top2 ≡ top → bottom2 ≡ bottom → extents2 ≡ extents
    → IsEventInPlace v event noted letters top bottom extents → IsEventInPlace v event noted2 letters2 top2 bottom2 extents2
event_at {v = v} {event = event} {noted = noted} {letters = letters} {top = top} {bottom = bottom} {extents = extents} {noted2 = noted2} {letters2 = letters2} {top2 = top2} {bottom2 = bottom2} {extents2 = extents2} a b c d e h =
    subst (λ (q : Quadratic). IsEventInPlace v event q letters2 top2 bottom2 extents2) (sym a)
    (subst (λ (ls : List Letter). IsEventInPlace v event noted ls top2 bottom2 extents2) (sym b)
    (subst (λ (row : List ℕ). IsEventInPlace v event noted letters row bottom2 extents2) (sym c)
    (subst (λ (row : List ℕ). IsEventInPlace v event noted letters top row extents2) (sym d)
    (subst (λ (es : List Extent). IsEventInPlace v event noted letters top bottom es) (sym e) h))))

-- what its call shows of the state
pub made_by : {v w : StateValue} {P : Event → Type 0} {event : Event} {noted : Quadratic} {letters : List Letter} {top bottom : List ℕ} {extents : List Extent} → v ≡ w → P event
    → IsEventInPlace v event noted letters top bottom extents → IsMadeBy w.d P w.components (record { event = event; length = noted; components = opened letters top bottom extents })
made_by {P = P} {event = event} {noted = noted} {letters = letters} {top = top} {bottom = bottom} {extents = extents} same kind is =
    subst (λ (v : StateValue). IsMadeBy v.d P v.components (record { event = event; length = noted; components = opened letters top bottom extents })) same
    (record { kind = kind; made = is.made; fits = is.fits })

pub returns_by : {v w : StateValue} {event : Event} {noted : Quadratic} {letters : List Letter} {top bottom : List ℕ} {extents : List Extent} → v ≡ w
    → IsEventInPlace v event noted letters top bottom extents → KeepsReturns w.d w.components (opened letters top bottom extents)
returns_by {letters = letters} {top = top} {bottom = bottom} {extents = extents} same is =
    subst (λ (v : StateValue). KeepsReturns v.d v.components (opened letters top bottom extents)) same is.returns

-- a test that passes or stops, of what is computed
pub passed_ok : {A : Type 0} (r : Result A Place) (x : A) → r ≡ Ok x → passed r ≡ Ok true
passed_ok (Ok y) x e = refl
passed_ok (Err stop) x e = absurd cc

pub passed_err : {A : Type 0} (r : Result A Place) (stop : Place) → r ≡ Err stop → passed r ≡ Err stop
passed_err (Ok y) stop e = absurd cc
passed_err (Err other) stop e = let same : other ≡ stop = cc in ap Err same

-- a vector whose items are written whole has those that were written
pub written_whole : {X : Type 0} (n : ℕ) (new old : List X) → n ≡ length new → take n (new ++ drop (length new) old) ≡ new
written_whole n new old e = take_at new (drop (length new) old) n (sym e)

-- ---- before the event

module _ (letters : List Letter) (top bottom : List ℕ) {extents : List Extent} {e : Extent} {rest : List Extent} (is : extents ≡ e ∷ rest) where
  pub place_at : IsInPlace letters top bottom extents → IsInPlace letters top bottom (e ∷ rest)
  place_at place = subst (IsInPlace letters top bottom) is place

  pub opened_at : opened letters top bottom extents ≡ component_at letters top bottom e ∷ opened letters (take e.first top) (take e.first bottom) rest
  opened_at = ap (opened letters top bottom) is

  pub lawful_at : {d : ℕ} → IsState (record { d = d; components = opened letters top bottom extents }) → IsLawful d (component_at letters top bottom e)
  lawful_at {d = d} state = (subst (AllByRecursion (IsLawful d)) opened_at state.lawful).0

  pub current_at : (P : Component → Type 0) → AtCurrent P (opened letters top bottom extents) → P (component_at letters top bottom e)
  current_at P h = subst (AtCurrent P) opened_at h

  -- the last names, in place
  pub last_at : (R : Letter → Letter → Type 0) (x y : ℕ) → IsInPlace letters top bottom extents → AtCurrent (λ c. AreLastNames c x y R) (opened letters top bottom extents)
      → AreLastInPlace R letters top bottom e x y
  last_at R x y place h = last_in_place (place_at place) R x y (current_at (λ c. AreLastNames c x y R) h)

  -- the top row's last name is in the bottom row
  pub x_in_bottom : {d : ℕ} {R : Letter → Letter → Type 0} {x y : ℕ} → IsInPlace letters top bottom extents → IsState (record { d = d; components = opened letters top bottom extents })
      → AreLastInPlace R letters top bottom e x y → IsIn x bottom
  x_in_bottom {x = x} place state last = in_drop x e.first bottom (x_below (place_at place) (lawful_at state) last)

  -- and the bottom row's last name in the top row
  pub y_in_top : {R : Letter → Letter → Type 0} {x y : ℕ} → AreLastInPlace R letters top bottom e x y → IsIn y top
  y_in_top {y = y} last = in_drop y e.first top last.y_there
