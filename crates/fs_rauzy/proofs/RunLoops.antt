-- Where a run closes a component as looped, won comparisons alone led to it from its checkpoint, and it is alike and shorter. A library for the crates above.
use Rattle.std.proofs.Common.{◌≡◌, ◌⊎◌, ℕ, ◌+◌, ◌<◌, Bool, true, false, Option, Some, None, Ok, List, [], ◌∷◌, refl, sym, ap, subst, inl, inr, arith}
use Rattle.std.specs.List.{AllByRecursion}
use Rattle.fs_lists.specs.Members.{IsIn}
use Rattle.fs_lists.proofs.Members.{All-member}
use Rattle.fs_ring.specs.OrderedRing.{IsOrderedRing}
use Rattle.fs_ring.proofs.Order as order
use Rattle.fs_ring.proofs.Signs as signs
use Rattle.fs_ring.proofs.Solver.{◌⊖◌, ◌≐◌}
use Rattle.fs_quadratic.specs.Ring.{Quadratic, quadratic, IsPositive, IsLess, sub}
use Rattle.fs_gluing.specs.Exchanges.{Letter, Component, IsLawful}
use Rattle.fs_rauzy.specs.declared.events.Event.TheVariants.{Won}
use Rattle.fs_rauzy.specs.Events.{IsWonByTop, IsWonByBottom, Outcome, Makes, splits, closes, wins_above, wins_below, merges}
use Rattle.fs_rauzy.specs.Loops.{AreAlike, IsWonTo, IsWonPath, none_won, won, IsLoop}
use Rattle.fs_rauzy.specs.Runs.{Point, Checkpoint, start_of, first_checkpoint, ComparesAt, Goes, closes_loop, closes_cylinder, begins_anew, finds_loop, wins, wins_and_saves, Leads, no_event, event}
use Rattle.fs_rauzy.specs.States.{IsState}
use Rattle.fs_rauzy.proofs.AlikeComponents.{alike_of_comparison}
use Rattle.fs_rauzy.proofs.EventRows.{last_in}
use Rattle.fs_rauzy.proofs.RunUnique.{led_state}

-- the state of this number comes after that of the checkpoint, and is shorter
abbrev IsLater : ℕ → ℕ → Checkpoint → Component → Type 0
IsLater d number saved c = (saved.number < number) × IsLess d c.total saved.component.total

-- won comparisons lead from a checkpoint to the current component, the state of this number; where it was found to be alike, it is
record IsSince (d number : ℕ) (looped : Bool) (saved : Checkpoint) (c : Component) : Type 0 where
  pub path : IsWonPath d saved.component c
  pub later : ((number ≡ saved.number) × (c.total ≡ saved.component.total)) ⊎ IsLater d number saved c
  pub alike : looped ≡ true → AreAlike d saved.component c × IsLater d number saved c

-- so it is where a component is open and has a checkpoint
abbrev SinceAt : ℕ → ℕ → Bool → List Component → Option Checkpoint → Type 0
SinceAt d number looped [] saved = Unit {0}
SinceAt d number looped (c ∷ rest) None = Unit {0}
SinceAt d number looped (c ∷ rest) (Some saved) = IsSince d number looped saved c

false_true : false ≡ true → ⊥
false_true h = cc

-- a checkpoint of the current component itself
of_itself : (d number : ℕ) (c : Component) → IsSince d number false (record { number = number; component = c }) c
of_itself d number c = record { path = none_won; later = inl (refl, refl); alike = λ h. absurd (false_true h) }

since_first : (d : ℕ) (components : List Component) → SinceAt d 0 false components (first_checkpoint components)
since_first d [] = tt
since_first d (c ∷ rest) = of_itself d 0 c

since_at : (d number : ℕ) (looped : Bool) (components : List Component) (at : Option Checkpoint) (c : Component) (rest : List Component) (saved : Checkpoint) → components ≡ c ∷ rest → at ≡ Some saved
    → IsSince d number looped saved c → SinceAt d number looped components at
since_at d number looped components at c rest saved is before h =
    subst (λ cs. SinceAt d number looped cs at) (sym is) (subst (SinceAt d number looped (c ∷ rest)) (sym before) h)

since_there : (d number : ℕ) (looped : Bool) (components : List Component) (at : Option Checkpoint) (c : Component) (rest : List Component) (saved : Checkpoint) → components ≡ c ∷ rest → at ≡ Some saved
    → SinceAt d number looped components at → IsSince d number looped saved c
since_there d number looped components at c rest saved is before h =
    subst (SinceAt d number looped (c ∷ rest)) before (subst (λ cs. SinceAt d number looped cs at) is h)

-- ---- a won comparison

-- it leads from the current component to the next one
record WonFrom (d : ℕ) (components : List Component) (after : Component) (rest : List Component) : Type 0 where
  pub before : Component
  pub was : components ≡ before ∷ rest
  pub won : IsWonTo d before after

won_from : {d : ℕ} {components : List Component} {outcome : Outcome} {top : Bool} {after : Component} {rest : List Component} → Makes d components outcome → outcome.event ≡ Won top
    → outcome.components ≡ after ∷ rest → WonFrom d components after rest
won_from (splits e left right others k found s) is same = absurd cc
won_from (closes e others) is same = absurd cc
won_from {d} {after = after} {rest = rest} (wins_above e x others w) is same =
    let now : x ≡ after = cc in
    let left : others ≡ rest = cc in
    record { before = e; was = ap (λ (cs : List Component). e ∷ cs) left; won = inl (subst (λ y. IsWonByTop d e y) now w) }
won_from {d} {after = after} {rest = rest} (wins_below e x others w) is same =
    let now : x ≡ after = cc in
    let left : others ≡ rest = cc in
    record { before = e; was = ap (λ (cs : List Component). e ∷ cs) left; won = inr (subst (λ y. IsWonByBottom d e y) now w) }
won_from (merges e x others found m) is same = absurd cc

module _ {d : ℕ} (L : IsOrderedRing (quadratic d) (IsPositive d)) where
  less_left : (total new l : Quadratic) → new ≡ sub total l → IsPositive d l → IsLess d new total
  less_left total new l e p = subst (λ x. IsLess d x total) (sym e) (signs.positive_by L (total ∷ l ∷ []) (λ t l. t ⊖ (t ⊖ l) ≐ l) refl p)

  long : (c : Component) (letter : Letter) → IsLawful d c → IsIn letter c.top → IsPositive d letter.length
  long c letter lawful h = All-member (λ (l : Letter). IsPositive d l.length) c.top letter lawful.lengths h

  won_shorter : (c after : Component) → IsLawful d c → IsWonTo d c after → IsLess d after.total c.total
  won_shorter c after lawful (inl w) = less_left c.total after.total w.y.length w.sum (long c w.y lawful w.last.there)
  won_shorter c after lawful (inr w) = less_left c.total after.total w.x.length w.sum (long c w.x lawful (last_in w.last))

  later_won : (number : ℕ) (looped : Bool) (saved : Checkpoint) (c after : Component) → IsLess d after.total c.total → IsSince d number looped saved c → IsLater d (number + 1) saved after
  later_won number looped saved c after less h = elim h.later [
    | inl e ↦ (let same = e.0 in omega arith, subst (IsLess d after.total) e.1 less)
    | inr k ↦ (let more = k.0 in omega arith, order.less_trans L after.total c.total saved.component.total less k.1)
  ]

  since_won : (number : ℕ) (looped : Bool) (saved : Checkpoint) (c after : Component) (found : Bool) → IsLawful d c → IsWonTo d c after → (found ≡ true → AreAlike d saved.component after) → IsSince d number looped saved c
      → IsSince d (number + 1) found saved after
  since_won number looped saved c after found lawful w alike h =
      let later = later_won number looped saved c after (won_shorter c after lawful w) h in
      record { path = won c after h.path w; later = inr later; alike = λ e. (alike e, later) }

  -- ---- points

  abbrev IsSinceAt : Point → Type 0
  IsSinceAt p = SinceAt d p.number p.looped p.components p.saved

  module _ (p : Point) (state : IsState (record { d = d; components = p.components })) (h : IsSinceAt p) (o : Outcome) (c : Component) (saved : Checkpoint) where
    stays : (found : Bool) → ComparesAt d p o c saved (Ok found) → SinceAt d (p.number + 1) found o.components p.saved
    stays found k =
        let w = won_from k.made.made.next.made k.event k.components in
        since_at d (p.number + 1) found o.components p.saved c k.rest saved k.components k.saved_before
        (since_won p.number p.looped saved w.before c found (subst (λ cs. AllByRecursion (IsLawful d) cs) w.was state.lawful).0 w.won
        (alike found k)
        (since_there d p.number p.looped p.components p.saved w.before k.rest saved w.was k.saved_before h))
      where
        alike : (found : Bool) → ComparesAt d p o c saved (Ok found) → found ≡ true → AreAlike d saved.component c
        alike found k e = (alike_of_comparison d saved.component c (Ok found) k.compared).0 e

  goes_since : (p q : Point) → IsState (record { d = d; components = p.components }) → IsSinceAt p → Goes d p q → IsSinceAt q
  goes_since p _ state h (closes_loop c rest saved looped was before) = since_first d rest
  goes_since p _ state h (closes_cylinder o c rest made is was) = since_first d o.components
  goes_since p _ state h (begins_anew o made anew) = since_first d o.components
  goes_since p _ state h (finds_loop o c saved k) = stays p state h o c saved true k
  goes_since p _ state h (wins o c saved k other) = stays p state h o c saved false k
  goes_since p _ state h (wins_and_saves o c saved k there) =
      since_at d (p.number + 1) false o.components (Some (record { number = p.number + 1; component = c })) c k.rest (record { number = p.number + 1; component = c }) k.components refl (of_itself d (p.number + 1) c)

  led_since : (components : List Component) → IsState (record { d = d; components = components }) → (p : Point) → Leads d (start_of components) p → IsSinceAt p
  led_since components state _ no_event = since_first d components
  led_since components state p (event r _ before g) = goes_since r p (led_state L components r state before) (led_since components state r before) g

  -- where a component was found to be alike to its checkpoint, it is a loop, and comes after it
  pub led_to_loop : (components : List Component) → IsState (record { d = d; components = components }) → (p : Point) → Leads d (start_of components) p → p.looped ≡ true
      → (c : Component) (rest : List Component) (saved : Checkpoint) → p.components ≡ c ∷ rest → p.saved ≡ Some saved → IsLoop d saved.component c × (saved.number < p.number)
  led_to_loop components state p leads looped c rest saved was before =
      let h = since_there d p.number p.looped p.components p.saved c rest saved was before (led_since components state p leads) in
      let k = h.alike looped in
      (record { path = h.path; alike = k.0; shorter = k.1.1 }, k.1.0)
