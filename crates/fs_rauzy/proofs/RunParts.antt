-- How the open components and the parts change where a run goes on: the current component closes, or another event is made. A library for the crates above.
use Rattle.std.proofs.Common.{◌≡◌, ◌≢◌, ◌⊎◌, ℕ, Bool, true, Some, List, ◌∷◌, length, refl, subst, inl, inr}
use Rattle.fs_gluing.specs.Exchanges.{Component}
use Rattle.fs_rauzy.specs.declared.events.Event.{Event}
use Rattle.fs_rauzy.specs.declared.events.Event.TheVariants.{Won, Merged, Split, Closed}
use Rattle.fs_rauzy.specs.declared.parts.Kind.{Kind}
use Rattle.fs_rauzy.specs.declared.parts.Kind.TheVariants.{Cylinder, Looped}
use Rattle.fs_rauzy.specs.Events.{Outcome, Makes, splits, closes, wins_above, wins_below, merges}
use Rattle.fs_rauzy.specs.Rule.{FollowsRule}
use Rattle.fs_rauzy.specs.Runs.{Point, Checkpoint, part_of, BeginsAnew, Goes, closes_loop, closes_cylinder, begins_anew, finds_loop, wins, wins_and_saves}

-- why the current component closes so: it has one letter, or was found to be alike to this checkpoint
abbrev pub IsClosedAt : Point → Component → Kind → Type 0
IsClosedAt p c Cylinder = length c.top ≡ 1
IsClosedAt p c (Looped from to) = (saved : Checkpoint) × (p.looped ≡ true) × (p.saved ≡ Some saved) × (from ≡ saved.number) × (to ≡ p.number)

-- the current component closes
pub record Closes (p q : Point) : Type 0 where
  pub component : Component
  pub rest : List Component
  pub kind : Kind
  pub was : p.components ≡ component ∷ rest
  pub becomes : q.components ≡ rest
  pub parts : q.parts ≡ part_of component kind ∷ p.parts
  pub closed : IsClosedAt p component kind

-- another event is made
pub record Continues (d : ℕ) (p q : Point) : Type 0 where
  pub outcome : Outcome
  pub made : Makes d p.components outcome
  pub going : outcome.event ≢ Closed
  pub becomes : q.components ≡ outcome.components
  pub parts : q.parts ≡ p.parts

-- a closing leaves the other components
others_left : {d : ℕ} {components : List Component} {outcome : Outcome} {c : Component} {rest : List Component} → Makes d components outcome → outcome.event ≡ Closed → components ≡ c ∷ rest → outcome.components ≡ rest
others_left (splits e left right others k found s) is same = absurd cc
others_left (closes e others) is same = cc
others_left (wins_above e after others w) is same = absurd cc
others_left (wins_below e after others w) is same = absurd cc
others_left (merges e after others found m) is same = absurd cc

-- one letter is left where the rule chooses a closing
one_letter : (components : List Component) (event : Event) (c : Component) (rest : List Component) → FollowsRule components event → event ≡ Closed → components ≡ c ∷ rest → length c.top ≡ 1
one_letter components event c rest h is same = subst (λ cs. FollowsRule cs Closed) same (subst (FollowsRule components) is h)

not_closed : (event : Event) → BeginsAnew event → event ≢ Closed
not_closed (Won top) h e = absurd h
not_closed (Merged found) h e = absurd cc
not_closed (Split k found) h e = absurd cc
not_closed Closed h e = absurd h

won_not_closed : (event : Event) (top : Bool) → event ≡ Won top → event ≢ Closed
won_not_closed event top e f = absurd cc

-- a run goes on by a closing or by another event
pub goes_on_by : (d : ℕ) (p q : Point) → Goes d p q → Closes p q ⊎ Continues d p q
goes_on_by d p _ (closes_loop c rest saved looped was before) =
    inl (record { component = c; rest = rest; kind = Looped saved.number p.number; was = was; becomes = refl; parts = refl; closed = (saved, looped, before, refl, refl) })
goes_on_by d p _ (closes_cylinder o c rest made event was) =
    inl (record {
      component = c;
      rest = rest;
      kind = Cylinder;
      was = was;
      becomes = others_left made.made.next.made event was;
      parts = refl;
      closed = one_letter p.components o.event c rest made.made.next.by_rule event was;
    })
goes_on_by d p _ (begins_anew o made anew) = inr (record { outcome = o; made = made.made.next.made; going = not_closed o.event anew; becomes = refl; parts = refl })
goes_on_by d p _ (finds_loop o c saved k) = inr (record { outcome = o; made = k.made.made.next.made; going = won_not_closed o.event k.top k.event; becomes = refl; parts = refl })
goes_on_by d p _ (wins o c saved k other) = inr (record { outcome = o; made = k.made.made.next.made; going = won_not_closed o.event k.top k.event; becomes = refl; parts = refl })
goes_on_by d p _ (wins_and_saves o c saved k there) = inr (record { outcome = o; made = k.made.made.next.made; going = won_not_closed o.event k.top k.event; becomes = refl; parts = refl })
