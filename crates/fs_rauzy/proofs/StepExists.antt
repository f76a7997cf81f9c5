-- A component whose last letters differ has a next event that is a step, whether or not its numbers fit.
use Rattle.std.proofs.Common.{◌≡◌, ◌≢◌, ℕ, true, false, List, [], ◌∷◌, ◌++◌, refl, sym, ap, ◌∙◌, subst, inl, inr, append_assoc}
use Rattle.fs_lists.specs.Members.{IsIn}
use Rattle.fs_lists.proofs.Members.{in_map, in_append_cases}
use Rattle.fs_ring.specs.OrderedRing.{IsOrderedRing, less, equal, greater}
use Rattle.fs_ring.proofs.Order as order
use Rattle.fs_quadratic.specs.Ring.{quadratic, IsPositive, IsLess, sub}
use Rattle.fs_gluing.specs.Exchanges.{Letter, Component, IsLawful}
use Rattle.fs_iet.proofs.LetterRows.{name_in_bottom}
use Rattle.fs_rauzy.specs.declared.events.Event.{Event}
use Rattle.fs_rauzy.specs.declared.events.Event.TheVariants.{Won, Merged, Split, Closed}
use Rattle.fs_rauzy.specs.Events.{Outcome, Makes, AreLast, IsMovedBehind, IsPutInPlace, IsWonByTop, IsWonByBottom, IsMerged, wins_above, wins_below, merges, with_letter, won_over, lost_below, lost_above, merged_of, connection}
use Rattle.fs_rauzy.specs.Rule.{HasNoSplit, FollowsRule, IsNext, is_step}
use Rattle.fs_rauzy.specs.Steps.{CanCompare}

-- a list that has an item is a list around it
record HasAround {X : Type 0} (x : X) (xs : List X) : Type 0 where
  pub left : List X
  pub right : List X
  pub is : xs ≡ left ++ x ∷ right

around : {X : Type 0} (x : X) (xs : List X) → IsIn x xs → HasAround x xs
around x [] h = absurd h
around x (y ∷ ys) (inl e) = record { left = []; right = ys; is = ap (λ z. z ∷ ys) (sym e) }
around x (y ∷ ys) (inr h) = let a = around x ys h in record { left = y ∷ a.left; right = a.right; is = ap (λ zs. y ∷ zs) a.is }

not_last : {X : Type 0} (x y : X) (xs ys : List X) → ys ≡ xs ++ y ∷ [] → IsIn x ys → x ≢ y → IsIn x xs
not_last x y xs ys e h ne = elim (in_append_cases x xs (y ∷ []) (subst (IsIn x) e h)) [
  | inl there ↦ there
  | inr at ↦ absurd (only at)
]
  where
    only : IsIn x (y ∷ []) → ⊥
    only (inl same) = ne same
    only (inr h) = absurd h

-- it is around the item, with another one last
around_before : {X : Type 0} (x y : X) (xs ys : List X) → ys ≡ xs ++ y ∷ [] → (a : HasAround x xs) → ys ≡ a.left ++ x ∷ (a.right ++ y ∷ [])
around_before x y xs ys e a = e ∙ ap (λ zs. zs ++ y ∷ []) a.is ∙ append_assoc a.left (x ∷ a.right) (y ∷ [])

-- an event that is a step
record HasStep (d : ℕ) (components : List Component) : Type 0 where
  pub outcome : Outcome
  pub made : Makes d components outcome
  pub step : is_step outcome.event ≡ true

module _ {d : ℕ} (L : IsOrderedRing (quadratic d) (IsPositive d)) (c : Component) (rest : List Component) (lawful : IsLawful d c) (x y : Letter) (last : AreLast c x y) where
  on_top : IsIn x c.top → HasAround x.name last.before_bottom
  on_top h =
      around x.name last.before_bottom
      (not_last x.name y.name last.before_bottom c.bottom last.bottom (name_in_bottom L lawful x.name (in_map (λ (l : Letter). l.name) x c.top h)) last.differ)

  top_last : IsIn x c.top
  top_last = subst (IsIn x) (sym last.top) (end last.before_top)
    where
      end : (xs : List Letter) → IsIn x (xs ++ x ∷ [])
      end [] = inl refl
      end (z ∷ zs) = inr (end zs)

  below : HasAround y last.before_top
  below = around y last.before_top (not_last y x last.before_top c.top last.top last.there (λ e. last.differ (ap (λ (l : Letter). l.name) (sym e))))

  a : HasAround x.name last.before_bottom
  a = on_top top_last

  by_top : IsLess d y.length x.length → HasStep d (c ∷ rest)
  by_top longer =
      let after : Component = record {
        base = c.base;
        total = sub c.total y.length;
        top = with_letter (lost_below x y) (with_letter (won_over x y) c.top);
        bottom = a.left ++ x.name ∷ (y.name ∷ a.right);
      } in
      let moved : IsMovedBehind x.name y.name c.bottom after.bottom
      = record { left = a.left; right = a.right; was = around_before x.name y.name last.before_bottom c.bottom last.bottom a; becomes = refl } in
      let won : IsWonByTop d c after = record { x = x; y = y; last = last; longer = longer; base = refl; sum = refl; top = refl; bottom = moved } in
      record { outcome = record { event = Won true; length = sub x.length y.length; components = after ∷ rest }; made = wins_above c after rest won; step = refl }

  by_bottom : IsLess d x.length y.length → HasStep d (c ∷ rest)
  by_bottom longer =
      let row : List Letter = below.left ++ y ∷ (x ∷ below.right) in
      let after : Component = record {
        base = c.base;
        total = sub c.total x.length;
        top = with_letter (lost_above y x) (with_letter (won_over y x) row);
        bottom = c.bottom;
      } in
      let moved : IsMovedBehind y x c.top row = record { left = below.left; right = below.right; was = around_before y x last.before_top c.top last.top below; becomes = refl } in
      let won : IsWonByBottom d c after = record { x = x; y = y; last = last; longer = longer; base = refl; sum = refl; row = row; moved = moved; top = refl; bottom = refl } in
      record { outcome = record { event = Won false; length = sub y.length x.length; components = after ∷ rest }; made = wins_below c after rest won; step = refl }

  by_merge : x.length ≡ y.length → HasStep d (c ∷ rest)
  by_merge same =
      let after : Component = record {
        base = c.base;
        total = sub c.total x.length;
        top = with_letter (merged_of x y) last.before_top;
        bottom = a.left ++ y.name ∷ a.right;
      } in
      let put : IsPutInPlace x.name y.name c.bottom after.bottom
      = record { left = a.left; right = a.right; was = around_before x.name y.name last.before_bottom c.bottom last.bottom a; becomes = refl } in
      let merged : IsMerged c after (connection y x)
      = record { x = x; y = y; last = last; equal = same; base = refl; sum = refl; top = refl; bottom = put; connected = refl } in
      record { outcome = record { event = Merged (connection y x); length = y.length; components = after ∷ rest }; made = merges c after rest (connection y x) merged; step = refl }

  step_exists : HasStep d (c ∷ rest)
  step_exists = elim (order.compare L y.length x.length) [
    | less l ↦ by_top l
    | equal e ↦ by_merge (sym e)
    | greater l ↦ by_bottom l
  ]

-- where the rule compares the last letters, there is a next event, which is a step
pub next_step_exists : {d : ℕ} (L : IsOrderedRing (quadratic d) (IsPositive d)) (c : Component) (rest : List Component) → IsLawful d c → HasNoSplit c → CanCompare c
    → (o : Outcome) × IsNext d (c ∷ rest) o × (is_step o.event ≡ true)
next_step_exists {d} L c rest lawful none can =
    let s = step_exists L c rest lawful can.0 can.1 can.2 in
    (s.outcome, record { made = s.made; by_rule = step_by_rule c rest s.outcome.event none s.step }, s.step)
  where
    step_by_rule : (c : Component) (rest : List Component) (e : Event) → HasNoSplit c → is_step e ≡ true → FollowsRule (c ∷ rest) e
    step_by_rule c rest (Won top) none s = none
    step_by_rule c rest (Merged found) none s = none
    step_by_rule c rest (Split k found) none s = absurd cc
    step_by_rule c rest Closed none s = absurd cc
