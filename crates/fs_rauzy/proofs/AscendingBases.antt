-- The parts of a run ascend: each open component ends where the latest part begins, or left of that.
use Rattle.std.proofs.Common.{◌≡◌, ◌≢◌, ℕ, Bool, true, false, Option, List, [], ◌∷◌, ◌++◌, refl, sym, ap, ◌∙◌, subst, inl, inr}
use Rattle.std.specs.List.{AllByRecursion}
use Rattle.fs_lists.specs.Members.{IsIn}
use Rattle.fs_lists.proofs.Members.{All-member, in_append_right}
use Rattle.fs_ring.specs.OrderedRing.{IsOrderedRing, IsAtMost}
use Rattle.fs_ring.specs.Operations as operations
use Rattle.fs_ring.specs.Operations.{Operations}
use Rattle.fs_ring.proofs.Order as order
use Rattle.fs_ring.proofs.Signs as signs
use Rattle.fs_ring.proofs.Solver.{identity, ◌⊕◌, ◌⊖◌, ◌≐◌}
use Rattle.fs_quadratic.specs.Ring.{Quadratic, quadratic, IsPositive, add, sub}
use Rattle.fs_gluing.specs.Exchanges.{Letter, Component, IsLawful}
use Rattle.fs_rauzy.specs.declared.events.Event.{Event}
use Rattle.fs_rauzy.specs.declared.events.Event.TheVariants.{Won, Merged, Split, Closed}
use Rattle.fs_rauzy.specs.declared.events.Found.{Found}
use Rattle.fs_rauzy.specs.declared.parts.Kind.{Kind}
use Rattle.fs_rauzy.specs.declared.parts.Part.{Part}
use Rattle.fs_rauzy.specs.Events.{Outcome, Makes, IsWonByTop, IsWonByBottom, IsMerged, IsSplit, prefix_sum}
use Rattle.fs_rauzy.specs.Runs.{Point, part_of, start_of, Goes, Leads, no_event, event, ArePartsAscending}
use Rattle.fs_rauzy.specs.States.{IsState, AreDescending}
use Rattle.fs_rauzy.proofs.RunSteps.{Becomes, AfterEvent, goes_cases, after_open}
use Rattle.fs_rauzy.proofs.RunUnique.{led_state}

module _ {A : Type 0} {R : Operations A} {P : A → Type 0} (L : IsOrderedRing R P) where
  -- less by something positive it ends at most there
  end_less : (b t l : A) → P l → IsAtMost R P (R.add b (operations.sub R t l)) (R.add b t)
  end_less b t l h = order.at_most_of_less L _ _ (signs.positive_by L (b ∷ t ∷ l ∷ []) (λ b t l. (b ⊕ t) ⊖ (b ⊕ (t ⊖ l)) ≐ l) refl h)

  -- a part on the right ends where the whole does
  end_same : (b t s : A) → R.add (R.add b s) (operations.sub R t s) ≡ R.add b t
  end_same b t s = identity L.ring (b ∷ t ∷ s ∷ []) (λ b t s. (b ⊕ s) ⊕ (t ⊖ s) ≐ b ⊕ t) refl

module _ {d : ℕ} (L : IsOrderedRing (quadratic d) (IsPositive d)) where
  abbrev AtMost : Quadratic → Quadratic → Type 0
  AtMost x y = IsAtMost (quadratic d) (IsPositive d) x y

  -- where a component ends
  abbrev end_of : Component → Quadratic
  end_of c = add c.base c.total

  -- the current component ends where the latest part begins, or left of that
  abbrev IsBefore : List Component → List Part → Type 0
  IsBefore [] parts = Unit {0}
  IsBefore (c ∷ components) [] = Unit {0}
  IsBefore (c ∷ components) (part ∷ parts) = AtMost (end_of c) part.base

  -- ---- the end of the current component

  long : (c : Component) (letter : Letter) → IsLawful d c → IsIn letter c.top → IsPositive d letter.length
  long c letter lawful h = All-member (λ (l : Letter). IsPositive d l.length) c.top letter lawful.lengths h

  shorter_end : (c after : Component) (l : Quadratic) → after.base ≡ c.base → after.total ≡ sub c.total l → IsPositive d l → AtMost (end_of after) (end_of c)
  shorter_end c after l base total h = subst (λ y. AtMost y (end_of c)) (λ i. add ((sym base) i) ((sym total) i)) (end_less L c.base c.total l h)

  won_above_end : (c after : Component) → IsLawful d c → IsWonByTop d c after → AtMost (end_of after) (end_of c)
  won_above_end c after lawful w = shorter_end c after w.y.length w.base w.sum (long c w.y lawful w.last.there)

  last_in : {X : Type 0} (x : X) (xs ys : List X) → ys ≡ xs ++ x ∷ [] → IsIn x ys
  last_in x xs ys e = subst (IsIn x) (sym e) (in_append_right x xs (x ∷ []) (inl refl))

  won_below_end : (c after : Component) → IsLawful d c → IsWonByBottom d c after → AtMost (end_of after) (end_of c)
  won_below_end c after lawful w = shorter_end c after w.x.length w.base w.sum (long c w.x lawful (last_in w.x w.last.before_top c.top w.last.top))

  merged_end : (c after : Component) (found : Option Found) → IsLawful d c → IsMerged c after found → AtMost (end_of after) (end_of c)
  merged_end c after found lawful m = shorter_end c after m.x.length m.base m.sum (long c m.x lawful (last_in m.x m.last.before_top c.top m.last.top))

  split_end : (c left right : Component) (k : ℕ) (found : Option Found) → IsSplit c k left right found → AtMost (end_of right) (end_of c)
  split_end c left right k found s =
      let e : end_of right ≡ end_of c = ap end_of s.right_part ∙ end_same L c.base c.total (prefix_sum c k) in
      order.at_most_of_eq L (end_of right) (end_of c) e

  before_left : (c after : Component) (rest others : List Component) (parts : List Part) → AtMost (end_of after) (end_of c) → IsBefore (c ∷ rest) parts → IsBefore (after ∷ others) parts
  before_left c after rest others [] less before = tt
  before_left c after rest others (part ∷ parts) less before = order.at_most_trans L (end_of after) (end_of c) part.base less before

  -- an event that isn't a closing
  made_before : (components : List Component) (o : Outcome) (parts : List Part) → AllByRecursion (IsLawful d) components → Makes d components o → o.event ≢ Closed → IsBefore components parts → IsBefore o.components parts
  made_before _ _ parts lawful (Makes.splits c left right rest k found s) ne before = before_left c right rest (left ∷ rest) parts (split_end c left right k found s) before
  made_before _ _ parts lawful (Makes.closes c rest) ne before = absurd (ne refl)
  made_before _ _ parts lawful (Makes.wins_above c after rest w) ne before = before_left c after rest rest parts (won_above_end c after lawful.0 w) before
  made_before _ _ parts lawful (Makes.wins_below c after rest w) ne before = before_left c after rest rest parts (won_below_end c after lawful.0 w) before
  made_before _ _ parts lawful (Makes.merges c after rest found m) ne before = before_left c after rest rest parts (merged_end c after found lawful.0 m) before

  -- a closing leaves the others
  closed_rest : (components : List Component) (o : Outcome) (c : Component) (rest : List Component) → Makes d components o → o.event ≡ Closed → components ≡ c ∷ rest → o.components ≡ rest
  closed_rest _ _ c rest (Makes.splits e left right others k found s) is same = absurd cc
  closed_rest _ _ c rest (Makes.closes e others) is same = cc
  closed_rest _ _ c rest (Makes.wins_above e after others w) is same = absurd cc
  closed_rest _ _ c rest (Makes.wins_below e after others w) is same = absurd cc
  closed_rest _ _ c rest (Makes.merges e after others found m) is same = absurd cc

  -- ---- points

  -- the parts ascend, and the current component is before them
  pub record IsPlaced (p : Point) : Type 0 where
    pub ascending : ArePartsAscending d p.parts
    pub before : IsBefore p.components p.parts

  placed_closed : (c : Component) (rest : List Component) (parts : List Part) (kind : Kind) → AreDescending d (c ∷ rest) → ArePartsAscending d parts → IsBefore (c ∷ rest) parts
      → ArePartsAscending d (part_of c kind ∷ parts) × IsBefore rest (part_of c kind ∷ parts)
  placed_closed c [] [] kind order ascending before = (tt, tt)
  placed_closed c (e ∷ rest) [] kind order ascending before = (tt, order.0)
  placed_closed c [] (part ∷ parts) kind order ascending before = ((before, ascending), tt)
  placed_closed c (e ∷ rest) (part ∷ parts) kind order ascending before = ((before, ascending), order.0)

  module _ (p q : Point) (state : IsState (record { d = d; components = p.components })) (placed : IsPlaced p) where
    closes_placed : (c : Component) (rest : List Component) (kind : Kind) → p.components ≡ c ∷ rest → q.components ≡ rest → q.parts ≡ part_of c kind ∷ p.parts → IsPlaced q
    closes_placed c rest kind components others parts =
        let both = placed_closed c rest p.parts kind (subst (AreDescending d) components state.in_order) placed.ascending (subst (λ os. IsBefore os p.parts) components placed.before) in
        record {
          ascending = subst (ArePartsAscending d) (sym parts) both.0;
          before = subst (λ ps. IsBefore q.components ps) (sym parts) (subst (λ os. IsBefore os (part_of c kind ∷ p.parts)) (sym others) both.1);
        }

    keeps_placed : (o : Outcome) → Makes d p.components o → o.event ≢ Closed → q.components ≡ o.components → q.parts ≡ p.parts → IsPlaced q
    keeps_placed o made ne components parts = record {
      ascending = subst (ArePartsAscending d) (sym parts) placed.ascending;
      before = subst (λ ps. IsBefore q.components ps) (sym parts) (subst (λ os. IsBefore os p.parts) (sym components) (made_before p.components o p.parts state.lawful made ne placed.before));
    }

    becomes_parts : (o : Outcome) (c : Component) (same : Bool) → Becomes p o c same q → q.parts ≡ p.parts
    becomes_parts o c true b = ap (λ (x : Point). x.parts) b
    becomes_parts o c false (inl b) = ap (λ (x : Point). x.parts) b.1
    becomes_parts o c false (inr b) = ap (λ (x : Point). x.parts) b.1

    after_placed : (o : Outcome) (e : Event) → o.event ≡ e → Makes d p.components o → AfterEvent d p o e q → IsPlaced q
    after_placed o (Won top) is made h = keeps_placed o made (λ closed. absurd cc) (after_open d p o (Won top) q h) (becomes_parts o h.component h.same h.becomes)
    after_placed o (Merged found) is made h = keeps_placed o made (λ closed. absurd cc) (ap (λ (x : Point). x.components) h) (ap (λ (x : Point). x.parts) h)
    after_placed o (Split k found) is made h = keeps_placed o made (λ closed. absurd cc) (ap (λ (x : Point). x.components) h) (ap (λ (x : Point). x.parts) h)
    after_placed o Closed is made h =
        closes_placed h.component h.rest _ h.components (ap (λ (x : Point). x.components) h.becomes ∙ closed_rest p.components o h.component h.rest made is h.components) (ap (λ (x : Point). x.parts) h.becomes)

    goes_placed : Goes d p q → IsPlaced q
    goes_placed g = elim (goes_cases d p q g) [
      | inl h ↦ closes_placed h.1.component h.1.rest _ h.1.components (ap (λ (x : Point). x.components) h.1.becomes) (ap (λ (x : Point). x.parts) h.1.becomes)
      | inr h ↦ after_placed h.1.outcome h.1.outcome.event refl h.1.made.next.made h.1.after
    ]

  module _ (components : List Component) (state : IsState (record { d = d; components = components })) where
    started : (components : List Component) → IsPlaced (start_of components)
    started [] = record { ascending = tt; before = tt }
    started (c ∷ rest) = record { ascending = tt; before = tt }

    run_placed : (p : Point) → Leads d (start_of components) p → IsPlaced p
    run_placed _ no_event = started components
    run_placed p (event r _ before g) = goes_placed r p (led_state L components r state before) (run_placed r before) g

    -- the parts of a run ascend
    pub run_ascending : (p : Point) → Leads d (start_of components) p → ArePartsAscending d p.parts
    run_ascending p leads = (run_placed p leads).ascending
