-- How many parts and connections the run of one component has, and how many letters each part has.
use Rattle.std.proofs.Common.{◌≡◌, ℕ, ◌+◌, ◌≤◌, Bool, true, false, Some, None, Ok, List, [], ◌∷◌, ◌++◌, length, refl, sym, ap, ◌∙◌, subst, inl, inr, arith, length-append}
use Rattle.std.specs.List.{AllByRecursion}
use Rattle.std.proofs.lemmas.List.{length-map}
use Rattle.fs_ring.specs.OrderedRing.{IsOrderedRing}
use Rattle.fs_quadratic.specs.Ring.{quadratic, IsPositive}
use Rattle.fs_gluing.specs.Exchanges.{Letter, Component, names_of}
use Rattle.fs_iet.specs.ExchangeValue.{most_letters}
use Rattle.fs_rauzy.specs.declared.events.Event.{Event}
use Rattle.fs_rauzy.specs.declared.events.Event.TheVariants.{Won, Merged, Split, Closed}
use Rattle.fs_rauzy.specs.declared.events.Found.{Found}
use Rattle.fs_rauzy.specs.declared.parts.Kind.{Kind}
use Rattle.fs_rauzy.specs.declared.parts.Kind.TheVariants.{Cylinder, Looped}
use Rattle.fs_rauzy.specs.declared.parts.Part.{Part}
use Rattle.fs_rauzy.specs.declared.parts.Run.{Run}
use Rattle.fs_rauzy.specs.Events.{Outcome}
use Rattle.fs_rauzy.specs.Measures.{weight, weight_taken}
use Rattle.fs_rauzy.specs.Rule.{FollowsRule}
use Rattle.fs_rauzy.specs.Runs.{Point, start_of, found_by, part_of, Goes, Leads, no_event, event, EndsRun, all_closed}
use Rattle.fs_rauzy.specs.States.{IsState, open_names}
use Rattle.fs_rauzy.proofs.EventWeights.{event_weight}
use Rattle.fs_rauzy.proofs.RunSteps.{Becomes, AfterEvent, goes_cases, after_open, loop_makes}
use Rattle.fs_rauzy.proofs.RunUnique.{led_state}
use Rattle.fs_components.specs.Gathering.{IsShort}

-- ---- what an event adds

becomes_found : (p : Point) (o : Outcome) (c : Component) (same : Bool) (q : Point) → Becomes p o c same q → (q.found ≡ p.found) × (q.parts ≡ p.parts)
becomes_found p o c true q b = (ap (λ (x : Point). x.found) b, ap (λ (x : Point). x.parts) b)
becomes_found p o c false q (inl b) = (ap (λ (x : Point). x.found) b.1, ap (λ (x : Point). x.parts) b.1)
becomes_found p o c false q (inr b) = (ap (λ (x : Point). x.found) b.1, ap (λ (x : Point). x.parts) b.1)

found_in_weight : (e : Event) → length (found_by e) ≤ weight_taken e
found_in_weight (Won top) = omega arith
found_in_weight (Merged (Some found)) = omega arith
found_in_weight (Merged None) = omega arith
found_in_weight (Split k (Some found)) = omega arith
found_in_weight (Split k None) = omega arith
found_in_weight Closed = omega arith

added : (p q : Point) (more : List Found) (few : ℕ) → length more ≤ few → q.found ≡ p.found ++ more → q.parts ≡ p.parts → length q.found + length q.parts ≤ length p.found + length p.parts + few
added p q more few small found parts = omega (arith, small, ap length found, length-append p.found more, ap length parts)

closed : (p q : Point) (part : Part) → q.found ≡ p.found ++ [] → q.parts ≡ part ∷ p.parts → length q.found + length q.parts ≤ length p.found + length p.parts + 1
closed p q part found parts = omega (arith, ap length found, length-append {A = Found} p.found [], ap length parts)

-- an event adds no more parts and connections than it takes from the weight
after_few : (d : ℕ) (p : Point) (o : Outcome) (e : Event) (q : Point) → o.event ≡ e → AfterEvent d p o e q → length q.found + length q.parts ≤ length p.found + length p.parts + weight_taken e
after_few d p o (Won top) q is h = let b = becomes_found p o h.component h.same q h.becomes in omega (arith, ap length b.0, ap length b.1)
after_few d p o (Merged found) q is h =
    added p q (found_by o.event) (weight_taken (Merged found)) (subst (λ e. length (found_by e) ≤ weight_taken (Merged found)) (sym is) (found_in_weight (Merged found)))
    (ap (λ (x : Point). x.found) h) (ap (λ (x : Point). x.parts) h)
after_few d p o (Split k found) q is h =
    added p q (found_by o.event) (weight_taken (Split k found)) (subst (λ e. length (found_by e) ≤ weight_taken (Split k found)) (sym is) (found_in_weight (Split k found)))
    (ap (λ (x : Point). x.found) h) (ap (λ (x : Point). x.parts) h)
after_few d p o Closed q is h =
    closed p q (part_of h.component Cylinder) (ap (λ (x : Point). x.found) h.becomes ∙ ap (λ e. p.found ++ found_by e) is) (ap (λ (x : Point). x.parts) h.becomes)

-- ---- the parts

-- the first open component has few letters
first_few : (d : ℕ) (components : List Component) (c : Component) (rest : List Component) → IsState (record { d = d; components = components }) → components ≡ c ∷ rest → length c.top ≤ most_letters
first_few d components c rest state is =
    let few = state.few in
    omega (arith, few, ap (λ (cs : List Component). length (open_names cs)) is, length-append (names_of c.top) (open_names rest), length-map c.top (λ (letter : Letter). letter.name))

part_letters : (c : Component) (kind : Kind) → length (part_of c kind).letters ≡ length c.top
part_letters c kind = length-map c.top _

looped_short : (c : Component) (from to : ℕ) → length c.top ≤ most_letters → IsShort (part_of c (Looped from to))
looped_short c from to few = record { few = subst (λ (n : ℕ). n ≤ most_letters) (sym (part_letters c (Looped from to))) few; one = λ e. absurd cc }

cylinder_short : (c : Component) → length c.top ≤ most_letters → length c.top ≡ 1 → IsShort (part_of c Cylinder)
cylinder_short c few one = record { few = subst (λ (n : ℕ). n ≤ most_letters) (sym (part_letters c Cylinder)) few; one = λ e. part_letters c Cylinder ∙ one }

one_letter : (components : List Component) (c : Component) (rest : List Component) (e : Event) → components ≡ c ∷ rest → e ≡ Closed → FollowsRule components e → length c.top ≡ 1
one_letter components c rest e is closes rule = subst (λ x. FollowsRule (c ∷ rest) x) closes (subst (λ cs. FollowsRule cs e) is rule)

abbrev AllShort : List Part → Type 0
AllShort parts = AllByRecursion IsShort parts

after_short : (d : ℕ) (p : Point) (o : Outcome) (e : Event) (q : Point) → IsState (record { d = d; components = p.components }) → FollowsRule p.components o.event → o.event ≡ e → AfterEvent d p o e q
    → AllShort p.parts → AllShort q.parts
after_short d p o (Won top) q state rule is h short = subst AllShort (sym (becomes_found p o h.component h.same q h.becomes).1) short
after_short d p o (Merged found) q state rule is h short = subst AllShort (sym (ap (λ (x : Point). x.parts) h)) short
after_short d p o (Split k found) q state rule is h short = subst AllShort (sym (ap (λ (x : Point). x.parts) h)) short
after_short d p o Closed q state rule is h short =
    subst AllShort (sym (ap (λ (x : Point). x.parts) h.becomes))
    (cylinder_short h.component (first_few d p.components h.component h.rest state h.components) (one_letter p.components h.component h.rest o.event h.components is rule), short)

-- ---- along a run

-- the parts are short; they and the connections are no more than what the weight lost
record IsSmall (most : ℕ) (p : Point) : Type 0 where
  pub few : length p.found + length p.parts + weight p.components ≤ most
  pub short : AllShort p.parts

module _ {d : ℕ} (L : IsOrderedRing (quadratic d) (IsPositive d)) (most : ℕ) (p q : Point) (state : IsState (record { d = d; components = p.components })) where
  goes_small : Goes d p q → IsSmall most p → IsSmall most q
  goes_small g small = elim (goes_cases d p q g) [
    | inl h ↦
        let lost = event_weight L state.lawful (loop_makes d p q h.1) in
        let components : weight q.components ≡ weight h.1.rest = ap (λ (x : Point). weight x.components) h.1.becomes in
        let few = small.few in
        let part : Part = part_of h.1.component (Looped h.1.saved.number p.number) in
        let more = closed p q part (ap (λ (x : Point). x.found) h.1.becomes) (ap (λ (x : Point). x.parts) h.1.becomes) in
        record {
          few = omega arith;
          short = subst AllShort (sym (ap (λ (x : Point). x.parts) h.1.becomes))
              (looped_short h.1.component h.1.saved.number p.number (first_few d p.components h.1.component h.1.rest state h.1.components), small.short);
        }
    | inr h ↦
        let o = h.1.outcome in
        let lost = event_weight L state.lawful h.1.made.next.made in
        let components : weight q.components ≡ weight o.components = ap weight (after_open d p o o.event q h.1.after) in
        let few = small.few in
        let more = after_few d p o o.event q refl h.1.after in
        record { few = omega arith; short = after_short d p o o.event q state h.1.made.next.by_rule refl h.1.after small.short }
  ]

module _ {d : ℕ} (L : IsOrderedRing (quadratic d) (IsPositive d)) (c : Component) (state : IsState (record { d = d; components = c ∷ [] })) where
  leads_small : (p : Point) → Leads d (start_of (c ∷ [])) p → IsSmall (weight (c ∷ [])) p
  leads_small _ no_event = record { few = omega arith; short = tt }
  leads_small p (event r _ before g) = goes_small L (weight (c ∷ [])) r p (led_state L (c ∷ []) r state before) g (leads_small r before)

  -- the run has at most 1,024 connections and parts, and its parts are short
  pub run_sizes : (n : ℕ) (run : Run) → EndsRun d n (c ∷ []) (Ok run) → (length run.found + length run.parts ≤ 1024) × AllByRecursion IsShort run.parts
  run_sizes n _ (all_closed p leads closed few) =
      let small = leads_small p leads in
      let some = small.few in
      let letters = first_few d (c ∷ []) c [] state refl in
      (omega arith, small.short)
