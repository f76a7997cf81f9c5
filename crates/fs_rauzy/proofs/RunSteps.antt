-- The next point of a run: what the next event makes of a point, and that it makes one thing of it.
use Rattle.std.proofs.Common.{◌≡◌, ◌⊎◌, ℕ, ◌+◌, Bool, true, false, Some, Result, Ok, List, ◌∷◌, refl, sym, ap, ◌∙◌, subst, inl, inr}
use Rattle.fs_lists.proofs.Results.{ok_equal}
use Rattle.fs_ring.specs.OrderedRing.{IsOrderedRing}
use Rattle.fs_quadratic.specs.Ring as ring
use Rattle.fs_quadratic.specs.Ring.{quadratic, IsPositive}
use Rattle.fs_quadratic.specs.declared.steps.Place.{Place}
use Rattle.fs_gluing.specs.Exchanges.{Component}
use Rattle.fs_rauzy.specs.declared.events.Event.{Event}
use Rattle.fs_rauzy.specs.declared.events.Event.TheVariants.{Won, Merged, Split, Closed}
use Rattle.fs_rauzy.specs.declared.parts.Kind.TheVariants.{Cylinder, Looped}
use Rattle.fs_rauzy.specs.Comparisons.{IsComparison, other_rows, equal_rows}
use Rattle.fs_rauzy.specs.Events.{Outcome, Makes}
use Rattle.fs_rauzy.specs.Rule.{IsMade}
use Rattle.fs_rauzy.specs.Runs.{Point, Checkpoint, IsSaved, part_of, begun, won_on, BeginsAnew, Goes, closes_loop, closes_cylinder, begins_anew, finds_loop, wins, wins_and_saves}
use Rattle.fs_rauzy.specs.States.{IsState}
use Rattle.fs_rauzy.proofs.OutcomeUnique.{next_unique}

-- ---- comparisons

-- a comparison has one result
pub comparison_unique : (d : ℕ) (before after : Component) (r s : Result Bool Place) → IsComparison d before after r → IsComparison d before after s → r ≡ s
comparison_unique d before after _ _ (other_rows n) (other_rows m) = refl
comparison_unique d before after _ _ (other_rows n) (equal_rows e) = absurd (n e)
comparison_unique d before after _ _ (equal_rows e) (other_rows n) = absurd (n e)
comparison_unique d before after _ _ (equal_rows e) (equal_rows f) = refl

first_equal : {X : Type 0} (x y : X) (xs ys : List X) → x ∷ xs ≡ y ∷ ys → x ≡ y
first_equal x y xs ys e = cc

rest_equal : {X : Type 0} (x y : X) (xs ys : List X) → x ∷ xs ≡ y ∷ ys → xs ≡ ys
rest_equal x y xs ys e = cc

some_equal : {X : Type 0} (x y : X) → Some x ≡ Some y → x ≡ y
some_equal x y e = cc

true_false : (b : Bool) → b ≡ true → b ≡ false → ⊥
true_false b e f = absurd cc

-- ---- what an event makes of a point

-- the point after a won comparison with this answer: the checkpoint stays, or the state is saved
abbrev pub Becomes : Point → Outcome → Component → Bool → Point → Type 0
Becomes p o c true q = q ≡ won_on p o p.saved true
Becomes p o c false q =
    (IsSaved (p.number + 1) × (q ≡ won_on p o (Some (record { number = p.number + 1; component = c })) false))
    ⊎ ((¬ IsSaved (p.number + 1)) × (q ≡ won_on p o p.saved false))

-- a won comparison leads from p to q
pub record WinsTo (d : ℕ) (p : Point) (outcome : Outcome) (q : Point) : Type 0 where
  pub component : Component
  pub rest : List Component
  pub components : outcome.components ≡ component ∷ rest
  pub saved : Checkpoint
  pub saved_before : p.saved ≡ Some saved
  pub same : Bool
  pub compared : IsComparison d saved.component component (Ok same)
  pub becomes : Becomes p outcome component same q

-- the current component closes
pub record ClosesAs (p q : Point) (outcome : Outcome) : Type 0 where
  pub component : Component
  pub rest : List Component
  pub components : p.components ≡ component ∷ rest
  pub becomes : q ≡ begun p outcome (part_of component Cylinder ∷ p.parts)

-- an event leads from p to q
abbrev pub AfterEvent : ℕ → Point → Outcome → Event → Point → Type 0
AfterEvent d p o (Won top) q = WinsTo d p o q
AfterEvent d p o (Merged found) q = q ≡ begun p o p.parts
AfterEvent d p o (Split k found) q = q ≡ begun p o p.parts
AfterEvent d p o Closed q = ClosesAs p q o

-- the next event is made, and leads from p to q
pub record StepsTo (d : ℕ) (p q : Point) : Type 0 where
  pub outcome : Outcome
  pub made : IsMade d p.components outcome
  pub after : AfterEvent d p outcome outcome.event q

-- a loop closes
pub record ClosesLoop (p q : Point) : Type 0 where
  pub component : Component
  pub rest : List Component
  pub saved : Checkpoint
  pub components : p.components ≡ component ∷ rest
  pub saved_before : p.saved ≡ Some saved
  pub becomes : q ≡ begun p (record { event = Closed; length = ring.zero; components = rest }) (part_of component (Looped saved.number p.number) ∷ p.parts)

begins : (d : ℕ) (p : Point) (o : Outcome) (e : Event) → BeginsAnew e → AfterEvent d p o e (begun p o p.parts)
begins d p o (Won top) h = absurd h
begins d p o (Merged found) h = refl
begins d p o (Split k found) h = refl
begins d p o Closed h = absurd h

after_won : (d : ℕ) (p : Point) (o : Outcome) (top : Bool) (q : Point) → o.event ≡ Won top → WinsTo d p o q → AfterEvent d p o o.event q
after_won d p o top q e w = subst (λ x. AfterEvent d p o x q) (sym e) w

-- a point goes on as a loop that closes, or by the next event
pub goes_cases : (d : ℕ) (p q : Point) → Goes d p q → ((p.looped ≡ true) × ClosesLoop p q) ⊎ ((p.looped ≡ false) × StepsTo d p q)
goes_cases d p _ (closes_loop c rest saved looped components before) =
    inl (looped, record { component = c; rest = rest; saved = saved; components = components; saved_before = before; becomes = refl })
goes_cases d p _ (closes_cylinder o c rest made event components) =
    let closes : ClosesAs p (begun p o (part_of c Cylinder ∷ p.parts)) o = record { component = c; rest = rest; components = components; becomes = refl } in
    inr (made.going, record { outcome = o; made = made.made; after = subst (λ x. AfterEvent d p o x (begun p o (part_of c Cylinder ∷ p.parts))) (sym event) closes })
goes_cases d p _ (begins_anew o made anew) = inr (made.going, record { outcome = o; made = made.made; after = begins d p o o.event anew })
goes_cases d p _ (finds_loop o c saved k) =
    inr (
      k.made.going,
      record {
        outcome = o;
        made = k.made.made;
        after = after_won d p o k.top _ k.event (record {
          component = c;
          rest = k.rest;
          components = k.components;
          saved = saved;
          saved_before = k.saved_before;
          same = true;
          compared = k.compared;
          becomes = refl;
        });
      },
    )
goes_cases d p _ (wins o c saved k not_saved) =
    inr (
      k.made.going,
      record {
        outcome = o;
        made = k.made.made;
        after = after_won d p o k.top _ k.event (record {
          component = c;
          rest = k.rest;
          components = k.components;
          saved = saved;
          saved_before = k.saved_before;
          same = false;
          compared = k.compared;
          becomes = inr (not_saved, refl);
        });
      },
    )
goes_cases d p _ (wins_and_saves o c saved k is_saved) =
    inr (
      k.made.going,
      record {
        outcome = o;
        made = k.made.made;
        after = after_won d p o k.top _ k.event (record {
          component = c;
          rest = k.rest;
          components = k.components;
          saved = saved;
          saved_before = k.saved_before;
          same = false;
          compared = k.compared;
          becomes = inl (is_saved, refl);
        });
      },
    )

-- ---- one next point

becomes_unique : (p : Point) (o : Outcome) (c : Component) (same : Bool) (q r : Point) → Becomes p o c same q → Becomes p o c same r → q ≡ r
becomes_unique p o c true q r h k = h ∙ sym k
becomes_unique p o c false q r (inl h) (inl k) = h.1 ∙ sym k.1
becomes_unique p o c false q r (inl h) (inr k) = absurd (k.0 h.0)
becomes_unique p o c false q r (inr h) (inl k) = absurd (h.0 k.0)
becomes_unique p o c false q r (inr h) (inr k) = h.1 ∙ sym k.1

-- the comparison after a won one has one result
pub compared_unique : (d : ℕ) (o : Outcome) (p : Point) (c e : Component) (cs es : List Component) (s t : Checkpoint) (x y : Result Bool Place) → o.components ≡ c ∷ cs → o.components ≡ e ∷ es → p.saved ≡ Some s
    → p.saved ≡ Some t → IsComparison d s.component c x → IsComparison d t.component e y → x ≡ y
compared_unique d o p c e cs es s t x y oc oe ps pt h k =
    let same = first_equal e c es cs (sym oe ∙ oc) in
    let same_saved = some_equal t s (sym pt ∙ ps) in
    comparison_unique d s.component c x y h (subst (λ z. IsComparison d z.component c y) same_saved (subst (λ z. IsComparison d t.component z y) same k))

wins_unique : (d : ℕ) (p : Point) (o : Outcome) (q r : Point) → WinsTo d p o q → WinsTo d p o r → q ≡ r
wins_unique d p o q r h k =
    let same_component : k.component ≡ h.component = first_equal k.component h.component k.rest h.rest (sym k.components ∙ h.components) in
    let same : k.same ≡ h.same = ok_equal k.same h.same (compared_unique d o p k.component h.component k.rest h.rest k.saved h.saved (Ok k.same) (Ok h.same) k.components h.components k.saved_before h.saved_before k.compared h.compared) in
    becomes_unique p o h.component h.same q r h.becomes (subst (λ c. Becomes p o c h.same r) same_component (subst (λ b. Becomes p o k.component b r) same k.becomes))

after_unique : (d : ℕ) (p : Point) (o : Outcome) (e : Event) (q r : Point) → AfterEvent d p o e q → AfterEvent d p o e r → q ≡ r
after_unique d p o (Won top) q r h k = wins_unique d p o q r h k
after_unique d p o (Merged found) q r h k = h ∙ sym k
after_unique d p o (Split n found) q r h k = h ∙ sym k
after_unique d p o Closed q r h k =
    let same : h.component ≡ k.component = first_equal h.component k.component h.rest k.rest (sym h.components ∙ k.components) in
    h.becomes ∙ ap (λ c. begun p o (part_of c Cylinder ∷ p.parts)) same ∙ sym k.becomes

loop_unique : (p q r : Point) → ClosesLoop p q → ClosesLoop p r → q ≡ r
loop_unique p q r h k =
    let same : h.component ≡ k.component = first_equal h.component k.component h.rest k.rest (sym h.components ∙ k.components) in
    let rest : h.rest ≡ k.rest = rest_equal h.component k.component h.rest k.rest (sym h.components ∙ k.components) in
    let saved : h.saved ≡ k.saved = some_equal h.saved k.saved (sym h.saved_before ∙ k.saved_before) in
    h.becomes
    ∙ (λ i. begun p (record { event = Closed; length = ring.zero; components = rest i }) (part_of (same i) (Looped (saved i).number p.number) ∷ p.parts))
    ∙ sym k.becomes

module _ {d : ℕ} (L : IsOrderedRing (quadratic d) (IsPositive d)) (p : Point) (state : IsState (record { d = d; components = p.components })) where
  steps_unique : (q r : Point) → StepsTo d p q → StepsTo d p r → q ≡ r
  steps_unique q r h k =
      let same : k.outcome ≡ h.outcome = next_unique L state.lawful k.made.next h.made.next in
      after_unique d p h.outcome h.outcome.event q r h.after (subst (λ o. AfterEvent d p o o.event r) same k.after)

  -- a point goes on to one point
  pub goes_unique : (q r : Point) → Goes d p q → Goes d p r → q ≡ r
  goes_unique q r g h = by_cases (goes_cases d p q g) (goes_cases d p r h)
    where
      by_cases : ((p.looped ≡ true) × ClosesLoop p q) ⊎ ((p.looped ≡ false) × StepsTo d p q) → ((p.looped ≡ true) × ClosesLoop p r) ⊎ ((p.looped ≡ false) × StepsTo d p r) → q ≡ r
      by_cases (inl g) (inl h) = loop_unique p q r g.1 h.1
      by_cases (inl g) (inr h) = absurd (true_false p.looped g.0 h.0)
      by_cases (inr g) (inl h) = absurd (true_false p.looped h.0 g.0)
      by_cases (inr g) (inr h) = steps_unique q r g.1 h.1

-- ---- what events do to the open components and the steps

-- the open components are those of the outcome
pub after_open : (d : ℕ) (p : Point) (o : Outcome) (e : Event) (q : Point) → AfterEvent d p o e q → q.components ≡ o.components
after_open d p o (Won top) q h = won_open h.same h.becomes
  where
    won_open : (same : Bool) → Becomes p o h.component same q → q.components ≡ o.components
    won_open true b = ap (λ (x : Point). x.components) b
    won_open false (inl b) = ap (λ (x : Point). x.components) b.1
    won_open false (inr b) = ap (λ (x : Point). x.components) b.1
after_open d p o (Merged found) q h = ap (λ (x : Point). x.components) h
after_open d p o (Split k found) q h = ap (λ (x : Point). x.components) h
after_open d p o Closed q h = ap (λ (x : Point). x.components) h.becomes

-- the outcome by which a loop closes
abbrev pub closing : List Component → Outcome
closing rest = record { event = Closed; length = ring.zero; components = rest }

-- a loop closes by a closing
pub loop_makes : (d : ℕ) (p q : Point) (h : ClosesLoop p q) → Makes d p.components (closing h.rest)
loop_makes d p q h = subst (λ components. Makes d components (closing h.rest)) (sym h.components) (Makes.closes h.component h.rest)

-- each way to go on makes an event of the open components
pub goes_makes : (d : ℕ) (p q : Point) → Goes d p q → (o : Outcome) × Makes d p.components o × (q.components ≡ o.components)
goes_makes d p q g = elim (goes_cases d p q g) [
  | inl h ↦ (closing h.1.rest, loop_makes d p q h.1, ap (λ (x : Point). x.components) h.1.becomes)
  | inr h ↦ (h.1.outcome, h.1.made.next.made, after_open d p h.1.outcome h.1.outcome.event q h.1.after)
]
