-- A run within a budget has an end: event after event it goes on, and the steps left and the weight of the open components lessen.
use Rattle.std.proofs.Common.{◌≡◌, ◌⊎◌, ℕ, zero, suc, ◌+◌, ◌-◌, ◌<◌, ◌≤◌, Bool, true, false, cond, Result, Ok, Err, List, [], ◌∷◌, refl, sym, subst, inl, inr, arith}
use Rattle.std.proofs.lemmas.Bool.{cases_eq}
use Rattle.fs_lists.proofs.Items.{HasValue, value_of}
use Rattle.fs_quadratic.specs.Radicand.{IsRadicand}
use Rattle.fs_quadratic.specs.declared.steps.Place.{Place}
use Rattle.fs_quadratic.proofs.Laws.{field_order}
use Rattle.fs_plane.specs.declared.sites.Stop.{Stop}
use Rattle.fs_plane.specs.declared.sites.Stop.TheVariants.{Undecided}
use Rattle.fs_gluing.specs.Exchanges.{Component}
use Rattle.fs_rauzy.specs.declared.events.Event.{Event}
use Rattle.fs_rauzy.specs.declared.events.Event.TheVariants.{Won, Merged, Split, Closed}
use Rattle.fs_rauzy.specs.declared.parts.Run.{Run}
use Rattle.fs_rauzy.specs.Comparisons.{HaveEqualRows, IsComparison, other_rows, equal_rows}
use Rattle.fs_rauzy.specs.Events.{Outcome, Makes}
use Rattle.fs_rauzy.specs.Measures.{weight}
use Rattle.fs_rauzy.specs.Rule.{IsNext, Tests, of_split, of_closed, of_won_above, of_won_below, of_merged, passed, checked_split, checked_won, checked_merged, is_step}
use Rattle.fs_rauzy.specs.Runs.{Point, IsSaved, start_of, BeginsAnew, IsMadeAt, ComparesAt, Goes, closes_loop, closes_cylinder, begins_anew, finds_loop, wins, wins_and_saves, Leads, no_event, event, EndsRun, all_closed, budget_spent, event_stops, comparison_stops}
use Rattle.fs_rauzy.specs.States.{IsState}
use Rattle.fs_rauzy.specs.Steps.{IsOpen}
use Rattle.fs_rauzy.proofs.RunBounds.{goes_smaller, run_can_go}
use Rattle.fs_rauzy.proofs.RunUnique.{led_state}
use Rattle.fs_rauzy.proofs.NextExists.{either_way, next_exists}

-- ---- one event

-- a computation gives its value or overflows
passed_cases : {A : Type 0} (T : Result Bool Place → Type 0) (r : Result A Place) → T (passed r) → T (Ok true) ⊎ ((stop : Place) × T (Err stop))
passed_cases T (Ok value) h = inl h
passed_cases T (Err stop) h = inr (stop, h)

-- the numbers of an event fit, or one of them overflows
tests_exist : (d : ℕ) (components : List Component) (o : Outcome) → Makes d components o → Tests components o.event (Ok true) ⊎ ((stop : Place) × Tests components o.event (Err stop))
tests_exist d _ _ (Makes.splits c left right rest k found s) =
    passed_cases (Tests (c ∷ rest) (Split k found)) (checked_split c k s.starting s.ending) (of_split c rest k found s.starting s.ending s.at)
tests_exist d _ _ (Makes.closes c rest) = inl (of_closed c rest)
tests_exist d _ _ (Makes.wins_above c after rest w) =
    passed_cases (Tests (c ∷ rest) (Won true)) (checked_won w.x w.y c.total w.y.start.vector) (of_won_above c rest w.x w.y w.last)
tests_exist d _ _ (Makes.wins_below c after rest w) =
    passed_cases (Tests (c ∷ rest) (Won false)) (checked_won w.y w.x c.total w.x.end.vector) (of_won_below c rest w.x w.y w.last)
tests_exist d _ _ (Makes.merges c after rest found m) =
    passed_cases (Tests (c ∷ rest) (Merged found)) (checked_merged m.x m.y c.total) (of_merged c rest found m.x m.y m.last)

-- after a won comparison a component is open
won_component : (d : ℕ) (components : List Component) (o : Outcome) (top : Bool) → Makes d components o → o.event ≡ Won top → (c : Component) × (rest : List Component) × (o.components ≡ c ∷ rest)
won_component d _ _ top (Makes.splits c left right rest k found s) e = absurd cc
won_component d _ _ top (Makes.closes c rest) e = absurd cc
won_component d _ _ top (Makes.wins_above c after rest w) e = (after, rest, refl)
won_component d _ _ top (Makes.wins_below c after rest w) e = (after, rest, refl)
won_component d _ _ top (Makes.merges c after rest found m) e = absurd cc

-- a step counts, and where there is room for it the steps stay within the budget
counted : (b : Bool) (m n : ℕ) → m ≤ n → (b ≡ true → m < n) → cond b (m + 1) m ≤ n
counted true m n within room = let l = room refl in omega arith
counted false m n within room = within

-- ---- a run

module _ {d : ℕ} (radicand : IsRadicand d) (components : List Component) (state : IsState (record { d = d; components = components })) (n : ℕ)
    (endless : (end : Result Run Stop) → ¬ EndsRun d n components end) where
  -- a run without an end goes on from each point within the budget
  module _ (p : Point) (leads : Leads d (start_of components) p) (within : p.steps ≤ n) (on : (q : Point) → Goes d p q → q.steps ≤ n → ⊥) where
    -- where a component is open it has a checkpoint
    saved_here : (c : Component) (rest : List Component) → p.components ≡ c ∷ rest → HasValue p.saved
    saved_here c rest e = value_of p.saved (run_can_go radicand components state n p leads (subst IsOpen (sym e) tt) within).saved

    -- a loop closes
    loop_closes : (c : Component) (rest : List Component) → p.components ≡ c ∷ rest → p.looped ≡ true → ⊥
    loop_closes c rest e looped = let s = saved_here c rest e in on _ (closes_loop c rest s.value looped e s.is) within

    -- there is room for a step
    room : p.looped ≡ false → (o : Outcome) → IsNext d p.components o → is_step o.event ≡ true → p.steps < n
    room going o next step = elim (cases_eq p.steps n) [
      | inl all ↦ absurd (endless (Err (Undecided n)) (budget_spent p o leads all going next step))
      | inr fewer ↦ omega arith
    ]

    module _ (c : Component) (rest : List Component) (current : p.components ≡ c ∷ rest) (o : Outcome) (made : IsMadeAt d p o) where
      -- a won comparison is made, whatever the comparison with the checkpoint gives
      won_goes : (top : Bool) → o.event ≡ Won top → ⊥
      won_goes top is =
          either_way (HaveEqualRows saved.value.component won.0) (λ h. compared _ (equal_rows h)) (λ h. compared _ (other_rows h))
        where
          won : (a : Component) × (after : List Component) × (o.components ≡ a ∷ after)
          won = won_component d p.components o top made.made.next.made is

          saved : HasValue p.saved
          saved = saved_here c rest current

          step : p.steps < n
          step = room made.going o made.made.next (subst (λ e. is_step e ≡ true) (sym is) refl)

          compares : (r : Result Bool Place) → IsComparison d saved.value.component won.0 r → ComparesAt d p o won.0 saved.value r
          compares r k = record { made = made; top = top; event = is; rest = won.1; components = won.2; saved_before = saved.is; compared = k }

          compared : (r : Result Bool Place) → IsComparison d saved.value.component won.0 r → ⊥
          compared (Err stop) k = endless _ (comparison_stops p o won.0 saved.value stop leads step (compares (Err stop) k))
          compared (Ok true) k = on _ (finds_loop o won.0 saved.value (compares (Ok true) k)) (omega (arith, step))
          compared (Ok false) k =
              either_way (IsSaved (p.number + 1)) (λ h. on _ (wins_and_saves o won.0 saved.value (compares (Ok false) k) h) (omega (arith, step)))
              (λ h. on _ (wins o won.0 saved.value (compares (Ok false) k) h) (omega (arith, step)))

      -- so is each other event
      event_goes : (e : Event) → o.event ≡ e → ⊥
      event_goes (Won top) is = won_goes top is
      event_goes (Merged found) is =
          on _ (begins_anew o made (subst BeginsAnew (sym is) tt)) (counted (is_step o.event) p.steps n within (room made.going o made.made.next))
      event_goes (Split k found) is =
          on _ (begins_anew o made (subst BeginsAnew (sym is) tt)) (counted (is_step o.event) p.steps n within (room made.going o made.made.next))
      event_goes Closed is =
          on _ (closes_cylinder o c rest made is current) (counted (is_step o.event) p.steps n within (room made.going o made.made.next))

    -- the next event is made, since it doesn't overflow
    next_goes : (c : Component) (rest : List Component) → p.components ≡ c ∷ rest → p.looped ≡ false → (o : Outcome) → IsNext d p.components o → ⊥
    next_goes c rest current going o next = elim (tests_exist d p.components o next.made) [
      | inl fits ↦ event_goes c rest current o (record { going = going; made = record { next = next; fits = fits } }) o.event refl
      | inr stops ↦ endless _ (event_stops p stops.0 leads within going (record { outcome = o; next = next; overflows = stops.1 }) (room going o next))
    ]

    goes_on : ⊥
    goes_on = by_components p.components refl
      where
        by_components : (cs : List Component) → p.components ≡ cs → ⊥
        by_components [] closed = endless _ (all_closed p leads closed within)
        by_components (c ∷ rest) current = by_loop p.looped refl
          where
            by_loop : (b : Bool) → p.looped ≡ b → ⊥
            by_loop true looped = loop_closes c rest current looped
            by_loop false going =
                let now = subst (λ cs. IsState (record { d = d; components = cs })) current (led_state (field_order radicand) components p state leads) in
                next_exists (field_order radicand) c rest now.lawful.0 (λ o next. next_goes c rest current going o (subst (λ cs. IsNext d cs o) (sym current) next))

  -- there is no such point
  no_point : (m : ℕ) (p : Point) → Leads d (start_of components) p → p.steps ≤ n → (n - p.steps) + weight p.components < m → ⊥
  no_point zero p leads within small = absurd (omega arith)
  no_point (suc m) p leads within small =
      goes_on p leads within (λ q g few.
      let less = goes_smaller (field_order radicand) 0 p q (led_state (field_order radicand) components p state leads) n g few in
      no_point m q (event p q leads g) few (omega arith))

-- a run from a state has an end
pub run_from_exists : {d : ℕ} → IsRadicand d → (components : List Component) → IsState (record { d = d; components = components }) → (n : ℕ) → ((end : Result Run Stop) → ¬ EndsRun d n components end) → ⊥
run_from_exists radicand components state n endless =
    no_point radicand components state n endless (suc (n + weight components)) (start_of components) no_event (omega arith) (omega arith)

-- so has one from a component
pub run_exists : {d : ℕ} → IsRadicand d → (c : Component) → IsState (record { d = d; components = c ∷ [] }) → (n : ℕ) → ((end : Result Run Stop) → ¬ EndsRun d n (c ∷ []) end) → ⊥
run_exists radicand c state n endless = run_from_exists radicand (c ∷ []) state n endless
