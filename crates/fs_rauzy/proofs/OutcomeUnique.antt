-- One outcome: the rule chooses one event of the current component, and its tests give one result. A library for crates to come.
use Rattle.std.proofs.Common.{◌≡◌, ℕ, ◌≤◌, if◌then◌else◌, Bool, true, false, Option, is_some, Result, Err, List, ◌∷◌, length, map, drop, refl, sym, ap, ◌∙◌, subst, arith}
use Rattle.std.specs.List.{AllByRecursion}
use Rattle.fs_lists.proofs.Results.{err_equal, ok_not_err}
use Rattle.fs_ring.specs.OrderedRing.{IsOrderedRing}
use Rattle.fs_ring.proofs.Order as order
use Rattle.fs_quadratic.specs.declared.steps.Place.{Place}
use Rattle.fs_quadratic.specs.Ring as ring
use Rattle.fs_quadratic.specs.Ring.{Quadratic, quadratic, IsPositive, IsLess, add, sub}
use Rattle.fs_gluing.specs.Exchanges.{Letter, Component, IsLawful}
use Rattle.fs_iet.proofs.LetterRows.{bottom_distinct}
use Rattle.fs_rauzy.specs.declared.events.Event.{Event}
use Rattle.fs_rauzy.specs.declared.events.Event.TheVariants.{Won, Merged, Split}
use Rattle.fs_rauzy.specs.declared.events.Found.{Found}
use Rattle.fs_rauzy.specs.Events.{with_letter, won_over, lost_below, lost_above, merged_of, connection, without_start, without_end, prefix_sum, HasSplit, IsMovedBehind, IsPutInPlace, IsWonByTop, IsWonByBottom, IsMerged, IsSplit, Outcome, Makes, splits, closes, wins_above, wins_below, merges}
use Rattle.fs_rauzy.specs.Rule.{FollowsRule, IsNext, IsMade, StopsAt, Tests, of_split, of_closed, of_won_above, of_won_below, of_merged, passed, checked_won, checked_merged, checked_split}
use Rattle.fs_rauzy.proofs.RowEnds.{moved_unique, put_unique}
use Rattle.fs_rauzy.proofs.LastLetters.{letters_distinct, one_letter_last, last_front, last_on_top, last_below, starting_unique, ending_unique}

-- components with equal parts
component_eq : {a b : Component} → a.base ≡ b.base → a.total ≡ b.total → a.top ≡ b.top → a.bottom ≡ b.bottom → a ≡ b
component_eq e f g h = λ i. record { base = e i; total = f i; top = g i; bottom = h i }

abbrev outcome : Event → Quadratic → List Component → Outcome
outcome event length components = record { event = event; length = length; components = components }

abbrev split_outcome : ℕ → Option Found → Component → Component → List Component → Outcome
split_outcome k found left right rest = outcome (Split k found) ring.zero (right ∷ (left ∷ rest))

module _ {d : ℕ} (L : IsOrderedRing (quadratic d) (IsPositive d)) where
  module _ {c : Component} (lawful : IsLawful d c) where
    -- ---- one event of each kind

    pub won_above_unique : {a b : Component} → IsWonByTop d c a → IsWonByTop d c b → a ≡ b
    won_above_unique {a} {b} v w =
        let ex = last_on_top v.last w.last in
        let ey = last_below L lawful v.last w.last in
        component_eq (v.base ∙ sym w.base)
        (v.sum ∙ (λ i. sub c.total (ey i).length) ∙ sym w.sum)
        (v.top ∙ (λ i. with_letter (lost_below (ex i) (ey i)) (with_letter (won_over (ex i) (ey i)) c.top)) ∙ sym w.top)
        (moved_unique (bottom_distinct L lawful) v.bottom
        (subst (λ (x : Letter). IsMovedBehind x.name v.y.name c.bottom b.bottom) (sym ex) (subst (λ (y : Letter). IsMovedBehind w.x.name y.name c.bottom b.bottom) (sym ey) w.bottom)))

    pub won_below_unique : {a b : Component} → IsWonByBottom d c a → IsWonByBottom d c b → a ≡ b
    won_below_unique {a} {b} v w =
        let ex = last_on_top v.last w.last in
        let ey = last_below L lawful v.last w.last in
        let row : v.row ≡ w.row
        = moved_unique (letters_distinct c.top lawful.names) v.moved
        (subst (λ (y : Letter). IsMovedBehind y v.x c.top w.row) (sym ey) (subst (λ (x : Letter). IsMovedBehind w.y x c.top w.row) (sym ex) w.moved)) in
        component_eq (v.base ∙ sym w.base)
        (v.sum ∙ (λ i. sub c.total (ex i).length) ∙ sym w.sum)
        (v.top ∙ (λ i. with_letter (lost_above (ey i) (ex i)) (with_letter (won_over (ey i) (ex i)) (row i))) ∙ sym w.top)
        (v.bottom ∙ sym w.bottom)

    pub merged_unique : {a b : Component} {f g : Option Found} → IsMerged c a f → IsMerged c b g → a ≡ b
    merged_unique {a} {b} {f} {g} v w =
        let ex = last_on_top v.last w.last in
        let ey = last_below L lawful v.last w.last in
        let front = last_front v.last w.last in
        component_eq (v.base ∙ sym w.base)
        (v.sum ∙ (λ i. sub c.total (ex i).length) ∙ sym w.sum)
        (v.top ∙ (λ i. with_letter (merged_of (ex i) (ey i)) (front i)) ∙ sym w.top)
        (put_unique (bottom_distinct L lawful) v.bottom
        (subst (λ (x : Letter). IsPutInPlace x.name v.y.name c.bottom b.bottom) (sym ex) (subst (λ (y : Letter). IsPutInPlace w.x.name y.name c.bottom b.bottom) (sym ey) w.bottom)))

    pub merged_found_unique : {a b : Component} {f g : Option Found} → IsMerged c a f → IsMerged c b g → f ≡ g
    merged_found_unique {a} {b} {f} {g} v w =
        let ex = last_on_top v.last w.last in
        let ey = last_below L lawful v.last w.last in
        v.connected ∙ (λ i. connection (ey i) (ex i)) ∙ sym w.connected

    pub split_found_unique : {k : ℕ} {l r m s : Component} {f g : Option Found} → IsSplit c k l r f → IsSplit c k m s g → f ≡ g
    split_found_unique v w =
        let es = starting_unique L lawful v.at w.at in
        let ee = ending_unique L lawful v.at w.at in
        v.connected ∙ (λ i. connection (es i) (ee i)) ∙ sym w.connected

    pub split_left_unique : {k : ℕ} {l r m s : Component} {f g : Option Found} → IsSplit c k l r f → IsSplit c k m s g → l ≡ m
    split_left_unique v w = v.left_part ∙ sym w.left_part

    pub split_right_unique : {k : ℕ} {l r m s : Component} {f g : Option Found} → IsSplit c k l r f → IsSplit c k m s g → r ≡ s
    split_right_unique {k} v w =
        let es = starting_unique L lawful v.at w.at in
        let ee = ending_unique L lawful v.at w.at in
        let ef = split_found_unique v w in
        v.right_part
        ∙ (λ i. record {
          base = add c.base (prefix_sum c k);
          total = sub c.total (prefix_sum c k);
          top = (if is_some (ef i) then map (λ letter. without_end (ee i).name (without_start (es i).name letter)) (drop k c.top) else drop k c.top);
          bottom = drop k c.bottom;
        })
        ∙ sym w.right_part

    -- ---- two kinds exclude each other

    one_winner : {a b : Component} → IsWonByTop d c a → ¬ IsWonByBottom d c b
    one_winner v w =
        let ex = last_on_top v.last w.last in
        let ey = last_below L lawful v.last w.last in
        order.less_asymm L v.y.length v.x.length v.longer (subst (λ (x : Letter). IsLess d x.length v.y.length) (sym ex) (subst (λ (y : Letter). IsLess d w.x.length y.length) (sym ey) w.longer))

    above_not_merged : {a b : Component} {f : Option Found} → IsWonByTop d c a → ¬ IsMerged c b f
    above_not_merged v m =
        let ex = last_on_top v.last m.last in
        let ey = last_below L lawful v.last m.last in
        order.less-ne L v.y.length v.x.length v.longer (ap (λ (y : Letter). y.length) ey ∙ sym m.equal ∙ ap (λ (x : Letter). x.length) (sym ex))

    below_not_merged : {a b : Component} {f : Option Found} → IsWonByBottom d c a → ¬ IsMerged c b f
    below_not_merged v m =
        let ex = last_on_top v.last m.last in
        let ey = last_below L lawful v.last m.last in
        order.less-ne L v.x.length v.y.length v.longer (ap (λ (x : Letter). x.length) ex ∙ m.equal ∙ ap (λ (y : Letter). y.length) (sym ey))

    -- ---- equal outcomes

    split_outcome_unique : {rest : List Component} {k n : ℕ} {l r m s : Component} {f g : Option Found} → k ≡ n → IsSplit c k l r f → IsSplit c n m s g → split_outcome k f l r rest ≡ split_outcome n g m s rest
    split_outcome_unique {rest} {k} {n} {l} {r} {m} {s} {f} {g} e v w =
        let here = subst (λ (j : ℕ). IsSplit c j m s g) (sym e) w in
        let ef = split_found_unique v here in
        let el = split_left_unique v here in
        let er = split_right_unique v here in
        λ i. split_outcome (e i) (ef i) (el i) (er i) rest

    won_above_outcome_unique : {rest : List Component} {a b : Component} (v : IsWonByTop d c a) (w : IsWonByTop d c b)
        → outcome (Won true) (sub v.x.length v.y.length) (a ∷ rest) ≡ outcome (Won true) (sub w.x.length w.y.length) (b ∷ rest)
    won_above_outcome_unique {rest} {a} {b} v w =
        let ex = last_on_top v.last w.last in
        let ey = last_below L lawful v.last w.last in
        let ea = won_above_unique v w in
        λ i. outcome (Won true) (sub (ex i).length (ey i).length) (ea i ∷ rest)

    won_below_outcome_unique : {rest : List Component} {a b : Component} (v : IsWonByBottom d c a) (w : IsWonByBottom d c b)
        → outcome (Won false) (sub v.y.length v.x.length) (a ∷ rest) ≡ outcome (Won false) (sub w.y.length w.x.length) (b ∷ rest)
    won_below_outcome_unique {rest} {a} {b} v w =
        let ex = last_on_top v.last w.last in
        let ey = last_below L lawful v.last w.last in
        let ea = won_below_unique v w in
        λ i. outcome (Won false) (sub (ey i).length (ex i).length) (ea i ∷ rest)

    merged_outcome_unique : {rest : List Component} {a b : Component} {f g : Option Found} (v : IsMerged c a f) (w : IsMerged c b g)
        → outcome (Merged f) v.y.length (a ∷ rest) ≡ outcome (Merged g) w.y.length (b ∷ rest)
    merged_outcome_unique {rest} {a} {b} {f} {g} v w =
        let ey = last_below L lawful v.last w.last in
        let ef = merged_found_unique v w in
        let ea = merged_unique v w in
        λ i. outcome (Merged (ef i)) (ey i).length (ea i ∷ rest)

  -- ---- one next event

  same_place : {c : Component} (k n : ℕ) → HasSplit c k → HasSplit c n → ((j : ℕ) → HasSplit c j → j ≤ k) → ((j : ℕ) → HasSplit c j → j ≤ n) → k ≡ n
  same_place k n h g p q = let a = p n g in let b = q k h in omega arith

  one_not_split : {c : Component} {k : ℕ} → length c.top ≡ 1 → ¬ HasSplit c k
  one_not_split e h = let some = h.some in let others = h.others in omega arith

  same_outcome : (cs : List Component) (o q : Outcome) → AllByRecursion (IsLawful d) cs → Makes d cs o → Makes d cs q → FollowsRule cs o.event → FollowsRule cs q.event → o ≡ q
  same_outcome cs o q all (splits c l r rest k f v) (splits e m s others n g w) p h = split_outcome_unique all.0 (same_place k n v.split w.split p h) v w
  same_outcome cs o q all (splits c l r rest k f v) (closes e others) p h = absurd (one_not_split h v.split)
  same_outcome cs o q all (splits c l r rest k f v) (wins_above e b others w) p h = absurd (h k v.split)
  same_outcome cs o q all (splits c l r rest k f v) (wins_below e b others w) p h = absurd (h k v.split)
  same_outcome cs o q all (splits c l r rest k f v) (merges e b others g w) p h = absurd (h k v.split)
  same_outcome cs o q all (closes c rest) (splits e m s others n g w) p h = absurd (one_not_split p w.split)
  same_outcome cs o q all (closes c rest) (closes e others) p h = refl
  same_outcome cs o q all (closes c rest) (wins_above e b others w) p h = absurd (one_letter_last p w.last)
  same_outcome cs o q all (closes c rest) (wins_below e b others w) p h = absurd (one_letter_last p w.last)
  same_outcome cs o q all (closes c rest) (merges e b others g w) p h = absurd (one_letter_last p w.last)
  same_outcome cs o q all (wins_above c a rest v) (splits e m s others n g w) p h = absurd (p n w.split)
  same_outcome cs o q all (wins_above c a rest v) (closes e others) p h = absurd (one_letter_last h v.last)
  same_outcome cs o q all (wins_above c a rest v) (wins_above e b others w) p h = won_above_outcome_unique all.0 v w
  same_outcome cs o q all (wins_above c a rest v) (wins_below e b others w) p h = absurd (one_winner all.0 v w)
  same_outcome cs o q all (wins_above c a rest v) (merges e b others g w) p h = absurd (above_not_merged all.0 v w)
  same_outcome cs o q all (wins_below c a rest v) (splits e m s others n g w) p h = absurd (p n w.split)
  same_outcome cs o q all (wins_below c a rest v) (closes e others) p h = absurd (one_letter_last h v.last)
  same_outcome cs o q all (wins_below c a rest v) (wins_above e b others w) p h = absurd (one_winner all.0 w v)
  same_outcome cs o q all (wins_below c a rest v) (wins_below e b others w) p h = won_below_outcome_unique all.0 v w
  same_outcome cs o q all (wins_below c a rest v) (merges e b others g w) p h = absurd (below_not_merged all.0 v w)
  same_outcome cs o q all (merges c a rest f v) (splits e m s others n g w) p h = absurd (p n w.split)
  same_outcome cs o q all (merges c a rest f v) (closes e others) p h = absurd (one_letter_last h v.last)
  same_outcome cs o q all (merges c a rest f v) (wins_above e b others w) p h = absurd (above_not_merged all.0 w v)
  same_outcome cs o q all (merges c a rest f v) (wins_below e b others w) p h = absurd (below_not_merged all.0 w v)
  same_outcome cs o q all (merges c a rest f v) (merges e b others g w) p h = merged_outcome_unique all.0 v w

  -- the rule chooses one outcome
  pub next_unique : {components : List Component} {a b : Outcome} → AllByRecursion (IsLawful d) components → IsNext d components a → IsNext d components b → a ≡ b
  next_unique {components} {a} {b} all h k = same_outcome components a b all h.made k.made h.by_rule k.by_rule

  -- ---- one result of the tests

  same_result : (cs : List Component) (event : Event) (a b : Result Bool Place) → AllByRecursion (IsLawful d) cs → Tests cs event a → Tests cs event b → a ≡ b
  same_result cs event a b all (of_split c rest k f s e h) (of_split i others n g u v w) =
      let es = starting_unique L all.0 h w in
      let ee = ending_unique L all.0 h w in
      λ t. passed (checked_split c k (es t) (ee t))
  same_result cs event a b all (of_closed c rest) (of_closed i others) = refl
  same_result cs event a b all (of_won_above c rest x y h) (of_won_above i others u v w) =
      let ex = last_on_top h w in
      let ey = last_below L all.0 h w in
      λ t. passed (checked_won (ex t) (ey t) c.total (ey t).start.vector)
  same_result cs event a b all (of_won_below c rest x y h) (of_won_below i others u v w) =
      let ex = last_on_top h w in
      let ey = last_below L all.0 h w in
      λ t. passed (checked_won (ey t) (ex t) c.total (ex t).end.vector)
  same_result cs event a b all (of_merged c rest f x y h) (of_merged i others g u v w) =
      let ex = last_on_top h w in
      let ey = last_below L all.0 h w in
      λ t. passed (checked_merged (ex t) (ey t) c.total)

  -- the tests of an event give one result
  pub tests_unique : {components : List Component} {event : Event} {a b : Result Bool Place} → AllByRecursion (IsLawful d) components → Tests components event a → Tests components event b → a ≡ b
  tests_unique {components} {event} {a} {b} all h k = same_result components event a b all h k

  -- ---- one step, or one place

  -- one outcome is made
  pub made_unique : {components : List Component} {a b : Outcome} → AllByRecursion (IsLawful d) components → IsMade d components a → IsMade d components b → a ≡ b
  made_unique all h k = next_unique all h.next k.next

  -- the next event isn't both made and stopped
  pub not_made_and_stopped : {components : List Component} {made : Outcome} {stop : Place} → AllByRecursion (IsLawful d) components → IsMade d components made → ¬ StopsAt d components stop
  not_made_and_stopped {components} {made} {stop} all h s =
      let same = next_unique all h.next s.next in
      ok_not_err true stop (tests_unique all h.fits (subst (λ (o : Outcome). Tests components o.event (Err stop)) (sym same) s.overflows))

  -- it stops at one place
  pub stops_unique : {components : List Component} {a b : Place} → AllByRecursion (IsLawful d) components → StopsAt d components a → StopsAt d components b → a ≡ b
  stops_unique {components} {a} {b} all s t =
      let same = next_unique all s.next t.next in
      err_equal a b (tests_unique all s.overflows (subst (λ (o : Outcome). Tests components o.event (Err b)) (sym same) t.overflows))
