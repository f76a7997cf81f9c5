-- Each lawful component has a next event. Whether it can be split isn't decided here: so no event is given, but it is absurd that there is none.
use Rattle.std.proofs.Common.{ℕ, zero, suc, ◌<◌, ◌≤◌, is_some, if◌then◌else◌, Some, List, ◌∷◌, length, map, take, drop, refl, ap, ◌∙◌, subst, inl, inr, arith}
use Rattle.std.proofs.lemmas.Bool.{cases_eq}
use Rattle.std.proofs.lemmas.List.{length-map}
use Rattle.std.proofs.lemmas.List.Sorted.{length_permutation}
use Rattle.fs_lists.proofs.Items.{item_inside}
use Rattle.fs_lists.proofs.Members.{in_map_cases}
use Rattle.fs_ring.specs.OrderedRing.{IsOrderedRing}
use Rattle.fs_quadratic.specs.Ring as ring
use Rattle.fs_quadratic.specs.Ring.{quadratic, IsPositive, add, sub}
use Rattle.fs_gluing.specs.Exchanges.{Letter, Component, IsLawful, names_of}
use Rattle.fs_iet.proofs.LetterRows.{name_in_top}
use Rattle.fs_iet.proofs.ListsInTurn.{in_by_number}
use Rattle.fs_rauzy.specs.declared.events.Event.TheVariants.{Split, Closed}
use Rattle.fs_rauzy.specs.Events.{HasSplit, AreAt, IsSplit, Outcome, splits, closes, connection, prefix_sum, without_start, without_end}
use Rattle.fs_rauzy.specs.Rule.{HasNoSplit, IsNext}
use Rattle.fs_rauzy.proofs.SplitPlaces.{can_compare}
use Rattle.fs_rauzy.proofs.StepExists.{next_step_exists}

-- where a statement and its negation are both absurd, all is
pub either_way : (P : Type 0) → ¬ P → ¬ (¬ P) → ⊥
either_way P holds fails = fails holds

module _ (P : ℕ → Type 0) where
  -- there is a greatest number below a bound of which P holds, or there is none at all
  greatest_or_none : (m : ℕ) → ((k : ℕ) → P k → k < m) → ((k : ℕ) → P k → ((j : ℕ) → P j → j ≤ k) → ⊥) → (((k : ℕ) → ¬ P k) → ⊥) → ⊥
  greatest_or_none zero below greatest none = none (λ k h. let l = below k h in absurd (omega arith))
  greatest_or_none (suc m) below greatest none =
      either_way (P m) (λ h. greatest m h (λ j i. let l = below j i in omega arith))
      (λ other. greatest_or_none m (λ k h. let l = below k h in elim (cases_eq k m) [ inl e ↦ absurd (other (subst P e h)) | inr n ↦ omega arith ]) greatest none)

module _ {d : ℕ} (L : IsOrderedRing (quadratic d) (IsPositive d)) (c : Component) (rest : List Component) (lawful : IsLawful d c) where
  -- the letters between which a split makes an end
  split_letters : (k : ℕ) → HasSplit c k → (starting ending : Letter) × AreAt c k starting ending
  split_letters k h =
      let others = h.others in
      let top = item_inside c.top k others in
      let bottom = item_inside c.bottom k (omega (arith, length_permutation (names_of c.top) c.bottom lawful.rows, length-map c.top (λ (l : Letter). l.name))) in
      let there = name_in_top L lawful bottom.value (in_by_number c.bottom k bottom.value bottom.is) in
      let from = in_map_cases (λ (l : Letter). l.name) bottom.value c.top there in
      (from.0, top.value, record { there = from.1; at_bottom = bottom.is ∙ ap Some from.2; at_top = top.is })

  -- a split after as many letters as can be is the next event
  split_next : (k : ℕ) → HasSplit c k → ((j : ℕ) → HasSplit c j → j ≤ k) → (o : Outcome) × IsNext d (c ∷ rest) o
  split_next k h most =
      let a = split_letters k h in
      let found = connection a.0 a.1 in
      let left : Component = record { base = c.base; total = prefix_sum c k; top = take k c.top; bottom = take k c.bottom } in
      let right : Component = record {
        base = add c.base (prefix_sum c k);
        total = sub c.total (prefix_sum c k);
        top = (if is_some found then map (λ letter. without_end a.1.name (without_start a.0.name letter)) (drop k c.top) else drop k c.top);
        bottom = drop k c.bottom;
      } in
      let s : IsSplit c k left right found = record { split = h; starting = a.0; ending = a.1; at = a.2; connected = refl; left_part = refl; right_part = refl } in
      (record { event = Split k found; length = ring.zero; components = right ∷ (left ∷ rest) }, record { made = splits c left right rest k found s; by_rule = most })

  -- there is a next event
  pub next_exists : ((o : Outcome) → IsNext d (c ∷ rest) o → ⊥) → ⊥
  next_exists goal = greatest_or_none (HasSplit c) (length c.top) (λ k h. h.others) (λ k h most. let s = split_next k h most in goal s.0 s.1) no_split
    where
      no_split : HasNoSplit c → ⊥
      no_split none = elim (cases_eq (length c.top) 1) [
        | inl one ↦ goal (record { event = Closed; length = ring.zero; components = rest }) (record { made = closes c rest; by_rule = one })
        | inr more ↦
            let some = lawful.some_letter in
            let s = next_step_exists L c rest lawful none (can_compare L lawful none (omega arith)) in
            goal s.0 s.1
      ]
