-- What a component takes after an event: what one letter takes before, or two letters one after the other; after a won comparison or a merge.
use Rattle.std.proofs.Common.{◌≡◌, ℕ, [], ◌∷◌, refl, sym, ◌∙◌, subst, inl, inr}
use Rattle.fs_lists.specs.Members.{IsIn}
use Rattle.fs_ring.specs.Operations.{Operations, sub as minus}
use Rattle.fs_ring.specs.OrderedRing.{IsOrderedRing, IsLess, IsAtMost}
use Rattle.fs_ring.proofs.Order as order
use Rattle.fs_ring.proofs.Signs as signs
use Rattle.fs_ring.proofs.Solver.{expressions as E, identity, derived, ◌⊕◌, ◌⊖◌, ◌≐◌, ◌from◌, numeral}
use Rattle.fs_quadratic.specs.Ring.{Quadratic, quadratic, IsPositive, add, sub}
use Rattle.fs_plane.specs.Vector.{vector_add}
use Rattle.fs_gluing.specs.Exchanges.{Letter, Component, IsLawful, top_left, bottom_left, Takes}
use Rattle.fs_iet.specs.FirstReturns.{IsBetween}
use Rattle.fs_iet.proofs.ShiftedIntervals.{moved, moved_before_right}
use Rattle.fs_iet.proofs.TakenPositions.{takes_within}
use Rattle.fs_rauzy.proofs.EventRows.{last_in}
use Rattle.fs_rauzy.proofs.LeftEnds.{Joins, IsShortened, sub_at_most, top_ends, bottom_ends}

-- ---- positions

module _ {A : Type 0} {R : Operations A} {P : A → Type 0} (L : IsOrderedRing R P) where
  infix 50 ◌≤◌ ◌<◌
  abbrev ◌≤◌ : A → A → Type 0
  a ≤ b = IsAtMost R P a b

  abbrev ◌<◌ : A → A → Type 0
  a < b = IsLess R P a b

  -- an interval of length l is taken from t to b, where the bottom row ends with it, and one of length m from s, where the top row ends with it, to c: the end of the first one, as long as cut, is taken by both, one after the other
  module _ (t b l s c m r cut y : A) (top : R.add s m ≡ r) (bottom : R.add b l ≡ r) (below : cut ≤ l) (above : cut ≤ m)
      (begins : R.add t (minus R l cut) ≤ y) (ends : y < R.add (R.add t (minus R l cut)) cut) where
    first_from : t ≤ y
    first_from = order.at_most_trans L t (R.add t (minus R l cut)) y (λ k. below (signs.positive_by L (t ∷ l ∷ cut ∷ []) (λ t l c. c ⊖ l ≐ t ⊖ (t ⊕ (l ⊖ c))) refl k)) begins

    first_before : y < R.add t l
    first_before = signs.positive_by L (t ∷ l ∷ cut ∷ y ∷ []) (λ t l c y. (t ⊕ l) ⊖ y ≐ ((t ⊕ (l ⊖ c)) ⊕ c) ⊖ y) refl ends

    -- it is outside of what is left
    beyond_rest : minus R r cut ≤ moved R t b y
    beyond_rest k =
        begins (signs.positive_of_eq L
        (derived L.ring (t ∷ b ∷ l ∷ r ∷ cut ∷ y ∷ []) (λ t b l r c y. (t ⊕ (l ⊖ c)) ⊖ y ≐ (r ⊖ c) ⊖ ((y ⊖ t) ⊕ b) from (numeral 1, b ⊕ l ≐ r) ∷ []) refl (bottom, tt)) k)

    second_from : s ≤ moved R t b y
    second_from =
        order.at_most_trans L s (minus R r cut) (moved R t b y)
        (λ k. above (signs.positive_of_eq L (derived L.ring (s ∷ m ∷ r ∷ cut ∷ []) (λ s m r c. c ⊖ m ≐ s ⊖ (r ⊖ c) from (E.neg (numeral 1), s ⊕ m ≐ r) ∷ []) refl (top, tt)) k))
        beyond_rest

    second_before : moved R t b y < R.add s m
    second_before =
        subst (λ u. moved R t b y < u) (bottom ∙ sym top) (moved_before_right L t b l y first_before)

    both_moved : moved R s c (moved R t b y) ≡ moved R (R.add t (minus R l cut)) (R.add c (minus R m cut)) y
    both_moved =
        derived L.ring (t ∷ b ∷ l ∷ s ∷ c ∷ m ∷ r ∷ cut ∷ y ∷ [])
        (λ t b l s c m r k y. (((y ⊖ t) ⊕ b) ⊖ s) ⊕ c ≐ (y ⊖ (t ⊕ (l ⊖ k))) ⊕ (c ⊕ (m ⊖ k)) from (numeral 1, b ⊕ l ≐ r) ∷ (E.neg (numeral 1), s ⊕ m ≐ r) ∷ []) refl (bottom, (top, tt))

-- ---- components

module _ (d : ℕ) (c after : Component) where
  -- what a letter takes from y to z after the event: one letter takes it before, with its return vector; or a letter takes y out of what is left, and another takes it on from there to z
  pub data TakenAs (letter : Letter) (y z : Quadratic) : Type 0 where
    once : (old : Letter) → Takes d c old y z → letter.back ≡ old.back → TakenAs letter y z
    twice : (first second : Letter) (u : Quadratic) → Takes d c first y u → ¬ IsBetween d after.base (add after.base after.total) u → Takes d c second u z
        → letter.back ≡ vector_add first.back second.back → TakenAs letter y z

  -- the first letter takes y out of what is left, and the second one takes it on from there to z
  pub record IsTakenOn (first second : Letter) (y z : Quadratic) : Type 0 where
    pub between : Quadratic
    pub out : Takes d c first y between
    pub outside : ¬ IsBetween d after.base (add after.base after.total) between
    pub on : Takes d c second between z

  -- the component after the event is within that before, and takes what that takes once or twice
  pub record IsTakenFrom : Type 0 where
    pub from_left : IsAtMost (quadratic d) (IsPositive d) c.base after.base
    pub to_right : IsAtMost (quadratic d) (IsPositive d) (add after.base after.total) (add c.base c.total)
    pub within : (letter : Letter) (y z : Quadratic) → Takes d after letter y z → IsBetween d after.base (add after.base after.total) z
    pub taken : (letter : Letter) (y z : Quadratic) → Takes d after letter y z → TakenAs letter y z

module _ {d : ℕ} (L : IsOrderedRing (quadratic d) (IsPositive d)) {c after : Component} where
  -- a letter with the left ends of one before, and at most as long, takes what that takes
  pub taken_by_old : {letter : Letter} {p z : Quadratic} (old : Letter) → IsIn old c.top → top_left after letter.name ≡ top_left c old.name → bottom_left after letter.name ≡ bottom_left c old.name
      → IsAtMost (quadratic d) (IsPositive d) letter.length old.length → Takes d after letter p z → Takes d c old p z
  taken_by_old {letter} {p} {z} old h top bottom shorter t = record {
    there = h;
    from_left = subst (λ a. IsAtMost (quadratic d) (IsPositive d) a p) top t.from_left;
    before_right =
        order.less_of_less_at_most L p (add (top_left c old.name) letter.length) (add (top_left c old.name) old.length)
        (subst (λ a. IsLess (quadratic d) (IsPositive d) p (add a letter.length)) top t.before_right)
        (order.add_at_most_add_left L (top_left c old.name) letter.length old.length shorter);
    beyond = t.beyond ∙ (λ i. moved (quadratic d) (top i) (bottom i) p);
  }

-- ---- a won comparison or a merge

module _ {d : ℕ} (L : IsOrderedRing (quadratic d) (IsPositive d)) {c after : Component} (lawful : IsLawful d c) (e : IsShortened d c after) where
  -- the end of what is left
  pub row_end : add after.base after.total ≡ sub (add c.base c.total) e.cut
  row_end =
      (λ i. add (e.base i) (e.sum i))
      ∙ identity L.ring (c.base ∷ c.total ∷ e.cut ∷ []) (λ b t k. b ⊕ (t ⊖ k) ≐ (b ⊕ t) ⊖ k) refl

  -- what a letter that joins two ends takes, the one letter takes out of what is left, and the other takes on
  pub taken_on : {letter : Letter} {p z : Quadratic} → Joins d c after e.x e.y letter e.cut → Takes d after letter p z → IsTakenOn d c after e.y e.x p z
  taken_on {letter} {p} {z} k t =
      let ty = top_left c e.y.name in
      let by = bottom_left c e.y.name in
      let tx = top_left c e.x.name in
      let bx = bottom_left c e.x.name in
      let r = add c.base c.total in
      let u = moved (quadratic d) ty by p in
      let top = top_ends L lawful e.last in
      let bottom = bottom_ends L lawful e.last in
      let begins : IsAtMost (quadratic d) (IsPositive d) (add ty (sub e.y.length e.cut)) p = subst (λ a. IsAtMost (quadratic d) (IsPositive d) a p) k.top t.from_left in
      let ends : IsLess (quadratic d) (IsPositive d) p (add (add ty (sub e.y.length e.cut)) e.cut) =
      subst (λ l. IsLess (quadratic d) (IsPositive d) p (add (add ty (sub e.y.length e.cut)) l)) k.length
      (subst (λ a. IsLess (quadratic d) (IsPositive d) p (add a letter.length)) k.top t.before_right) in
      record {
        between = u;
        out = record {
          there = e.last.there;
          from_left = first_from L ty by e.y.length tx bx e.x.length r e.cut p top bottom e.below e.above begins ends;
          before_right = first_before L ty by e.y.length tx bx e.x.length r e.cut p top bottom e.below e.above begins ends;
          beyond = refl;
        };
        outside = λ in_rest. beyond_rest L ty by e.y.length tx bx e.x.length r e.cut p top bottom e.below e.above begins ends (subst (IsLess (quadratic d) (IsPositive d) u) row_end in_rest.before_right);
        on = record {
          there = last_in e.last;
          from_left = second_from L ty by e.y.length tx bx e.x.length r e.cut p top bottom e.below e.above begins ends;
          before_right = second_before L ty by e.y.length tx bx e.x.length r e.cut p top bottom e.below e.above begins ends;
          beyond =
              t.beyond ∙ (λ i. moved (quadratic d) (k.top i) (k.bottom i) p)
              ∙ sym (both_moved L ty by e.y.length tx bx e.x.length r e.cut p top bottom e.below e.above begins ends);
        };
      }

  taken_twice : {letter : Letter} {p z : Quadratic} → Joins d c after e.x e.y letter e.cut → Takes d after letter p z → TakenAs d c after letter p z
  taken_twice k t = let w = taken_on k t in twice e.y e.x w.between w.out w.outside w.on k.back

  -- a lawful component that is shortened takes what it took before, once or twice
  pub taken_of_shortened : IsLawful d after → IsTakenFrom d c after
  taken_of_shortened lawful_after = record {
    from_left = order.at_most_of_eq L c.base after.base (sym e.base);
    to_right = subst (λ q. IsAtMost (quadratic d) (IsPositive d) q (add c.base c.total)) (sym row_end) (sub_at_most L (add c.base c.total) e.cut e.long);
    within = λ letter p z t. (takes_within L lawful_after t).1;
    taken = λ letter p z t. elim (e.letters letter t.there) [
      | inl k ↦ once k.0 (taken_by_old L k.0 k.1.there k.1.top k.1.bottom k.1.shorter t) k.1.back
      | inr k ↦ taken_twice k t
    ];
  }
