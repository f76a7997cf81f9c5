-- The exchange of a direction has towers, and each event keeps them. A library for crates to come.
use Rattle.std.proofs.Common.{◌≡◌, ◌≢◌, ◌⊎◌, ℕ, ◌+◌, ◌-◌, ◌<◌, List, [], ◌∷◌, length, refl, sym, ap, ◌∙◌, subst, inl, inr, arith}
use Rattle.std.proofs.lemmas.Bool.{cases_order}
use Rattle.std.specs.List.{AllByRecursion}
use Rattle.fs_lists.specs.Members.{IsIn}
use Rattle.fs_ring.specs.Operations.{Operations, sub as minus}
use Rattle.fs_ring.specs.OrderedRing.{IsOrderedRing, IsLess as Less, IsAtMost}
use Rattle.fs_ring.proofs.Order as order
use Rattle.fs_ring.proofs.Signs as signs
use Rattle.fs_ring.proofs.Solver.{expressions as E, derived, ◌⊕◌, ◌⊖◌, ◌≐◌, ◌from◌, numeral}
use Rattle.fs_quadratic.specs.Ring.{Quadratic, quadratic, IsPositive, IsLess, add, sub, zero as nil}
use Rattle.fs_plane.specs.declared.corners.Corner.{Corner}
use Rattle.fs_plane.specs.Vector.{PlaneVector, vector_zero}
use Rattle.fs_gluing.specs.CrossingMap.{block_start, Orbit, IsOutMark}
use Rattle.fs_gluing.specs.Exchanges.{Letter, Component, IsLawful, Takes, top_left, bottom_left, IsExchange}
use Rattle.fs_gluing.specs.Surface.{GluedPolygons, IsTranslationSurface}
use Rattle.fs_iet.specs.FirstReturns.{IsFirstReturn}
use Rattle.fs_iet.proofs.ExchangeNames.{letter_of_side, number_of_side}
use Rattle.fs_iet.proofs.ExchangeRows.{exchange_lawful, top_left_is}
use Rattle.fs_iet.proofs.FirstReturns.{first_return_within, first_return_later}
use Rattle.fs_iet.proofs.ListsInTurn.{in_by_number}
use Rattle.fs_iet.proofs.Orbits.{orbit_rest}
use Rattle.fs_iet.proofs.ShiftedIntervals.{moved}
use Rattle.fs_iet.proofs.SideMeasures.{surface_order}
use Rattle.fs_iet.proofs.TakenPositions.{takes_within, takes_by_one_letter, takes_left_end, takes_held}
use Rattle.fs_rauzy.specs.Events.{Outcome, Makes, splits, closes, wins_above, wins_below, merges}
use Rattle.fs_rauzy.specs.FirstReturns.{GivesReturns, AllGiveReturns}
use Rattle.fs_rauzy.specs.Towers.{IsTower, HasTowers}
use Rattle.fs_rauzy.proofs.DividedComponents.{divided_by_split, left_stays, right_stays, taken_by_left, taken_by_right}
use Rattle.fs_rauzy.proofs.EventReturns.{exchange_returns, exchange_gives_returns}
use Rattle.fs_rauzy.proofs.EventRows.{last_in, won_above_lawful, won_below_lawful, merged_lawful, split_left_lawful, split_right_lawful}
use Rattle.fs_rauzy.proofs.LeftEnds.{Stays, Joins, IsShortened, top_ends, bottom_ends}
use Rattle.fs_rauzy.proofs.ShortenedComponents.{shortened_by_top, shortened_by_bottom, shortened_by_merge}
use Rattle.fs_rauzy.proofs.TakenAfter.{IsTakenFrom, taken_by_old, taken_on, taken_of_shortened}

-- an interval of length l is taken from t to b, where the bottom row ends with it, and one of length m ends the top row from s on: what is strictly inside the end of the first one is taken to what is right of s
strictly_beyond : {A : Type 0} {R : Operations A} {P : A → Type 0} (L : IsOrderedRing R P) (t b l s m r cut y : A) → R.add s m ≡ r → R.add b l ≡ r → IsAtMost R P cut m
    → Less R P (R.add t (minus R l cut)) y → Less R P s (moved R t b y)
strictly_beyond {A} {R} {P} L t b l s m r cut y top bottom above begins =
    order.less_of_at_most_less L s (minus R r cut) (moved R t b y)
    (λ k. above (signs.positive_of_eq L (derived L.ring (s ∷ m ∷ r ∷ cut ∷ []) (λ s m r c. c ⊖ m ≐ s ⊖ (r ⊖ c) from (E.neg (numeral 1), s ⊕ m ≐ r) ∷ []) refl (top, tt)) k))
    (signs.positive_of_eq L
    (derived L.ring (t ∷ b ∷ l ∷ r ∷ cut ∷ y ∷ []) (λ t b l r c y. ((y ⊖ t) ⊕ b) ⊖ (r ⊖ c) ≐ y ⊖ (t ⊕ (l ⊖ c)) from (numeral 1, b ⊕ l ≐ r) ∷ []) refl (bottom, tt)) begins)

-- and it is right of the beginning of the first one
strictly_inside : {A : Type 0} {R : Operations A} {P : A → Type 0} (L : IsOrderedRing R P) (t l cut y : A) → IsAtMost R P cut l → Less R P (R.add t (minus R l cut)) y → Less R P t y
strictly_inside {A} {R} {P} L t l cut y below begins =
    order.less_of_at_most_less L t (R.add t (minus R l cut)) y (λ k. below (signs.positive_by L (t ∷ l ∷ cut ∷ []) (λ t l c. c ⊖ l ≐ t ⊖ (t ⊕ (l ⊖ c))) refl k)) begins

module _ (s : GluedPolygons) (v : PlaneVector) where
  -- a component with towers gives first returns
  pub returns_of_towers : {c : Component} → HasTowers s v c → GivesReturns s v c
  returns_of_towers {c} h = record {
    from_zero = h.from_zero;
    to_total = h.to_total;
    returns = λ letter y z t. let k = h.tower letter t.there in (k.0, k.1.returns y z t);
  }

  -- and so do all components that have towers
  pub all_returns_of_towers : (components : List Component) → AllByRecursion (HasTowers s v) components → AllGiveReturns s v components
  all_returns_of_towers [] h = tt
  all_returns_of_towers (c ∷ rest) h = (returns_of_towers h.0, all_returns_of_towers rest h.1)

module _ (s : GluedPolygons) (v : PlaneVector) (surface : IsTranslationSurface s) (some : v ≢ vector_zero) where
  abbrev L : IsOrderedRing (quadratic s.d) (IsPositive s.d)
  L = surface_order s surface

  -- ---- the exchange

  -- strictly inside a letter there is no left end of an outgoing side
  not_inside : {c : Component} (letter : Letter) {y : Quadratic} {f : Corner} → IsExchange s v c → IsIn letter c.top → IsLess s.d (top_left c letter.name) y
      → IsLess s.d y (add (top_left c letter.name) letter.length) → ¬ IsOutMark s v y f
  not_inside {c} letter {y} {f} exchange h begins ends mark =
      let lawful = exchange_lawful s surface v some exchange in
      let number = number_of_side s surface v some exchange f mark.outgoing in
      let other = letter_of_side s surface v some exchange number.0 f number.1 in
      let there : top_left c other.0.name ≡ y = ap (top_left c) other.2.named ∙ top_left_is s surface v some exchange number.0 f number.1 ∙ sym mark.at in
      let t : Takes s.d c letter y (moved (quadratic s.d) (top_left c letter.name) (bottom_left c letter.name) y)
      = takes_held L lawful letter y h (record { from_left = order.at_most_of_less L (top_left c letter.name) y begins; before_right = ends }) in
      let k : Takes s.d c other.0 y (bottom_left c other.0.name) = subst (λ p. Takes s.d c other.0 p (bottom_left c other.0.name)) there (takes_left_end L lawful other.0 (in_by_number c.top number.0 other.0 other.1)) in
      let same : letter ≡ other.0 = takes_by_one_letter L lawful t k in
      order.less-ne L (top_left c letter.name) y begins (ap (λ (l : Letter). top_left c l.name) same ∙ there)

  -- the exchange of a surface and a direction has towers: each has one floor
  pub exchange_has_towers : {c : Component} → IsExchange s v c → HasTowers s v c
  exchange_has_towers {c} exchange =
      let lawful = exchange_lawful s surface v some exchange in
      let gives = exchange_gives_returns s v surface some refl exchange lawful in
      record {
        from_zero = gives.from_zero;
        to_total = gives.to_total;
        tower = λ letter h. (
          1,
          record {
            some = omega arith;
            returns = λ y z t. exchange_returns s v surface some exchange lawful t;
            clear = λ i y u g below begins ends o mark. clear letter h i y u g below begins ends o mark;
          },
        );
      }
    where
      clear : (letter : Letter) → IsIn letter c.top → (i : ℕ) (y u : Quadratic) (g : PlaneVector) → i < 1 → IsLess s.d (top_left c letter.name) y
          → IsLess s.d y (add (top_left c letter.name) letter.length) → Orbit s v i y u g → ¬ ((f : Corner) × IsOutMark s v u f)
      clear letter h i y u g below begins ends o mark =
          let none : i ≡ 0 = omega arith in
          let o2 : Orbit s v 0 y u g = subst (λ (n : ℕ). Orbit s v n y u g) none o in
          not_inside letter exchange h begins ends (subst (λ w. IsOutMark s v w mark.0) o2.0 mark.1)

  -- ---- one letter

  module _ {c after : Component} (lawful_after : IsLawful s.d after) (from_left : IsAtMost (quadratic s.d) (IsPositive s.d) c.base after.base)
      (to_right : IsAtMost (quadratic s.d) (IsPositive s.d) (add after.base after.total) (add c.base c.total)) where
    -- a letter that stays keeps its tower
    tower_of_stays : {letter old : Letter} {m : ℕ} → Stays s.d c after letter old → IsTower s v c old m → IsTower s v after letter m
    tower_of_stays {letter} {old} {m} k tower = record {
      some = tower.some;
      returns = λ y z t.
          subst (IsFirstReturn s v after.base (add after.base after.total) m y z) (sym k.back)
          (first_return_within s surface v some from_left to_right (tower.returns y z (taken_by_old L old k.there k.top k.bottom k.shorter t)) (takes_within L lawful_after t).1);
      clear = λ i y u g below begins ends o.
          tower.clear i y u g below (subst (λ t. IsLess s.d t y) k.top begins)
          (order.less_of_less_at_most L y (add (top_left c old.name) letter.length) (add (top_left c old.name) old.length)
          (subst (λ t. IsLess s.d y (add t letter.length)) k.top ends)
          (order.add_at_most_add_left L (top_left c old.name) letter.length old.length k.shorter)) o;
    }

    -- where all letters stay, all towers stay
    towers_of_stays : HasTowers s v c → ((letter : Letter) → IsIn letter after.top → (old : Letter) × Stays s.d c after letter old) → HasTowers s v after
    towers_of_stays h stays = record {
      from_zero = order.at_most_trans L nil c.base after.base h.from_zero from_left;
      to_total = order.at_most_trans L (add after.base after.total) (add c.base c.total) (block_start s v (length s.polygons)) to_right h.to_total;
      tower = λ letter there.
          let k = stays letter there in
          let t = h.tower k.0 k.1.there in
          (t.0, tower_of_stays k.1 t.1);
    }

  -- ---- a won comparison or a merge

  module _ {c after : Component} (lawful : IsLawful s.d c) (lawful_after : IsLawful s.d after) (e : IsShortened s.d c after) where
    abbrev within : IsTakenFrom s.d c after
    within = taken_of_shortened L lawful e lawful_after

    module _ {letter : Letter} {m n : ℕ} (k : Joins s.d c after e.x e.y letter e.cut) (there : IsIn letter after.top) (first : IsTower s v c e.y m) (second : IsTower s v c e.x n) where
      -- on two towers, one on the other, nothing is met inside
      joined_clear : (i : ℕ) (y u : Quadratic) (g : PlaneVector) → i < m + n → IsLess s.d (top_left after letter.name) y
          → IsLess s.d y (add (top_left after letter.name) letter.length) → Orbit s v i y u g → ¬ ((f : Corner) × IsOutMark s v u f)
      joined_clear i y u g below begins ends o = go (cases_order i m)
        where
          t : Takes s.d after letter y (moved (quadratic s.d) (top_left after letter.name) (bottom_left after letter.name) y)
          t = takes_held L lawful_after letter y there (record { from_left = order.at_most_of_less L (top_left after letter.name) y begins; before_right = ends })

          begins_in_first : IsLess s.d (add (top_left c e.y.name) (sub e.y.length e.cut)) y
          begins_in_first = subst (λ p. IsLess s.d p y) k.top begins

          upper : m < i ⊎ (i ≡ m) → ¬ ((f : Corner) × IsOutMark s v u f)
          upper more =
              let w = taken_on L lawful e k t in
              let sum : i ≡ m + (i - m) = elim more [ inl l ↦ omega arith | inr q ↦ omega arith ] in
              let rest = orbit_rest s v surface some m (i - m) y w.between u e.y.back g (first.returns y w.between w.out).orbit (subst (λ (j : ℕ). Orbit s v j y u g) sum o) in
              let right : IsLess s.d (top_left c e.x.name) w.between
              = subst (IsLess s.d (top_left c e.x.name)) (sym w.out.beyond)
              (strictly_beyond L (top_left c e.y.name) (bottom_left c e.y.name) e.y.length (top_left c e.x.name) e.x.length (add c.base c.total) e.cut y
              (top_ends L lawful e.last) (bottom_ends L lawful e.last) e.above begins_in_first) in
              second.clear (i - m) w.between u rest.0 (elim more [ inl l ↦ omega arith | inr q ↦ omega arith ]) right w.on.before_right rest.1

          go : (i ≡ m) ⊎ ((i < m) ⊎ (m < i)) → ¬ ((f : Corner) × IsOutMark s v u f)
          go (inl q) = upper (inr q)
          go (inr (inr more)) = upper (inl more)
          go (inr (inl less)) =
              first.clear i y u g less (strictly_inside L (top_left c e.y.name) e.y.length e.cut y e.below begins_in_first) (taken_on L lawful e k t).out.before_right o

      -- a letter that joins two ends has the towers of both, one on the other
      tower_of_joins : IsTower s v after letter (m + n)
      tower_of_joins =
          let one = first.some in
          record {
            some = omega arith;
            returns = λ y z t.
                let w = taken_on L lawful e k t in
                subst (IsFirstReturn s v after.base (add after.base after.total) (m + n) y z) (sym k.back)
                (first_return_later s surface v some within.from_left within.to_right (first.returns y w.between w.out) w.outside
                (first_return_within s surface v some within.from_left within.to_right (second.returns w.between z w.on) (takes_within L lawful_after t).1));
            clear = joined_clear;
          }

    towers_of_shortened : HasTowers s v c → HasTowers s v after
    towers_of_shortened h = record {
      from_zero = order.at_most_trans L nil c.base after.base h.from_zero within.from_left;
      to_total = order.at_most_trans L (add after.base after.total) (add c.base c.total) (block_start s v (length s.polygons)) within.to_right h.to_total;
      tower = λ letter there. elim (e.letters letter there) [
        | inl k ↦
            let t = h.tower k.0 k.1.there in
            (t.0, tower_of_stays lawful_after within.from_left within.to_right k.1 t.1)
        | inr k ↦
            let first = h.tower e.y e.last.there in
            let second = h.tower e.x (last_in e.last) in
            (first.0 + second.0, tower_of_joins k there first.1 second.1)
      ];
    }

  -- ---- events

  kept : {components : List Component} {outcome : Outcome} → AllByRecursion (IsLawful s.d) components → Makes s.d components outcome → AllByRecursion (HasTowers s v) components
      → AllByRecursion (HasTowers s v) outcome.components
  kept lawful (splits c left right rest k found split) h =
      let left_lawful = split_left_lawful L lawful.0 split in
      let right_lawful = split_right_lawful L lawful.0 split in
      let divided = divided_by_split L split in
      let in_left = taken_by_left L lawful.0 left_lawful right_lawful divided in
      let in_right = taken_by_right L lawful.0 left_lawful right_lawful divided in (
        towers_of_stays right_lawful in_right.from_left in_right.to_right h.0 (right_stays L lawful.0 left_lawful right_lawful divided),
        (towers_of_stays left_lawful in_left.from_left in_left.to_right h.0 (left_stays L lawful.0 left_lawful right_lawful divided), h.1),
      )
  kept lawful (closes c rest) h = h.1
  kept lawful (wins_above c after rest won) h =
      let lawful_after = won_above_lawful L lawful.0 won in
      (towers_of_shortened lawful.0 lawful_after (shortened_by_top L lawful.0 lawful_after won) h.0, h.1)
  kept lawful (wins_below c after rest won) h =
      let lawful_after = won_below_lawful L lawful.0 won in
      (towers_of_shortened lawful.0 lawful_after (shortened_by_bottom L lawful.0 lawful_after won) h.0, h.1)
  kept lawful (merges c after rest found merged) h =
      let lawful_after = merged_lawful L lawful.0 merged in
      (towers_of_shortened lawful.0 lawful_after (shortened_by_merge L lawful.0 lawful_after merged) h.0, h.1)

-- each event keeps towers, of every surface and direction
pub events_keep_towers : {d : ℕ} {components : List Component} {outcome : Outcome} → AllByRecursion (IsLawful d) components → Makes d components outcome
    → (s : GluedPolygons) (v : PlaneVector) → IsTranslationSurface s → v ≢ vector_zero → s.d ≡ d → AllByRecursion (HasTowers s v) components → AllByRecursion (HasTowers s v) outcome.components
events_keep_towers {d} {components} {outcome} lawful made s v surface some same h =
    kept s v surface some (subst (λ (e : ℕ). AllByRecursion (IsLawful e) components) (sym same) lawful) (subst (λ (e : ℕ). Makes e components outcome) (sym same) made) h
