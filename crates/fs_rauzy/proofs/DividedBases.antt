-- The flow from each position meets exactly one base after a split: what meets the one part doesn't come to the other.
use Rattle.std.proofs.Common.{◌≡◌, ◌≢◌, ◌⊎◌, ℕ, zero, suc, ◌+◌, ◌-◌, ◌≤◌, List, ◌∷◌, refl, sym, ◌∙◌, subst, inl, inr, arith}
use Rattle.std.proofs.lemmas.Bool.{cases_order}
use Rattle.fs_lists.specs.Members.{IsIn}
use Rattle.fs_ring.specs.OrderedRing.{IsOrderedRing, IsAtMost}
use Rattle.fs_ring.proofs.Order as order
use Rattle.fs_quadratic.specs.Ring.{Quadratic, quadratic, IsPositive, IsLess, add}
use Rattle.fs_plane.specs.Vector.{PlaneVector, vector_zero}
use Rattle.fs_gluing.specs.CrossingMap.{Orbit, IsPosition}
use Rattle.fs_gluing.specs.Exchanges.{Letter, Component, IsLawful}
use Rattle.fs_gluing.specs.Surface.{GluedPolygons, IsTranslationSurface}
use Rattle.fs_iet.specs.FirstReturns.{IsBetween, IsFirstReturn}
use Rattle.fs_iet.proofs.FirstReturns.{between_wider}
use Rattle.fs_iet.proofs.Orbits.{orbit_rest, orbit_unique}
use Rattle.fs_iet.proofs.SideMeasures.{surface_order}
use Rattle.fs_iet.proofs.TakenPositions.{takes_within, takes_some}
use Rattle.fs_rauzy.specs.FirstReturns.{GivesReturns}
use Rattle.fs_rauzy.specs.Towers.{Base, base_of, MeetsBase}
use Rattle.fs_rauzy.proofs.DividedComponents.{IsDivided, left_stays, right_stays, meet, end_together, taken_by_left, taken_by_right}
use Rattle.fs_rauzy.proofs.LeftEnds.{Stays}
use Rattle.fs_rauzy.proofs.TakenAfter.{IsTakenFrom, taken_by_old}
use Rattle.fs_rauzy.proofs.BasesMet.{AreMetOnce, IsOn, IsPartOf, holds_base, met_at_once, part_apart, part_or_rest, one_of_rest}

module _ (s : GluedPolygons) (v : PlaneVector) (surface : IsTranslationSurface s) (some : v ≢ vector_zero) where
  abbrev L : IsOrderedRing (quadratic s.d) (IsPositive s.d)
  L = surface_order s surface

  -- the first return to the whole from each position of the part is in the part
  abbrev StaysIn : Base → Base → Type 0
  StaysIn part whole = (z : Quadratic) → IsBetween s.d part.start (add part.start part.width) z
      → (m : ℕ) × (w : Quadratic) × (h : PlaneVector) × IsFirstReturn s v whole.start (add whole.start whole.width) m z w h × IsBetween s.d part.start (add part.start part.width) w

  -- so are all later ones
  visits_stay : (part whole : Base) → StaysIn part whole → (k n : ℕ) (z w : Quadratic) (h : PlaneVector) → n ≤ k → IsBetween s.d part.start (add part.start part.width) z → Orbit s v n z w h
      → IsBetween s.d whole.start (add whole.start whole.width) w → IsBetween s.d part.start (add part.start part.width) w
  visits_stay part whole stays k zero z w h l on o inside = subst (IsBetween s.d part.start (add part.start part.width)) (sym o.0) on
  visits_stay part whole stays zero (suc n) z w h l on o inside = absurd (omega arith)
  visits_stay part whole stays (suc k) (suc n) z w h l on o inside =
      let first = stays z on in
      let one = first.3.some in
      elim (cases_order (suc n) first.0) [
        | inl e ↦
            subst (IsBetween s.d part.start (add part.start part.width))
            (sym (orbit_unique s v surface some first.0 z w first.1 h first.2 (subst (λ (j : ℕ). Orbit s v j z w h) e o) first.3.orbit).0) first.4
        | inr more ↦ elim more [
          | inl less ↦ absurd (first.3.not_before (suc n) w h (omega arith) less o inside)
          | inr beyond ↦
              let sum : suc n ≡ first.0 + (suc n - first.0) = omega arith in
              let rest = orbit_rest s v surface some first.0 (suc n - first.0) z first.1 w first.2 h first.3.orbit (subst (λ (j : ℕ). Orbit s v j z w h) sum o) in
              visits_stay part whole stays k (suc n - first.0) first.1 w rest.0 (omega arith) first.4 rest.1 inside
        ]
      ]

  -- what meets the one part isn't back later on another
  not_later : {a b whole : Base} {y : Quadratic} → StaysIn a whole → IsPartOf s.d b whole
      → ((z : Quadratic) → IsBetween s.d a.start (add a.start a.width) z → ¬ IsBetween s.d b.start (add b.start b.width) z)
      → (p : MeetsBase s v y a) (q : MeetsBase s v y b) → p.m ≤ q.m → ⊥
  not_later {a} {b} {whole} {y} stays within disjoint p q l =
      let sum : q.m ≡ p.m + (q.m - p.m) = omega arith in
      let rest = orbit_rest s v surface some p.m (q.m - p.m) y p.z q.z p.h q.h p.orbit (subst (λ (j : ℕ). Orbit s v j y q.z q.h) sum q.orbit) in
      disjoint q.z
      (visits_stay a whole stays (q.m - p.m) (q.m - p.m) p.z q.z rest.0 (omega arith) p.there rest.1 (between_wider s surface v some within.from_left within.to_right q.there))
      q.there

  module _ {whole a b : Base} {rest : List Base} (old : AreMetOnce s v (whole ∷ rest)) (in_a : IsPartOf s.d a whole) (in_b : IsPartOf s.d b whole)
      (fill : (z : Quadratic) → IsBetween s.d whole.start (add whole.start whole.width) z → IsBetween s.d a.start (add a.start a.width) z ⊎ IsBetween s.d b.start (add b.start b.width) z)
      (not_both : (y : Quadratic) → MeetsBase s v y a → ¬ MeetsBase s v y b) where
    -- bases of which one is divided into two that aren't met together
    met_after_division : AreMetOnce s v (a ∷ (b ∷ rest))
    met_after_division = (record { some = some_base; only_one = one_base }, (a_apart, (part_apart s v surface some old in_b, old.1.1)))
      where
        a_apart : (u : Base) → IsIn u (b ∷ rest) → a ≢ u
        a_apart u (inl q) e = not_both a.start (met_at_once s v in_a.begins) (subst (MeetsBase s v a.start) (e ∙ q) (met_at_once s v in_a.begins))
        a_apart u (inr h) e = part_apart s v surface some old in_a u h e

        some_base : (y : Quadratic) → IsPosition s v y → (u : Base) × IsIn u (a ∷ (b ∷ rest)) × MeetsBase s v y u
        some_base y p =
            let m = old.0.some y p in elim m.1 [
              | inl q ↦
                  let k : MeetsBase s v y whole = subst (MeetsBase s v y) q m.2 in elim (fill k.z k.there) [
                    | inl on ↦ (a, inl refl, record { m = k.m; z = k.z; h = k.h; orbit = k.orbit; there = on })
                    | inr on ↦ (b, inr (inl refl), record { m = k.m; z = k.z; h = k.h; orbit = k.orbit; there = on })
                  ]
              | inr h ↦ (m.0, inr (inr h), m.2)
            ]

        one_base : (y : Quadratic) (t u : Base) → IsIn t (a ∷ (b ∷ rest)) → IsIn u (a ∷ (b ∷ rest)) → MeetsBase s v y t → MeetsBase s v y u → t ≡ u
        one_base y t u (inl p) (inl q) k l = p ∙ sym q
        one_base y t u (inl p) (inr (inl q)) k l = absurd (not_both y (subst (MeetsBase s v y) p k) (subst (MeetsBase s v y) q l))
        one_base y t u (inl p) (inr (inr h)) k l = absurd (part_or_rest s v surface some old in_a y u h (subst (MeetsBase s v y) p k) l)
        one_base y t u (inr (inl p)) (inl q) k l = absurd (not_both y (subst (MeetsBase s v y) q l) (subst (MeetsBase s v y) p k))
        one_base y t u (inr (inl p)) (inr (inl q)) k l = p ∙ sym q
        one_base y t u (inr (inl p)) (inr (inr h)) k l = absurd (part_or_rest s v surface some old in_b y u h (subst (MeetsBase s v y) p k) l)
        one_base y t u (inr (inr h)) (inl q) k l = absurd (part_or_rest s v surface some old in_a y t h (subst (MeetsBase s v y) q l) k)
        one_base y t u (inr (inr h)) (inr (inl q)) k l = absurd (part_or_rest s v surface some old in_b y t h (subst (MeetsBase s v y) q l) k)
        one_base y t u (inr (inr h)) (inr (inr n)) k l = one_of_rest s v surface some old y t u h n k l

  -- where all letters stay, so do first returns
  stays_of_letters : {c part : Component} → IsLawful s.d part → GivesReturns s v c → ((letter : Letter) → IsIn letter part.top → (old : Letter) × Stays s.d c part letter old) → StaysIn (base_of part) (base_of c)
  stays_of_letters {c} {part} lawful_part g letters z on =
      let t = takes_some L lawful_part z on in
      let k = letters t.0 t.2.there in
      let first = g.returns k.0 z t.1 (taken_by_old L k.0 k.1.there k.1.top k.1.bottom k.1.shorter t.2) in
      (first.0, t.1, k.0.back, first.1, (takes_within L lawful_part t.2).1)

  module _ {c left right : Component} {rest : List Base} (lawful : IsLawful s.d c) (lawful_left : IsLawful s.d left) (lawful_right : IsLawful s.d right) (g : GivesReturns s v c) (e : IsDivided c left right)
      (old : AreMetOnce s v (base_of c ∷ rest)) where
    left_within : IsTakenFrom s.d c left
    left_within = taken_by_left L lawful lawful_left lawful_right e

    right_within : IsTakenFrom s.d c right
    right_within = taken_by_right L lawful lawful_left lawful_right e

    left_part : IsPartOf s.d (base_of left) (base_of c)
    left_part = record { begins = holds_base L lawful_left; from_left = left_within.from_left; to_right = left_within.to_right }

    right_part : IsPartOf s.d (base_of right) (base_of c)
    right_part = record { begins = holds_base L lawful_right; from_left = right_within.from_left; to_right = right_within.to_right }

    apart_parts : (z : Quadratic) → IsOn s.d left z → ¬ IsOn s.d right z
    apart_parts z p q = q.from_left (subst (IsLess s.d z) (meet L lawful lawful_left lawful_right e) p.before_right)

    fill_parts : (z : Quadratic) → IsOn s.d c z → IsOn s.d right z ⊎ IsOn s.d left z
    fill_parts z on = elim (order.less_or_at_most L z right.base) [
      | inl l ↦ inr (record {
        from_left = subst (λ b. IsAtMost (quadratic s.d) (IsPositive s.d) b z) (sym e.base) on.from_left;
        before_right = subst (IsLess s.d z) (sym (meet L lawful lawful_left lawful_right e)) l;
      })
      | inr m ↦ inl (record { from_left = m; before_right = subst (IsLess s.d z) (sym (end_together L lawful lawful_left lawful_right e)) on.before_right })
    ]

    not_both_parts : (y : Quadratic) → MeetsBase s v y (base_of right) → ¬ MeetsBase s v y (base_of left)
    not_both_parts y p q =
        let stays_left = stays_of_letters lawful_left g (left_stays L lawful lawful_left lawful_right e) in
        let stays_right = stays_of_letters lawful_right g (right_stays L lawful lawful_left lawful_right e) in
        elim (cases_order p.m q.m) [
          | inl same ↦ not_later stays_left right_part apart_parts q p (omega arith)
          | inr k ↦ elim k [
            | inl less ↦ not_later stays_right left_part (λ z x y. apart_parts z y x) p q (omega arith)
            | inr more ↦ not_later stays_left right_part apart_parts q p (omega arith)
          ]
        ]

    -- where a component is divided into two parts, the bases are met as before
    pub met_after_split : AreMetOnce s v (base_of right ∷ (base_of left ∷ rest))
    met_after_split = met_after_division old right_part left_part fill_parts not_both_parts
