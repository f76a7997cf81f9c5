-- The flow from each position meets exactly one base: of the exchange of a direction, and after a won comparison or a merge. A library for crates to come.
use Rattle.std.proofs.Common.{◌≡◌, ◌≢◌, ◌⊎◌, ◌↔◌, ℕ, ◌+◌, List, [], ◌∷◌, refl, sym, ap, ◌∙◌, subst, inl, inr}
use Rattle.fs_lists.specs.Members.{IsIn, IsDistinct}
use Rattle.fs_ring.specs.OrderedRing.{IsOrderedRing, IsAtMost}
use Rattle.fs_ring.specs.Vector.{add_vector}
use Rattle.fs_ring.proofs.Order as order
use Rattle.fs_ring.proofs.Signs as signs
use Rattle.fs_ring.proofs.Solver.{◌⊕◌, ◌⊖◌, ◌≐◌}
use Rattle.fs_quadratic.specs.Ring.{Quadratic, quadratic, IsPositive, IsLess, add, sub}
use Rattle.fs_plane.specs.Vector.{PlaneVector, vector_zero}
use Rattle.fs_gluing.specs.CrossingMap.{IsPosition}
use Rattle.fs_gluing.specs.Exchanges.{Letter, Component, IsLawful, Takes, top_left, bottom_left, IsExchange}
use Rattle.fs_gluing.specs.Surface.{GluedPolygons, IsTranslationSurface}
use Rattle.fs_iet.specs.FirstReturns.{IsBetween}
use Rattle.fs_iet.proofs.ExchangeCrossings.{between_of_position}
use Rattle.fs_iet.proofs.FirstReturns.{between_wider}
use Rattle.fs_iet.proofs.Orbits.{orbit_join}
use Rattle.fs_iet.proofs.ShiftedIntervals.{moved, moved_before_right, moved_from_left, moved_back}
use Rattle.fs_iet.proofs.SideMeasures.{surface_order}
use Rattle.fs_iet.proofs.TakenPositions.{takes_within, takes_left_end, takes_held, takes_from_one_letter}
use Rattle.fs_rauzy.specs.FirstReturns.{GivesReturns}
use Rattle.fs_rauzy.specs.Towers.{Base, base_of, MeetsBase, AreMet}
use Rattle.fs_rauzy.proofs.EventRows.{last_in}
use Rattle.fs_rauzy.proofs.LeftEnds.{IsShortened, top_ends, bottom_ends}
use Rattle.fs_rauzy.proofs.TakenAfter.{IsTakenFrom, taken_of_shortened, row_end}
use Rattle.fs_rauzy.proofs.TouchedKept.{first_letter}

-- a position of the component
abbrev pub IsOn : ℕ → Component → Quadratic → Type 0
IsOn d c y = IsBetween d c.base (add c.base c.total) y

-- the part is within the whole, and holds its beginning
pub record IsPartOf (d : ℕ) (part whole : Base) : Type 0 where
  pub begins : IsBetween d part.start (add part.start part.width) part.start
  pub from_left : IsAtMost (quadratic d) (IsPositive d) whole.start part.start
  pub to_right : IsAtMost (quadratic d) (IsPositive d) (add part.start part.width) (add whole.start whole.width)

module _ {d : ℕ} (L : IsOrderedRing (quadratic d) (IsPositive d)) where
  -- a lawful component holds its beginning
  pub holds_base : {c : Component} → IsLawful d c → IsOn d c c.base
  holds_base {c} lawful =
      let first = first_letter L lawful in
      subst (IsOn d c) first.2 (takes_within L lawful (takes_left_end L lawful first.0 first.1)).0

  -- a letter that isn't the last one of the bottom row ends before that one begins there
  before_last_below : {c : Component} {a y : Letter} {p w : Quadratic} → IsLawful d c → IsIn y c.top → add (bottom_left c y.name) y.length ≡ add c.base c.total → a ≢ y → Takes d c a p w
      → IsLess d w (bottom_left c y.name)
  before_last_below {c} {a} {y} {p} {w} lawful h ends other t =
      order.less_of_not_at_most L w (bottom_left c y.name) (λ right.
      other (takes_from_one_letter L lawful t (record {
        there = h;
        from_left = moved_from_left L (bottom_left c y.name) (top_left c y.name) w right;
        before_right = moved_before_right L (bottom_left c y.name) (top_left c y.name) y.length w (subst (IsLess d w) (sym ends) (takes_within L lawful t).1.before_right);
        beyond = sym (moved_back L (top_left c y.name) (bottom_left c y.name) w);
      })))

  -- ---- a won comparison or a merge

  module _ {c after : Component} (lawful : IsLawful d c) (e : IsShortened d c after) where
    -- what is cut off is taken into what is left
    cut_taken : (z : Quadratic) → IsOn d c z → ¬ IsOn d after z → (w : Quadratic) × Takes d c e.x z w × IsOn d after w
    cut_taken z on off =
        let end = add c.base c.total in
        let x_end : add (top_left c e.x.name) e.x.length ≡ end = top_ends L lawful e.last in
        let y_end : add (bottom_left c e.y.name) e.y.length ≡ end = bottom_ends L lawful e.last in
        let beyond_cut : IsAtMost (quadratic d) (IsPositive d) (sub end e.cut) z = (λ less. off (record {
          from_left = subst (λ b. IsAtMost (quadratic d) (IsPositive d) b z) (sym e.base) on.from_left;
          before_right = subst (IsLess d z) (sym (row_end L lawful e)) less;
        })) in
        let t : Takes d c e.x z (moved (quadratic d) (top_left c e.x.name) (bottom_left c e.x.name) z) = takes_held L lawful e.x z (last_in e.last) (record {
          from_left = order.at_most_trans L (top_left c e.x.name) (sub end e.cut) z (ends_before (top_left c e.x.name) e.x.length end e.cut x_end e.above) beyond_cut;
          before_right = subst (IsLess d z) (sym x_end) on.before_right;
        }) in
        let w = moved (quadratic d) (top_left c e.x.name) (bottom_left c e.x.name) z in (
          w,
          t,
          record {
            from_left = subst (λ b. IsAtMost (quadratic d) (IsPositive d) b w) (sym e.base) (takes_within L lawful t).1.from_left;
            before_right =
                subst (IsLess d w) (sym (row_end L lawful e))
                (order.less_of_less_at_most L w (bottom_left c e.y.name) (sub end e.cut)
                (before_last_below lawful e.last.there y_end (λ same. e.last.differ (ap (λ (l : Letter). l.name) same)) t)
                (ends_before (bottom_left c e.y.name) e.y.length end e.cut y_end e.below));
          },
        )
      where
        ends_before : (t l end cut : Quadratic) → add t l ≡ end → IsAtMost (quadratic d) (IsPositive d) cut l → IsAtMost (quadratic d) (IsPositive d) t (sub end cut)
        ends_before t l end cut q below =
            subst (λ r. IsAtMost (quadratic d) (IsPositive d) t (sub r cut)) q (λ k. below (signs.positive_by L (t ∷ l ∷ cut ∷ []) (λ t l c. c ⊖ l ≐ t ⊖ ((t ⊕ l) ⊖ c)) refl k))

-- ---- bases

module _ (s : GluedPolygons) (v : PlaneVector) where
  -- the flow from each position meets exactly one of these bases, and none is there twice
  abbrev pub AreMetOnce : List Base → Type 0
  AreMetOnce bases = AreMet s v bases × IsDistinct bases

  -- what holds of bases in one order holds of them in another
  pub met_in_order : {before after : List Base} → ((b : Base) → IsIn b before ↔ IsIn b after) → AreMet s v before → AreMet s v after
  met_in_order {before} {after} same k = record {
    some = λ y p. let m = k.some y p in (m.0, (same m.0).0 m.1, m.2);
    only_one = λ y a b ha hb. k.only_one y a b ((same a).1 ha) ((same b).1 hb);
  }

  -- a base is met by its positions
  pub met_at_once : {b : Base} {y : Quadratic} → IsBetween s.d b.start (add b.start b.width) y → MeetsBase s v y b
  met_at_once {b} {y} on = record { m = 0; z = y; h = vector_zero; orbit = (refl, refl); there = on }

module _ (s : GluedPolygons) (v : PlaneVector) (surface : IsTranslationSurface s) (some : v ≢ vector_zero) where
  abbrev L : IsOrderedRing (quadratic s.d) (IsPositive s.d)
  L = surface_order s surface

  -- each position is on the base of the exchange of a surface and a direction
  pub exchange_base_met : {c : Component} → IsExchange s v c → AreMetOnce s v (base_of c ∷ [])
  exchange_base_met {c} exchange = (
    record {
      some = λ y p. (base_of c, inl refl, met_at_once s v (between_of_position s surface v some exchange p));
      only_one = λ y a b ha hb p q. elim ha [
        | inl e ↦ elim hb [ inl f ↦ e ∙ sym f | inr n ↦ absurd n ]
        | inr n ↦ absurd n
      ];
    },
    ((λ b h. absurd h), tt),
  )

  -- ---- parts of a base

  module _ {whole : Base} {rest : List Base} (old : AreMetOnce s v (whole ∷ rest)) where
    -- what meets the whole meets no other base
    not_in_rest : {y : Quadratic} (b : Base) → IsIn b rest → MeetsBase s v y whole → ¬ MeetsBase s v y b
    not_in_rest {y} b h p q = old.1.0 b h (old.0.only_one y whole b (inl refl) (inr h) p q)

    -- of the others one alone is met
    pub one_of_rest : (y : Quadratic) (a b : Base) → IsIn a rest → IsIn b rest → MeetsBase s v y a → MeetsBase s v y b → a ≡ b
    one_of_rest y a b ha hb = old.0.only_one y a b (inr ha) (inr hb)

    module _ {part : Base} (within : IsPartOf s.d part whole) where
      -- what meets a part meets the whole
      meets_whole : {y : Quadratic} → MeetsBase s v y part → MeetsBase s v y whole
      meets_whole {y} k = record { m = k.m; z = k.z; h = k.h; orbit = k.orbit; there = between_wider s surface v some within.from_left within.to_right k.there }

      -- a part isn't one of the others
      pub part_apart : (b : Base) → IsIn b rest → part ≢ b
      part_apart b h e =
          let here : MeetsBase s v part.start part = met_at_once s v within.begins in
          not_in_rest b h (meets_whole here) (subst (MeetsBase s v part.start) e here)

      -- what meets a part meets no other base
      pub part_or_rest : (y : Quadratic) (b : Base) → IsIn b rest → MeetsBase s v y part → ¬ MeetsBase s v y b
      part_or_rest y b h p q = not_in_rest b h (meets_whole p) q

  -- ---- a won comparison or a merge

  module _ {c after : Component} {rest : List Base} (lawful : IsLawful s.d c) (lawful_after : IsLawful s.d after) (g : GivesReturns s v c) (e : IsShortened s.d c after)
      (old : AreMetOnce s v (base_of c ∷ rest)) where
    abbrev within : IsTakenFrom s.d c after
    within = taken_of_shortened L lawful e lawful_after

    part : IsPartOf s.d (base_of after) (base_of c)
    part = record { begins = holds_base L lawful_after; from_left = within.from_left; to_right = within.to_right }

    -- what meets the base meets what is left of it
    meets_rest_of_base : {y : Quadratic} → MeetsBase s v y (base_of c) → MeetsBase s v y (base_of after)
    meets_rest_of_base {y} k = elim (between_or_not after k.z) [
      | inl on ↦ record { m = k.m; z = k.z; h = k.h; orbit = k.orbit; there = on }
      | inr off ↦
          let t = cut_taken L lawful e k.z k.there off in
          let next = g.returns e.x k.z t.0 t.1 in
          record { m = k.m + next.0; z = t.0; h = add_vector (quadratic s.d) k.h e.x.back; orbit = orbit_join s v k.m next.0 y k.z t.0 k.h e.x.back k.orbit next.1.orbit; there = t.2 }
    ]
      where
        between_or_not : (part : Component) (z : Quadratic) → IsOn s.d part z ⊎ ¬ IsOn s.d part z
        between_or_not part z = elim (order.less_or_at_most L z part.base) [
          | inl l ↦ inr (λ k. k.from_left l)
          | inr m ↦ elim (order.less_or_at_most L z (add part.base part.total)) [
            | inl l ↦ inl (record { from_left = m; before_right = l })
            | inr n ↦ inr (λ k. n k.before_right)
          ]
        ]

    -- where the base of a component becomes shorter, the bases are met as before
    pub met_after_shortened : AreMetOnce s v (base_of after ∷ rest)
    met_after_shortened = (record { some = some_base; only_one = one_base }, (part_apart old part, old.1.1))
      where
        some_base : (y : Quadratic) → IsPosition s v y → (b : Base) × IsIn b (base_of after ∷ rest) × MeetsBase s v y b
        some_base y p =
            let m = old.0.some y p in elim m.1 [
              | inl q ↦ (base_of after, inl refl, meets_rest_of_base (subst (MeetsBase s v y) q m.2))
              | inr h ↦ (m.0, inr h, m.2)
            ]

        one_base : (y : Quadratic) (a b : Base) → IsIn a (base_of after ∷ rest) → IsIn b (base_of after ∷ rest) → MeetsBase s v y a → MeetsBase s v y b → a ≡ b
        one_base y a b (inl p) (inl q) k l = p ∙ sym q
        one_base y a b (inl p) (inr h) k l = absurd (part_or_rest old part y b h (subst (MeetsBase s v y) p k) l)
        one_base y a b (inr h) (inl q) k l = absurd (part_or_rest old part y a h (subst (MeetsBase s v y) q l) k)
        one_base y a b (inr h) (inr n) k l = one_of_rest old y a b h n k l
