-- The flow from the left ends of the exchange of a direction meets vertices and comes from vertices, and each event keeps that. A library for crates to come.
use Rattle.std.proofs.Common.{◌≡◌, ◌≢◌, ◌⊎◌, ℕ, ◌+◌, ◌<◌, List, [], ◌∷◌, length, refl, sym, ap, ◌∙◌, subst, inl, inr, arith}
use Rattle.std.specs.List.{AllByRecursion}
use Rattle.fs_lists.specs.Members.{IsIn}
use Rattle.fs_ring.specs.OrderedRing.{IsOrderedRing}
use Rattle.fs_ring.specs.Vector.{add_vector}
use Rattle.fs_ring.proofs.RingLaws as ring_laws
use Rattle.fs_ring.proofs.Solver.{identity, ◌⊕◌, ◌⊖◌, ◌≐◌}
use Rattle.fs_quadratic.specs.Ring.{Quadratic, quadratic, IsPositive, add, sub}
use Rattle.fs_plane.specs.Vector.{PlaneVector, vector_zero}
use Rattle.fs_convex.proofs.Rows.{Tiles}
use Rattle.fs_gluing.specs.CrossingMap.{block_start}
use Rattle.fs_gluing.specs.Exchanges.{Letter, Component, IsLawful, top_left, bottom_left, IsExchange}
use Rattle.fs_gluing.specs.Surface.{GluedPolygons, IsTranslationSurface}
use Rattle.fs_gluing.specs.SurfaceSides.{partner}
use Rattle.fs_iet.specs.FirstReturns.{IsFirstReturn}
use Rattle.fs_iet.proofs.ExchangeNames.{side_of_letter}
use Rattle.fs_iet.proofs.ExchangeRows.{top_left_is, bottom_left_is}
use Rattle.fs_iet.proofs.LetterRows.{top_tiles}
use Rattle.fs_iet.proofs.ListsInTurn.{number_of_member}
use Rattle.fs_iet.proofs.Orbits.{orbit_join}
use Rattle.fs_iet.proofs.ShiftedIntervals.{moved}
use Rattle.fs_iet.proofs.SideMeasures.{surface_order, partner_incoming}
use Rattle.fs_iet.proofs.TakenPositions.{takes_left_end}
use Rattle.fs_rauzy.specs.Events.{Outcome, Makes, splits, closes, wins_above, wins_below, merges}
use Rattle.fs_rauzy.specs.FirstReturns.{GivesReturns, AllGiveReturns}
use Rattle.fs_rauzy.specs.Towers.{IsTouched, MeetsOutMark, ComesFromInMark}
use Rattle.fs_rauzy.proofs.DividedComponents.{IsDivided, divided_by_split, left_stays, right_stays, meet, end_together}
use Rattle.fs_rauzy.proofs.EventRows.{last_in, won_above_lawful, won_below_lawful, merged_lawful, split_left_lawful, split_right_lawful}
use Rattle.fs_rauzy.proofs.LeftEnds.{Stays, Joins, IsShortened, add_none, top_ends, bottom_ends}
use Rattle.fs_rauzy.proofs.ShortenedComponents.{shortened_by_top, shortened_by_bottom, shortened_by_merge}
use Rattle.fs_rauzy.proofs.TakenAfter.{IsTakenOn, taken_on, row_end}

module _ {d : ℕ} (L : IsOrderedRing (quadratic d) (IsPositive d)) where
  -- what an interval at the end leaves ends where it begins
  end_less : (r cut t l : Quadratic) → add t l ≡ r → cut ≡ l → sub r cut ≡ t
  end_less r cut t l e q = (λ i. sub (sym e i) (q i)) ∙ identity L.ring (t ∷ l ∷ []) (λ t l. (t ⊕ l) ⊖ l ≐ t) refl

  -- the first letter of the top row begins where the component begins
  pub first_letter : {c : Component} → IsLawful d c → (letter : Letter) × IsIn letter c.top × (top_left c letter.name ≡ c.base)
  first_letter {c} lawful = go c.top lawful.some_letter (top_tiles L lawful)
    where
      go : (letters : List Letter) → 0 < length letters → Tiles (quadratic d) (λ letter. top_left c letter.name) (λ letter. letter.length) c.base letters (add c.base c.total)
          → (letter : Letter) × IsIn letter letters × (top_left c letter.name ≡ c.base)
      go [] p t = absurd (omega arith)
      go (letter ∷ letters) p t = (letter, inl refl, t.0)

module _ (s : GluedPolygons) (v : PlaneVector) where
  -- where the flow meets a vertex after a return, it meets it from before that
  met_before : {l r y z : Quadratic} {m : ℕ} {h : PlaneVector} → IsFirstReturn s v l r m y z h → MeetsOutMark s v z → MeetsOutMark s v y
  met_before {l} {r} {y} {z} {m} {h} o k = (m + k.0, k.1, add_vector (quadratic s.d) h k.2, k.3, orbit_join s v m k.0 y z k.1 h k.2 o.orbit k.4, k.5)

  -- and where it comes from a vertex before a return, it comes from it after that
  come_on : {l r y z : Quadratic} {m : ℕ} {h : PlaneVector} → IsFirstReturn s v l r m y z h → ComesFromInMark s v y → ComesFromInMark s v z
  come_on {l} {r} {y} {z} {m} {h} o k = (k.0 + m, k.1, add_vector (quadratic s.d) k.2 h, k.3, orbit_join s v k.0 m k.1 y z k.2 h k.4 o.orbit, k.5)

module _ (s : GluedPolygons) (v : PlaneVector) (surface : IsTranslationSurface s) (some : v ≢ vector_zero) where
  abbrev L : IsOrderedRing (quadratic s.d) (IsPositive s.d)
  L = surface_order s surface

  -- the left ends of the exchange of a surface and a direction are those of sides
  pub exchange_is_touched : {c : Component} → IsExchange s v c → IsTouched s v c
  exchange_is_touched {c} exchange = record {
    top = λ letter h.
        let number = number_of_member c.top letter h in
        let side = side_of_letter s surface v some exchange number.0 letter number.1 in (
          0,
          top_left c letter.name,
          vector_zero,
          side.0,
          (refl, refl),
          record { outgoing = side.2; at = ap (top_left c) side.3.named ∙ top_left_is s surface v some exchange number.0 side.0 side.1 },
        );
    bottom = λ letter h.
        let number = number_of_member c.top letter h in
        let side = side_of_letter s surface v some exchange number.0 letter number.1 in (
          0,
          bottom_left c letter.name,
          vector_zero,
          partner s.polygons side.0,
          (refl, refl),
          record {
            incoming = partner_incoming s surface v side.0 side.2;
            at = ap (bottom_left c) side.3.named ∙ bottom_left_is s surface v some exchange number.0 side.0 side.1;
          },
        );
    right = inl ((λ i. add (exchange.base i) (exchange.total i)) ∙ ring_laws.zero_add L.ring (block_start s v (length s.polygons)));
  }

  -- ---- a won comparison or a merge

  module _ {c after : Component} (lawful : IsLawful s.d c) (lawful_after : IsLawful s.d after) (e : IsShortened s.d c after) (g : GivesReturns s v c) (touched : IsTouched s v c) where
    -- the end of what is left is where the one letter begins in the top row, or the other one in the bottom row
    rest_ends : (sub (add c.base c.total) e.cut ≡ top_left c e.x.name) ⊎ (sub (add c.base c.total) e.cut ≡ bottom_left c e.y.name)
    rest_ends = elim e.exact [
      | inl q ↦ inl (end_less L (add c.base c.total) e.cut (top_left c e.x.name) e.x.length (top_ends L lawful e.last) q)
      | inr q ↦ inr (end_less L (add c.base c.total) e.cut (bottom_left c e.y.name) e.y.length (bottom_ends L lawful e.last) q)
    ]

    module _ {letter : Letter} (there : IsIn letter after.top) (k : Joins s.d c after e.x e.y letter e.cut) where
      on : IsTakenOn s.d c after e.y e.x (top_left after letter.name) (bottom_left after letter.name)
      on = taken_on L lawful e k (takes_left_end L lawful_after letter there)

      -- the left end of a letter that joins two ends is taken to the end of what is left
      between_is : on.between ≡ sub (add c.base c.total) e.cut
      between_is =
          on.out.beyond
          ∙ ap (moved (quadratic s.d) (top_left c e.y.name) (bottom_left c e.y.name)) k.top
          ∙ identity L.ring (top_left c e.y.name ∷ bottom_left c e.y.name ∷ e.y.length ∷ e.cut ∷ []) (λ t b l k. ((t ⊕ (l ⊖ k)) ⊖ t) ⊕ b ≐ (b ⊕ l) ⊖ k) refl
          ∙ ap (λ r. sub r e.cut) (bottom_ends L lawful e.last)

      joined_top : MeetsOutMark s v (top_left after letter.name)
      joined_top = elim e.exact [
        | inl q ↦
            met_before s v (g.returns e.y (top_left after letter.name) on.between on.out).1
            (subst (MeetsOutMark s v)
            (sym (between_is ∙ end_less L (add c.base c.total) e.cut (top_left c e.x.name) e.x.length (top_ends L lawful e.last) q))
            (touched.top e.x (last_in e.last)))
        | inr q ↦ subst (MeetsOutMark s v) (add_none L (top_left c e.y.name) e.y.length e.cut (sym q) ∙ sym k.top) (touched.top e.y e.last.there)
      ]

      joined_bottom : ComesFromInMark s v (bottom_left after letter.name)
      joined_bottom = elim e.exact [
        | inl q ↦ subst (ComesFromInMark s v) (add_none L (bottom_left c e.x.name) e.x.length e.cut (sym q) ∙ sym k.bottom) (touched.bottom e.x (last_in e.last))
        | inr q ↦
            come_on s v (g.returns e.x on.between (bottom_left after letter.name) on.on).1
            (subst (ComesFromInMark s v)
            (sym (between_is ∙ end_less L (add c.base c.total) e.cut (bottom_left c e.y.name) e.y.length (bottom_ends L lawful e.last) q))
            (touched.bottom e.y e.last.there))
      ]

    touched_of_shortened : IsTouched s v after
    touched_of_shortened = record {
      top = λ letter h. elim (e.letters letter h) [
        | inl k ↦ subst (MeetsOutMark s v) (sym k.1.top) (touched.top k.0 k.1.there)
        | inr k ↦ joined_top h k
      ];
      bottom = λ letter h. elim (e.letters letter h) [
        | inl k ↦ subst (ComesFromInMark s v) (sym k.1.bottom) (touched.bottom k.0 k.1.there)
        | inr k ↦ joined_bottom h k
      ];
      right = elim rest_ends [
        | inl q ↦ inr (inl (subst (MeetsOutMark s v) (sym (row_end L lawful e ∙ q)) (touched.top e.x (last_in e.last))))
        | inr q ↦ inr (inr (subst (ComesFromInMark s v) (sym (row_end L lawful e ∙ q)) (touched.bottom e.y e.last.there)))
      ];
    }

  -- ---- a split

  abbrev IsTouchedAt : Quadratic → Type 0
  IsTouchedAt y = (y ≡ block_start s v (length s.polygons)) ⊎ (MeetsOutMark s v y ⊎ ComesFromInMark s v y)

  touched_of_stays : {c part : Component} → IsTouched s v c → ((letter : Letter) → IsIn letter part.top → (old : Letter) × Stays s.d c part letter old)
      → IsTouchedAt (add part.base part.total) → IsTouched s v part
  touched_of_stays {c} {part} touched stays right = record {
    top = λ letter h. let k = stays letter h in subst (MeetsOutMark s v) (sym k.1.top) (touched.top k.0 k.1.there);
    bottom = λ letter h. let k = stays letter h in subst (ComesFromInMark s v) (sym k.1.bottom) (touched.bottom k.0 k.1.there);
    right = right;
  }

  touched_of_divided : {c left right : Component} → IsLawful s.d c → IsLawful s.d left → IsLawful s.d right → IsDivided c left right → IsTouched s v c → IsTouched s v left × IsTouched s v right
  touched_of_divided {c} {left} {right} lawful lawful_left lawful_right e touched =
      let first = first_letter L lawful_right in
      let on_right : IsTouched s v right
      = touched_of_stays touched (right_stays L lawful lawful_left lawful_right e) (subst IsTouchedAt (sym (end_together L lawful lawful_left lawful_right e)) touched.right) in (
        touched_of_stays touched (left_stays L lawful lawful_left lawful_right e)
            (inr (inl (subst (MeetsOutMark s v) (first.2 ∙ sym (meet L lawful lawful_left lawful_right e)) (on_right.top first.0 first.1)))),
        on_right,
      )

  -- ---- events

  kept : {components : List Component} {outcome : Outcome} → AllByRecursion (IsLawful s.d) components → Makes s.d components outcome → AllGiveReturns s v components
      → AllByRecursion (IsTouched s v) components → AllByRecursion (IsTouched s v) outcome.components
  kept lawful (splits c left right rest k found split) g h =
      let both = touched_of_divided lawful.0 (split_left_lawful L lawful.0 split) (split_right_lawful L lawful.0 split) (divided_by_split L split) h.0 in
      (both.1, (both.0, h.1))
  kept lawful (closes c rest) g h = h.1
  kept lawful (wins_above c after rest won) g h =
      let lawful_after = won_above_lawful L lawful.0 won in
      (touched_of_shortened lawful.0 lawful_after (shortened_by_top L lawful.0 lawful_after won) g.0 h.0, h.1)
  kept lawful (wins_below c after rest won) g h =
      let lawful_after = won_below_lawful L lawful.0 won in
      (touched_of_shortened lawful.0 lawful_after (shortened_by_bottom L lawful.0 lawful_after won) g.0 h.0, h.1)
  kept lawful (merges c after rest found merged) g h =
      let lawful_after = merged_lawful L lawful.0 merged in
      (touched_of_shortened lawful.0 lawful_after (shortened_by_merge L lawful.0 lawful_after merged) g.0 h.0, h.1)

-- each event keeps components touched, of every surface and direction, where they give first returns
pub events_keep_touched : {d : ℕ} {components : List Component} {outcome : Outcome} → AllByRecursion (IsLawful d) components → Makes d components outcome
    → (s : GluedPolygons) (v : PlaneVector) → IsTranslationSurface s → v ≢ vector_zero → s.d ≡ d → AllGiveReturns s v components → AllByRecursion (IsTouched s v) components
    → AllByRecursion (IsTouched s v) outcome.components
events_keep_touched {d} {components} {outcome} lawful made s v surface some same g h =
    kept s v surface some (subst (λ (e : ℕ). AllByRecursion (IsLawful e) components) (sym same) lawful) (subst (λ (e : ℕ). Makes e components outcome) (sym same) made) g h
