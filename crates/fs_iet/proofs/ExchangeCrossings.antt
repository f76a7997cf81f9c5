-- The exchange of a flow takes positions as the crossing map does. A library for crates to come.
use Rattle.std.proofs.Common.{◌≡◌, ℕ, ◌≢◌, ◌↔◌, Option, Some, None, length, refl, sym, ap, ◌∙◌, subst}
use Rattle.std.specs.Option.{IsSome}
use Rattle.fs_ring.specs.OrderedRing.{IsAtMost}
use Rattle.fs_ring.proofs.RingLaws as ring_laws
use Rattle.fs_quadratic.specs.Ring.{Quadratic, quadratic, IsPositive, IsLess, add, zero as nil}
use Rattle.fs_plane.specs.declared.corners.Corner.{Corner}
use Rattle.fs_plane.specs.Vector.{PlaneVector, vector_zero}
use Rattle.fs_gluing.specs.declared.surfaces.Side.{Side}
use Rattle.fs_gluing.specs.CrossingMap.{block_start, outgoing_left, incoming_left, Crosses, IsPosition}
use Rattle.fs_gluing.specs.Exchanges.{Letter, Component, top_left, bottom_left, Takes, IsExchange}
use Rattle.fs_gluing.specs.Polygons.{at_side, HasSide}
use Rattle.fs_gluing.specs.Surface.{GluedPolygons, IsTranslationSurface}
use Rattle.fs_gluing.specs.SurfaceSides.{partner, partner_or}
use Rattle.fs_gluing.proofs.Sides.PartnerSides.{has_partner, partner-partner}
use Rattle.fs_iet.specs.ExchangeValue.{ExchangeValue}
use Rattle.fs_iet.proofs.ListsInTurn.{in_by_number, number_of_member}
use Rattle.fs_iet.proofs.ShiftedIntervals.{moved}
use Rattle.fs_iet.proofs.SideMeasures.{surface_order}
use Rattle.fs_iet.proofs.ExchangeNames.{letter_of_side, side_of_letter, number_of_side}
use Rattle.fs_iet.proofs.ExchangeRows.{top_left_is, bottom_left_is}
use Rattle.fs_iet.proofs.TakenPositions.{IsBetweenEnds}

module _ (s : GluedPolygons) (surface : IsTranslationSurface s) where
  -- what has a side for its partner is a side
  side_of_partner : (f : Corner) → HasSide s.polygons (partner s.polygons f) → HasSide s.polygons f
  side_of_partner f h = go (at_side s.polygons f) refl
    where
      go : (o : Option Side) → at_side s.polygons f ≡ o → HasSide s.polygons f
      go None e = subst (HasSide s.polygons) (ap (partner_or f) e) h
      go (Some side) e = subst IsSome (sym e) refl

  -- names with one partner, which is a side, are one side
  pub partner_one_to_one : (f g : Corner) → HasSide s.polygons g → partner s.polygons f ≡ partner s.polygons g → f ≡ g
  partner_one_to_one f g h e =
      let has = side_of_partner f (subst (HasSide s.polygons) (sym e) (has_partner s.polygons surface.glued g h)) in
      sym (partner-partner s.polygons surface.glued f has) ∙ ap (partner s.polygons) e ∙ partner-partner s.polygons surface.glued g h

  module _ (v : PlaneVector) (some : v ≢ vector_zero) {c : Component} (exchange : IsExchange s v c) where
    -- the letter of the outgoing side takes a position where the flow does
    pub takes_of_crosses : {y z : Quadratic} {h : PlaneVector} {f : Corner} → Crosses s v y z h f
        → (letter : Letter) × Takes s.d c letter y z × (letter.back ≡ h) × (letter.corner ≡ partner s.polygons f)
    takes_of_crosses {y} {z} {h} {f} k =
        let number = number_of_side s surface v some exchange f k.outgoing in
        let letter = letter_of_side s surface v some exchange number.0 f number.1 in
        let top : top_left c letter.0.name ≡ outgoing_left s v f = ap (top_left c) letter.2.named ∙ top_left_is s surface v some exchange number.0 f number.1 in
        let bottom : bottom_left c letter.0.name ≡ incoming_left s v (partner s.polygons f) = ap (bottom_left c) letter.2.named ∙ bottom_left_is s surface v some exchange number.0 f number.1 in (
          letter.0,
          record {
            there = in_by_number c.top number.0 letter.0 letter.1;
            from_left = subst (λ t. IsAtMost (quadratic s.d) (IsPositive s.d) t y) (sym top) k.from_left;
            before_right = subst (IsLess s.d y) (λ i. add (sym top i) (sym letter.2.length i)) k.before_right;
            beyond = k.beyond ∙ (λ i. moved (quadratic s.d) (sym top i) (sym bottom i) y);
          },
          letter.2.back ∙ sym k.put,
          letter.2.corner,
        )

    -- and the other way round
    pub crosses_of_takes : {letter : Letter} {y z : Quadratic} → Takes s.d c letter y z → (f : Corner) × Crosses s v y z letter.back f × (letter.corner ≡ partner s.polygons f)
    crosses_of_takes {letter} {y} {z} t =
        let number = number_of_member c.top letter t.there in
        let side = side_of_letter s surface v some exchange number.0 letter number.1 in
        let f = side.0 in
        let top : top_left c letter.name ≡ outgoing_left s v f = ap (top_left c) side.3.named ∙ top_left_is s surface v some exchange number.0 f side.1 in
        let bottom : bottom_left c letter.name ≡ incoming_left s v (partner s.polygons f) = ap (bottom_left c) side.3.named ∙ bottom_left_is s surface v some exchange number.0 f side.1 in (
          f,
          record {
            outgoing = side.2;
            from_left = subst (λ t. IsAtMost (quadratic s.d) (IsPositive s.d) t y) top t.from_left;
            before_right = subst (IsLess s.d y) (λ i. add (top i) (side.3.length i)) t.before_right;
            beyond = t.beyond ∙ (λ i. moved (quadratic s.d) (top i) (bottom i) y);
            put = side.3.back;
          },
          side.3.corner,
        )

    -- the rows are the crossing map: each crossing is by the side of a letter that takes the position there
    pub crosses_iff_takes : (y z : Quadratic) (h : PlaneVector) (f : Corner)
        → Crosses s v y z h f ↔ ((letter : Letter) × Takes s.d c letter y z × (letter.back ≡ h) × (letter.corner ≡ partner s.polygons f))
    crosses_iff_takes y z h f = (
      takes_of_crosses,
      (λ t.
          let k = crosses_of_takes t.1 in
          let one : k.0 ≡ f = sym (partner_one_to_one f k.0 k.1.outgoing.side (sym t.3 ∙ k.2)) in
          subst (λ g. Crosses s v y z g f) t.2 (subst (Crosses s v y z t.0.back) one k.1)),
    )

    -- its positions are those of the surface
    pub between_of_position : {y : Quadratic} → IsPosition s v y → IsBetweenEnds s.d c y
    between_of_position {y} p = record {
      from_left = subst (λ b. IsAtMost (quadratic s.d) (IsPositive s.d) b y) (sym exchange.base) p.from_zero;
      before_right = subst (IsLess s.d y) (sym (whole exchange.base exchange.total)) p.below_total;
    }
      where
        whole : c.base ≡ nil → c.total ≡ block_start s v (length s.polygons) → add c.base c.total ≡ block_start s v (length s.polygons)
        whole e g = (λ i. add (e i) (g i)) ∙ ring_laws.zero_add (surface_order s surface).ring (block_start s v (length s.polygons))

-- the clause of `find_exchange` on crossings, of a value with the field's d beside the component
pub exchange_crossing : (s : GluedPolygons) → IsTranslationSurface s → (v : PlaneVector) → v ≢ vector_zero → (x : ExchangeValue) → x.d ≡ s.d → IsExchange s v x.component
    → (y z : Quadratic) (h : PlaneVector) (f : Corner)
    → Crosses s v y z h f ↔ ((letter : Letter) × Takes x.d x.component letter y z × (letter.back ≡ h) × (letter.corner ≡ partner s.polygons f))
exchange_crossing s surface v some x same exchange y z h f =
    subst (λ (d : ℕ). Crosses s v y z h f ↔ ((letter : Letter) × Takes d x.component letter y z × (letter.back ≡ h) × (letter.corner ≡ partner s.polygons f))) (sym same)
    (crosses_iff_takes s surface v some exchange y z h f)
