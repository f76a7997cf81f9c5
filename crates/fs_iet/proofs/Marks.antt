-- Left ends of sides as left ends of letters, and how the flow takes the ones to the others. A library for crates to come.
use Rattle.std.proofs.Common.{◌≡◌, ◌≢◌, ◌↔◌, ℕ, ◌<◌, Some, length, sym, ap, ◌∙◌, subst}
use Rattle.std.specs.List.{slice_get}
use Rattle.fs_quadratic.specs.Ring.{Quadratic}
use Rattle.fs_plane.specs.declared.corners.Corner.{Corner}
use Rattle.fs_plane.specs.Vector.{PlaneVector, vector_zero}
use Rattle.fs_gluing.specs.CrossingMap.{IsIncoming, IsRealIncoming, IsRealOutgoing, block_start, outgoing_left, incoming_left, gluing_vector, Crosses, IsOutMark, IsInMark}
use Rattle.fs_gluing.specs.Exchanges.{Component, top_left, bottom_left, IsExchange}
use Rattle.fs_gluing.specs.Surface.{GluedPolygons, IsTranslationSurface}
use Rattle.fs_gluing.specs.SurfaceSides.{partner}
use Rattle.fs_gluing.proofs.Sides.PartnerSides.{partner-partner}
use Rattle.fs_iet.proofs.ListsInTurn.{in_by_number}
use Rattle.fs_iet.proofs.SideMeasures.{partner_incoming, partner_outgoing}
use Rattle.fs_iet.proofs.SidesOfRows.{row_side}
use Rattle.fs_iet.proofs.CrossingMaps.{crosses_left_end, crosses_by_one_side, map_of_positions}
use Rattle.fs_iet.proofs.ExchangeNames.{number_of_side}
use Rattle.fs_iet.proofs.ExchangeRows.{top_left_is, bottom_left_is}
use Rattle.fs_iet.proofs.ExchangeCrossings.{partner_one_to_one}
use Rattle.fs_iet.proofs.RealSides.{outgoing_real, incoming_real, leftmost_outgoing, leftmost_incoming}

module _ (s : GluedPolygons) (surface : IsTranslationSurface s) (v : PlaneVector) (some : v ≢ vector_zero) where
  -- ---- the marks of the flow

  -- an outgoing side with this left end is the only one
  pub out_mark_unique : {y : Quadratic} {f g : Corner} → IsOutMark s v y f → IsOutMark s v y g → f ≡ g
  out_mark_unique {y} {f} {g} m k =
      let from_g = crosses_left_end s surface v g k.outgoing in
      crosses_by_one_side s surface v some (crosses_left_end s surface v f m.outgoing)
      (subst (λ y. Crosses s v y (incoming_left s v (partner s.polygons g)) (gluing_vector s v g) g) (sym k.at ∙ m.at) from_g)

  -- from the left end of an outgoing side the flow comes to that of the incoming one that this is glued to
  pub in_mark_beyond : {y z : Quadratic} {h : PlaneVector} {e f : Corner} → Crosses s v y z h e → IsOutMark s v y f → IsInMark s v z (partner s.polygons f)
  in_mark_beyond {y} {z} {h} {e} {f} c m =
      let ends = crosses_left_end s surface v f m.outgoing in
      record {
        incoming = partner_incoming s surface v f m.outgoing;
        at = ((map_of_positions s surface v some).one y z (incoming_left s v (partner s.polygons f)) h (gluing_vector s v f) e f c (subst (λ y. Crosses s v y (incoming_left s v (partner s.polygons f)) (gluing_vector s v f) f) (sym m.at) ends)).0;
      }

  -- and to that of an incoming side from no other place
  pub out_mark_before : {y z : Quadratic} {h : PlaneVector} {e f : Corner} → Crosses s v y z h f → IsInMark s v z e → IsOutMark s v y (partner s.polygons e)
  out_mark_before {y} {z} {h} {e} {f} c m =
      let g = partner s.polygons e in
      let o = partner_outgoing s surface v e m.incoming in
      let ends = crosses_left_end s surface v g o in
      let there : incoming_left s v (partner s.polygons g) ≡ z = ap (incoming_left s v) (partner-partner s.polygons surface.glued e m.incoming.side) ∙ sym m.at in
      record {
        outgoing = o;
        at = (map_of_positions s surface v some).one_to_one y (outgoing_left s v g) z h (gluing_vector s v g) f g c (subst (λ z. Crosses s v (outgoing_left s v g) z (gluing_vector s v g) g) there ends);
      }

  -- an incoming side with this left end is the only one
  pub in_mark_unique : {z : Quadratic} {e g : Corner} → IsInMark s v z e → IsInMark s v z g → e ≡ g
  in_mark_unique {z} {e} {g} m k =
      let f = partner s.polygons e in
      let from_f = crosses_left_end s surface v f (partner_outgoing s surface v e m.incoming) in
      let there : incoming_left s v (partner s.polygons f) ≡ z = ap (incoming_left s v) (partner-partner s.polygons surface.glued e m.incoming.side) ∙ sym m.at in
      let crossing : Crosses s v (outgoing_left s v f) z (gluing_vector s v f) f = subst (λ z. Crosses s v (outgoing_left s v f) z (gluing_vector s v f) f) there from_f in
      let same : f ≡ partner s.polygons g = out_mark_unique (out_mark_before crossing m) (out_mark_before crossing k) in
      partner_one_to_one s surface e g k.incoming.side same

  -- the flow crosses from the left end of an outgoing side exactly where it comes to that of an incoming one
  pub out_mark_iff_in_mark : {y z : Quadratic} {h : PlaneVector} {e : Corner} → Crosses s v y z h e → ((f : Corner) × IsOutMark s v y f) ↔ ((f : Corner) × IsInMark s v z f)
  out_mark_iff_in_mark c = ((λ m. (partner s.polygons m.0, in_mark_beyond c m.1)), (λ m. (partner s.polygons m.0, out_mark_before c m.1)))

  -- the beginning of a polygon's block is the left end of an outgoing side of the polygon, which isn't real
  pub block_start_out_mark : (i : ℕ) → i < length s.polygons → (f : Corner) × IsOutMark s v (block_start s v i) f × (f.polygon ≡ i) × ¬ IsRealOutgoing s v f
  block_start_out_mark i l =
      let f = leftmost_outgoing s surface v some i l in (
        f.0,
        record { outgoing = f.1; at = sym f.3 },
        f.2,
        λ real. (outgoing_real s surface v some f.0 f.1).0 real (f.3 ∙ ap (block_start s v) (sym f.2)),
      )

  -- and that of an incoming side of the polygon, which isn't real
  pub block_start_in_mark : (i : ℕ) → i < length s.polygons → (e : Corner) × IsInMark s v (block_start s v i) e × (e.polygon ≡ i) × ¬ IsRealIncoming s v e
  block_start_in_mark i l =
      let e = leftmost_incoming s surface v some i l in (
        e.0,
        record { incoming = e.1; at = sym e.3 },
        e.2,
        λ real. (incoming_real s surface v some e.0 e.1).0 real (e.3 ∙ ap (block_start s v) (sym e.2)),
      )

  -- ---- the left ends of letters

  module _ {c : Component} (exchange : IsExchange s v c) where
    -- the left ends of outgoing sides are those of their letters in the top row
    pub out_mark_iff_top_left : (y : Quadratic) (f : Corner) → IsOutMark s v y f ↔ ((n : ℕ) × (slice_get exchange.outgoing n ≡ Some f) × (y ≡ top_left c n))
    out_mark_iff_top_left y f = (
      (λ m. let number = number_of_side s surface v some exchange f m.outgoing in (number.0, number.1, m.at ∙ sym (top_left_is s surface v some exchange number.0 f number.1))),
      (λ m. record { outgoing = row_side exchange.top_row f (in_by_number exchange.outgoing m.0 f m.1); at = m.2 ∙ top_left_is s surface v some exchange m.0 f m.1 }),
    )

    -- the left ends of incoming sides are those of their letters in the bottom row
    pub in_mark_iff_bottom_left : (z : Quadratic) (e : Corner) → IsInMark s v z e ↔ ((n : ℕ) × (slice_get exchange.outgoing n ≡ Some (partner s.polygons e)) × (z ≡ bottom_left c n))
    in_mark_iff_bottom_left z e = (
      (λ m.
          let f = partner s.polygons e in
          let number = number_of_side s surface v some exchange f (partner_outgoing s surface v e m.incoming) in (
            number.0,
            number.1,
            m.at ∙ ap (incoming_left s v) (sym (partner-partner s.polygons surface.glued e m.incoming.side)) ∙ sym (bottom_left_is s surface v some exchange number.0 f number.1),
          )),
      (λ m.
          let f = partner s.polygons e in
          let o = row_side exchange.top_row f (in_by_number exchange.outgoing m.0 f m.1) in
          let back : e ≡ partner s.polygons f = partner_one_to_one s surface e (partner s.polygons f) (partner_incoming s surface v f o).side (sym (partner-partner s.polygons surface.glued f o.side)) in
          record {
            incoming = subst (IsIncoming s v) (sym back) (partner_incoming s surface v f o);
            at = m.2 ∙ bottom_left_is s surface v some exchange m.0 f m.1 ∙ ap (incoming_left s v) (sym back);
          }),
    )
