-- Where a flow leads from a crossing to the next is a map of positions, one to one and onto.
use Rattle.std.proofs.Common.{◌≡◌, ◌≢◌, List, length, refl, sym, ap, ◌∙◌, subst}
use Rattle.fs_lists.specs.Members.{IsIn}
use Rattle.fs_ring.specs.OrderedRing.{IsAtMost}
use Rattle.fs_ring.proofs.Order as order
use Rattle.fs_quadratic.specs.Ring.{Quadratic, quadratic, IsPositive, IsLess, add, zero as nil}
use Rattle.fs_plane.specs.declared.corners.Corner.{Corner}
use Rattle.fs_plane.specs.Vector.{PlaneVector, vector_zero}
use Rattle.fs_convex.proofs.Rows.{Tiles, Holds, tiles_bounds, tile_exists, tile_unique}
use Rattle.fs_gluing.specs.CrossingMap.{IsOutgoing, side_width, block_start, outgoing_left, incoming_left, gluing_vector, IsPosition, Crosses, IsMapOfPositions}
use Rattle.fs_gluing.specs.Surface.{GluedPolygons, IsTranslationSurface}
use Rattle.fs_gluing.specs.SurfaceSides.{partner}
use Rattle.fs_gluing.proofs.Sides.PartnerSides.{partner-partner}
use Rattle.fs_iet.proofs.ShiftedIntervals.{moved, moved_from_left, moved_before_right, moved_back, moved_one_to_one, moved_left, holds_left}
use Rattle.fs_iet.proofs.SideMeasures.{surface_order, outgoing_wide, incoming_wide, partner_incoming, partner_outgoing, outgoing_partner_width, incoming_partner_width}
use Rattle.fs_iet.proofs.SideRows.{top_row_exists, bottom_row_exists, top_row_tiles, bottom_row_tiles}
use Rattle.fs_iet.proofs.SidesOfRows.{row_side, in_top_row, in_bottom_row}

module _ (s : GluedPolygons) (surface : IsTranslationSurface s) (v : PlaneVector) where
  abbrev HoldsTop : Quadratic → Corner → Type 0
  HoldsTop y f = Holds (quadratic s.d) (outgoing_left s v) (side_width s v) (IsPositive s.d) y f

  abbrev HoldsBottom : Quadratic → Corner → Type 0
  HoldsBottom z e = Holds (quadratic s.d) (incoming_left s v) (side_width s v) (IsPositive s.d) z e

  -- where an outgoing side takes a position
  abbrev pub beyond : Corner → Quadratic → Quadratic
  beyond f y = moved (quadratic s.d) (outgoing_left s v f) (incoming_left s v (partner s.polygons f)) y

  held_top : {y z : Quadratic} {h : PlaneVector} {f : Corner} → Crosses s v y z h f → HoldsTop y f
  held_top c = record { from_left = c.from_left; before_right = c.before_right }

  held_bottom : {y z : Quadratic} {h : PlaneVector} {f : Corner} → Crosses s v y z h f → HoldsBottom z (partner s.polygons f)
  held_bottom {y} {z} {h} {f} c =
      let left = outgoing_left s v f in
      let right = incoming_left s v (partner s.polygons f) in
      record {
        from_left = subst (IsAtMost (quadratic s.d) (IsPositive s.d) right) (sym c.beyond) (moved_from_left (surface_order s surface) left right y c.from_left);
        before_right =
            subst (λ l. IsLess s.d z (add right l)) (sym (outgoing_partner_width s surface v f c.outgoing))
            (subst (λ w. IsLess s.d w (add right (side_width s v f))) (sym c.beyond) (moved_before_right (surface_order s surface) left right (side_width s v f) y c.before_right));
      }

  -- a side whose interval holds a position is crossed from there
  pub crosses_held : (f : Corner) (y : Quadratic) → IsOutgoing s v f → HoldsTop y f → Crosses s v y (beyond f y) (gluing_vector s v f) f
  crosses_held f y o k = record { outgoing = o; from_left = k.from_left; before_right = k.before_right; beyond = refl; put = refl }

  -- from the left end of an outgoing side the flow comes to that of its partner
  pub crosses_left_end : (f : Corner) → IsOutgoing s v f → Crosses s v (outgoing_left s v f) (incoming_left s v (partner s.polygons f)) (gluing_vector s v f) f
  crosses_left_end f o = record {
    outgoing = o;
    from_left = order.at_most_refl (surface_order s surface) (outgoing_left s v f);
    before_right = holds_left (surface_order s surface) (outgoing_left s v f) (side_width s v f) (outgoing_wide s surface v f o);
    beyond = sym (moved_left (surface_order s surface) (outgoing_left s v f) (incoming_left s v (partner s.polygons f)));
    put = refl;
  }

  module _ (some : v ≢ vector_zero) where
    abbrev end : Quadratic
    end = block_start s v (length s.polygons)

    position_in_row : {left : Corner → Quadratic} (row : List Corner) (y : Quadratic) (e : Corner) → ((u : Corner) → IsIn u row → IsPositive s.d (side_width s v u))
        → Tiles (quadratic s.d) left (side_width s v) nil row end → IsIn e row → Holds (quadratic s.d) left (side_width s v) (IsPositive s.d) y e → IsPosition s v y
    position_in_row {left} row y e long t h k =
        let bounds = (tiles_bounds (surface_order s surface) left (side_width s v) nil end row long t).1 e h in
        record {
          from_zero = order.at_most_trans (surface_order s surface) nil (left e) y bounds.0 k.from_left;
          below_total = order.less_of_less_at_most (surface_order s surface) y (add (left e) (side_width s v e)) end k.before_right bounds.1;
        }

    top_long : (f : Corner) → IsIn f (top_row_exists s surface v some).0 → IsPositive s.d (side_width s v f)
    top_long f h = outgoing_wide s surface v f (row_side (top_row_exists s surface v some).1 f h)

    bottom_long : (e : Corner) → IsIn e (bottom_row_exists s surface v some).0 → IsPositive s.d (side_width s v e)
    bottom_long e h = incoming_wide s surface v e (row_side (bottom_row_exists s surface v some).1 e h)

    -- the flow crosses from positions to positions
    pub crosses_within : (y z : Quadratic) (h : PlaneVector) (f : Corner) → Crosses s v y z h f → IsPosition s v y × IsPosition s v z
    crosses_within y z h f c =
        let top = top_row_exists s surface v some in
        let bottom = bottom_row_exists s surface v some in (
          position_in_row top.0 y f top_long (top_row_tiles s surface v some top.0 top.1) (in_top_row s surface v some top.1 f c.outgoing) (held_top c),
          position_in_row bottom.0 z (partner s.polygons f) bottom_long (bottom_row_tiles s surface v some bottom.0 bottom.1)
              (in_bottom_row s surface v some bottom.1 (partner s.polygons f) (partner_incoming s surface v f c.outgoing)) (held_bottom c),
        )

    -- from each position
    pub crosses_some : (y : Quadratic) → IsPosition s v y → (z : Quadratic) × (h : PlaneVector) × (f : Corner) × Crosses s v y z h f
    crosses_some y p =
        let top = top_row_exists s surface v some in
        let found = tile_exists (surface_order s surface) (outgoing_left s v) (side_width s v) nil end y top.0 (top_row_tiles s surface v some top.0 top.1) p.from_zero p.below_total in
        let f = found.0 in
        (beyond f y, gluing_vector s v f, f, crosses_held f y (row_side top.1 f found.1) found.2)

    -- by one side
    pub crosses_by_one_side : {y z w : Quadratic} {h g : PlaneVector} {f e : Corner} → Crosses s v y z h f → Crosses s v y w g e → f ≡ e
    crosses_by_one_side {y} {z} {w} {h} {g} {f} {e} c k =
        let top = top_row_exists s surface v some in
        tile_unique (surface_order s surface) (outgoing_left s v) (side_width s v) nil end y top.0 top_long (top_row_tiles s surface v some top.0 top.1) f e
        (in_top_row s surface v some top.1 f c.outgoing) (in_top_row s surface v some top.1 e k.outgoing) (held_top c) (held_top k)

    -- to each position
    pub crosses_onto : (z : Quadratic) → IsPosition s v z → (y : Quadratic) × (h : PlaneVector) × (f : Corner) × Crosses s v y z h f
    crosses_onto z p =
        let bottom = bottom_row_exists s surface v some in
        let found = tile_exists (surface_order s surface) (incoming_left s v) (side_width s v) nil end z bottom.0 (bottom_row_tiles s surface v some bottom.0 bottom.1) p.from_zero p.below_total in
        let e = found.0 in
        let i = row_side bottom.1 e found.1 in
        let f = partner s.polygons e in
        let back : partner s.polygons f ≡ e = partner-partner s.polygons surface.glued e i.side in
        let y = moved (quadratic s.d) (incoming_left s v e) (outgoing_left s v f) z in (
          y,
          gluing_vector s v f,
          f,
          record {
            outgoing = partner_outgoing s surface v e i;
            from_left = moved_from_left (surface_order s surface) (incoming_left s v e) (outgoing_left s v f) z found.2.from_left;
            before_right =
                moved_before_right (surface_order s surface) (incoming_left s v e) (outgoing_left s v f) (side_width s v f) z
                (subst (λ l. IsLess s.d z (add (incoming_left s v e) l)) (sym (incoming_partner_width s surface v e i)) found.2.before_right);
            beyond =
                sym (ap (λ e. moved (quadratic s.d) (outgoing_left s v f) (incoming_left s v e) y) back ∙ moved_back (surface_order s surface) (outgoing_left s v f) (incoming_left s v e) z);
            put = refl;
          },
        )

    -- by one side alone
    pub crosses_from_one_side : {y x z : Quadratic} {h g : PlaneVector} {f e : Corner} → Crosses s v y z h f → Crosses s v x z g e → f ≡ e
    crosses_from_one_side {y} {x} {z} {h} {g} {f} {e} c k =
        let bottom = bottom_row_exists s surface v some in
        let same : partner s.polygons f ≡ partner s.polygons e =
        tile_unique (surface_order s surface) (incoming_left s v) (side_width s v) nil end z bottom.0 bottom_long (bottom_row_tiles s surface v some bottom.0 bottom.1)
        (partner s.polygons f) (partner s.polygons e)
        (in_bottom_row s surface v some bottom.1 (partner s.polygons f) (partner_incoming s surface v f c.outgoing))
        (in_bottom_row s surface v some bottom.1 (partner s.polygons e) (partner_incoming s surface v e k.outgoing)) (held_bottom c) (held_bottom k) in
        sym (partner-partner s.polygons surface.glued f c.outgoing.side) ∙ ap (partner s.polygons) same ∙ partner-partner s.polygons surface.glued e k.outgoing.side

    -- the crossing map is a map of positions
    pub map_of_positions : IsMapOfPositions s v
    map_of_positions = record {
      within = crosses_within;
      some = crosses_some;
      one = λ y z w h g f e c k.
          let same = crosses_by_one_side c k in
          (c.beyond ∙ ap (λ f. beyond f y) same ∙ sym k.beyond, c.put ∙ ap (gluing_vector s v) same ∙ sym k.put);
      one_to_one = λ y x z h g f e c k.
          let same = crosses_from_one_side c k in
          moved_one_to_one (surface_order s surface) (outgoing_left s v e) (incoming_left s v (partner s.polygons e)) y x
          (ap (λ f. beyond f y) (sym same) ∙ sym c.beyond ∙ k.beyond);
      onto = crosses_onto;
    }
