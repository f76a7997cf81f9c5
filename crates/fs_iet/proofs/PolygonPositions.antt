-- The polygon of a position: the one in whose block of positions it is. A library for crates to come.
use Rattle.std.proofs.Common.{◌≡◌, ◌≢◌, ℕ, zero, suc, ◌+◌, ◌<◌, [], ◌∷◌, length, refl, sym, ap, ◌∙◌, subst, arith, add-zero}
use Rattle.std.specs.List.{range_with_len}
use Rattle.fs_lists.proofs.Ranges.{in_range, range_bounds}
use Rattle.fs_ring.specs.OrderedRing.{IsOrderedRing, IsAtMost}
use Rattle.fs_ring.proofs.Order as order
use Rattle.fs_ring.proofs.Signs as signs
use Rattle.fs_ring.proofs.Solver.{◌⊕◌, ◌⊖◌, ◌≐◌}
use Rattle.fs_quadratic.specs.Ring.{Quadratic, quadratic, IsPositive, IsLess, add, zero as nil}
use Rattle.fs_plane.specs.declared.corners.Corner.{Corner}
use Rattle.fs_plane.specs.Vector.{PlaneVector, vector_zero}
use Rattle.fs_convex.proofs.Rows.{Tiles, Holds, tile_exists, tile_unique}
use Rattle.fs_gluing.specs.CrossingMap.{IsIncoming, IsOutgoing, width, block_start, side_width, measure, outgoing_left, incoming_left, IsPosition, Crosses}
use Rattle.fs_gluing.specs.NextCorner.{corner_after}
use Rattle.fs_gluing.specs.Surface.{GluedPolygons, IsTranslationSurface}
use Rattle.fs_gluing.specs.SurfaceSides.{partner}
use Rattle.fs_gluing.proofs.SurfaceCalls.NextCorner.{has_after}
use Rattle.fs_iet.proofs.ShiftedIntervals.{moved_from_left, moved_before_right, holds_left}
use Rattle.fs_iet.proofs.SideMeasures.{surface_order, outgoing_wide, outgoing_right, incoming_right, partner_incoming, outgoing_partner_width}
use Rattle.fs_iet.proofs.PolygonMeasures.{block_next, runs_across, from_block_start, to_block_end}
use Rattle.fs_iet.proofs.SidesOfRows.{polygon_exists}
use Rattle.fs_iet.proofs.RealSides.{leftmost_outgoing}

-- y is a position of polygon i
pub record IsOfPolygon (s : GluedPolygons) (v : PlaneVector) (i : ℕ) (y : Quadratic) : Type 0 where
  pub exists : i < length s.polygons
  pub from_start : IsAtMost (quadratic s.d) (IsPositive s.d) (block_start s v i) y
  pub before_end : IsLess s.d y (block_start s v (suc i))

module _ (s : GluedPolygons) (surface : IsTranslationSurface s) (v : PlaneVector) (some : v ≢ vector_zero) where
  L : IsOrderedRing (quadratic s.d) (IsPositive s.d)
  L = surface_order s surface

  -- a position in the interval of an outgoing side is one of the side's polygon
  pub of_outgoing_polygon : (f : Corner) (y : Quadratic) → IsOutgoing s v f → IsAtMost (quadratic s.d) (IsPositive s.d) (outgoing_left s v f) y
      → IsLess s.d y (add (outgoing_left s v f) (side_width s v f)) → IsOfPolygon s v f.polygon y
  of_outgoing_polygon f y o h k =
      let l = polygon_exists s.polygons f o.side in
      let runs = runs_across s surface v some f.polygon l in
      record {
        exists = l;
        from_start =
            order.at_most_trans L (block_start s v f.polygon) (outgoing_left s v f) y
            (from_block_start s surface v f.polygon l runs.4 (corner_after s.polygons f) (has_after s.polygons f o.side) refl) h;
        before_end =
            order.less_of_less_at_most L y (measure s v f) (block_start s v (suc f.polygon)) (subst (IsLess s.d y) (outgoing_right s surface v f o) k)
            (to_block_end s surface v f.polygon l runs.4 f o.side refl);
      }

  -- and so for an incoming side
  pub of_incoming_polygon : (e : Corner) (z : Quadratic) → IsIncoming s v e → IsAtMost (quadratic s.d) (IsPositive s.d) (incoming_left s v e) z
      → IsLess s.d z (add (incoming_left s v e) (side_width s v e)) → IsOfPolygon s v e.polygon z
  of_incoming_polygon e z o h k =
      let l = polygon_exists s.polygons e o.side in
      let runs = runs_across s surface v some e.polygon l in
      record {
        exists = l;
        from_start = order.at_most_trans L (block_start s v e.polygon) (incoming_left s v e) z (from_block_start s surface v e.polygon l runs.4 e o.side refl) h;
        before_end =
            order.less_of_less_at_most L z (measure s v (corner_after s.polygons e)) (block_start s v (suc e.polygon)) (subst (IsLess s.d z) (incoming_right s surface v e o) k)
            (to_block_end s surface v e.polygon l runs.4 (corner_after s.polygons e) (has_after s.polygons e o.side) refl);
      }

  -- the flow leaves the polygon of the one position, and enters that of the other
  pub crosses_polygons : {y z : Quadratic} {h : PlaneVector} {f : Corner} → Crosses s v y z h f → IsOfPolygon s v f.polygon y × IsOfPolygon s v (partner s.polygons f).polygon z
  crosses_polygons {y} {z} {h} {f} c =
      let e = partner s.polygons f in
      let right = incoming_left s v e in (
        of_outgoing_polygon f y c.outgoing c.from_left c.before_right,
        of_incoming_polygon e z (partner_incoming s surface v f c.outgoing)
            (subst (IsAtMost (quadratic s.d) (IsPositive s.d) right) (sym c.beyond) (moved_from_left L (outgoing_left s v f) right y c.from_left))
            (subst (λ l. IsLess s.d z (add right l)) (sym (outgoing_partner_width s surface v f c.outgoing))
            (subst (λ w. IsLess s.d w (add right (side_width s v f))) (sym c.beyond) (moved_before_right L (outgoing_left s v f) right (side_width s v f) y c.before_right))),
      )

  -- ---- blocks

  -- a polygon has a width above 0
  pub width_positive : (i : ℕ) → i < length s.polygons → IsPositive s.d (width s v i)
  width_positive i l =
      let f = leftmost_outgoing s surface v some i l in
      let wide = outgoing_wide s surface v f.0 f.1 in
      let inside = of_outgoing_polygon f.0 (outgoing_left s v f.0) f.1 (order.at_most_refl L (outgoing_left s v f.0)) (holds_left L (outgoing_left s v f.0) (side_width s v f.0) wide) in
      let less : IsLess s.d (block_start s v i) (add (block_start s v i) (width s v i)) =
      subst (IsLess s.d (block_start s v i)) (block_next s v i)
      (subst (λ (j : ℕ). IsLess s.d (block_start s v i) (block_start s v (suc j))) f.2 (subst (λ y. IsLess s.d y (block_start s v (suc f.0.polygon))) f.3 inside.before_end)) in
      signs.positive_by L (block_start s v i ∷ width s v i ∷ []) (λ b w. w ≐ (b ⊕ w) ⊖ b) refl less

  blocks_tiles : (b k : ℕ) → Tiles (quadratic s.d) (block_start s v) (width s v) (block_start s v b) (range_with_len b k) (block_start s v (b + k))
  blocks_tiles b zero = ap (block_start s v) (add-zero b)
  blocks_tiles b (suc k) =
      let next : b + 1 ≡ suc b = omega arith in
      let end : b + 1 + k ≡ b + suc k = omega arith in (
        refl,
        subst (λ y. Tiles (quadratic s.d) (block_start s v) (width s v) y (range_with_len (b + 1) k) (block_start s v (b + suc k))) (ap (block_start s v) next ∙ block_next s v b)
            (subst (λ (j : ℕ). Tiles (quadratic s.d) (block_start s v) (width s v) (block_start s v (b + 1)) (range_with_len (b + 1) k) (block_start s v j)) end (blocks_tiles (b + 1) k)),
      )

  abbrev count : ℕ
  count = length s.polygons

  all_blocks : Tiles (quadratic s.d) (block_start s v) (width s v) nil (range_with_len 0 count) (block_start s v count)
  all_blocks =
      let e : 0 + count ≡ count = omega arith in
      subst (λ (j : ℕ). Tiles (quadratic s.d) (block_start s v) (width s v) nil (range_with_len 0 count) (block_start s v j)) e (blocks_tiles 0 count)

  held_block : {i : ℕ} {y : Quadratic} → IsOfPolygon s v i y → Holds (quadratic s.d) (block_start s v) (width s v) (IsPositive s.d) y i
  held_block {i} {y} p = record { from_left = p.from_start; before_right = subst (IsLess s.d y) (block_next s v i) p.before_end }

  -- a position is one of some polygon
  pub polygon_of_position : (y : Quadratic) → IsPosition s v y → (i : ℕ) × IsOfPolygon s v i y
  polygon_of_position y p =
      let found = tile_exists L (block_start s v) (width s v) nil (block_start s v count) y (range_with_len 0 count) all_blocks p.from_zero p.below_total in
      let bounds = range_bounds 0 count found.0 found.1 in
      let below = bounds.1 in (
        found.0,
        record { exists = omega arith; from_start = found.2.from_left; before_end = subst (IsLess s.d y) (sym (block_next s v found.0)) found.2.before_right },
      )

  -- of one alone
  pub polygon_unique : {i j : ℕ} {y : Quadratic} → IsOfPolygon s v i y → IsOfPolygon s v j y → i ≡ j
  polygon_unique {i} {j} {y} p q =
      let li = p.exists in
      let lj = q.exists in
      tile_unique L (block_start s v) (width s v) nil (block_start s v count) y (range_with_len 0 count)
      (λ k h. let bounds = range_bounds 0 count k h in let below = bounds.1 in width_positive k (omega arith)) all_blocks
      i j (in_range 0 count i (omega arith) (omega arith)) (in_range 0 count j (omega arith) (omega arith)) (held_block p) (held_block q)
