-- A side that the flow crosses is real exactly where its left end isn't the beginning of its polygon's block of positions.
use Rattle.std.proofs.Common.{◌≡◌, ◌≢◌, ◌↔◌, ◌⊎◌, ℕ, suc, ◌+◌, ◌-◌, ◌<◌, ◌≤◌, length, refl, sym, ap, ◌∙◌, subst, inl, inr, arith}
use Rattle.fs_ring.specs.OrderedRing.{IsAtMost}
use Rattle.fs_ring.proofs.Order as order
use Rattle.fs_quadratic.specs.Ring.{Quadratic, quadratic, IsPositive, add}
use Rattle.fs_plane.specs.declared.corners.Corner.{Corner}
use Rattle.fs_plane.specs.Vector.{PlaneVector, vector_zero}
use Rattle.fs_gluing.specs.CrossingMap.{IsIncoming, IsOutgoing, IsRealIncoming, IsRealOutgoing, side_width, block_start, measure, outgoing_left, incoming_left}
use Rattle.fs_gluing.specs.NextCorner.{side_count, corner_after, side_before}
use Rattle.fs_gluing.specs.Surface.{GluedPolygons, IsTranslationSurface}
use Rattle.fs_gluing.proofs.SurfaceCalls.NextCorner.{has_after, after-before_corner, before-after_corner}
use Rattle.fs_iet.proofs.ShiftedIntervals.{holds_left}
use Rattle.fs_iet.proofs.PolygonSides.{numbered, numbered_next, numbered_polygon, numbered_side}
use Rattle.fs_iet.proofs.SideMeasures.{surface_order, outgoing_wide, incoming_wide, outgoing_right, incoming_right}
use Rattle.fs_iet.proofs.SidesOfRows.{polygon_exists}
use Rattle.fs_iet.proofs.PolygonMeasures.{RunsAcross, runs_across, first_corner, from_block_start, outgoing_numbered, incoming_numbered, first_outgoing, first_incoming}
use Rattle.fs_iet.proofs.PolygonChains.{outgoing_number, incoming_number}

last_or_more : (j n : ℕ) → j < n → (j ≡ n - 1) ⊎ (suc j < n)
last_or_more j n l = grind arith

first_or_more : (a j : ℕ) → a ≤ j → (j ≡ a) ⊎ ((k : ℕ) × (j ≡ suc k) × (a ≤ k))
first_or_more a j l = elim (cases a j l) [ inl e ↦ inl e | inr m ↦ inr (j - 1, omega arith, omega arith) ]
  where
    cases : (a j : ℕ) → a ≤ j → (j ≡ a) ⊎ (a < j)
    cases a j l = grind arith

module _ (s : GluedPolygons) (surface : IsTranslationSurface s) (v : PlaneVector) (some : v ≢ vector_zero) where
  -- the right end of an interval isn't at the beginning of a block that begins no further right than the interval
  right_of : (b t w m : Quadratic) → IsAtMost (quadratic s.d) (IsPositive s.d) b t → IsPositive s.d w → add t w ≡ m → m ≢ b
  right_of b t w m h p e same =
      order.less-ne (surface_order s surface) b (add t w) (order.less_of_at_most_less (surface_order s surface) b t (add t w) h (holds_left (surface_order s surface) t w p)) (sym (e ∙ same))

  -- ---- outgoing sides

  real_outgoing_right : (f : Corner) → IsOutgoing s v f → IsRealOutgoing s v f → outgoing_left s v f ≢ block_start s v f.polygon
  real_outgoing_right f o real =
      let g = corner_after s.polygons f in
      let l = polygon_exists s.polygons f o.side in
      let runs = runs_across s surface v some f.polygon l in
      right_of (block_start s v f.polygon) (outgoing_left s v g) (side_width s v g) (outgoing_left s v f)
      (from_block_start s surface v f.polygon l runs.4 (corner_after s.polygons g) (has_after s.polygons g real.side) refl)
      (outgoing_wide s surface v g real) (outgoing_right s surface v g real)

  -- the outgoing side that begins at the beginning of the block is the last of the boundary's, after which comes another kind
  real_outgoing_by : (i : ℕ) (l : i < length s.polygons) {r a h p : ℕ} → RunsAcross s surface v i r a h p → (f : Corner) → f.polygon ≡ i → IsOutgoing s v f → outgoing_left s v f ≢ block_start s v i → IsRealOutgoing s v f
  real_outgoing_by i l {r} {a} {h} {p} runs f same o right =
      let n = side_count s.polygons i in
      let number = outgoing_number s surface v i l runs f same o in
      elim (last_or_more number.0 n number.2) [
        | inl e ↦ absurd (right (ap (outgoing_left s v) (sym number.3 ∙ ap (λ (j : ℕ). numbered s.polygons i (r + j)) e) ∙ first_outgoing s surface v i l runs))
        | inr m ↦
            let low = number.1 in
            let next : r + suc number.0 ≡ suc (r + number.0) = omega arith in
            subst (IsOutgoing s v) (ap (numbered s.polygons i) next ∙ numbered_next s.polygons i (r + number.0) ∙ ap (corner_after s.polygons) number.3)
            (outgoing_numbered s surface v i l runs (suc number.0) (omega arith) m)
      ]

  -- an outgoing side is real exactly where its left end isn't the beginning of its polygon's block
  pub outgoing_real : (f : Corner) → IsOutgoing s v f → IsRealOutgoing s v f ↔ (outgoing_left s v f ≢ block_start s v f.polygon)
  outgoing_real f o =
      let l = polygon_exists s.polygons f o.side in
      let runs = runs_across s surface v some f.polygon l in
      (real_outgoing_right f o, real_outgoing_by f.polygon l runs.4 f refl o)

  -- ---- incoming sides

  real_incoming_right : (e : Corner) → IsIncoming s v e → IsRealIncoming s v e → incoming_left s v e ≢ block_start s v e.polygon
  real_incoming_right e o real =
      let g = side_before s.polygons e in
      let l = polygon_exists s.polygons e o.side in
      let runs = runs_across s surface v some e.polygon l in
      right_of (block_start s v e.polygon) (incoming_left s v g) (side_width s v g) (incoming_left s v e)
      (from_block_start s surface v e.polygon l runs.4 g real.side refl)
      (incoming_wide s surface v g real) (incoming_right s surface v g real ∙ ap (measure s v) (after-before_corner s.polygons e o.side))

  real_incoming_by : (i : ℕ) (l : i < length s.polygons) {r a h p : ℕ} → RunsAcross s surface v i r a h p → (e : Corner) → e.polygon ≡ i → IsIncoming s v e → incoming_left s v e ≢ block_start s v i → IsRealIncoming s v e
  real_incoming_by i l {r} {a} {h} {p} runs e same o right =
      let number = incoming_number s surface v i l runs e same o in
      elim (first_or_more a number.0 number.1) [
        | inl f ↦ absurd (right (ap (measure s v) (sym number.3 ∙ ap (λ (j : ℕ). numbered s.polygons i (r + j)) f) ∙ first_incoming s surface v i l runs))
        | inr m ↦
            let below = number.2 in
            let more = m.1 in
            let next : r + number.0 ≡ suc (r + m.0) = omega arith in
            let has = numbered_side s.polygons i (first_corner s surface i l) (r + m.0) in
            subst (IsIncoming s v)
            (sym (before-after_corner s.polygons (numbered s.polygons i (r + m.0)) has)
            ∙ ap (side_before s.polygons) (sym (numbered_next s.polygons i (r + m.0)) ∙ ap (numbered s.polygons i) (sym next) ∙ number.3))
            (incoming_numbered s surface v i l runs m.0 m.2 (omega arith))
      ]

  -- an incoming side is real exactly where its left end isn't the beginning of its polygon's block
  pub incoming_real : (e : Corner) → IsIncoming s v e → IsRealIncoming s v e ↔ (incoming_left s v e ≢ block_start s v e.polygon)
  incoming_real e o =
      let l = polygon_exists s.polygons e o.side in
      let runs = runs_across s surface v some e.polygon l in
      (real_incoming_right e o, real_incoming_by e.polygon l runs.4 e refl o)

  -- ---- the sides that aren't real

  -- each polygon has an outgoing side whose left end is the beginning of its block
  pub leftmost_outgoing : (i : ℕ) → i < length s.polygons → (f : Corner) × IsOutgoing s v f × (f.polygon ≡ i) × (outgoing_left s v f ≡ block_start s v i)
  leftmost_outgoing i l =
      let runs = runs_across s surface v some i l in
      let less = runs.4.some_negative in
      let n = side_count s.polygons i in (
        numbered s.polygons i (runs.0 + (n - 1)),
        outgoing_numbered s surface v i l runs.4 (n - 1) (omega arith) (omega arith),
        numbered_polygon s.polygons i (runs.0 + (n - 1)),
        first_outgoing s surface v i l runs.4,
      )

  -- and an incoming one
  pub leftmost_incoming : (i : ℕ) → i < length s.polygons → (e : Corner) × IsIncoming s v e × (e.polygon ≡ i) × (incoming_left s v e ≡ block_start s v i)
  leftmost_incoming i l =
      let runs = runs_across s surface v some i l in (
        numbered s.polygons i (runs.0 + runs.1),
        incoming_numbered s surface v i l runs.4 runs.1 (let e : runs.1 ≤ runs.1 = omega arith in e) runs.4.some_positive,
        numbered_polygon s.polygons i (runs.0 + runs.1),
        first_incoming s surface v i l runs.4,
      )
