-- The outgoing sides of a polygon and its incoming ones, from left to right: each kind is a chain, and its intervals fill the polygon's block.
use Rattle.std.proofs.Common.{◌≡◌, ◌↔◌, ◌⊎◌, ℕ, suc, ◌+◌, ◌-◌, ◌<◌, ◌≤◌, List, length, sym, ap, ◌∙◌, subst, inl, inr, arith}
use Rattle.fs_lists.specs.Members.{IsIn}
use Rattle.fs_ring.specs.OrderedRing.{IsAtMost}
use Rattle.fs_ring.proofs.Signs as signs
use Rattle.fs_quadratic.specs.Ring.{quadratic, IsPositive, neg}
use Rattle.fs_plane.specs.declared.corners.Corner.{Corner}
use Rattle.fs_plane.specs.Vector.{PlaneVector}
use Rattle.fs_convex.proofs.Rows.{Tiles, upward, downward, tiles_distinct}
use Rattle.fs_gluing.specs.CrossingMap.{across, IsIncoming, IsOutgoing, side_width, block_start, outgoing_left, incoming_left}
use Rattle.fs_gluing.specs.Exchanges.{IsChainOf, IsChainIn}
use Rattle.fs_gluing.specs.NextCorner.{side_count, corner_after, side_before}
use Rattle.fs_gluing.specs.Surface.{GluedPolygons, IsTranslationSurface}
use Rattle.fs_gluing.proofs.SurfaceCalls.NextCorner.{has_after, before-after_corner}
use Rattle.fs_iet.proofs.Intervals.{chain_tiles}
use Rattle.fs_iet.proofs.Chains.{in_upward, upward_in, in_downward, downward_in, upward_in_turn, downward_in_turn}
use Rattle.fs_iet.proofs.PolygonSides.{numbered, numbered_next, numbered_polygon, numbered_side, number_from}
use Rattle.fs_iet.proofs.SideMeasures.{surface_order, outgoing_wide, incoming_wide, outgoing_right, incoming_right, outgoing_next, incoming_next}
use Rattle.fs_iet.proofs.PolygonMeasures.{RunsAcross, first_corner, from_block_start, to_block_end, outgoing_numbered, incoming_numbered, first_outgoing, last_outgoing, first_incoming, last_incoming}

in_run : (r j k : ℕ) → r + j ≤ k → (m : ℕ) × (k ≡ r + (j + m))
in_run r j k l = (k - (r + j), omega arith)

-- the run of a number among four
pub run_of : (j a h p : ℕ) → (j < a) ⊎ (((a ≤ j) × (j < h)) ⊎ (((h ≤ j) × (j < p)) ⊎ (p ≤ j)))
run_of j a h p = elim (less_or_not j a) [
  | inl l ↦ inl l
  | inr m ↦ elim (less_or_not j h) [
    | inl l ↦ inr (inl (m, l))
    | inr n ↦ elim (less_or_not j p) [ inl l ↦ inr (inr (inl (n, l))) | inr q ↦ inr (inr (inr q)) ]
  ]
]
  where
    less_or_not : (j k : ℕ) → (j < k) ⊎ (k ≤ j)
    less_or_not j k = grind arith

module _ (s : GluedPolygons) (surface : IsTranslationSurface s) (v : PlaneVector) (i : ℕ) (l : i < length s.polygons) {r a h p : ℕ} (runs : RunsAcross s surface v i r a h p) where
  abbrev n : ℕ
  n = side_count s.polygons i

  abbrev side : ℕ → Corner
  side k = numbered s.polygons i k

  -- ---- any chain

  -- the intervals of the outgoing sides, each the side before the last one, fill the block
  pub outgoing_tiles : (chain : List Corner) → ((e : Corner) → IsIn e chain ↔ ((e.polygon ≡ i) × IsOutgoing s v e)) → IsChainOf (side_before s.polygons) chain
      → Tiles (quadratic s.d) (outgoing_left s v) (side_width s v) (block_start s v i) chain (block_start s v (suc i))
  outgoing_tiles chain members turn =
      let some = runs.some_negative in
      chain_tiles (surface_order s surface) (outgoing_left s v) (side_width s v) (side_before s.polygons) (block_start s v i) (block_start s v (suc i)) chain turn
      (λ u k. outgoing_next s surface v u ((members u).0 k).1)
      (λ u k. outgoing_wide s surface v u ((members u).0 k).1)
      (λ u k.
      let m = (members u).0 k in (
        from_block_start s surface v i l runs (corner_after s.polygons u) (has_after s.polygons u m.1.side) m.0,
        subst (λ y. IsAtMost (quadratic s.d) (IsPositive s.d) y (block_start s v (suc i))) (sym (outgoing_right s surface v u m.1)) (to_block_end s surface v i l runs u m.1.side m.0),
      ))
      (side (r + (n - 1))) (side (r + p))
      ((members (side (r + (n - 1)))).1 (numbered_polygon s.polygons i (r + (n - 1)), outgoing_numbered s surface v i l runs (n - 1) (omega arith) (omega arith)))
      ((members (side (r + p))).1 (numbered_polygon s.polygons i (r + p), outgoing_numbered s surface v i l runs p (omega arith) some))
      (first_outgoing s surface v i l runs)
      (outgoing_right s surface v (side (r + p)) (outgoing_numbered s surface v i l runs p (omega arith) some) ∙ last_outgoing s surface v i l runs)

  -- those of the incoming sides, each the side after the last one, too
  pub incoming_tiles : (chain : List Corner) → ((e : Corner) → IsIn e chain ↔ ((e.polygon ≡ i) × IsIncoming s v e)) → IsChainOf (corner_after s.polygons) chain
      → Tiles (quadratic s.d) (incoming_left s v) (side_width s v) (block_start s v i) chain (block_start s v (suc i))
  incoming_tiles chain members turn =
      let some = runs.some_positive in
      chain_tiles (surface_order s surface) (incoming_left s v) (side_width s v) (corner_after s.polygons) (block_start s v i) (block_start s v (suc i)) chain turn
      (λ u k. incoming_next s surface v u ((members u).0 k).1)
      (λ u k. incoming_wide s surface v u ((members u).0 k).1)
      (λ u k.
      let m = (members u).0 k in (
        from_block_start s surface v i l runs u m.1.side m.0,
        subst (λ y. IsAtMost (quadratic s.d) (IsPositive s.d) y (block_start s v (suc i))) (sym (incoming_right s surface v u m.1))
            (to_block_end s surface v i l runs (corner_after s.polygons u) (has_after s.polygons u m.1.side) m.0),
      ))
      (side (r + a)) (side (r + (h - 1)))
      ((members (side (r + a))).1 (numbered_polygon s.polygons i (r + a), incoming_numbered s surface v i l runs a (omega arith) some))
      ((members (side (r + (h - 1)))).1 (numbered_polygon s.polygons i (r + (h - 1)), incoming_numbered s surface v i l runs (h - 1) (omega arith) (omega arith)))
      (first_incoming s surface v i l runs)
      (incoming_right s surface v (side (r + (h - 1))) (incoming_numbered s surface v i l runs (h - 1) (omega arith) (omega arith)) ∙ last_incoming s surface v i l runs)

  -- ---- there are chains

  abbrev upper : List Corner
  upper = downward side (r + p) (n - p)

  abbrev lower : List Corner
  lower = upward side (r + a) (h - a)

  -- a side that isn't parallel to the flow is in one of two runs
  pub outgoing_number : (e : Corner) → e.polygon ≡ i → IsOutgoing s v e → (j : ℕ) × (p ≤ j) × (j < n) × (side (r + j) ≡ e)
  outgoing_number e same o =
      let k = number_from s.polygons i (first_corner s surface i l) r e o.side same in
      elim (run_of k.0 a h p) [
        | inl m ↦ absurd (signs.negative-ne-zero (surface_order s surface) o.leaves (sym (ap (across s v) k.2) ∙ runs.first_zeros k.0 m))
        | inr c ↦ elim c [
          | inl m ↦ absurd (signs.not_both_signs (surface_order s surface) (subst (λ e. IsPositive s.d (across s v e)) k.2 (runs.positive k.0 m.0 m.1)) o.leaves)
          | inr c ↦ elim c [
            | inl m ↦ absurd (signs.negative-ne-zero (surface_order s surface) o.leaves (sym (ap (across s v) k.2) ∙ runs.second_zeros k.0 m.0 m.1))
            | inr m ↦ (k.0, m, k.1, k.2)
          ]
        ]
      ]

  pub incoming_number : (e : Corner) → e.polygon ≡ i → IsIncoming s v e → (j : ℕ) × (a ≤ j) × (j < h) × (side (r + j) ≡ e)
  incoming_number e same o =
      let k = number_from s.polygons i (first_corner s surface i l) r e o.side same in
      elim (run_of k.0 a h p) [
        | inl m ↦ absurd (signs.positive-ne-zero (surface_order s surface) o.enters (sym (ap (across s v) k.2) ∙ runs.first_zeros k.0 m))
        | inr c ↦ elim c [
          | inl m ↦ (k.0, m.0, m.1, k.2)
          | inr c ↦ elim c [
            | inl m ↦ absurd (signs.positive-ne-zero (surface_order s surface) o.enters (sym (ap (across s v) k.2) ∙ runs.second_zeros k.0 m.0 m.1))
            | inr m ↦ absurd (signs.not_both_signs (surface_order s surface) o.enters (subst (λ e. IsPositive s.d (neg (across s v e))) k.2 (runs.negative k.0 m k.1)))
          ]
        ]
      ]

  upper_sides : (e : Corner) → IsIn e upper ↔ ((e.polygon ≡ i) × IsOutgoing s v e)
  upper_sides e = (
    (λ k.
        let m = downward_in side (r + p) (n - p) e k in
        let number = in_run r p m.0 m.1 in
        let some = runs.some_negative in
        let below = m.2 in
        let at : e ≡ side (r + (p + number.0)) = m.3 ∙ ap side number.1 in (
          ap (λ (c : Corner). c.polygon) m.3 ∙ numbered_polygon s.polygons i m.0,
          subst (IsOutgoing s v) (sym at) (outgoing_numbered s surface v i l runs (p + number.0) (omega arith) (omega (arith, number.1))),
        )),
    (λ k.
        let m = outgoing_number e k.0 k.1 in
        let some = runs.some_negative in
        subst (λ c. IsIn c upper) m.3 (in_downward side (r + p) (n - p) (r + m.0) (omega (arith, m.1)) (omega (arith, m.2)))),
  )

  lower_sides : (e : Corner) → IsIn e lower ↔ ((e.polygon ≡ i) × IsIncoming s v e)
  lower_sides e = (
    (λ k.
        let m = upward_in side (r + a) (h - a) e k in
        let number = in_run r a m.0 m.1 in
        let some = runs.some_positive in
        let below = m.2 in
        let at : e ≡ side (r + (a + number.0)) = m.3 ∙ ap side number.1 in (
          ap (λ (c : Corner). c.polygon) m.3 ∙ numbered_polygon s.polygons i m.0,
          subst (IsIncoming s v) (sym at) (incoming_numbered s surface v i l runs (a + number.0) (omega arith) (omega (arith, number.1))),
        )),
    (λ k.
        let m = incoming_number e k.0 k.1 in
        let some = runs.some_positive in
        subst (λ c. IsIn c lower) m.3 (in_upward side (r + a) (h - a) (r + m.0) (omega (arith, m.1)) (omega (arith, m.2)))),
  )

  upper_in_turn : IsChainOf (side_before s.polygons) upper
  upper_in_turn =
      downward_in_turn side (side_before s.polygons)
      (λ j. sym (before-after_corner s.polygons (side j) (numbered_side s.polygons i (first_corner s surface i l) j)) ∙ ap (side_before s.polygons) (sym (numbered_next s.polygons i j))) (r + p) (n - p)

  lower_in_turn : IsChainOf (corner_after s.polygons) lower
  lower_in_turn = upward_in_turn side (corner_after s.polygons) (numbered_next s.polygons i) (r + a) (h - a)

  -- the outgoing sides of the polygon are a chain
  pub outgoing_chain : (chain : List Corner) × IsChainIn (side_before s.polygons) (IsOutgoing s v) i chain
  outgoing_chain = (
    upper,
    record {
      sides = upper_sides;
      once =
          tiles_distinct (surface_order s surface) (outgoing_left s v) (side_width s v) (block_start s v i) (block_start s v (suc i)) upper
          (λ e k. outgoing_wide s surface v e ((upper_sides e).0 k).1) (outgoing_tiles upper upper_sides upper_in_turn);
      in_turn = upper_in_turn;
    },
  )

  -- so are the incoming ones
  pub incoming_chain : (chain : List Corner) × IsChainIn (corner_after s.polygons) (IsIncoming s v) i chain
  incoming_chain = (
    lower,
    record {
      sides = lower_sides;
      once =
          tiles_distinct (surface_order s surface) (incoming_left s v) (side_width s v) (block_start s v i) (block_start s v (suc i)) lower
          (λ e k. incoming_wide s surface v e ((lower_sides e).0 k).1) (incoming_tiles lower lower_sides lower_in_turn);
      in_turn = lower_in_turn;
    },
  )
