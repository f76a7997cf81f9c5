-- Where the corners of a polygon are across the flow: each corner left of the end of the polygon's block is the left end of a side, or beside a side that is parallel to the flow. A library for crates to come.
use Rattle.std.proofs.Common.{◌≡◌, ◌≢◌, ◌⊎◌, ℕ, zero, suc, ◌+◌, ◌-◌, ◌<◌, ◌≤◌, length, refl, sym, ap, ◌∙◌, subst, inl, inr, arith, add-zero, add-suc}
use Rattle.fs_ring.proofs.Order as order
use Rattle.fs_quadratic.specs.Ring.{IsLess, add, zero as nil}
use Rattle.fs_plane.specs.declared.corners.Corner.{Corner}
use Rattle.fs_plane.specs.Vector.{PlaneVector, vector_zero}
use Rattle.fs_gluing.specs.CrossingMap.{across, IsIncoming, IsOutgoing, block_start, to_right, measure}
use Rattle.fs_gluing.specs.NextCorner.{side_count, side_before}
use Rattle.fs_gluing.specs.Polygons.{HasSide}
use Rattle.fs_gluing.specs.Surface.{GluedPolygons, IsTranslationSurface}
use Rattle.fs_gluing.proofs.SurfaceCalls.NextCorner.{before-after_corner}
use Rattle.fs_iet.proofs.PolygonSides.{numbered, numbered_next, numbered_polygon, numbered_side, numbered_again, number_from}
use Rattle.fs_iet.proofs.SideMeasures.{surface_order, to_right_after}
use Rattle.fs_iet.proofs.PolygonMeasures.{RunsAcross, runs_across, first_corner, at_start, at_end, outgoing_numbered, incoming_numbered}
use Rattle.fs_iet.proofs.PolygonChains.{run_of}
use Rattle.fs_iet.proofs.SidesOfRows.{polygon_exists}

-- an incoming side begins at the corner, an outgoing one ends there, or both sides at it are parallel to the flow and it is where the block begins
abbrev pub IsLeftEnd : GluedPolygons → PlaneVector → Corner → Type 0
IsLeftEnd s v c =
    IsIncoming s v c
    ⊎ (IsOutgoing s v (side_before s.polygons c)
    ⊎ ((measure s v c ≡ block_start s v c.polygon) × (across s v c ≡ nil) × (across s v (side_before s.polygons c) ≡ nil)))

equal_or_less : (h j : ℕ) → h ≤ j → (j ≡ h) ⊎ (h < j)
equal_or_less h j l = grind arith

zero_or_more : (j : ℕ) → (j ≡ 0) ⊎ (0 < j)
zero_or_more j = grind arith

module _ (s : GluedPolygons) (surface : IsTranslationSurface s) (v : PlaneVector) where
  module _ (i : ℕ) (l : i < length s.polygons) {r a h p : ℕ} (runs : RunsAcross s surface v i r a h p) where
    abbrev n : ℕ
    n = side_count s.polygons i

    abbrev side : ℕ → Corner
    side k = numbered s.polygons i k

    has : (k : ℕ) → HasSide s.polygons (side k)
    has = numbered_side s.polygons i (first_corner s surface i l)

    -- along parallel sides the corners are as far right
    stays : (b k : ℕ) → ((j : ℕ) → j < k → across s v (side (b + j)) ≡ nil) → to_right s v (side (b + k)) ≡ to_right s v (side b)
    stays b zero none = ap (λ (j : ℕ). to_right s v (side j)) (add-zero b)
    stays b (suc k) none =
        ap (λ (j : ℕ). to_right s v (side j)) (add-suc b k)
        ∙ ap (to_right s v) (numbered_next s.polygons i (b + k)) ∙ to_right_after s surface v (side (b + k)) (has (b + k))
        ∙ (λ q. add (stays b k (λ j m. none j (omega arith)) q) (none k (omega arith) q))
        ∙ (surface_order s surface).add_zero (to_right s v (side b))

    before_is : (k : ℕ) → side_before s.polygons (side (suc k)) ≡ side k
    before_is k = ap (side_before s.polygons) (numbered_next s.polygons i k) ∙ before-after_corner s.polygons (side k) (has k)

    in_first_run : (j : ℕ) → j < a → IsLeftEnd s v (side (r + j))
    in_first_run j m = go (zero_or_more j)
      where
        go : (j ≡ 0) ⊎ (0 < j) → IsLeftEnd s v (side (r + j))
        go (inl e) =
            let some = runs.some_negative in
            let last : suc (r + (n - 1)) ≡ n + (r + j) = omega arith in
            inr (inl (subst (IsOutgoing s v)
            (sym (before_is (r + (n - 1))) ∙ ap (λ (k : ℕ). side_before s.polygons (side k)) last ∙ ap (side_before s.polygons) (numbered_again s.polygons i (first_corner s surface i l) (r + j)))
            (outgoing_numbered s surface v i l runs (n - 1) (omega arith) (omega arith))))
        go (inr more) =
            let number : r + j ≡ suc (r + (j - 1)) = omega arith in
            inr (inr (
              at_start s surface v i l runs (r + j) (stays r j (λ k q. runs.first_zeros k (omega arith))) ∙ ap (block_start s v) (sym polygon),
              runs.first_zeros j m,
              ap (across s v) (ap (λ (k : ℕ). side_before s.polygons (side k)) number ∙ before_is (r + (j - 1))) ∙ runs.first_zeros (j - 1) (omega arith),
            ))
          where
            polygon : (side (r + j)).polygon ≡ i
            polygon = numbered_polygon s.polygons i (r + j)

    in_second_run : (j : ℕ) → h ≤ j → j ≤ p → measure s v (side (r + j)) ≡ block_start s v (suc i)
    in_second_run j m q =
        let number : r + j ≡ r + h + (j - h) = omega arith in
        at_end s surface v i l runs (r + j)
        (ap (λ (k : ℕ). to_right s v (side k)) number
        ∙ stays (r + h) (j - h) (λ k less. ap (λ (m : ℕ). across s v (side m)) (let e : r + h + k ≡ r + (h + k) = omega arith in e) ∙ runs.second_zeros (h + k) (omega arith) (omega arith)))

    in_last_run : (j : ℕ) → p < j → j < n → IsLeftEnd s v (side (r + j))
    in_last_run j m q =
        let number : r + j ≡ suc (r + (j - 1)) = omega arith in
        inr (inl (subst (IsOutgoing s v) (sym (ap (λ (k : ℕ). side_before s.polygons (side k)) number ∙ before_is (r + (j - 1))))
        (outgoing_numbered s surface v i l runs (j - 1) (omega arith) (omega arith))))

    left_end_by : (c : Corner) → HasSide s.polygons c → c.polygon ≡ i → IsLess s.d (measure s v c) (block_start s v (suc i)) → IsLeftEnd s v c
    left_end_by c there same less =
        let k = number_from s.polygons i (first_corner s surface i l) r c there same in
        let not_end : measure s v (side (r + k.0)) ≢ block_start s v (suc i) =
        λ e. order.less-ne (surface_order s surface) (measure s v c) (block_start s v (suc i)) less (ap (measure s v) (sym k.2) ∙ e) in
        let in_order = runs.in_order in
        subst (IsLeftEnd s v) k.2 (elim (run_of k.0 a h p) [
          | inl m ↦ in_first_run k.0 m
          | inr u ↦ elim u [
            | inl m ↦ inl (incoming_numbered s surface v i l runs k.0 m.0 m.1)
            | inr u ↦ elim u [
              | inl m ↦ let before = m.1 in absurd (not_end (in_second_run k.0 m.0 (omega arith)))
              | inr m ↦ elim (equal_or_less p k.0 m) [ inl e ↦ absurd (not_end (in_second_run k.0 (omega arith) (omega arith))) | inr more ↦ in_last_run k.0 more k.1 ]
            ]
          ]
        ])

  -- a corner left of the end of its polygon's block is the left end of a side, or where the block begins
  pub corner_is_left_end : v ≢ vector_zero → (c : Corner) → HasSide s.polygons c → IsLess s.d (measure s v c) (block_start s v (suc c.polygon)) → IsLeftEnd s v c
  corner_is_left_end some c there less =
      let l = polygon_exists s.polygons c there in
      let runs = runs_across s surface v some c.polygon l in
      left_end_by c.polygon l runs.4 c there refl less
