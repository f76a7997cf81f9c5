-- The vector by which a band of closed leaves comes back to itself is along the flow. A library for crates to come.
use Rattle.std.proofs.Common.{◌≡◌, ◌≢◌, ℕ, zero, suc, ◌-◌, [], ◌∷◌, refl, sym, ap, ◌∙◌, subst, inl, inr, arith}
use Rattle.fs_ring.specs.Direction.{IsAlong}
use Rattle.fs_ring.specs.OrderedRing.{IsOrderedRing, IsAtMost, IsNonNegative}
use Rattle.fs_ring.specs.Vector.{add_vector, sub_vector, scale, cross}
use Rattle.fs_ring.proofs.Directions as directions
use Rattle.fs_ring.proofs.Order as order
use Rattle.fs_ring.proofs.Signs as signs
use Rattle.fs_ring.proofs.RingLaws as ring_laws
use Rattle.fs_ring.proofs.PlaneSolver.{plane_derived}
use Rattle.fs_ring.proofs.Solver.{expressions as E, identity, ◌⊕◌, ◌⊖◌, ◌≐◌, ◌from◌, numeral}
use Rattle.fs_quadratic.specs.Ring.{Quadratic, quadratic, IsPositive, IsLess, add, sub, zero as nil}
use Rattle.fs_plane.specs.declared.corners.Corner.{Corner}
use Rattle.fs_plane.specs.Vector.{PlaneVector, vector_zero}
use Rattle.fs_convex.proofs.Exits.{ahead_on_line}
use Rattle.fs_gluing.specs.CrossingMap.{block_start, leftmost, across, measure, outgoing_left, gluing_vector, IsIncoming, IsOutgoing, Crosses, Orbit}
use Rattle.fs_gluing.specs.NextCorner.{corner_after}
use Rattle.fs_gluing.specs.Surface.{GluedPolygons, IsTranslationSurface}
use Rattle.fs_gluing.specs.SurfaceSides.{partner, vector_of}
use Rattle.fs_gluing.proofs.SurfaceCalls.NextCorner.{has_after}
use Rattle.fs_iet.proofs.CrossingMaps.{crosses_from_one_side}
use Rattle.fs_iet.proofs.OrbitVectors.{block_offset, cross_of_crossing, cross_of_orbit}
use Rattle.fs_iet.proofs.PolygonPositions.{crosses_polygons, polygon_unique, polygon_of_position}
use Rattle.fs_iet.proofs.ShiftedIntervals.{holds_left}
use Rattle.fs_iet.proofs.SideMeasures.{surface_order, outgoing_right, partner_incoming}
use Rattle.fs_rauzy.proofs.CornerSides.{place, place_after, corner_not_right_of_side, parallel_side_along}
use Rattle.fs_rauzy.proofs.CylinderFloors.{IsFloor, IsStep, first_in_band, first_position, first_floor, step_to, step_of_crossing}
use Rattle.fs_rauzy.proofs.CylinderReturns.{IsBand}
use Rattle.fs_rauzy.proofs.LinePassages.{IsPassage, IsPast, passes, passes_by_left, passes_by_right}
use Rattle.fs_rauzy.proofs.ShiftedLines as lines

module _ (s : GluedPolygons) (surface : IsTranslationSurface s) (v : PlaneVector) (some : v ≢ vector_zero) {x width : Quadratic} {m : ℕ} {h : PlaneVector} (band : IsBand s v x width m h) where
  L : IsOrderedRing (quadratic s.d) (IsPositive s.d)
  L = surface_order s surface

  abbrev AtMost : Quadratic → Quadratic → Type 0
  AtMost a b = IsAtMost (quadratic s.d) (IsPositive s.d) a b

  -- u, put back by k times g
  abbrev less_by : PlaneVector → Quadratic → PlaneVector → PlaneVector
  less_by u k g = sub_vector (quadratic s.d) u (scale (quadratic s.d) k g)

  -- ---- back along the orbit

  -- the step by which the flow comes back to the first interval
  last_step : (q : Quadratic) × (f : Corner) × IsStep s v x width m q x f
  last_step = step_to s surface v some band (first_floor s surface v some band)

  -- the side by which it comes into the polygon of that
  abbrev entry : Corner
  entry = partner s.polygons last_step.1

  entry_incoming : IsIncoming s v entry
  entry_incoming = partner_incoming s surface v last_step.1 last_step.2.crossing.outgoing

  abbrev factor : Quadratic
  factor = across s v entry

  abbrev vector_of_entry : PlaneVector
  vector_of_entry = vector_of s.polygons entry

  at_most_further : (a b : Quadratic) → IsNonNegative (quadratic s.d) (IsPositive s.d) b → AtMost a (add a b)
  at_most_further a b l = order.at_most_of_sub L a (add a b) (subst (IsNonNegative (quadratic s.d) (IsPositive s.d)) (identity L.ring (a ∷ b ∷ []) (λ a b. b ≐ (a ⊕ b) ⊖ a) refl) l)

  -- the flow comes back as far right as it was
  closed : cross (quadratic s.d) h v ≡ nil
  closed =
      let found = polygon_of_position s surface v some x (first_position s surface v some band) in
      cross_of_orbit s surface v some m x x h found.0 found.0 (band.closes x (first_in_band s surface v some band)) found.1 found.1
      ∙ ring_laws.sub_self L.ring (sub x (block_offset s v found.0))

  -- the line at a distance from the left ends of the intervals
  module _ (t : Quadratic) (from_zero : IsNonNegative (quadratic s.d) (IsPositive s.d) t) (to_width : AtMost t width) where
    -- the point of the line on that side, times the side's width
    abbrev start : PlaneVector
    start = lines.on_side L factor (sub (add x t) (measure s v entry)) (place s entry) vector_of_entry

    passage : {y q z : Quadratic} {g k : PlaneVector} {e f : Corner} → Crosses s v y q g e → IsFloor s v x m q → Crosses s v q z k f → (o u : PlaneVector)
        → cross (quadratic s.d) (sub_vector (quadratic s.d) u o) v ≡ nil
        → cross (quadratic s.d) o v ≡ (quadratic s.d).mul factor (sub (add q t) (block_offset s v (partner s.polygons e).polygon))
        → IsPassage s v factor (add q t) (partner s.polygons e) f o u
    passage {y} {q} {z} {g} {k} {e} {f} before floor next o u on at =
        let step = step_of_crossing s surface v some band floor next in
        let same = polygon_unique s surface v some (crosses_polygons s surface v some next).0 (crosses_polygons s surface v some before).1 in
        record {
          factor = entry_incoming.enters;
          incoming = partner_incoming s surface v e before.outgoing;
          outgoing = next.outgoing;
          same = same;
          from_left = order.at_most_trans L (outgoing_left s v f) q (add q t) next.from_left (at_most_further q t from_zero);
          to_right = order.at_most_trans L (add q t) (add q width) (measure s v f) (order.add_at_most_add_left L q t width to_width)
              (subst (AtMost (add q width)) (outgoing_right s surface v f next.outgoing) step.fits);
          on_line = on;
          at = at ∙ ap (λ (i : ℕ). (quadratic s.d).mul factor (sub (add q t) (block_offset s v i))) (sym same);
        }

    -- by the number of crossings to the end: u isn't right of the side by which the flow comes into each of the polygons
    past : (n : ℕ) (y q : Quadratic) (g : PlaneVector) (e : Corner) → Crosses s v y q g e → IsFloor s v x m q → (rest : PlaneVector) → Orbit s v n q x rest → (o u : PlaneVector)
        → cross (quadratic s.d) (sub_vector (quadratic s.d) u o) v ≡ nil
        → cross (quadratic s.d) o v ≡ (quadratic s.d).mul factor (sub (add q t) (block_offset s v (partner s.polygons e).polygon))
        → less_by u factor rest ≡ start → IsPast s factor (partner s.polygons e) u
    past zero y q g e before floor rest orbit o u on at ends =
        let same : e ≡ last_step.1 = crosses_from_one_side s surface v some (subst (λ q. Crosses s v y q g e) (sym orbit.0) before) last_step.2.crossing in
        let there : u ≡ start = sym (lines.shift_none L factor u) ∙ ap (less_by u factor) (sym orbit.1) ∙ ends in
        signs.non_negative_of_zero L
        ((λ i. cross (quadratic s.d) (vector_of s.polygons (partner s.polygons (same i))) (less_by (there i) factor (place s (partner s.polygons (same i)))))
        ∙ lines.on_side_parallel L factor (sub (add x t) (measure s v entry)) (place s entry) vector_of_entry)
    past (suc n) y q g e before floor rest orbit o u on at ends =
        let z = orbit.0 in
        let k = orbit.1 in
        let f = orbit.3 in
        let next = orbit.4 in
        let p = passage before floor next o u on at in
        let step = step_of_crossing s surface v some band floor next in
        let o2 = less_by o factor k in
        let u2 = less_by u factor k in
        let later = past n q z k f next step.to orbit.2 orbit.5 o2 u2
        (lines.still_on_line L factor u o k v on)
        (lines.next_line L factor q z (block_offset s v f.polygon) (block_offset s v (partner s.polygons f).polygon) t o k v p.at (cross_of_crossing s surface v next))
        (lines.shift_shift L factor u k orbit.2 ∙ ap (less_by u factor) (sym orbit.6) ∙ ends) in
        passes s surface v factor (add q t) (partner s.polygons e) f o u p (subst (λ w. IsPast s factor (partner s.polygons f) (less_by u factor w)) next.put later)

    -- ---- from the first interval

    module _ (n : ℕ) (orbit : Orbit s v (suc n) x x h) where
      -- the same point after the return
      abbrev further : PlaneVector
      further = add_vector (quadratic s.d) start (scale (quadratic s.d) factor h)

      first_passage : IsPassage s v factor (add x t) entry orbit.3 start further
      first_passage =
          passage last_step.2.crossing (first_floor s surface v some band) orbit.4 start further (lines.further_on_line L factor start h v closed)
          (lines.on_side_line L (add x t) (block_start s v entry.polygon) (leftmost s v entry.polygon) (place s entry) vector_of_entry v)

      past_next : IsPast s factor (partner s.polygons orbit.3) (less_by further factor (gluing_vector s v orbit.3))
      past_next =
          let k = orbit.1 in
          let f = orbit.3 in
          let step = step_of_crossing s surface v some band (first_floor s surface v some band) orbit.4 in
          subst (λ w. IsPast s factor (partner s.polygons f) (less_by further factor w)) orbit.4.put
          (past n x orbit.0 k f orbit.4 step.to orbit.2 orbit.5 (less_by start factor k) (less_by further factor k)
          (lines.still_on_line L factor further start k v first_passage.on_line)
          (lines.next_line L factor x orbit.0 (block_offset s v f.polygon) (block_offset s v (partner s.polygons f).polygon) t start k v first_passage.at (cross_of_crossing s surface v orbit.4))
          (lines.shift_shift L factor further k orbit.2 ∙ ap (less_by further factor) (sym orbit.6) ∙ lines.back_to_side L factor start h))

      left_by_further : IsPositive s.d (cross (quadratic s.d) vector_of_entry (less_by further factor (place s entry))) → IsPositive s.d (cross (quadratic s.d) vector_of_entry h)
      left_by_further p =
          signs.positive_of_mul_left L entry_incoming.enters
          (signs.positive_of_eq L (sym (lines.on_side_further L factor (sub (add x t) (measure s v entry)) (place s entry) vector_of_entry h)) p)

      -- the return vector is left of the entry, where an end of the first side is, and the line isn't at the other end
      left_by_left : IsLess s.d (add x t) (measure s v orbit.3)
          → IsPositive s.d (cross (quadratic s.d) vector_of_entry (sub_vector (quadratic s.d) (place s (corner_after s.polygons orbit.3)) (place s entry)))
          → IsPositive s.d (cross (quadratic s.d) vector_of_entry h)
      left_by_left less left = left_by_further (passes_by_left s surface v factor (add x t) entry orbit.3 start further first_passage past_next less left)

      left_by_right : IsLess s.d (outgoing_left s v orbit.3) (add x t)
          → IsPositive s.d (cross (quadratic s.d) vector_of_entry (sub_vector (quadratic s.d) (place s orbit.3) (place s entry)))
          → IsPositive s.d (cross (quadratic s.d) vector_of_entry h)
      left_by_right less right = left_by_further (passes_by_right s surface v factor (add x t) entry orbit.3 start further first_passage past_next less right)

  -- ---- the return vector

  -- where the left end of the first side is on the line of the entry, its right end is left of it
  right_end_left : (f : Corner) → IsOutgoing s v f → f.polygon ≡ entry.polygon
      → cross (quadratic s.d) vector_of_entry (sub_vector (quadratic s.d) (place s (corner_after s.polygons f)) (place s entry)) ≡ nil
      → IsPositive s.d (cross (quadratic s.d) vector_of_entry (sub_vector (quadratic s.d) (place s f) (place s entry)))
  right_end_left f o same left =
      elim (signs.non_negative_cases L _ (corner_not_right_of_side s surface entry f entry_incoming.side o.side same)) [
        | inl p ↦ p
        | inr right ↦
            let parallel : cross (quadratic s.d) vector_of_entry (vector_of s.polygons f) ≡ nil =
            plane_derived L.ring [] (vector_of_entry ∷ place s entry ∷ place s f ∷ vector_of s.polygons f ∷ [])
            (λ e p q f. cross E e f ≐ numeral 0 from (numeral 1, cross E e (sub_vector E (add_vector E q f) p) ≐ numeral 0) ∷ (E.neg (numeral 1), cross E e (sub_vector E q p) ≐ numeral 0) ∷ []) refl
            (subst (λ w. cross (quadratic s.d) vector_of_entry (sub_vector (quadratic s.d) w (place s entry)) ≡ nil) (place_after s surface f o.side) left, (right, tt)) in
            let along = parallel_side_along s surface entry f entry_incoming.side o.side same right parallel in
            absurd (signs.not_both_signs L (directions.along_cross L v along entry_incoming.enters) o.leaves)
      ]

  return_left : (n : ℕ) → Orbit s v (suc n) x x h → IsPositive s.d (cross (quadratic s.d) vector_of_entry h)
  return_left n orbit =
      let f = orbit.3 in
      let step = step_of_crossing s surface v some band (first_floor s surface v some band) orbit.4 in
      let same = polygon_unique s surface v some (crosses_polygons s surface v some orbit.4).0 (crosses_polygons s surface v some last_step.2.crossing).1 in
      let wide = holds_left L x width band.wide in
      elim (signs.non_negative_cases L _ (corner_not_right_of_side s surface entry (corner_after s.polygons f) entry_incoming.side (has_after s.polygons f orbit.4.outgoing.side) same)) [
        | inl left ↦
            left_by_left nil (signs.zero_non_negative L) (order.at_most_of_less L nil width (order.zero_less L band.wide)) n orbit
            (subst (λ y. IsLess s.d y (measure s v f)) (sym (L.add_zero x))
            (order.less_of_less_at_most L x (add x width) (measure s v f) wide (subst (AtMost (add x width)) (outgoing_right s surface v f orbit.4.outgoing) step.fits)))
            left
        | inr flat ↦
            left_by_right width (signs.non_negative_of_positive L band.wide) (order.at_most_refl L width) n orbit
            (order.less_of_at_most_less L (outgoing_left s v f) x (add x width) orbit.4.from_left wide)
            (right_end_left f orbit.4.outgoing same flat)
      ]

  -- the vector by which a band comes back to itself is along the flow
  pub return_along : IsAlong (quadratic s.d) (IsPositive s.d) v h
  return_along =
      let some_crossing = band.some in
      let number : m ≡ suc (m - 1) = omega arith in
      let left = return_left (m - 1) (subst (λ (n : ℕ). Orbit s v n x x h) number (band.closes x (first_in_band s surface v some band))) in
      let parallel = directions.parallel_comm L h v closed in
      record { parallel = parallel; same_way = ahead_on_line L entry_incoming.enters left parallel }
