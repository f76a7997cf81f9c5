-- The corners on both sides of a band of closed leaves. A library for crates to come.
use Rattle.std.proofs.Common.{◌≡◌, ◌≢◌, ◌⊎◌, ℕ, zero, suc, ◌+◌, length, [], ◌∷◌, refl, sym, ap, ◌∙◌, subst, inl, inr, arith}
use Rattle.fs_ring.specs.OrderedRing.{IsOrderedRing}
use Rattle.fs_ring.proofs.Order as order
use Rattle.fs_ring.proofs.Solver.{derived, ◌⊕◌, ◌⊖◌, ◌≐◌, ◌from◌, numeral}
use Rattle.fs_quadratic.specs.Ring.{Quadratic, quadratic, IsPositive, IsLess, add, zero as nil}
use Rattle.fs_plane.specs.declared.corners.Corner.{Corner}
use Rattle.fs_plane.specs.Vector.{PlaneVector, vector_zero}
use Rattle.fs_gluing.specs.CrossingMap.{block_start, measure, outgoing_left, incoming_left, side_width, gluing_vector, Crosses, Orbit, IsOutMark, IsInMark}
use Rattle.fs_gluing.specs.NextCorner.{corner_after}
use Rattle.fs_gluing.specs.Polygons.{HasSide}
use Rattle.fs_gluing.specs.Surface.{GluedPolygons, IsTranslationSurface}
use Rattle.fs_gluing.specs.SurfaceSides.{partner}
use Rattle.fs_gluing.proofs.SurfaceCalls.NextCorner.{has_after}
use Rattle.fs_iet.proofs.CrossingMaps.{crosses_left_end, crosses_within, crosses_by_one_side, map_of_positions}
use Rattle.fs_iet.proofs.Marks.{out_mark_before}
use Rattle.fs_iet.proofs.Orbits.{crossing_of_orbit, orbit_cut}
use Rattle.fs_iet.proofs.PolygonPositions.{IsOfPolygon, of_outgoing_polygon}
use Rattle.fs_iet.proofs.ShiftedIntervals.{holds_left}
use Rattle.fs_iet.proofs.SideMeasures.{surface_order, outgoing_wide, outgoing_right}
use Rattle.fs_rauzy.specs.Cylinders.{MeetsCorner}
use Rattle.fs_rauzy.specs.Towers.{MeetsOutMark, ComesFromInMark}
use Rattle.fs_rauzy.proofs.CylinderFloors.{IsFloor, IsStep, first_floor, step_from, step_to, floor_after}
use Rattle.fs_rauzy.proofs.CylinderReturns.{IsBand}

module _ (s : GluedPolygons) (surface : IsTranslationSurface s) (v : PlaneVector) (some : v ≢ vector_zero) {x width : Quadratic} {m : ℕ} {h : PlaneVector} (band : IsBand s v x width m h) where
  L : IsOrderedRing (quadratic s.d) (IsPositive s.d)
  L = surface_order s surface

  -- a floor meets a corner of its polygon
  meets : {q right : Quadratic} (e : Corner) → IsFloor s v x m q → HasSide s.polygons e → IsOfPolygon s v e.polygon q → measure s v e ≡ add q right → MeetsCorner s v m x right
  meets {q} {right} e p there inside at = record {
    n = p.number;
    before = p.below;
    y = q;
    h = p.vector;
    orbit = p.orbit;
    corner = e;
    there = there;
    same_polygon = record {
      from_left = inside.from_start;
      before_right = subst (λ (i : ℕ). IsLess s.d q (block_start s v i)) (let e : suc e.polygon ≡ e.polygon + 1 = omega arith in e) inside.before_end;
    };
    at = at;
  }

  -- where the flow from the left end of the band meets the left end of an outgoing side, that is a corner on its left side
  pub corner_on_left : MeetsOutMark s v x → MeetsCorner s v m x nil
  corner_on_left (n, u, g, f, o, mark) =
      let floor = floor_after s surface v some band n x u g (first_floor s surface v some band) o in
      let left = outgoing_left s v f in
      let inside : IsOfPolygon s v f.polygon u =
      subst (IsOfPolygon s v f.polygon) (sym mark.at)
      (of_outgoing_polygon s surface v some f left mark.outgoing (order.at_most_refl L left) (holds_left L left (side_width s v f) (outgoing_wide s surface v f mark.outgoing))) in
      meets (corner_after s.polygons f) floor (has_after s.polygons f mark.outgoing.side) inside (sym mark.at ∙ sym (L.add_zero u))

  -- ---- the right side

  -- a step whose interval ends where its side does has a corner there
  meets_right_end : {q z : Quadratic} {f : Corner} → IsStep s v x width m q z f → add q width ≡ add (outgoing_left s v f) (side_width s v f) → MeetsCorner s v m x width
  meets_right_end {q} {z} {f} p e =
      meets f p.from p.crossing.outgoing.side (of_outgoing_polygon s surface v some f q p.crossing.outgoing p.crossing.from_left p.crossing.before_right)
      (sym (outgoing_right s surface v f p.crossing.outgoing) ∙ sym e)

  -- one that doesn't takes the right end along
  right_end_along : {q z : Quadratic} {f : Corner} → (p : IsStep s v x width m q z f) → IsLess s.d (add q width) (add (outgoing_left s v f) (side_width s v f))
      → Crosses s v (add q width) (add z width) p.vector f
  right_end_along {q} {z} {f} p less =
      let left = outgoing_left s v f in
      let c = p.crossing in
      record {
        outgoing = c.outgoing;
        from_left = order.at_most_trans L left q (add q width) c.from_left (order.at_most_of_less L q (add q width) (holds_left L q width band.wide));
        before_right = less;
        beyond =
            derived L.ring (q ∷ width ∷ z ∷ left ∷ incoming_left s v (partner s.polygons f) ∷ [])
            (λ q w z l o. z ⊕ w ≐ ((q ⊕ w) ⊖ l) ⊕ o from (numeral 1, z ≐ (q ⊖ l) ⊕ o) ∷ []) refl (c.beyond, tt);
        put = c.put;
      }

  -- and then it is further right than the left end of that side
  right_of_left_end : {q z : Quadratic} {f : Corner} → IsStep s v x width m q z f → IsLess s.d (outgoing_left s v f) (add q width)
  right_of_left_end {q} {z} {f} p = order.less_of_at_most_less L (outgoing_left s v f) q (add q width) p.crossing.from_left (holds_left L q width band.wide)

  end_or_along : {q z : Quadratic} {f : Corner} → IsStep s v x width m q z f
      → (add q width ≡ add (outgoing_left s v f) (side_width s v f)) ⊎ IsLess s.d (add q width) (add (outgoing_left s v f) (side_width s v f))
  end_or_along {q} {z} {f} p = elim (order.at_most_cases L (add q width) (add (outgoing_left s v f) (side_width s v f)) p.fits) [ inl less ↦ inr less | inr e ↦ inl e ]

  not_out_mark : {q z : Quadratic} {f e : Corner} → (p : IsStep s v x width m q z f) → IsLess s.d (add q width) (add (outgoing_left s v f) (side_width s v f)) → IsOutMark s v (add q width) e → ⊥
  not_out_mark {q} {z} {f} {e} p less mark =
      let from_e = subst (λ y. Crosses s v y (incoming_left s v (partner s.polygons e)) (gluing_vector s v e) e) (sym mark.at) (crosses_left_end s surface v e mark.outgoing) in
      let same : f ≡ e = crosses_by_one_side s surface v some (right_end_along p less) from_e in
      order.less-ne L (outgoing_left s v f) (add q width) (right_of_left_end p) (ap (outgoing_left s v) same ∙ sym mark.at)

  -- so where the flow from the right end of a floor meets the left end of an outgoing side, one of the floors ends where its side does
  right_by_meeting : (n : ℕ) (q u : Quadratic) (g : PlaneVector) (f : Corner) → IsFloor s v x m q → Orbit s v n (add q width) u g → IsOutMark s v u f → MeetsCorner s v m x width
  right_by_meeting zero q u g f p o mark =
      let step = step_from s surface v some band p in
      elim (end_or_along step.2) [ inl e ↦ meets_right_end step.2 e | inr less ↦ absurd (not_out_mark step.2 less (subst (λ u. IsOutMark s v u f) o.0 mark)) ]
  right_by_meeting (suc n) q u g f p o mark =
      let step = step_from s surface v some band p in
      elim (end_or_along step.2) [
        | inl e ↦ meets_right_end step.2 e
        | inr less ↦
            let same = ((map_of_positions s surface v some).one (add q width) o.0 (add step.0 width) o.1 step.2.vector o.3 step.1 o.4 (right_end_along step.2 less)).0 in
            right_by_meeting n step.0 u o.2 f step.2.to (subst (λ y. Orbit s v n y u o.2) same o.5) mark
      ]

  not_in_mark : {q z : Quadratic} {f e : Corner} → (p : IsStep s v x width m q z f) → IsLess s.d (add q width) (add (outgoing_left s v f) (side_width s v f)) → IsInMark s v (add z width) e → ⊥
  not_in_mark {q} {z} {f} {e} p less mark = not_out_mark p less (out_mark_before s surface v some (right_end_along p less) mark)

  -- and so where the flow comes to that right end from the left end of an incoming side
  right_by_coming : (n : ℕ) (z u : Quadratic) (g : PlaneVector) (e : Corner) → IsFloor s v x m z → Orbit s v n u (add z width) g → IsInMark s v u e → MeetsCorner s v m x width
  right_by_coming zero z u g e p o mark =
      let step = step_to s surface v some band p in
      elim (end_or_along step.2) [ inl k ↦ meets_right_end step.2 k | inr less ↦ absurd (not_in_mark step.2 less (subst (λ u. IsInMark s v u e) (sym o.0) mark)) ]
  right_by_coming (suc n) z u g e p o mark =
      let step = step_to s surface v some band p in
      let number : suc n ≡ n + 1 = omega arith in
      let parts = orbit_cut s v n 1 u (add z width) g (subst (λ (n : ℕ). Orbit s v n u (add z width) g) number o) in
      let last = crossing_of_orbit s v parts.4 in
      elim (end_or_along step.2) [
        | inl k ↦ meets_right_end step.2 k
        | inr less ↦
            let same = (map_of_positions s surface v some).one_to_one parts.0 (add step.0 width) (add z width) parts.2 step.2.vector last.0 step.1 last.1 (right_end_along step.2 less) in
            right_by_coming n step.0 u parts.1 e step.2.from (subst (λ y. Orbit s v n u y parts.1) same parts.3) mark
      ]

  right_by_end : add x width ≡ block_start s v (length s.polygons) → MeetsCorner s v m x width
  right_by_end e =
      let step = step_from s surface v some band (first_floor s surface v some band) in
      elim (end_or_along step.2) [
        | inl k ↦ meets_right_end step.2 k
        | inr less ↦
            absurd (order.less-ne L (add x width) (block_start s v (length s.polygons))
            (crosses_within s surface v some (add x width) (add step.0 width) step.2.vector step.1 (right_end_along step.2 less)).0.below_total e)
      ]

  -- where the positions end at the right end of the band, or the flow from or to it meets a vertex, a corner is on its right side
  pub corner_on_right : (add x width ≡ block_start s v (length s.polygons)) ⊎ (MeetsOutMark s v (add x width) ⊎ ComesFromInMark s v (add x width)) → MeetsCorner s v m x width
  corner_on_right (inl e) = right_by_end e
  corner_on_right (inr (inl (n, u, g, f, o, mark))) = right_by_meeting n x u g f (first_floor s surface v some band) o mark
  corner_on_right (inr (inr (n, u, g, e, o, mark))) = right_by_coming n x u g e (first_floor s surface v some band) o mark
