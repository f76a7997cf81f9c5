-- The vector of a way of a fan: the position of its end, the opposite of that of its start, or a side.
use Rattle.std.proofs.Common.{◌≡◌, ℕ, ◌+◌, ◌<◌, Option, Some, None, List, [], ◌∷◌, length, get_or, refl, sym, ap, ◌∙◌, subst}
use Rattle.std.specs.Option.{IfSome, option_and_then}
use Rattle.std.specs.List.{slice_get}
use Rattle.std.proofs.lemmas.Option.{get_or_from_slice_get}
use Rattle.fs_lists.proofs.Items.{item_inside, value_of, value_holds}
use Rattle.fs_ring.specs.Vector.{zero_vector, add_vector, sub_vector, neg_vector}
use Rattle.fs_ring.proofs.Solver.{expressions as E}
use Rattle.fs_ring.proofs.PlaneSolver.{vector_identity, ◌≐ᵥ◌}
use Rattle.fs_quadratic.specs.Ring.{quadratic}
use Rattle.fs_quadratic.proofs.Laws.{quadratic_ring}
use Rattle.fs_plane.specs.declared.corners.Corner.{Corner}
use Rattle.fs_plane.specs.Vector.{PlaneVector, vector_neg}
use Rattle.fs_gluing.specs.declared.surfaces.Side.{Side}
use Rattle.fs_gluing.specs.declared.triangulations.Way.{Way}
use Rattle.fs_gluing.specs.Convex.{corner_position}
use Rattle.fs_gluing.specs.FirstCut.{position_in, way_start, way_vector}
use Rattle.fs_gluing.specs.Polygons.{at_side, HasSide}
use Rattle.fs_gluing.specs.Surface.{GluedPolygons, side_vectors}
use Rattle.fs_gluing.proofs.SurfaceCalls.Positions.{next_in}

-- the position that `place` returns for corner j of polygon i
pub position_at : (s : GluedPolygons) (c : Corner) (i j : ℕ) (at : PlaneVector) → c ≡ record { polygon = i; side = j } → i < length s.polygons
    → IfSome (slice_get s.polygons c.polygon) (λ polygon. at ≡ corner_position (side_vectors polygon) c.side) → at ≡ position_in s i j
position_at s c i j at e there h =
    let p = item_inside s.polygons i there in
    let is = subst (λ (c : Corner). IfSome (slice_get s.polygons c.polygon) (λ polygon. at ≡ corner_position (side_vectors polygon) c.side)) e h in
    value_holds (slice_get s.polygons i) (λ polygon. at ≡ corner_position (side_vectors polygon) j) p.value p.is is
    ∙ ap (λ polygon. corner_position (side_vectors polygon) j) (sym (get_or_from_slice_get s.polygons i p.value [] p.is))

-- a way from corner 0 has the position of its end
pub from_zero : (s : GluedPolygons) (w : Way) (at : PlaneVector) → w.from ≡ 0 → at ≡ position_in s w.polygon w.to → at ≡ way_vector s w
from_zero s w at first is =
    is
    ∙ sym (vector_identity (quadratic_ring s.d) [] (position_in s w.polygon w.to ∷ []) (λ a. sub_vector E a (zero_vector E) ≐ᵥ a) refl)
    ∙ ap (λ j. sub_vector (quadratic s.d) (position_in s w.polygon w.to) (position_in s w.polygon j)) (sym first)

-- a way back to corner 0 has the opposite of the position of its start
pub to_zero : (s : GluedPolygons) (w : Way) (at : PlaneVector) → w.to ≡ 0 → at ≡ position_in s w.polygon w.from → vector_neg at ≡ way_vector s w
to_zero s w at last is =
    ap (λ (a : PlaneVector). vector_neg a) is
    ∙ sym (vector_identity (quadratic_ring s.d) [] (position_in s w.polygon w.from ∷ []) (λ a. sub_vector E (zero_vector E) a ≐ᵥ neg_vector E a) refl)
    ∙ ap (λ j. sub_vector (quadratic s.d) (position_in s w.polygon j) (position_in s w.polygon w.from)) (sym last)

-- a way to the next corner has the vector of the side
along_side : (s : GluedPolygons) (w : Way) (side : Side) → at_side s.polygons (way_start w) ≡ Some side → w.to ≡ w.from + 1 → side.vector ≡ way_vector s w
along_side s w side there next = by_polygon (slice_get s.polygons w.polygon) refl there
  where
    by_polygon : (o : Option (List Side)) → slice_get s.polygons w.polygon ≡ o → option_and_then (λ polygon. slice_get polygon w.from) o ≡ Some side → side.vector ≡ way_vector s w
    by_polygon None p e = cc
    by_polygon (Some polygon) p e =
        let own : get_or s.polygons w.polygon [] ≡ polygon = get_or_from_slice_get s.polygons w.polygon polygon [] p in
        let start = corner_position (side_vectors polygon) w.from in
        sym (vector_identity (quadratic_ring s.d) [] (start ∷ side.vector ∷ []) (λ a v. sub_vector E (add_vector E a v) a ≐ᵥ v) refl)
        ∙ ap (λ a. sub_vector (quadratic s.d) a start) (next_in polygon w.from side e ∙ ap (corner_position (side_vectors polygon)) (sym next))
        ∙ ap (λ row. sub_vector (quadratic s.d) (corner_position (side_vectors row) w.to) (corner_position (side_vectors row) w.from)) (sym own)

-- it is the vector that `side` returns
pub side_read : (s : GluedPolygons) (c : Corner) (w : Way) (v : PlaneVector) → c ≡ way_start w → HasSide s.polygons (way_start w) → w.to ≡ w.from + 1
    → IfSome (at_side s.polygons c) (λ side. v ≡ side.vector) → v ≡ way_vector s w
side_read s c w v e has next h =
    let side = value_of (at_side s.polygons (way_start w)) has in
    let is = subst (λ c. IfSome (at_side s.polygons c) (λ side. v ≡ side.vector)) e h in
    value_holds (at_side s.polygons (way_start w)) (λ side. v ≡ side.vector) side.value side.is is ∙ along_side s w side.value side.is next
