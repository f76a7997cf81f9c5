-- What the calls of a surface return, by the definitions that look sides up.
use Rattle.std.proofs.Common.{◌≡◌, List, [], IfSome, sym, ap, ◌∙◌}
use Rattle.std.proofs.lemmas.Option.{get_or_from_slice_get}
use Rattle.std.specs.List.{slice_get}
use Rattle.fs_lists.proofs.Items.{value_of, value_holds}
use Rattle.fs_plane.specs.declared.corners.Corner.{Corner}
use Rattle.fs_plane.specs.Vector.{PlaneVector}
use Rattle.fs_gluing.specs.declared.surfaces.Side.{Side}
use Rattle.fs_gluing.specs.Convex.{corner_position}
use Rattle.fs_gluing.specs.FirstCut.{position_in}
use Rattle.fs_gluing.specs.Polygons.{at_side, HasSide}
use Rattle.fs_gluing.specs.Surface.{GluedPolygons, side_vectors}
use Rattle.fs_gluing.specs.SurfaceSides.{partner_or, partner}
use Rattle.fs_gluing.proofs.SurfaceCalls.NextCorner.{in_polygon}

-- the partner of a side
pub partner_read : (polygons : List (List Side)) (c p : Corner) → HasSide polygons c → IfSome (at_side polygons c) (λ side. p ≡ side.partner) → p ≡ partner polygons c
partner_read polygons c p has h =
    let s = value_of (at_side polygons c) has in
    value_holds (at_side polygons c) (λ side. p ≡ side.partner) s.value s.is h ∙ sym (ap (partner_or c) s.is)

-- the position of a corner
pub position_read : (s : GluedPolygons) (c : Corner) (at : PlaneVector) → HasSide s.polygons c
    → IfSome (slice_get s.polygons c.polygon) (λ polygon. at ≡ corner_position (side_vectors polygon) c.side) → at ≡ position_in s c.polygon c.side
position_read s c at has h =
    let there = in_polygon s.polygons c has in
    value_holds (slice_get s.polygons c.polygon) (λ polygon. at ≡ corner_position (side_vectors polygon) c.side) there.polygon there.is h
    ∙ ap (λ polygon. corner_position (side_vectors polygon) c.side) (sym (get_or_from_slice_get s.polygons c.polygon there.polygon [] there.is))
