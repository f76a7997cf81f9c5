-- The way that is glued to a way of a fan is one of a fan, too.
use Rattle.std.proofs.Common.{◌≡◌, ℕ, ◌<◌, ◌≤◌, Bool, true, false, cond, eqb, Option, Some, None, List, length, refl, sym, ap, subst, arith}
use Rattle.std.proofs.lemmas.Bool.{eqb-false}
use Rattle.std.specs.Option.{IsSome, option_and_then}
use Rattle.std.specs.List.{slice_get}
use Rattle.std.proofs.lemmas.List.{length-map}
use Rattle.std.proofs.lemmas.Option.{slice_get_within}
use Rattle.fs_lists.proofs.All.{All-slice_get}
use Rattle.fs_lists.proofs.Items.{some_of_inside, item_inside}
use Rattle.fs_plane.specs.declared.corners.Corner.{Corner}
use Rattle.fs_gluing.specs.declared.surfaces.Side.{Side}
use Rattle.fs_gluing.specs.declared.triangulations.Way.{Way}
use Rattle.fs_gluing.specs.FirstCut.{way_start, side_way, glued_way}
use Rattle.fs_gluing.specs.NextCorner.{side_count, length_or_0, corner_after}
use Rattle.fs_gluing.specs.Polygons.{HasSide}
use Rattle.fs_gluing.specs.Surface.{GluedPolygons, IsPolygon, IsTranslationSurface, IsSurface, side_vectors}
use Rattle.fs_gluing.specs.SurfaceSides.{partner}
use Rattle.fs_gluing.proofs.SurfaceCalls.NextCorner.{in_polygon, count_is}
use Rattle.fs_gluing.proofs.Sides.PartnerSides.{has_partner}
use Rattle.fs_triangulate.specs.Fans.{IsFanWay}
use Rattle.fs_triangulate.proofs.FanWays.{from_inside, side_in_fan, way_back, back_in_fan}
use Rattle.fs_triangulate.proofs.FanPlaces.{polygon_there}

-- a corner below the number of sides exists
pub has_corner : (polygons : List (List Side)) (c : Corner) → c.side < side_count polygons c.polygon → HasSide polygons c
has_corner polygons c l = by_polygon (slice_get polygons c.polygon) l
  where
    by_polygon : (o : Option (List Side)) → c.side < length_or_0 o → IsSome (option_and_then (λ polygon. slice_get polygon c.side) o)
    by_polygon None l = absurd (omega arith)
    by_polygon (Some polygon) l = some_of_inside polygon c.side l

-- a way begins at a corner that exists
pub has_start : (polygons : List (List Side)) (w : Way) → IsFanWay polygons w → HasSide polygons (way_start w)
has_start polygons w f = has_corner polygons (way_start w) (from_inside (side_count polygons w.polygon) w f.fan)

-- a polygon has three sides or more
pub three_sides_of : (s : GluedPolygons) → IsTranslationSurface s → (i : ℕ) → i < length s.polygons → 3 ≤ side_count s.polygons i
three_sides_of s surface i l =
    let p = item_inside s.polygons i l in
    let polygon = All-slice_get (λ polygon. IsPolygon s.straight s.d (side_vectors polygon)) s.polygons i p.value surface.each p.is in
    let three = polygon.three in
    omega (arith, length-map p.value (λ (side : Side). side.vector), three, ap length_or_0 p.is)

three_sides : (s : GluedPolygons) → IsSurface s → (c : Corner) → HasSide s.polygons c → 3 ≤ side_count s.polygons c.polygon
three_sides s surface c h =
    let there = in_polygon s.polygons c h in
    three_sides_of s surface.surface c.polygon (slice_get_within s.polygons c.polygon there.polygon there.is)

-- the way along a side is one of a fan
side_fan_way : (s : GluedPolygons) → IsSurface s → (c : Corner) → HasSide s.polygons c → IsFanWay s.polygons (side_way s.polygons c)
side_fan_way s surface c h =
    let there = in_polygon s.polygons c h in
    let count = count_is s.polygons c there in
    let inside = there.inside in
    record {
      there = polygon_there s.polygons c.polygon (omega arith);
      fan = side_in_fan (side_count s.polygons c.polygon) (side_way s.polygons c) (three_sides s surface c h) (omega arith) refl;
    }

-- the way that is glued to a way is one of a fan
pub glued_fan_way : (s : GluedPolygons) → IsSurface s → (w : Way) → IsFanWay s.polygons w → IsFanWay s.polygons (glued_way s.polygons w)
glued_fan_way s surface w f = by_test (eqb (corner_after s.polygons (way_start w)).side w.to) refl
  where
    by_test : (b : Bool) → eqb (corner_after s.polygons (way_start w)).side w.to ≡ b → IsFanWay s.polygons (cond b (side_way s.polygons (partner s.polygons (way_start w))) (way_back w))
    by_test true e = side_fan_way s surface (partner s.polygons (way_start w)) (has_partner s.polygons surface.glued (way_start w) (has_start s.polygons w f))
    by_test false e = record {
      there = f.there;
      fan = back_in_fan (side_count s.polygons w.polygon) w (eqb-false (corner_after s.polygons (way_start w)).side w.to e) f.fan;
    }

-- so is what equals it
pub twin_fan_way : (s : GluedPolygons) → IsSurface s → (w twin : Way) → IsFanWay s.polygons w → twin ≡ glued_way s.polygons w → IsFanWay s.polygons twin
twin_fan_way s surface w twin f e = subst (IsFanWay s.polygons) (sym e) (glued_fan_way s surface w f)
