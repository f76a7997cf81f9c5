-- The polygons of a translation surface are glued polygons, so that the lemmas on straight paths hold on it. A library for crates to come.
use Rattle.std.proofs.Common.{◌≡◌, ℕ, ◌∙◌, refl, subst}
use Rattle.fs_lists.proofs.All.{All-slice_get}
use Rattle.fs_ring.specs.OrderedRing.{IsOrderedRing}
use Rattle.fs_quadratic.specs.Ring.{quadratic, IsPositive}
use Rattle.fs_quadratic.proofs.Laws.{field_order}
use Rattle.fs_plane.specs.declared.corners.Corner.{Corner}
use Rattle.fs_plane.specs.Vector.{PlaneVector, BendsNoRight}
use Rattle.fs_convex.specs.Turning.{DecidesHalfPlanes}
use Rattle.fs_paths.specs.SideGluing.{AreGluedPolygons}
use Rattle.fs_paths.specs.Ends.{PathEnd, IsEnd}
use Rattle.fs_paths.proofs.EndUnique as paths
use Rattle.fs_gluing.specs.Polygons.{HasSide}
use Rattle.fs_gluing.specs.Surface.{GluedPolygons, IsTranslationSurface, IsPolygon, side_vectors}
use Rattle.fs_gluing.specs.NextCorner.{corner_after, side_count}
use Rattle.fs_gluing.specs.SurfaceSides.{vector_of, polygon_sides, is_ahead}
use Rattle.fs_gluing.proofs.SurfaceCalls.NextCorner.{in_polygon, has_before, has_after, after-before_corner, before-after_corner}
use Rattle.fs_gluing.proofs.Sides.PartnerSides.{has_partner, partner-partner, partner-moved, vector-partner}
use Rattle.fs_gluing.proofs.Sides.CornerRays.{bends_at}
use Rattle.fs_gluing.proofs.Sides.HalfPlaneTests.{decides_half_planes}
use Rattle.fs_gluing.proofs.Sides.SidesInTurn.{position_of, returns_after, rises_from_corner, position_after}

module _ (s : GluedPolygons) (surface : IsTranslationSurface s) where
  polygon_in : (c : Corner) (h : HasSide s.polygons c) → IsPolygon s.straight s.d (side_vectors (in_polygon s.polygons c h).polygon)
  polygon_in c h =
      let there = in_polygon s.polygons c h in
      All-slice_get (λ polygon. IsPolygon s.straight s.d (side_vectors polygon)) s.polygons c.polygon there.polygon surface.each there.is

  bends_after : (c : Corner) → HasSide s.polygons c → BendsNoRight s.d (vector_of s.polygons c) (vector_of s.polygons (corner_after s.polygons c))
  bends_after c h =
      subst (λ e. BendsNoRight s.d (vector_of s.polygons e) (vector_of s.polygons (corner_after s.polygons c))) (before-after_corner s.polygons c h)
      (bends_at s surface (corner_after s.polygons c) (has_after s.polygons c h))

  abbrev laws_of_gluing : AreGluedPolygons (quadratic s.d) (IsPositive s.d) (is_ahead s.d) (polygon_sides s.polygons)
  laws_of_gluing = record {
    next_side = has_after s.polygons;
    prev_side = has_before s.polygons;
    twin_side = has_partner s.polygons surface.glued;
    next_prev = after-before_corner s.polygons;
    prev_next = before-after_corner s.polygons;
    twin_twin = partner-partner s.polygons surface.glued;
    twin_other = partner-moved s.polygons surface.glued;
    twin_opposite = vector-partner s.polygons surface.glued;
    convex = bends_after;
    position = position_of s.polygons;
    position_next = λ c h. position_after s.polygons c h (polygon_in c h);
    sides = λ c. side_count s.polygons c.polygon;
    returns = returns_after s.polygons;
    turning_number = λ c h. rises_from_corner s.polygons c h s.d ∙ (polygon_in c h).turning_number;
  }

  -- the polygons of a surface are glued polygons
  pub glued_polygons : AreGluedPolygons (quadratic s.d) (IsPositive s.d) (is_ahead s.d) (polygon_sides s.polygons)
  glued_polygons = laws_of_gluing

-- what the lemmas on straight paths ask for: the order of the numbers, a test for half planes, and glued polygons, with the numbers of their sides
pub record HasPathLaws (s : GluedPolygons) : Type 0 where
  pub order : IsOrderedRing (quadratic s.d) (IsPositive s.d)
  pub test : DecidesHalfPlanes (quadratic s.d) (IsPositive s.d) (is_ahead s.d)
  pub glued : AreGluedPolygons (quadratic s.d) (IsPositive s.d) (is_ahead s.d) (polygon_sides s.polygons)
  pub counted : (c : Corner) → glued.sides c ≡ side_count s.polygons c.polygon

-- a surface has them
pub path_laws : (s : GluedPolygons) → IsTranslationSurface s → HasPathLaws s
path_laws s surface = record { order = field_order surface.radicand; test = decides_half_planes surface.radicand; glued = laws_of_gluing s surface; counted = λ c. refl }

-- any two ends of a path from a corner of a surface are the same
pub end_unique : (s : GluedPolygons) → IsTranslationSurface s → (c : Corner) → HasSide s.polygons c → (v : PlaneVector) (n : ℕ) (a o : PathEnd Corner)
    → IsEnd (quadratic s.d) (IsPositive s.d) (polygon_sides s.polygons) c v n a → IsEnd (quadratic s.d) (IsPositive s.d) (polygon_sides s.polygons) c v n o → a ≡ o
end_unique s surface c h v n = let laws = path_laws s surface in paths.end_unique laws.order laws.test laws.glued c v n h
