-- Where a path is in a polygon of a surface, from its start on.
use Rattle.std.proofs.Common.{◌≡◌, ℕ, ◌<◌, ◌≤◌, List, length, Result, Ok, refl, sym, subst, arith}
use Rattle.fs_lists.proofs.All.{All-slice_get}
use Rattle.fs_lists.proofs.Sums.{each_length}
use Rattle.fs_quadratic.specs.Ring.{Quadratic}
use Rattle.fs_plane.specs.declared.corners.Corner.{Corner}
use Rattle.fs_plane.specs.declared.sites.Site.{Site}
use Rattle.fs_plane.specs.Vector.{PlaneVector, vector_zero}
use Rattle.fs_paths.specs.SideGluing.{SideGluing}
use Rattle.fs_paths.specs.Passages.{begins}
use Rattle.fs_paths.specs.Ends.{PathEnd}
use Rattle.fs_paths.proofs.Developments as developments
use Rattle.fs_paths.proofs.Passages as passages
use Rattle.fs_gluing.specs.Limits.{most_sides}
use Rattle.fs_gluing.specs.NextCorner.{side_count}
use Rattle.fs_gluing.specs.Polygons.{HasSide}
use Rattle.fs_gluing.specs.Surface.{GluedPolygons, IsSurface}
use Rattle.fs_gluing.specs.SurfaceSides.{polygon_sides}
use Rattle.fs_gluing.proofs.SurfaceCalls.NextCorner.{in_polygon, count_is}
use Rattle.fs_gluing.proofs.Sides.GluedSurface.{path_laws}
use Rattle.fs_develop.specs.declared.entering.Entry.TheVariants.{Inside}
use Rattle.fs_develop.specs.declared.looking.Finding.TheVariants.{RightOfPath, Last}
use Rattle.fs_develop.specs.declared.looking.Departure.TheVariants.{Crosses}
use Rattle.fs_develop.specs.declared.spots.Spot.{Spot}
use Rattle.fs_develop.specs.Following.{first_entry, first_spot, next_finding, past_corner, past_side, GoesOn, FollowsTo, goes_on}
use Rattle.fs_develop.specs.Spots.{IsSpot, Passes, none, one_more}
use Rattle.fs_develop.proofs.Entries.{entry_says}
use Rattle.fs_develop.proofs.InPolygons.{spot_put, passed_in_polygon, spot_crosses, crossed_in_polygon}

module _ (d : ℕ) (G : SideGluing Corner Quadratic) (v : PlaneVector) where
  -- one corner more is passed
  pub passes_more : {at to : Spot} {corner : PlaneVector} → Passes d G v at to → next_finding d G v to ≡ Ok (RightOfPath corner) → Passes d G v at (past_corner G to corner)
  passes_more {at} {to} {corner} (none _) e = one_more at (past_corner G at corner) corner e (none (past_corner G at corner))
  passes_more {at} {to} {corner} (one_more _ _ first f rest) e = one_more at (past_corner G to corner) first f (passes_more rest e)

  -- what is found after corners are passed is found before
  pub follows_passed : (MayCross : List Corner → Corner → Type 0) {at to : Spot} {word : List Corner} {r : Result (PathEnd Corner) Site} → Passes d G v at to
      → FollowsTo d G v MayCross word to r → FollowsTo d G v MayCross word at r
  follows_passed MayCross (none _) h = h
  follows_passed MayCross {at} {to} {word} {r} (one_more _ _ corner f rest) h =
      goes_on word word at (past_corner G at corner) r (subst (λ found. GoesOn d G v MayCross word at found word (past_corner G at corner)) (sym f) (refl, refl)) (follows_passed MayCross rest h)

module _ (s : GluedPolygons) (surface : IsSurface s) (v : PlaneVector) where
  abbrev G : SideGluing Corner Quadratic
  G = polygon_sides s.polygons

  -- the side of a spot exists
  pub spot_side : (at : Spot) → IsSpot s.d G v at → HasSide s.polygons at.side
  spot_side at spot =
      let laws = path_laws s surface.surface in
      developments.put_is_side laws.order laws.test laws.glued spot.is_side (spot_put surface.radicand laws.test laws.glued v spot.in_polygon)

  few_sides : (c : Corner) → HasSide s.polygons c → side_count s.polygons c.polygon ≤ most_sides
  few_sides c h =
      let there = in_polygon s.polygons c h in
      subst (λ n. n ≤ most_sides) (sym (count_is s.polygons c there))
      (All-slice_get (λ polygon. length polygon ≤ most_sides) s.polygons c.polygon there.polygon (each_length s.polygons most_sides surface.sides) there.is)

  -- a polygon has few corners that are right of the path
  pub few_corners : (at : Spot) → IsSpot s.d G v at → at.corners < most_sides
  few_corners at spot =
      let laws = path_laws s surface.surface in
      let below = passages.right_corners_below_sides laws.order laws.test laws.glued spot.is_side spot.comes spot.in_polygon.number spot.in_polygon.right in
      let few : laws.glued.sides spot.first ≤ most_sides = subst (λ n. n ≤ most_sides) (sym (laws.counted spot.first)) (few_sides spot.first spot.is_side) in
      let counted = spot.in_polygon.counted in
      omega arith

  -- a path that begins inside the sector of a corner is there
  pub first_is_spot : (c : Corner) → HasSide s.polygons c → first_entry s.d G v c ≡ Ok Inside → IsSpot s.d G v (first_spot c)
  first_is_spot c h e =
      let says = entry_says surface.radicand (G.vector c) (G.vector (G.prev c)) v Inside e in
      record {
        first = c;
        put = vector_zero;
        is_side = h;
        comes = begins refl (record { left_of_start = says.0; right_of_end = says.1 });
        in_polygon = record { number = 0; side = refl; from = refl; right = λ j l m. absurd (omega arith); counted = omega arith };
      }

  -- it is at the next spot, where a corner right of the path is passed
  pub passed_is_spot : (at : Spot) (corner : PlaneVector) → IsSpot s.d G v at → next_finding s.d G v at ≡ Ok (RightOfPath corner) → IsSpot s.d G v (past_corner G at corner)
  passed_is_spot at corner spot e =
      let laws = path_laws s surface.surface in
      record { first = spot.first; put = spot.put; is_side = spot.is_side; comes = spot.comes; in_polygon = passed_in_polygon surface.radicand laws.test laws.glued v spot.in_polygon corner e }

  -- and in the next polygon, where it crosses a side
  pub crossed_is_spot : (at : Spot) → IsSpot s.d G v at → next_finding s.d G v at ≡ Ok (Last Crosses) → IsSpot s.d G v (past_side G at)
  crossed_is_spot at spot e =
      let laws = path_laws s surface.surface in
      let put = spot_put surface.radicand laws.test laws.glued v spot.in_polygon in
      let crossed = spot_crosses surface.radicand laws.test laws.glued v spot.in_polygon spot.comes e in
      record {
        first = G.twin at.side;
        put = _;
        is_side = laws.glued.twin_side at.side (spot_side at spot);
        comes = passages.comes_into_next laws.order laws.test laws.glued spot.is_side spot.comes put crossed;
        in_polygon = crossed_in_polygon surface.radicand laws.test laws.glued v spot.in_polygon spot.is_side spot.comes e;
      }
