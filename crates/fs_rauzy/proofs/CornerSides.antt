-- The corners of a polygon of a surface, seen from one of its sides, by their positions in the polygon. A library for crates to come.
use Rattle.std.proofs.Common.{◌≡◌, ℕ, zero, suc, ◌+◌, ◌<◌, Bool, [], refl, sym, ap, ◌∙◌, subst, inl, inr, arith}
use Rattle.std.proofs.lemmas.Option.{unwrap_or-slice_get}
use Rattle.fs_lists.proofs.All.{All-slice_get}
use Rattle.fs_cycles.proofs.Iterates.{iterate_after}
use Rattle.fs_ring.specs.Operations.{Operations}
use Rattle.fs_ring.specs.OrderedRing.{IsOrderedRing, IsNonNegative}
use Rattle.fs_ring.specs.Vector.{Vector, add_vector, sub_vector, cross}
use Rattle.fs_ring.specs.Direction.{IsAlong, InHalfPlane, at_start, inside}
use Rattle.fs_ring.proofs.Signs as signs
use Rattle.fs_ring.proofs.Directions as directions
use Rattle.fs_quadratic.specs.Ring.{quadratic, IsPositive as IsPositiveNumber}
use Rattle.fs_plane.specs.declared.corners.Corner.{Corner}
use Rattle.fs_plane.specs.Vector.{PlaneVector}
use Rattle.fs_convex.specs.Turning.{DecidesHalfPlanes}
use Rattle.fs_convex.specs.Polygon.{IsConvexPolygon, position}
use Rattle.fs_convex.proofs.Corners.{sides_to_corner_on_line}
use Rattle.fs_convex.proofs.Winding as winding
use Rattle.fs_paths.specs.Development.{IsPutAt}
use Rattle.fs_paths.specs.SideGluing.{nth_side, sides_from}
use Rattle.fs_paths.proofs.Developments.{put_polygon, put_below}
use Rattle.fs_paths.proofs.PutPolygons.{put_from, put_not_right}
use Rattle.fs_gluing.specs.FirstCut.{position_in}
use Rattle.fs_gluing.specs.NextCorner.{corner_after}
use Rattle.fs_gluing.specs.Polygons.{HasSide}
use Rattle.fs_gluing.specs.Surface.{GluedPolygons, IsTranslationSurface, IsPolygon, side_vectors}
use Rattle.fs_gluing.specs.SurfaceSides.{vector_of, polygon_sides}
use Rattle.fs_gluing.specs.Convex.{corner_position}
use Rattle.fs_gluing.proofs.Sides.AllSides.{corner}
use Rattle.fs_gluing.proofs.Sides.GluedSurface.{path_laws}
use Rattle.fs_gluing.proofs.Sides.SidesInTurn.{position_of, position_after}
use Rattle.fs_gluing.proofs.SurfaceCalls.NextCorner.{in_polygon, has_after}
use Rattle.fs_iet.proofs.PolygonMeasures.{first_corner}
use Rattle.fs_iet.proofs.PolygonSides.{number_from}
use Rattle.fs_iet.proofs.SidesOfRows.{polygon_exists}

module _ {A : Type 0} {R : Operations A} {IsPositive : A → Type 0} (L : IsOrderedRing R IsPositive) {is_ahead : Vector A → Vector A → Bool} (test : DecidesHalfPlanes R IsPositive is_ahead)
    {n : ℕ} {s q : ℕ → Vector A} (p : IsConvexPolygon R IsPositive is_ahead n s q) where
  -- a side that turns by no more than half a turn from one along side 0, and is parallel to this, is along it
  along_after_along : {x y : Vector A} → IsAlong R IsPositive (s 0) x → InHalfPlane R IsPositive x y → cross R (s 0) y ≡ R.zero → IsAlong R IsPositive (s 0) y
  along_after_along h (at_start k) e = directions.along_trans L h k
  along_after_along {x} {y} h (inside k) e = absurd (signs.positive-ne-zero L (directions.along_cross L y (directions.along_comm L h) k) e)

  -- a side that begins on the line of side 0 and is parallel to it is along it
  pub parallel_on_line_along : (k : ℕ) → k < n → cross R (s 0) (sub_vector R (q k) (q 0)) ≡ R.zero → cross R (s 0) (s k) ≡ R.zero → IsAlong R IsPositive (s 0) (s k)
  parallel_on_line_along zero l on e = directions.along_self L (s 0) (winding.side-ne-zero L test p.convex 0)
  parallel_on_line_along (suc k) l on e = elim (sides_to_corner_on_line L test p (suc k) (omega arith) on) [
    | inl before ↦ along_after_along (before k (omega arith)) (p.convex k) e
    | inr after ↦ after (suc k) (omega arith) l
  ]

-- the position of a corner in its polygon
abbrev pub place : GluedPolygons → Corner → PlaneVector
place s c = position_in s c.polygon c.side

module _ (s : GluedPolygons) (surface : IsTranslationSurface s) where
  place_is : (c : Corner) → place s c ≡ position_of s.polygons c
  place_is c = ap (λ polygon. corner_position (side_vectors polygon) c.side) (sym (unwrap_or-slice_get s.polygons c.polygon []))

  polygon_in : (c : Corner) (h : HasSide s.polygons c) → IsPolygon s.straight s.d (side_vectors (in_polygon s.polygons c h).polygon)
  polygon_in c h =
      let there = in_polygon s.polygons c h in
      All-slice_get (λ polygon. IsPolygon s.straight s.d (side_vectors polygon)) s.polygons c.polygon there.polygon surface.each there.is

  -- a side leads from its corner to the next one
  pub place_after : (e : Corner) → HasSide s.polygons e → place s (corner_after s.polygons e) ≡ add_vector (quadratic s.d) (place s e) (vector_of s.polygons e)
  place_after e h =
      place_is (corner_after s.polygons e) ∙ position_after s.polygons e h (polygon_in e h) ∙ ap (λ p. add_vector (quadratic s.d) p (vector_of s.polygons e)) (sym (place_is e))

  abbrev Put : Corner → Corner → Type 0
  Put b c = IsPutAt (quadratic s.d) (polygon_sides s.polygons) b (place s b) c (place s c)

  nth_there : (b : Corner) → HasSide s.polygons b → (k : ℕ) → HasSide s.polygons (nth_side (polygon_sides s.polygons) b k)
  nth_there b h zero = h
  nth_there b h (suc k) = subst (HasSide s.polygons) (sym (iterate_after (corner_after s.polygons) k b)) (has_after s.polygons (nth_side (polygon_sides s.polygons) b k) (nth_there b h k))

  place_by_number : (b : Corner) → HasSide s.polygons b → (k : ℕ) → position (quadratic s.d) (place s b) (sides_from (polygon_sides s.polygons) b) k ≡ place s (nth_side (polygon_sides s.polygons) b k)
  place_by_number b h zero = refl
  place_by_number b h (suc k) =
      let c = nth_side (polygon_sides s.polygons) b k in
      ap (λ p. add_vector (quadratic s.d) p (vector_of s.polygons c)) (place_by_number b h k)
      ∙ sym (place_after c (nth_there b h k)) ∙ ap (place s) (sym (iterate_after (corner_after s.polygons) k b))

  put_by_number : (b c : Corner) (k : ℕ) → HasSide s.polygons b → nth_side (polygon_sides s.polygons) b k ≡ c → Put b c
  put_by_number b c k h e = record { number = k; side = e; corner = place_by_number b h k ∙ ap (place s) e }

  put_from_first : (i : ℕ) → HasSide s.polygons (corner i 0) → (c : Corner) → HasSide s.polygons c → c.polygon ≡ i → Put (corner i 0) c
  put_from_first i first c h same = let k = number_from s.polygons i first 0 c h same in put_by_number (corner i 0) c (0 + k.0) first k.2

  module _ (e c : Corner) (he : HasSide s.polygons e) (hc : HasSide s.polygons c) (same : c.polygon ≡ e.polygon) where
    first : HasSide s.polygons (corner e.polygon 0)
    first = first_corner s surface e.polygon (polygon_exists s.polygons e he)

    -- no corner of a polygon is right of a side
    pub corner_not_right_of_side : IsNonNegative (quadratic s.d) (IsPositiveNumber s.d) (cross (quadratic s.d) (vector_of s.polygons e) (sub_vector (quadratic s.d) (place s c) (place s e)))
    corner_not_right_of_side =
        let laws = path_laws s surface in
        put_not_right laws.order laws.test laws.glued first (put_from_first e.polygon first e he refl) (put_from_first e.polygon first c hc same)

    -- a side that begins on the line of another one, and is parallel to it, is along it
    pub parallel_side_along : cross (quadratic s.d) (vector_of s.polygons e) (sub_vector (quadratic s.d) (place s c) (place s e)) ≡ (quadratic s.d).zero
        → cross (quadratic s.d) (vector_of s.polygons e) (vector_of s.polygons c) ≡ (quadratic s.d).zero
        → IsAlong (quadratic s.d) (IsPositiveNumber s.d) (vector_of s.polygons e) (vector_of s.polygons c)
    parallel_side_along on parallel =
        let laws = path_laws s surface in
        let R = quadratic s.d in
        let put = put_from laws.order laws.test laws.glued first (put_from_first e.polygon first e he refl) (put_from_first e.polygon first c hc same) in
        let below = put_below laws.order laws.test laws.glued he put in
        subst (λ x. IsAlong R (IsPositiveNumber s.d) (vector_of s.polygons e) (vector_of s.polygons x)) below.2
        (parallel_on_line_along laws.order laws.test (put_polygon laws.order laws.test laws.glued e (place s e) he) below.0 below.1
        (subst (λ q. cross R (vector_of s.polygons e) (sub_vector R q (place s e)) ≡ R.zero) (sym below.3) on)
        (subst (λ x. cross R (vector_of s.polygons e) (vector_of s.polygons x) ≡ R.zero) (sym below.2) parallel))
