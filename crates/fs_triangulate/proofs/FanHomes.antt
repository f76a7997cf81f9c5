-- Each half-edge of the first cut begins at a corner of the surface whose sector holds its vector.
use Rattle.std.proofs.Common.{◌≡◌, ℕ, ◌+◌, ◌-◌, ◌<◌, false, List, [], ◌∷◌, length, refl, sym, ap, ◌∙◌, subst, arith}
use Rattle.std.specs.Prelude.{Some}
use Rattle.std.specs.List.{slice_get}
use Rattle.std.proofs.lemmas.Bool.Decides.{nat_tests}
use Rattle.std.proofs.lemmas.List.{length-map}
use Rattle.std.proofs.lemmas.Option.{get_or_from_slice_get}
use Rattle.fs_ring.specs.Direction as direction
use Rattle.fs_ring.specs.OrderedRing.{IsOrderedRing}
use Rattle.fs_ring.specs.Vector.{sub_vector, neg_vector, cross}
use Rattle.fs_ring.proofs.Directions.{along_self, cross_positive-ne-zero_left}
use Rattle.fs_ring.proofs.Signs as signs
use Rattle.fs_ring.proofs.Solver.{expressions as E, ◌≐◌}
use Rattle.fs_ring.proofs.PlaneSolver.{plane_identity}
use Rattle.fs_quadratic.specs.Ring.{quadratic, IsPositive}
use Rattle.fs_quadratic.proofs.Laws.{field_order}
use Rattle.fs_plane.specs.declared.corners.Corner.{Corner}
use Rattle.fs_plane.specs.Vector.{PlaneVector}
use Rattle.fs_gluing.specs.declared.surfaces.Side.{Side}
use Rattle.fs_gluing.specs.declared.triangulations.Triangles.{Triangles}
use Rattle.fs_gluing.specs.FirstCut.{fans_from, way_start, all_ways}
use Rattle.fs_gluing.specs.Homes.{home_of, HasHomes, IsInCorner}
use Rattle.fs_gluing.specs.NextCorner.{side_count, side_before}
use Rattle.fs_gluing.specs.Polygons.{HasSide}
use Rattle.fs_gluing.specs.Surface.{GluedPolygons, IsTranslationSurface}
use Rattle.fs_gluing.specs.SurfaceSides.{vector_of}
use Rattle.fs_gluing.specs.Triangulation.{Triangulation, triangulation_of, edge_vector}
use Rattle.fs_gluing.proofs.Sides.AllSides.{corner}
use Rattle.fs_gluing.proofs.Sides.SidesInTurn.{position_of}
use Rattle.fs_triangulate.specs.Fans.{HasTriangles}
use Rattle.fs_triangulate.proofs.FaceCounts.{length-all_ways}
use Rattle.fs_triangulate.proofs.FanHalfEdges as fan
use Rattle.fs_triangulate.proofs.FanHalfEdges.{along_side, to_first, from_first}
use Rattle.fs_triangulate.proofs.GluedWays.{has_corner}
use Rattle.fs_triangulate.proofs.StrictPolygons.{convex_after, fan_left, left_of_last, left_of_side, position_in_is, side_between, nth_on}

module _ (s : GluedPolygons) (surface : IsTranslationSurface s) (strict : s.straight ≡ false) (triangles : Triangles) (cut : HasTriangles s (fans_from 0 s.polygons) triangles) where
  abbrev polygons : List (List Side)
  polygons = s.polygons

  abbrev T : Triangulation
  T = triangulation_of triangles

  abbrev order : IsOrderedRing (quadratic s.d) (IsPositive s.d)
  order = field_order surface.radicand

  -- a side is in the sector of the corner where it begins
  side_in_corner : (c : Corner) → HasSide polygons c → IsInCorner s c (vector_of polygons c)
  side_in_corner c has = direction.at_start (along_self order (vector_of polygons c) (cross_positive-ne-zero_left order (convex_after s surface strict c has)))

  module _ (i : ℕ) where
    abbrev n : ℕ
    n = side_count polygons i

    abbrev at : ℕ → PlaneVector
    at j = position_of polygons (corner i j)

    -- a diagonal back to corner 0 is in the sector of the corner where it begins
    diagonal_back : (t : ℕ) → t + 3 < n → IsInCorner s (corner i (t + 2)) (sub_vector (quadratic s.d) (at 0) (at (t + 2)))
    diagonal_back t l =
        let next : t + 2 + 1 ≡ t + 1 + 2 = omega arith in
        let same : t + 1 + 1 ≡ t + 2 = omega arith in
        direction.InSector.inside
        (signs.positive_of_eq order
        (ap (λ v. cross (quadratic s.d) v (sub_vector (quadratic s.d) (at 0) (at (t + 2)))) (side_between s surface strict i (t + 2) (omega arith) ∙ ap (λ j. sub_vector (quadratic s.d) (at j) (at (t + 2))) next)
        ∙ plane_identity order.ring [] (at (t + 1 + 2) ∷ at 0 ∷ at (t + 2) ∷ [])
        (λ c o b. cross E (sub_vector E c b) (sub_vector E o b) ≐ cross E (sub_vector E b o) (sub_vector E c b)) refl
        ∙ ap (λ j. cross (quadratic s.d) (sub_vector (quadratic s.d) (at j) (at 0)) (sub_vector (quadratic s.d) (at (t + 1 + 2)) (at j))) (sym same))
        (fan_left s surface strict i (t + 1) (omega arith)))
        (signs.positive_of_eq order
        (ap (λ c. cross (quadratic s.d) (sub_vector (quadratic s.d) (at 0) (at (t + 2))) (neg_vector (quadratic s.d) (vector_of polygons c))) (before_second t)
        ∙ ap (λ v. cross (quadratic s.d) (sub_vector (quadratic s.d) (at 0) (at (t + 2))) (neg_vector (quadratic s.d) v))
        (side_between s surface strict i (t + 1) (omega arith) ∙ ap (λ j. sub_vector (quadratic s.d) (at j) (at (t + 1))) same)
        ∙ plane_identity order.ring [] (at (t + 1) ∷ at 0 ∷ at (t + 2) ∷ [])
        (λ a o b. cross E (sub_vector E o b) (neg_vector E (sub_vector E b a)) ≐ cross E (sub_vector E a o) (sub_vector E b a)) refl)
        (fan_left s surface strict i t (omega arith)))
      where
        before_second : (t : ℕ) → side_before polygons (corner i (t + 2)) ≡ corner i (t + 1)
        before_second t = ap (corner i) (grind (arith, nat_tests))

    -- a diagonal from corner 0 is in its sector
    diagonal_on : (t : ℕ) → t + 3 < n → IsInCorner s (corner i 0) (sub_vector (quadratic s.d) (at (t + 2)) (at 0))
    diagonal_on t l =
        let there = nth_on polygons i (t + 2) 0 (omega arith) in
        let same : 0 + (t + 2) ≡ t + 2 = omega arith in
        direction.InSector.inside
        (subst (λ x. IsPositive s.d (cross (quadratic s.d) (vector_of polygons (corner i 0)) (sub_vector (quadratic s.d) (position_of polygons x) (at 0)))) (there ∙ ap (corner i) same)
        (left_of_side s surface strict (corner i 0) (has_corner polygons (corner i 0) (omega arith)) (t + 2) (omega arith) (omega arith)))
        (signs.positive_of_eq order
        (plane_identity order.ring [] (vector_of polygons (corner i (n - 1)) ∷ at (t + 2) ∷ at 0 ∷ [])
        (λ v b o. cross E (sub_vector E b o) (neg_vector E v) ≐ cross E v (sub_vector E b o)) refl)
        (left_of_last s surface strict i t l))

  -- what is to be shown of a half-edge
  abbrev HasHome : ℕ → Type 0
  HasHome h = HasSide polygons (home_of triangles.homes h) × IsInCorner s (home_of triangles.homes h) (edge_vector T h)

  has_home : (h : ℕ) (c : Corner) (v : PlaneVector) → slice_get triangles.homes h ≡ Some c → edge_vector T h ≡ v → HasSide polygons c → IsInCorner s c v → HasHome h
  has_home h c v home vector has inside =
      let is = get_or_from_slice_get triangles.homes h c (corner 0 0) home in
      (subst (HasSide polygons) (sym is) has, subst (λ c. IsInCorner s c (edge_vector T h)) (sym is) (subst (IsInCorner s c) (sym vector) inside))

  home_at : (h : ℕ) → h < length T.vectors → HasHome h
  home_at h l = elim (fan.fan_kind s triangles cut surface h l) [
    | along_side c has e ↦
        has_home h c (vector_of polygons c) (ap (slice_get triangles.homes) e ∙ fan.home_half s triangles cut surface c has) (ap (edge_vector T) e ∙ fan.vector_half s triangles cut surface c has) has
        (side_in_corner c has)
    | to_first i t there inside e ↦
        let runs = fan.third_runs s triangles cut i t (omega arith) in
        has_home h (corner i (t + 2)) (sub_vector (quadratic s.d) (at i 0) (at i (t + 2))) (ap (slice_get triangles.homes) e ∙ runs.home)
        (ap (edge_vector T) e ∙ runs.vector ∙ (λ k. sub_vector (quadratic s.d) (position_in_is s i 0 k) (position_in_is s i (t + 2) k)))
        (has_corner polygons (corner i (t + 2)) (omega arith)) (diagonal_back i t inside)
    | from_first i t there inside e ↦
        let runs = fan.first_runs s triangles cut i (t + 1) (omega arith) in
        let same : t + 1 + 1 ≡ t + 2 = omega arith in
        has_home h (corner i 0) (sub_vector (quadratic s.d) (at i (t + 2)) (at i 0)) (ap (slice_get triangles.homes) e ∙ runs.home)
        (ap (edge_vector T) e ∙ runs.vector ∙ (λ k. sub_vector (quadratic s.d) (position_in_is s i (t + 1 + 1) k) (position_in_is s i 0 k)) ∙ ap (λ j. sub_vector (quadratic s.d) (at i j) (at i 0)) same)
        (has_corner polygons (corner i 0) (omega arith)) (diagonal_on i t inside)
  ]

  -- the homes of the first cut
  pub fan_has_homes : HasHomes s T triangles.homes
  fan_has_homes = record {
    as_many = ap length cut.homes ∙ length-map (all_ways (fans_from 0 polygons)) way_start ∙ length-all_ways polygons ∙ sym (fan.vectors_length s triangles cut);
    corner = λ h l. (home_at h l).0;
    holds = λ h l. (home_at h l).1;
  }
