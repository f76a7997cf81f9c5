-- A list of cuts leads from a surface without straight corners to the faces of its first cut, and carries each half-edge from its home.
use Rattle.std.proofs.Common.{◌≡◌, ◌⊎◌, ℕ, zero, suc, ◌+◌, ◌-◌, ◌*◌, ◌<◌, ◌≤◌, false, eqb, List, [], ◌∷◌, ◌++◌, length, map, refl, sym, ap, ◌∙◌, subst, inl, inr, arith}
use Rattle.std.specs.Prelude.{Some}
use Rattle.std.specs.List.{range_with_len, slice_get}
use Rattle.std.proofs.lemmas.Bool.{eqb-true, eq-eqb}
use Rattle.std.proofs.lemmas.Option.{get_or_from_slice_get}
use Rattle.fs_lists.specs.Members.{IsIn, IsDistinct}
use Rattle.fs_lists.proofs.Members.{in_map, in_map_cases}
use Rattle.fs_lists.proofs.Ranges.{in_range, range_bounds, range_distinct}
use Rattle.fs_ring.specs.OrderedRing.{IsOrderedRing}
use Rattle.fs_ring.specs.Vector.{add_vector, sub_vector, neg_vector, cross}
use Rattle.fs_ring.specs.Direction.{InHalfPlane, inside}
use Rattle.fs_ring.proofs.Solver.{expressions as E}
use Rattle.fs_ring.proofs.PlaneSolver.{vector_identity, ◌≐ᵥ◌}
use Rattle.fs_quadratic.specs.Ring.{Quadratic, quadratic, IsPositive}
use Rattle.fs_quadratic.proofs.Laws.{field_order}
use Rattle.fs_plane.specs.declared.corners.Corner.{Corner}
use Rattle.fs_paths.specs.SideGluing.{SideGluing, IsSide}
use Rattle.fs_cuts.specs.EdgeRemoval.{TellsNames}
use Rattle.fs_cuts.specs.Renumberings.{IsRenumbering}
use Rattle.fs_carried.specs.Carried.{AreEqualWithHomes}
use Rattle.fs_triangles.specs.Ears.{Ear}
use Rattle.fs_triangles.proofs.EarCuts.{IsFaceOf, half_edges_of}
use Rattle.fs_triangles.proofs.PolygonsUncut.{CutPolygon, IsCutPolygon, AreUncut, all_half_edges, polygons_joined}
use Rattle.fs_gluing.specs.declared.surfaces.Side.{Side}
use Rattle.fs_gluing.specs.declared.triangulations.Triangles.{Triangles}
use Rattle.fs_gluing.specs.Polygons.{HasSide}
use Rattle.fs_gluing.specs.Surface.{GluedPolygons, IsTranslationSurface}
use Rattle.fs_gluing.specs.SurfaceSides.{vector_of, polygon_sides, is_ahead}
use Rattle.fs_gluing.specs.FirstCut.{fans_from, position_in}
use Rattle.fs_gluing.specs.NextCorner.{side_count, corner_after}
use Rattle.fs_gluing.specs.Homes.{home_of}
use Rattle.fs_gluing.specs.Triangulation.{Triangulation, triangulation_of, edge_vector, face_sides, next_in_face}
use Rattle.fs_gluing.proofs.Sides.AllSides.{corner}
use Rattle.fs_gluing.proofs.Sides.HalfPlaneTests.{decides_half_planes}
use Rattle.fs_triangulate.specs.Fans.{HasTriangles, faces_before}
use Rattle.fs_triangulate.proofs.FaceNumbers.{next_first, next_second, next_third}
use Rattle.fs_triangulate.proofs.FanEars.{fan_ear, IsFan, AreFanEars, fan_is_ears, fan_begins, round_of, of_round, all_in_range}
use Rattle.fs_triangulate.proofs.FaceCounts.{all_faces, face_below}
use Rattle.fs_triangulate.proofs.GluedWays.{has_corner, three_sides_of}
use Rattle.fs_triangulate.proofs.FaceBases.{no_faces, faces_more}
use Rattle.fs_triangulate.proofs.SideNumbers.{half_edge, half_first, half_between, half_last}
use Rattle.fs_triangulate.proofs.FanHalfEdges as fan
use Rattle.fs_triangulate.proofs.FanTriangulation as whole
use Rattle.fs_triangulate.proofs.StrictPolygons.{corner_after-next, corner_after-last, convex_after, left_of_last, position_in_is}

tells : TellsNames eqb
tells x y = (eqb-true x y, eq-eqb x y)

-- ---- ranges

range_joined : (a m n : ℕ) → range_with_len a m ++ range_with_len (a + m) n ≡ range_with_len a (m + n)
range_joined a zero n =
    let start : a + zero ≡ a = omega arith in
    let same : n ≡ zero + n = omega arith in
    ap (λ i. range_with_len i n) start ∙ ap (range_with_len a) same
range_joined a (suc m) n =
    let start : a + suc m ≡ a + 1 + m = omega arith in
    let same : suc (m + n) ≡ suc m + n = omega arith in
    ap (λ i. a ∷ range_with_len (a + 1) m ++ range_with_len i n) start ∙ ap (λ l. a ∷ l) (range_joined (a + 1) m n) ∙ ap (range_with_len a) same

faces_before-most : (polygons : List (List Side)) (k : ℕ) → faces_before polygons k ≤ all_faces polygons
faces_before-most [] k = omega arith
faces_before-most (polygon ∷ polygons) zero = omega arith
faces_before-most (polygon ∷ polygons) (suc k) = let more = faces_before-most polygons k in omega arith

module _ (s : GluedPolygons) (surface : IsTranslationSurface s) (triangles : Triangles) (cut : HasTriangles s (fans_from 0 s.polygons) triangles) (strict : s.straight ≡ false) where
  abbrev polygons : List (List Side)
  polygons = s.polygons

  abbrev T : Triangulation
  T = triangulation_of triangles

  abbrev G : SideGluing ℕ Quadratic
  G = face_sides T

  abbrev order : IsOrderedRing (quadratic s.d) (IsPositive s.d)
  order = field_order surface.radicand

  -- the corner at which a half-edge begins
  abbrev home : ℕ → Corner
  home h = home_of triangles.homes h

  home_is : (h : ℕ) (c : Corner) → slice_get triangles.homes h ≡ Some c → home h ≡ c
  home_is h c e = get_or_from_slice_get triangles.homes h c (corner 0 0) e

  home_along : (c : Corner) → HasSide polygons c → home (half_edge polygons c) ≡ c
  home_along c h = home_is (half_edge polygons c) c (fan.home_half s triangles cut surface c h)

  -- the half-edge along the side that begins there
  abbrev home_side : ℕ → ℕ
  home_side h = half_edge polygons (home h)

  -- ---- the fan of polygon i

  module _ (i : ℕ) where
    abbrev n : ℕ
    n = side_count polygons i

    abbrev first : ℕ → ℕ
    first t = 3 * (faces_before polygons i + t) + 0

    abbrev third : ℕ → ℕ
    third t = 3 * (faces_before polygons i + t) + 2

    abbrev side : ℕ → ℕ
    side j = half_edge polygons (corner i j)

    -- triangle t by its half-edges
    abbrev face : ℕ → Ear ℕ
    face = fan_ear (quadratic s.d) (IsPositive s.d) G first third side n

    -- polygon i and its triangles
    abbrev cut_polygon : CutPolygon ℕ
    cut_polygon = record { boundary = map side (range_with_len 0 (suc (suc (suc (n - 3))))); ears = map face (range_with_len 0 (suc (n - 3))) }

    module _ (there : i < length polygons) where
      three : 3 ≤ n
      three = three_sides_of s surface i there

      side_vector : (t : ℕ) → t + 3 ≤ n → edge_vector T (side (t + 1)) ≡ sub_vector (quadratic s.d) (position_in s i (t + 2)) (position_in s i (t + 1))
      side_vector t l = ap (edge_vector T) (half_between polygons i t (omega arith)) ∙ (fan.second_runs s triangles cut i t (omega arith)).vector

      first_vector : (t : ℕ) → t + 3 ≤ n → edge_vector T (first t) ≡ sub_vector (quadratic s.d) (position_in s i (t + 1)) (position_in s i 0)
      first_vector t l = (fan.first_runs s triangles cut i t (omega arith)).vector

      third_vector : (t : ℕ) → t + 3 ≤ n → edge_vector T (third t) ≡ sub_vector (quadratic s.d) (position_in s i 0) (position_in s i (t + 2))
      third_vector t l = (fan.third_runs s triangles cut i t (omega arith)).vector

      is_fan : IsFan (quadratic s.d) (IsPositive s.d) G first third side n
      is_fan = record {
        last_third = let e : n - 3 + 2 ≡ n - 1 = omega (arith, three) in sym (half_last polygons i (n - 3) (omega (arith, three))) ∙ ap side e;
        diagonal = λ t l. fan.twin_third s triangles cut i t l;
        sum = λ t l.
            let same : t + 1 + 1 ≡ t + 2 = omega arith in
            first_vector (t + 1) (omega arith)
            ∙ ap (λ j. sub_vector (quadratic s.d) (position_in s i j) (position_in s i 0)) same
            ∙ vector_identity order.ring [] (position_in s i 0 ∷ position_in s i (t + 1) ∷ position_in s i (t + 2) ∷ [])
            (λ o p q. sub_vector E q o ≐ᵥ add_vector E (sub_vector E p o) (sub_vector E q p)) refl
            ∙ sym (λ k. add_vector (quadratic s.d) (first_vector t (omega arith) k) (side_vector t (omega arith) k));
        counterclockwise = λ t l.
            subst (λ x. IsPositive s.d (cross (quadratic s.d) (edge_vector T (first t)) (edge_vector T x))) (sym (half_between polygons i t (omega arith)))
            (whole.face_left s surface triangles cut strict (faces_before polygons i + t) (face_below polygons i t (omega arith)));
        at_first = λ t l.
            let same : t + 1 + 1 ≡ t + 2 = omega arith in
            subst (λ v. IsPositive s.d (cross (quadratic s.d) v (edge_vector T (first (t + 1))))) (sym (fan.vector_half s triangles cut surface (corner i (n - 1)) (has_corner polygons (corner i (n - 1)) (omega arith))))
            (subst (λ v. IsPositive s.d (cross (quadratic s.d) (vector_of polygons (corner i (n - 1))) v))
            (sym (first_vector (t + 1) (omega arith) ∙ ap (λ j. sub_vector (quadratic s.d) (position_in s i j) (position_in s i 0)) same
            ∙ (λ k. sub_vector (quadratic s.d) (position_in_is s i (t + 2) k) (position_in_is s i 0 k))))
            (left_of_last s surface strict i t l));
      }

      is_face : (t : ℕ) → t + 3 ≤ n → IsFaceOf (quadratic s.d) G (face t)
      is_face t l =
          let f = faces_before polygons i + t in
          let below = face_below polygons i t (omega arith) in
          let second = half_between polygons i t (omega arith) in
          record {
            first_side = whole.of_faces s surface triangles cut (3 * f + 0) (omega arith);
            second_side = subst (IsSide G) (sym second) (whole.of_faces s surface triangles cut (3 * f + 1) (omega arith));
            diagonal_side = whole.of_faces s surface triangles cut (3 * f + 2) (omega arith);
            next_first = next_first f ∙ sym second;
            next_second = ap next_in_face second ∙ next_second f;
            next_diagonal = next_third f;
            closed = third_vector t l
                ∙ vector_identity order.ring [] (position_in s i 0 ∷ position_in s i (t + 1) ∷ position_in s i (t + 2) ∷ [])
                (λ o p q. sub_vector E o q ≐ᵥ neg_vector E (add_vector E (sub_vector E p o) (sub_vector E q p))) refl
                ∙ sym (λ k. neg_vector (quadratic s.d) (add_vector (quadratic s.d) (first_vector t l k) (side_vector t l k)));
          }

      side_bends : (j k : ℕ) → j < n → k < n → corner_after polygons (corner i j) ≡ corner i k → InHalfPlane (quadratic s.d) (IsPositive s.d) (edge_vector T (side j)) (edge_vector T (side k))
      side_bends j k l m e =
          subst (λ v. InHalfPlane (quadratic s.d) (IsPositive s.d) v (edge_vector T (side k))) (sym (fan.vector_half s triangles cut surface (corner i j) (has_corner polygons (corner i j) l)))
          (subst (InHalfPlane (quadratic s.d) (IsPositive s.d) (vector_of polygons (corner i j)))
          (ap (vector_of polygons) e ∙ sym (fan.vector_half s triangles cut surface (corner i k) (has_corner polygons (corner i k) m)))
          (inside (convex_after s surface strict (corner i j) (has_corner polygons (corner i j) l))))

      fan_ears : AreFanEars (quadratic s.d) (IsPositive s.d) G first third side n 0 (n - 3) cut_polygon.boundary (side 0)
      fan_ears =
          subst (λ x. AreFanEars (quadratic s.d) (IsPositive s.d) G first third side n 0 (n - 3) (x ∷ map side (range_with_len (0 + 1) (suc (suc (n - 3))))) x)
          (sym (half_first polygons i three)) (fan_is_ears (quadratic s.d) (IsPositive s.d) G first third side n is_fan (n - 3) 0 (omega (arith, three)))

      is_cut_polygon : IsCutPolygon (quadratic s.d) (IsPositive s.d) (is_ahead s.d) G G home_side cut_polygon
      is_cut_polygon = record {
        ears = fan_ears.ears;
        begins = fan_begins (quadratic s.d) (IsPositive s.d) G first third side n 0 (n - 3) cut_polygon.boundary (side 0) fan_ears home_side
            (λ j l m. ap (half_edge polygons) (home_is (first j) (corner i 0) (fan.first_runs s triangles cut i j (omega (arith, three))).home))
            (λ j l m. ap (half_edge polygons) (home_along (corner i (j + 1)) (has_corner polygons (corner i (j + 1)) (omega (arith, three)))))
            (λ j l m. ap (half_edge polygons) (home_is (third j) (corner i (j + 2)) (fan.third_runs s triangles cut i j (omega (arith, three))).home));
        faces = all_in_range face (IsFaceOf (quadratic s.d) G) 0 (suc (n - 3)) (λ t a l. is_face t (omega (arith, three)));
        bends = round_of (quadratic s.d) (IsPositive s.d) G first third side n (λ x y. InHalfPlane (quadratic s.d) (IsPositive s.d) (edge_vector T x) (edge_vector T y)) (suc (suc (n - 3)))
            (λ j l. side_bends j (j + 1) (omega (arith, three)) (omega (arith, three)) (corner_after-next polygons i j (omega (arith, three))))
            (side_bends (suc (suc (n - 3))) 0 (omega (arith, three)) (omega (arith, three)) (corner_after-last polygons i (suc (suc (n - 3))) (omega (arith, three))));
      }

      -- the half-edges of the triangles in order
      half_edges_between : (t m : ℕ) → t + m + 2 ≤ n → half_edges_of (map face (range_with_len t m)) ≡ range_with_len (first t) (3 * m)
      half_edges_between t zero l = refl
      half_edges_between t (suc m) l =
          let second : side (t + 1) ≡ first t + 1 = half_between polygons i t (omega arith) ∙ (let e : 3 * (faces_before polygons i + t) + 1 ≡ first t + 1 = omega arith in e) in
          let diagonal : third t ≡ first t + 1 + 1 = omega arith in
          let start : first (t + 1) ≡ first t + 1 + 1 + 1 = omega arith in
          let count : 3 * suc m ≡ suc (suc (suc (3 * m))) = omega arith in
          (λ k. first t ∷ second k ∷ diagonal k ∷ half_edges_between (t + 1) m (omega arith) k)
          ∙ ap (λ x. first t ∷ (first t + 1) ∷ (first t + 1 + 1) ∷ range_with_len x (3 * m)) start
          ∙ ap (range_with_len (first t)) (sym count)

  -- ---- all polygons

  abbrev cut_between : ℕ → ℕ → List (CutPolygon ℕ)
  cut_between k m = map cut_polygon (range_with_len k m)

  abbrev all_cut : List (CutPolygon ℕ)
  all_cut = cut_between 0 (length polygons)

  half_edges_from : (k m : ℕ) → k + m ≡ length polygons → all_half_edges (cut_between k m) ≡ range_with_len (3 * faces_before polygons k) (3 * (all_faces polygons - faces_before polygons k))
  half_edges_from k zero e =
      let last : k ≡ length polygons = omega arith in
      let none : 0 ≡ 3 * (all_faces polygons - all_faces polygons) = omega arith in
      ap (range_with_len (3 * faces_before polygons k)) (none ∙ ap (λ i. 3 * (all_faces polygons - faces_before polygons i)) (sym last))
  half_edges_from k (suc m) e =
      let there : k < length polygons = omega arith in
      let long = three k there in
      let next = faces_more polygons k there in
      let most = faces_before-most polygons (k + 1) in
      let n = side_count polygons k in
      let start : 3 * (faces_before polygons k + 0) + 0 ≡ 3 * faces_before polygons k = omega arith in
      let rest_start : 3 * faces_before polygons (k + 1) ≡ 3 * faces_before polygons k + 3 * suc (n - 3) = omega arith in
      let count : 3 * suc (n - 3) + 3 * (all_faces polygons - faces_before polygons (k + 1)) ≡ 3 * (all_faces polygons - faces_before polygons k) = omega arith in
      (λ i. half_edges_between k there 0 (suc (n - 3)) (omega arith) i ++ half_edges_from (k + 1) m (omega arith) i)
      ∙ (λ i. range_with_len (start i) (3 * suc (n - 3)) ++ range_with_len (rest_start i) (3 * (all_faces polygons - faces_before polygons (k + 1))))
      ∙ range_joined (3 * faces_before polygons k) (3 * suc (n - 3)) (3 * (all_faces polygons - faces_before polygons (k + 1)))
      ∙ ap (range_with_len (3 * faces_before polygons k)) count

  all_half_edges_are : all_half_edges all_cut ≡ range_with_len 0 (3 * all_faces polygons)
  all_half_edges_are =
      let first_is = no_faces polygons in
      let start : 3 * faces_before polygons 0 ≡ 0 = omega arith in
      let count : 3 * (all_faces polygons - faces_before polygons 0) ≡ 3 * all_faces polygons = omega arith in
      half_edges_from 0 (length polygons) (omega arith) ∙ (λ i. range_with_len (start i) (count i))

  among_half_edges : (y : ℕ) → IsSide G y → IsIn y (all_half_edges all_cut)
  among_half_edges y t =
      let l = whole.in_faces s surface triangles cut y t in
      subst (IsIn y) (sym all_half_edges_are) (in_range 0 (3 * all_faces polygons) y (omega arith) (omega arith))

  joined : (K : SideGluing ℕ Quadratic) × AreUncut (quadratic s.d) (IsPositive s.d) (is_ahead s.d) G K home_side all_cut
  joined =
      polygons_joined order (decides_half_planes surface.radicand) tells G (whole.fan_glued s surface triangles cut strict) home_side all_cut
      (all_in_range cut_polygon (IsCutPolygon (quadratic s.d) (IsPositive s.d) (is_ahead s.d) G G home_side) 0 (length polygons) (λ i a l. is_cut_polygon i (omega arith)))
      (subst IsDistinct (sym all_half_edges_are) (range_distinct 0 (3 * all_faces polygons)))

  -- the faces joined to the polygons of the surface, by the names of their half-edges
  abbrev K : SideGluing ℕ Quadratic
  K = joined.0

  -- ---- the polygons by the names of half-edges

  cut_there : (i : ℕ) → i < length polygons → IsIn (cut_polygon i) all_cut
  cut_there i l = in_map cut_polygon i (range_with_len 0 (length polygons)) (in_range 0 (length polygons) i (omega arith) (omega arith))

  on_boundary : (c : Corner) → HasSide polygons c → IsIn (half_edge polygons c) (cut_polygon c.polygon).boundary
  on_boundary c h =
      let l = fan.side_below s triangles cut surface c h in
      let m = suc (suc (suc (side_count polygons c.polygon - 3))) in
      in_map (side c.polygon) c.side (range_with_len 0 m) (in_range 0 m c.side (omega arith) (omega arith))

  -- a side of the joined faces runs along a side of the surface
  record IsAlong (y : ℕ) : Type 0 where
    corner : Corner
    there : HasSide polygons corner
    is : y ≡ half_edge polygons corner

  is_along : (y : ℕ) → IsSide K y → IsAlong y
  is_along y t =
      let on = joined.1.only_boundary y t (among_half_edges y (joined.1.side_before y t)) in
      let p = in_map_cases cut_polygon on.polygon (range_with_len 0 (length polygons)) on.there in
      let i = p.0 in
      let there : i < length polygons = (let r = range_bounds 0 (length polygons) i p.1 in omega (arith, r.1)) in
      let long = three i there in
      let x = in_map_cases (side i) y (range_with_len 0 (suc (suc (suc (side_count polygons i - 3))))) (subst (λ q. IsIn y q.boundary) p.2 on.on) in
      let r = range_bounds 0 (suc (suc (suc (side_count polygons i - 3)))) x.0 x.1 in
      record { corner = corner i x.0; there = has_corner polygons (corner i x.0) (omega (arith, r.1)); is = x.2 }

  next_along : (c : Corner) → HasSide polygons c → K.next (half_edge polygons c) ≡ half_edge polygons (corner_after polygons c)
  next_along c h =
      let i = c.polygon in
      let there = fan.polygon_below s triangles cut surface c h in
      let long = three i there in
      let l = fan.side_below s triangles cut surface c h in
      let both = of_round (quadratic s.d) (IsPositive s.d) G (first i) (third i) (side i) (side_count polygons i) (λ x y. K.next x ≡ y) (suc (suc (side_count polygons i - 3))) (joined.1.rounds (cut_polygon i) (cut_there i there)) in
      elim (last_or_not c.side (side_count polygons i) l) [
        | inl more ↦ both.0 c.side (omega arith) ∙ ap (half_edge polygons) (sym (corner_after-next polygons i c.side more))
        | inr last ↦
            let at : c.side ≡ suc (suc (side_count polygons i - 3)) = omega arith in
            ap (λ j. K.next (side i j)) at ∙ both.1 ∙ ap (half_edge polygons) (sym (corner_after-last polygons i c.side last))
      ]
    where
      last_or_not : (j n : ℕ) → j < n → (j + 1 < n) ⊎ (j + 1 ≡ n)
      last_or_not j n l = grind arith

  -- the joined faces are the polygons of the surface with other names
  is_renumbering : IsRenumbering (polygon_sides polygons) K (half_edge polygons) home
  is_renumbering = record {
    new_side = λ c h. joined.1.boundary_side (cut_polygon c.polygon) (cut_there c.polygon (fan.polygon_below s triangles cut surface c h)) (half_edge polygons c) (on_boundary c h);
    old_side = λ y t. let a = is_along y t in subst (HasSide polygons) (sym (ap home a.is ∙ home_along a.corner a.there)) a.there;
    old_new = home_along;
    new_old = λ y t. let a = is_along y t in ap (half_edge polygons) (ap home a.is ∙ home_along a.corner a.there) ∙ sym a.is;
    vector = λ c h. joined.1.vector (half_edge polygons c) ∙ fan.vector_half s triangles cut surface c h;
    next = next_along;
    twin = λ c h. joined.1.twin (half_edge polygons c) ∙ fan.twin_half s triangles cut surface c h;
  }

  -- a list of cuts leads to the faces, and carries each half-edge from its home
  pub fan_is_cut : AreEqualWithHomes (quadratic s.d) (IsPositive s.d) (is_ahead s.d) (polygon_sides polygons) G (home_of triangles.homes)
  fan_is_cut = record {
    equal = record { named = K; new = half_edge polygons; old = home; renumbering = is_renumbering; glued = joined.1.glued; steps = joined.1.cuts };
    carried = λ y t. (joined.1.carried y (among_half_edges y t)).carried;
  }
