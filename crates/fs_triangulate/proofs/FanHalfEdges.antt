-- The half-edges of the first cut: their vectors, twins and homes, and which of them run along sides.
use Rattle.std.proofs.Common.{◌≡◌, ◌≢◌, ◌⊎◌, ℕ, zero, suc, ◌+◌, ◌-◌, ◌*◌, ◌<◌, ◌≤◌, cond, Some, List, [], ◌∷◌, length, map, refl, sym, ap, ◌∙◌, subst, inl, inr, arith}
use Rattle.std.specs.List.{slice_get, flat_map}
use Rattle.std.specs.Option.{option_map}
use Rattle.std.proofs.lemmas.Bool.{eq-eqb, ne_eqb}
use Rattle.std.proofs.lemmas.List.{length-map}
use Rattle.std.proofs.lemmas.Option.{slice_get-map, slice_get_within, get_or_from_slice_get}
use Rattle.fs_ring.specs.Vector.{add_vector, sub_vector}
use Rattle.fs_ring.proofs.Solver.{expressions as E}
use Rattle.fs_ring.proofs.PlaneSolver.{vector_identity, ◌≐ᵥ◌}
use Rattle.fs_quadratic.specs.Ring.{quadratic}
use Rattle.fs_quadratic.proofs.Laws.{field_order}
use Rattle.fs_plane.specs.declared.corners.Corner.{Corner}
use Rattle.fs_plane.specs.Vector.{PlaneVector, vector_zero}
use Rattle.fs_gluing.specs.declared.surfaces.Side.{Side}
use Rattle.fs_gluing.specs.declared.triangulations.Way.{Way}
use Rattle.fs_gluing.specs.declared.triangulations.Triangles.{Triangles}
use Rattle.fs_gluing.specs.Polygons.{HasSide}
use Rattle.fs_gluing.specs.Surface.{GluedPolygons, IsTranslationSurface}
use Rattle.fs_gluing.specs.SurfaceSides.{vector_of, partner}
use Rattle.fs_gluing.specs.FirstCut.{CornerTriangle, all_ways, ways_of, fans_from, way_vector, way_start, glued_way, side_way}
use Rattle.fs_gluing.specs.NextCorner.{side_count, corner_after}
use Rattle.fs_gluing.specs.Triangulation.{Triangulation, triangulation_of, edge_vector, edge_twin}
use Rattle.fs_gluing.proofs.SurfaceCalls.NextCorner.{in_polygon, count_is}
use Rattle.fs_gluing.proofs.Sides.AllSides.{corner}
use Rattle.fs_gluing.proofs.Sides.SidesInTurn.{position_of}
use Rattle.fs_triangulate.specs.Fans.{HasTriangles, faces_before, half_edge_of, half_edge_along}
use Rattle.fs_triangulate.proofs.GluedWays.{has_corner, three_sides_of}
use Rattle.fs_triangulate.proofs.SideNumbers.{half_edge, half_first, half_between, half_last, side_cases, after_is-next, after_is-first, along_from_first, along_to_first}
use Rattle.fs_triangulate.proofs.FaceCounts.{way_of_face, length-all_ways, all_faces, triangle_of}
use Rattle.fs_triangulate.proofs.StrictPolygons.{corner_after-next, position_in_is, position_next}
use Rattle.fs_triangulate.proofs.FaceNumbers.{side_of_face, is_first, is_second, is_third}

-- ---- the lists of the triangles

flat_faces : (f : Way → PlaneVector) (corners : List CornerTriangle) → flat_map (λ face. face) (map (λ t. map f (ways_of t)) corners) ≡ map f (all_ways corners)
flat_faces f [] = refl
flat_faces f (t ∷ corners) = λ i. f (record { polygon = t.polygon; from = t.one; to = t.two }) ∷ f (record { polygon = t.polygon; from = t.two; to = t.three })
    ∷ f (record { polygon = t.polygon; from = t.three; to = t.one }) ∷ flat_faces f corners i

-- what x is: a half-edge along a side, a diagonal back to corner 0, or one from there
pub data FanKind (polygons : List (List Side)) (x : ℕ) : Type 0 where
  along_side : (c : Corner) → HasSide polygons c → x ≡ half_edge polygons c → FanKind polygons x
  to_first : (i t : ℕ) → i < length polygons → t + 3 < side_count polygons i → x ≡ 3 * (faces_before polygons i + t) + 2 → FanKind polygons x
  from_first : (i t : ℕ) → i < length polygons → t + 3 < side_count polygons i → x ≡ 3 * (faces_before polygons i + (t + 1)) + 0 → FanKind polygons x

module _ (s : GluedPolygons) (triangles : Triangles) (cut : HasTriangles s (fans_from 0 s.polygons) triangles) where
  abbrev polygons : List (List Side)
  polygons = s.polygons

  abbrev T : Triangulation
  T = triangulation_of triangles

  abbrev ways : List Way
  ways = all_ways (fans_from 0 polygons)

  pub vectors_are : T.vectors ≡ map (way_vector s) ways
  vectors_are = ap (flat_map (λ face. face)) cut.faces ∙ flat_faces (way_vector s) (fans_from 0 polygons)

  -- there are three half-edges for each face
  pub vectors_length : length T.vectors ≡ 3 * all_faces polygons
  vectors_length = ap length vectors_are ∙ length-map ways (way_vector s) ∙ length-all_ways polygons

  pub twins_length : length T.twins ≡ 3 * all_faces polygons
  twins_length = ap length cut.twins ∙ length-map ways (λ w. half_edge_of polygons (glued_way polygons w)) ∙ length-all_ways polygons

  -- what a half-edge along a way has
  pub record RunsAlong (h : ℕ) (w : Way) : Type 0 where
    pub inside : h < length T.vectors
    pub vector : edge_vector T h ≡ way_vector s w
    pub twin : edge_twin T h ≡ half_edge_of polygons (glued_way polygons w)
    pub home : slice_get triangles.homes h ≡ Some (way_start w)

  runs_along : (h : ℕ) (w : Way) → slice_get ways h ≡ Some w → RunsAlong h w
  runs_along h w e = record {
    inside = subst (λ n. h < n) (length-all_ways polygons ∙ sym vectors_length) (slice_get_within ways h w e);
    vector = get_or_from_slice_get T.vectors h (way_vector s w) vector_zero (ap (λ l. slice_get l h) vectors_are ∙ slice_get-map (way_vector s) ways h ∙ ap (option_map (way_vector s)) e);
    twin = get_or_from_slice_get T.twins h (half_edge_of polygons (glued_way polygons w)) 0
        (ap (λ l. slice_get l h) cut.twins ∙ slice_get-map (λ w. half_edge_of polygons (glued_way polygons w)) ways h ∙ ap (option_map (λ w. half_edge_of polygons (glued_way polygons w))) e);
    home = ap (λ l. slice_get l h) cut.homes ∙ slice_get-map way_start ways h ∙ ap (option_map way_start) e;
  }

  -- so does an equal half-edge along an equal way
  pub runs_by : {h g : ℕ} {w v : Way} → h ≡ g → w ≡ v → RunsAlong g v → RunsAlong h w
  runs_by {h} {g} {w} {v} e f r = subst (λ x. RunsAlong x w) (sym e) (subst (RunsAlong g) (sym f) r)

  module _ (i t : ℕ) (inside : t < side_count polygons i - 2) where
    abbrev face : ℕ
    face = faces_before polygons i + t

    pub first_runs : RunsAlong (3 * face + 0) (record { polygon = i; from = 0; to = t + 1 })
    first_runs = runs_along (3 * face + 0) _ (way_of_face polygons i t 0 (omega arith) (omega arith))

    pub second_runs : RunsAlong (3 * face + 1) (record { polygon = i; from = t + 1; to = t + 2 })
    second_runs = runs_along (3 * face + 1) _ (way_of_face polygons i t 1 (omega arith) (omega arith))

    pub third_runs : RunsAlong (3 * face + 2) (record { polygon = i; from = t + 2; to = 0 })
    third_runs = runs_along (3 * face + 2) _ (way_of_face polygons i t 2 (omega arith) (omega arith))

  glued_side : (w : Way) → (corner_after polygons (way_start w)).side ≡ w.to → glued_way polygons w ≡ side_way polygons (partner polygons (way_start w))
  glued_side w e =
      ap (λ t. cond t (side_way polygons (partner polygons (way_start w))) (record { polygon = w.polygon; from = w.to; to = w.from })) (eq-eqb _ _ e)

  glued_diagonal : (w : Way) → (corner_after polygons (way_start w)).side ≢ w.to → glued_way polygons w ≡ record { polygon = w.polygon; from = w.to; to = w.from }
  glued_diagonal w e =
      ap (λ t. cond t (side_way polygons (partner polygons (way_start w))) (record { polygon = w.polygon; from = w.to; to = w.from })) (ne_eqb _ _ e)

  module _ (i : ℕ) where
    abbrev n : ℕ
    n = side_count polygons i

    abbrev b : ℕ
    b = faces_before polygons i

    -- a diagonal is glued to itself
    pub twin_third : (t : ℕ) → t + 3 < n → edge_twin T (3 * (b + t) + 2) ≡ 3 * (b + (t + 1)) + 0
    twin_third t l =
        let next = corner_after-next polygons i (t + 2) (omega arith) in
        (third_runs i t (omega arith)).twin
        ∙ ap (half_edge_of polygons) (glued_diagonal (record { polygon = i; from = t + 2; to = 0 }) (λ e. let f = ap (λ (c : Corner). c.side) (sym next) ∙ e in absurd (omega arith)))
        ∙ (let e : t + 2 ≡ t + 1 + 1 = omega arith in ap (λ j. half_edge_along b (record { polygon = i; from = 0; to = j })) e)
        ∙ along_from_first b i (t + 1)

    pub twin_first : (t : ℕ) → t + 3 < n → edge_twin T (3 * (b + (t + 1)) + 0) ≡ 3 * (b + t) + 2
    twin_first t l =
        let next = corner_after-next polygons i 0 (omega arith) in
        (first_runs i (t + 1) (omega arith)).twin
        ∙ ap (half_edge_of polygons) (glued_diagonal (record { polygon = i; from = 0; to = t + 1 + 1 }) (λ e. let f = ap (λ (c : Corner). c.side) (sym next) ∙ e in absurd (omega arith)))
        ∙ (let e : t + 1 + 1 ≡ t + 2 = omega arith in ap (λ j. half_edge_along b (record { polygon = i; from = j; to = 0 })) e)
        ∙ along_to_first b i t

    half_runs_at : 3 ≤ n → (j : ℕ) → j < n → RunsAlong (half_edge polygons (corner i j)) (side_way polygons (corner i j))
    half_runs_at l j m = elim (side_cases j n l m) [
      | inl e ↦
          runs_by (ap (λ j. half_edge polygons (corner i j)) e ∙ half_first polygons i l) (ap (λ j. side_way polygons (corner i j)) e ∙ after_is-next polygons i 0 (omega arith))
          (first_runs i 0 (omega arith))
      | inr (inl (t, p, q)) ↦
          let to : t + 1 + 1 ≡ t + 2 = omega arith in
          runs_by (ap (λ j. half_edge polygons (corner i j)) p ∙ half_between polygons i t q)
          (ap (λ j. side_way polygons (corner i j)) p ∙ after_is-next polygons i (t + 1) (omega (arith, q)) ∙ ap (λ j. let w : Way = record { polygon = i; from = t + 1; to = j } in w) to)
          (second_runs i t (omega (arith, q)))
      | inr (inr (t, p, q)) ↦
          runs_by (ap (λ j. half_edge polygons (corner i j)) p ∙ half_last polygons i t q)
          (ap (λ j. side_way polygons (corner i j)) p ∙ after_is-first polygons i (t + 2) (omega (arith, q)))
          (third_runs i t (omega (arith, q)))
    ]

  -- ---- the half-edges of the first cut of a surface

  module _ (surface : IsTranslationSurface s) where
    -- the polygon of a side, and its number
    pub polygon_below : (c : Corner) → HasSide polygons c → c.polygon < length polygons
    polygon_below c h = let there = in_polygon polygons c h in slice_get_within polygons c.polygon there.polygon there.is

    pub side_below : (c : Corner) → HasSide polygons c → c.side < side_count polygons c.polygon
    side_below c h = let there = in_polygon polygons c h in subst (λ n. c.side < n) (sym (count_is polygons c there)) there.inside

    half_runs : (c : Corner) → HasSide polygons c → RunsAlong (half_edge polygons c) (side_way polygons c)
    half_runs c h = half_runs_at c.polygon (three_sides_of s surface c.polygon (polygon_below c h)) c.side (side_below c h)

    -- the half-edge along a side exists, and has the vector of the side
    pub half_inside : (c : Corner) → HasSide polygons c → half_edge polygons c < length T.vectors
    half_inside c h = (half_runs c h).inside

    pub vector_half : (c : Corner) → HasSide polygons c → edge_vector T (half_edge polygons c) ≡ vector_of polygons c
    vector_half c h =
        let order = field_order surface.radicand in
        (half_runs c h).vector
        ∙ (λ k. sub_vector (quadratic s.d) (position_in_is s c.polygon (corner_after polygons c).side k) (position_in_is s c.polygon c.side k))
        ∙ ap (λ w. sub_vector (quadratic s.d) w (position_of polygons c)) (position_next s surface c h)
        ∙ vector_identity order.ring [] (position_of polygons c ∷ vector_of polygons c ∷ []) (λ p v. sub_vector E (add_vector E p v) p ≐ᵥ v) refl

    -- it is glued to the one along the partner, and begins at the corner of the side
    pub twin_half : (c : Corner) → HasSide polygons c → edge_twin T (half_edge polygons c) ≡ half_edge polygons (partner polygons c)
    twin_half c h = (half_runs c h).twin ∙ ap (half_edge_of polygons) (glued_side (side_way polygons c) refl)

    pub home_half : (c : Corner) → HasSide polygons c → slice_get triangles.homes (half_edge polygons c) ≡ Some c
    home_half c h = (half_runs c h).home

    -- each half-edge is along a side or a diagonal
    pub fan_kind : (x : ℕ) → x < length T.vectors → FanKind polygons x
    fan_kind x l = elim (side_of_face x) [
      | is_first f e ↦
          let k = triangle_of polygons f (let m = vectors_length in omega arith) in
          let three = three_sides_of s surface k.polygon k.there in
          first_kind k.polygon k.triangle k.there three (omega (arith, k.inside)) (e ∙ ap (λ f. 3 * f + 0) k.is)
      | is_second f e ↦
          let k = triangle_of polygons f (let m = vectors_length in omega arith) in
          along_side (corner k.polygon (k.triangle + 1)) (has_corner polygons (corner k.polygon (k.triangle + 1)) (omega (arith, k.inside)))
          (e ∙ ap (λ f. 3 * f + 1) k.is ∙ sym (half_between polygons k.polygon k.triangle (omega (arith, k.inside))))
      | is_third f e ↦
          let k = triangle_of polygons f (let m = vectors_length in omega arith) in
          third_kind k.polygon k.triangle k.there (omega (arith, k.inside)) (e ∙ ap (λ f. 3 * f + 2) k.is)
    ]
      where
        first_kind : (i t : ℕ) → i < length polygons → 3 ≤ side_count polygons i → t + 3 ≤ side_count polygons i → x ≡ 3 * (faces_before polygons i + t) + 0 → FanKind polygons x
        first_kind i zero there three inside e = along_side (corner i 0) (has_corner polygons (corner i 0) (omega arith)) (e ∙ sym (half_first polygons i three))
        first_kind i (suc t) there three inside e =
            let same : suc t ≡ t + 1 = omega arith in
            from_first i t there (omega arith) (e ∙ ap (λ t. 3 * (faces_before polygons i + t) + 0) same)

        last_or_not : (t n : ℕ) → t + 3 ≤ n → (t + 3 ≡ n) ⊎ (t + 3 < n)
        last_or_not t n l = grind arith

        third_kind : (i t : ℕ) → i < length polygons → t + 3 ≤ side_count polygons i → x ≡ 3 * (faces_before polygons i + t) + 2 → FanKind polygons x
        third_kind i t there inside e = elim (last_or_not t (side_count polygons i) inside) [
          | inl last ↦ along_side (corner i (t + 2)) (has_corner polygons (corner i (t + 2)) (omega arith)) (e ∙ sym (half_last polygons i t last))
          | inr more ↦ to_first i t there more e
        ]
