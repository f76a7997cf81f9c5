-- A surface has one first cut: the triangles of its fans.
use Rattle.std.proofs.Common.{◌≡◌, ℕ, ◌+◌, ◌*◌, ◌<◌, Some, List, length, map, get_or, refl, sym, ap, ◌∙◌, arith}
use Rattle.std.specs.Option.{option_map}
use Rattle.std.specs.Prelude.{slice_index_or}
use Rattle.std.specs.List.{slice_get}
use Rattle.std.proofs.lemmas.List.{length-map, ext_get_or}
use Rattle.std.proofs.lemmas.Option.{slice_get-map, get_or_from_slice_get, slice_get-get_or, slice_get_within, same_Some}
use Rattle.fs_gluing.specs.declared.surfaces.Side.{Side}
use Rattle.fs_gluing.specs.declared.triangulations.Triangles.{Triangles}
use Rattle.fs_gluing.specs.declared.triangulations.Way.{Way}
use Rattle.fs_gluing.specs.FirstCut.{IsFirstCut, all_ways, ways_of, way_start, way_vector, glued_way, fans_from}
use Rattle.fs_gluing.specs.NextCorner.{side_count}
use Rattle.fs_gluing.specs.Surface.{GluedPolygons, IsSurface}
use Rattle.fs_triangulate.specs.Fans.{HasTriangles, faces_before, fan_triangle, half_edge_of}
use Rattle.fs_triangulate.proofs.FaceCounts.{way_of_face, length-all_ways, triangle_of, IsTriangleOf}
use Rattle.fs_triangulate.proofs.FaceNumbers.{side_of_face, is_first, is_second, is_third}
use Rattle.fs_triangulate.proofs.SideNumbers.{along_from_first, along_between, along_to_first}
use Rattle.fs_triangulate.proofs.FirstCutLaws.{first_cut_of_fans}

-- ---- each way is at one index

module _ (polygons : List (List Side)) (h : ℕ) (w : Way) (at : slice_get (all_ways (fans_from 0 polygons)) h ≡ Some w) where
  abbrev ways : List Way
  ways = all_ways (fans_from 0 polygons)

  -- a way that is way r of triangle t of polygon k
  by_place : (k t r : ℕ) (v : Way) → h ≡ 3 * (faces_before polygons k + t) + r → t + 2 < side_count polygons k → r < 3 → slice_get (ways_of (fan_triangle k t)) r ≡ Some v
      → half_edge_of polygons v ≡ 3 * (faces_before polygons k + t) + r → h ≡ half_edge_of polygons w
  by_place k t r v e inside small is number =
      let same : w ≡ v = same_Some w v (sym at ∙ (ap (slice_get ways) e ∙ (way_of_face polygons k t r inside small ∙ is))) in
      e ∙ (sym number ∙ ap (half_edge_of polygons) (sym same))

  -- the index of a way is the number of the half-edge along it
  pub way_number : h ≡ half_edge_of polygons w
  way_number =
      let inside = slice_get_within ways h w at in
      let all = length-all_ways polygons in
      elim (side_of_face h) [
        | is_first f e ↦
            let place : IsTriangleOf polygons f = triangle_of polygons f (omega arith) in
            let is = place.is in
            let there = place.inside in
            by_place place.polygon place.triangle 0 (record { polygon = place.polygon; from = 0; to = place.triangle + 1 }) (omega arith) (omega arith) (omega arith) refl
            (along_from_first (faces_before polygons place.polygon) place.polygon place.triangle)
        | is_second f e ↦
            let place : IsTriangleOf polygons f = triangle_of polygons f (omega arith) in
            let is = place.is in
            let there = place.inside in
            by_place place.polygon place.triangle 1 (record { polygon = place.polygon; from = place.triangle + 1; to = place.triangle + 2 }) (omega arith) (omega arith) (omega arith) refl
            (along_between (faces_before polygons place.polygon) place.polygon place.triangle)
        | is_third f e ↦
            let place : IsTriangleOf polygons f = triangle_of polygons f (omega arith) in
            let is = place.is in
            let there = place.inside in
            by_place place.polygon place.triangle 2 (record { polygon = place.polygon; from = place.triangle + 2; to = 0 }) (omega arith) (omega arith) (omega arith) refl
            (along_to_first (faces_before polygons place.polygon) place.polygon place.triangle)
      ]

-- ---- the first cut

module _ (s : GluedPolygons) where
  abbrev ways_in : List Way
  ways_in = all_ways (fans_from 0 s.polygons)

  abbrev twin_of : Way → ℕ
  twin_of w = half_edge_of s.polygons (glued_way s.polygons w)

  -- a first cut is the triangles of all fans
  pub fans_of_first_cut : (triangles : Triangles) → IsFirstCut s triangles → HasTriangles s (fans_from 0 s.polygons) triangles
  fans_of_first_cut triangles cut = record {
    faces = cut.faces;
    homes = cut.homes;
    twins = ext_get_or 0 triangles.twins (map twin_of ways_in) (cut.as_many_twins ∙ sym (length-map ways_in twin_of)) twin_at;
  }
    where
      no_way : Way
      no_way = record { polygon = 0; from = 0; to = 0 }

      twin_at : (i : ℕ) → i < length triangles.twins → get_or triangles.twins i 0 ≡ get_or (map twin_of ways_in) i 0
      twin_at i inside =
          let as_many = cut.as_many_twins in
          let w = get_or ways_in i no_way in
          let there = slice_get-get_or ways_in i no_way (omega arith) in
          way_number s.polygons (slice_index_or triangles.twins i 0) (glued_way s.polygons w) (cut.twins i w there)
          ∙ sym (get_or_from_slice_get (map twin_of ways_in) i (twin_of w) 0 (slice_get-map twin_of ways_in i ∙ ap (option_map twin_of) there))

  -- there is one at most
  pub first_cut_unique : (a b : Triangles) → IsFirstCut s a → IsFirstCut s b → a ≡ b
  first_cut_unique a b one other =
      let f = fans_of_first_cut a one in
      let g = fans_of_first_cut b other in
      λ i. record { faces = (f.faces ∙ sym g.faces) i; twins = (f.twins ∙ sym g.twins) i; homes = (f.homes ∙ sym g.homes) i }

  -- and there is one
  pub first_cut_exists : IsSurface s → (triangles : Triangles) × IsFirstCut s triangles
  first_cut_exists surface =
      let triangles : Triangles = record { faces = map (λ t. map (way_vector s) (ways_of t)) (fans_from 0 s.polygons); twins = map twin_of ways_in; homes = map way_start ways_in } in
      (triangles, first_cut_of_fans s triangles surface (record { faces = refl; homes = refl; twins = refl }))
