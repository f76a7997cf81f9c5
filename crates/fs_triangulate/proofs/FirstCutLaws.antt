-- The triangles of all fans are the first cut: the twin of each half-edge is the half-edge along the way that is glued to its way.
use Rattle.std.proofs.Common.{◌≡◌, ℕ, Some, List, length, map, ap, ◌∙◌}
use Rattle.std.specs.Option.{option_map}
use Rattle.std.specs.Prelude.{slice_index_or}
use Rattle.std.specs.List.{slice_get}
use Rattle.std.proofs.lemmas.List.{length-map}
use Rattle.std.proofs.lemmas.Option.{slice_get-map, get_or_from_slice_get}
use Rattle.fs_lists.proofs.All.{All-slice_get}
use Rattle.fs_gluing.specs.declared.triangulations.Triangles.{Triangles}
use Rattle.fs_gluing.specs.declared.triangulations.Way.{Way}
use Rattle.fs_gluing.specs.FirstCut.{IsFirstCut, all_ways, glued_way, fans_from}
use Rattle.fs_gluing.specs.Surface.{GluedPolygons, IsSurface}
use Rattle.fs_triangulate.specs.Fans.{IsFanWay, HasTriangles, half_edge_of}
use Rattle.fs_triangulate.proofs.FanPlaces.{all_fan_ways, way_at}
use Rattle.fs_triangulate.proofs.GluedWays.{glued_fan_way}

-- all ways of the first cut
abbrev ways_in : GluedPolygons → List Way
ways_in s = all_ways (fans_from 0 s.polygons)

-- the half-edge along the way that is glued to a way
abbrev twin_of : GluedPolygons → Way → ℕ
twin_of s w = half_edge_of s.polygons (glued_way s.polygons w)

twin_at : (s : GluedPolygons) (triangles : Triangles) (k : ℕ) (w : Way) → triangles.twins ≡ map (twin_of s) (ways_in s) → slice_get (ways_in s) k ≡ Some w
    → slice_index_or triangles.twins k 0 ≡ twin_of s w
twin_at s triangles k w twins there =
    get_or_from_slice_get triangles.twins k (twin_of s w) 0
    (ap (λ ts. slice_get ts k) twins ∙ slice_get-map (twin_of s) (ways_in s) k ∙ ap (option_map (twin_of s)) there)

-- the triangles of all fans are the first cut
pub first_cut_of_fans : (s : GluedPolygons) (triangles : Triangles) → IsSurface s → HasTriangles s (fans_from 0 s.polygons) triangles → IsFirstCut s triangles
first_cut_of_fans s triangles surface h = record {
  faces = h.faces;
  homes = h.homes;
  as_many_twins = ap length h.twins ∙ length-map (ways_in s) (twin_of s);
  twins = λ k w there.
      ap (slice_get (ways_in s)) (twin_at s triangles k w h.twins there)
      ∙ way_at s.polygons (glued_way s.polygons w) (glued_fan_way s surface w (All-slice_get (IsFanWay s.polygons) (ways_in s) k w (all_fan_ways s.polygons) there));
}
