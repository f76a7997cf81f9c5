-- The rays that a search finds: how many there can be, and that they are rays of the mesh.
use Rattle.std.proofs.Common.{ℕ, ◌+◌, ◌≤◌, Option, Some, None, Ok, List, ◌++◌, length, map, ap, ◌∙◌, arith, length-append}
use Rattle.std.specs.List.{range_with_len}
use Rattle.std.proofs.lemmas.List.{length-map}
use Rattle.std.proofs.lemmas.List.FromFn.{length-range_with_len}
use Rattle.fs_quadratic.specs.Ring.{Quadratic, quadratic, IsPositive}
use Rattle.fs_quadratic.proofs.Laws.{field_order}
use Rattle.fs_triangles.specs.Triangles.{AreTriangles}
use Rattle.fs_gluing.specs.Triangulation.{face_sides}
use Rattle.fs_mesh.specs.Meshes.{MeshValue, IsMesh}
use Rattle.fs_mesh.proofs.HalfEdgeNumbers.{side_of_number}
use Rattle.fs_words.specs.Words.{Letter}
use Rattle.fs_words.proofs.LiveWords as live_words
use Rattle.fs_words.proofs.Rays as rays
use Rattle.fs_words.proofs.RaySegments as ray_segments
use Rattle.fs_lists.specs.Members.{IsIn}
use Rattle.fs_lists.proofs.Members.{in_map, in_append_left, in_append_right}
use Rattle.fs_lists.proofs.Ranges.{in_range}
use Rattle.fs_fan.specs.declared.fans.Ray.{Ray}
use Rattle.fs_fan.specs.Search.{Word, Sighting, IsSeenBefore, IsSighting, IsShortSegment, AreLiveWords, Findings, EndsSearch, whole, ray_of}
use Rattle.fs_fan.proofs.OrderedLists.{in_order-at_most}
use Rattle.fs_fan.proofs.WordsBefore.{sighting_irrefl}
use Rattle.fs_saddles.specs.Keeping.{AreKeepable}

along : ℕ → Sighting
along h = record { half_edge = h; letters = None }

at_tip : Word → Sighting
at_tip w = record { half_edge = w.half_edge; letters = Some w.letters }

module _ (m : MeshValue) (mesh : IsMesh m) (bound : Quadratic) where
  abbrev triangles : AreTriangles (quadratic m.surface.d) (IsPositive m.surface.d) (face_sides m.triangles)
  triangles = mesh.triangulation.triangles

  -- the sightings along all half-edges, and at the tips of words
  places : List Word → List Sighting
  places words = map along (range_with_len 0 (length m.triangles.vectors)) ++ map at_tip words

  seen_there : (words : List Word) → AreLiveWords m.surface.d m.triangles bound (λ w. Unit {0}) words
      → (h : ℕ) (letters : Option (List Letter)) → IsSighting m.surface.d m.triangles bound (record { half_edge = h; letters = letters }) → IsIn {X = Sighting} (record { half_edge = h; letters = letters }) (places words)
  unfolding places along at_tip
  seen_there words live h None s =
      in_append_left (along h) (map along (range_with_len 0 (length m.triangles.vectors))) (map at_tip words) (in_map along h (range_with_len 0 (length m.triangles.vectors)) (in_range 0 (length m.triangles.vectors) h (omega arith) (omega (arith, s.there))))
  seen_there words live h (Some letters) s =
      let w : Word = record { half_edge = h; letters = letters } in
      in_append_right (at_tip w) (map along (range_with_len 0 (length m.triangles.vectors))) (map at_tip words)
      (in_map at_tip w words ((live.all w).1
      (record { there = s.there; live = live_words.live_of_tip (field_order mesh.surface.radicand) triangles bound h (side_of_number m.triangles h s.there) letters s.seen s.short }, tt)))

  -- there are no more rays than half-edges and live words
  pub few_found : (n : ℕ) (found : Findings) → EndsSearch m.surface.d m.triangles bound n (Ok found) → length found.found ≤ length m.triangles.vectors + n
  unfolding places
  few_found n _ (whole words found live few openings visits are) =
      let seen = in_order-at_most IsSeenBefore sighting_irrefl are.sightings (places words) are.in_order (λ at h. seen_there words live at.half_edge at.letters ((are.all at).0 h)) in
      let joined = length-append (map along (range_with_len 0 (length m.triangles.vectors))) (map at_tip words) in
      let count = length-map (range_with_len 0 (length m.triangles.vectors)) along in
      let tips = length-map words at_tip in
      let all = length-range_with_len 0 (length m.triangles.vectors) in
      let of_rays = ap length are.rays ∙ length-map are.sightings (ray_of m.surface.d m.triangles) in
      omega (arith, seen, joined, count, tips, all, of_rays, few)

  -- each is one of the mesh
  pub found_keepable : (found : List Ray) → ((ray : Ray) → IsIn ray found → IsShortSegment m.surface.d m.triangles bound ray.half_edge ray.v) → AreKeepable m found
  found_keepable found segments ray h =
      let s = segments ray h in
      let side = side_of_number m.triangles ray.half_edge s.there in
      record {
        there = s.there;
        nonzero = rays.ray-ne-zero (field_order mesh.surface.radicand) triangles ray.half_edge side
            ((ray_segments.segments_are_rays (field_order mesh.surface.radicand) triangles ray.half_edge side ray.v).0 (s.word, s.end, s.segment));
      }
