-- The rays that are found are the segments within the bound, and each is found once.
use Rattle.std.proofs.Common.{◌≡◌, ◌↔◌, ℕ, ◌<◌, Option, Some, None, List, length, map, refl, sym, ap, ◌∙◌, subst, inl, inr}
use Rattle.fs_ring.specs.OrderedRing.{IsOrderedRing}
use Rattle.fs_quadratic.specs.Ring.{Quadratic, quadratic, IsPositive}
use Rattle.fs_plane.specs.Vector.{PlaneVector}
use Rattle.fs_triangles.specs.Triangles.{AreTriangles}
use Rattle.fs_gluing.specs.Triangulation.{Triangulation, face_sides, edge_vector}
use Rattle.fs_mesh.proofs.HalfEdgeNumbers.{side_of_number}
use Rattle.fs_words.specs.Words.{Letter, tip}
use Rattle.fs_words.specs.LiveWords.{IsRay, Passes}
use Rattle.fs_words.proofs.Rays as rays
use Rattle.fs_words.proofs.RaySegments as ray_segments
use Rattle.fs_lists.specs.Members.{IsIn, IsDistinct}
use Rattle.fs_lists.proofs.Members.{in_map, in_map_cases, apart_map}
use Rattle.fs_fan.specs.declared.fans.Ray.{Ray}
use Rattle.fs_fan.specs.Search.{Sighting, IsSeenBefore, IsSeen, IsSighting, IsShort, IsShortSegment, AreFound, ray_of, sighted_along}
use Rattle.fs_fan.proofs.OrderedLists.{in_order_distinct}
use Rattle.fs_fan.proofs.WordsBefore.{sighting_irrefl}

module _ {d : ℕ} (L : IsOrderedRing (quadratic d) (IsPositive d)) (t : Triangulation) (triangles : AreTriangles (quadratic d) (IsPositive d) (face_sides t)) (bound : Quadratic) where
  -- ---- the segments

  -- what is seen is a ray
  ray_of_seen : (h : ℕ) (o : Option (List Letter)) → IsSeen d t h o → IsRay (quadratic d) (IsPositive d) (face_sides t) h (sighted_along d t h o)
  ray_of_seen h None seen = inl refl
  ray_of_seen h (Some letters) seen = inr (letters, seen, refl)

  segment_of_sighting : (at : Sighting) → IsSighting d t bound at → IsShortSegment d t bound at.half_edge (sighted_along d t at.half_edge at.letters)
  segment_of_sighting at s =
      let segment = (ray_segments.segments_are_rays L triangles at.half_edge (side_of_number t at.half_edge s.there) (sighted_along d t at.half_edge at.letters)).1
      (ray_of_seen at.half_edge at.letters s.seen) in
      record { there = s.there; word = segment.0; end = segment.1; segment = segment.2; short = s.short }

  -- a segment within the bound is seen
  record SeenAs (h : ℕ) (v : PlaneVector) : Type 0 where
    pub letters : Option (List Letter)
    pub sighting : IsSighting d t bound (record { half_edge = h; letters = letters })
    pub vector : v ≡ sighted_along d t h letters

  sighting_of_ray : (h : ℕ) (v : PlaneVector) → h < length t.vectors → IsShort d bound v → IsRay (quadratic d) (IsPositive d) (face_sides t) h v → SeenAs h v
  sighting_of_ray h v there short (inl e) = record { letters = None; sighting = record { there = there; seen = tt; short = subst (IsShort d bound) e short }; vector = e }
  sighting_of_ray h v there short (inr r) = record {
    letters = Some r.0;
    sighting = record { there = there; seen = subst (Passes (quadratic d) (IsPositive d) (face_sides t) h r.0) r.2 r.1; short = subst (IsShort d bound) r.2 short };
    vector = r.2;
  }

  sighting_of_segment : (h : ℕ) (v : PlaneVector) → IsShortSegment d t bound h v → SeenAs h v
  sighting_of_segment h v s =
      sighting_of_ray h v s.there s.short ((ray_segments.segments_are_rays L triangles h (side_of_number t h s.there) v).0 (s.word, s.end, s.segment))

  module _ (found : List Ray) (f : AreFound d t bound found) where
    found_segment : (h : ℕ) (v : PlaneVector) → IsIn (record { half_edge = h; v = v }) found → IsShortSegment d t bound h v
    found_segment h v m =
        let at = in_map_cases (ray_of d t) (record { half_edge = h; v = v }) f.sightings (subst (λ rs. IsIn (record { half_edge = h; v = v }) rs) f.rays m) in
        subst (λ (r : Ray). IsShortSegment d t bound r.half_edge r.v) (sym at.2) (segment_of_sighting at.0 ((f.all at.0).0 at.1))

    segment_found : (h : ℕ) (v : PlaneVector) → IsShortSegment d t bound h v → IsIn (record { half_edge = h; v = v }) found
    segment_found h v s =
        let seen = sighting_of_segment h v s in
        let at : Sighting = record { half_edge = h; letters = seen.letters } in
        let m = in_map (ray_of d t) at f.sightings ((f.all at).1 seen.sighting) in
        subst (λ rs. IsIn (record { half_edge = h; v = v }) rs) (sym f.rays)
        (subst (λ x. IsIn (record { half_edge = h; v = x }) (map (ray_of d t) f.sightings)) (sym seen.vector) m)

    -- what is found are the segments within the bound
    pub found_segments : (h : ℕ) (v : PlaneVector) → IsIn (record { half_edge = h; v = v }) found ↔ IsShortSegment d t bound h v
    found_segments h v = (found_segment h v, segment_found h v)

    -- ---- each once

    same_letters : (h k : ℕ) → h ≡ k → (o p : Option (List Letter)) → IsSeen d t h o → IsSeen d t k p → sighted_along d t h o ≡ sighted_along d t k p → o ≡ p
    same_letters h k e None None seen also same = refl
    same_letters h k e None (Some letters) seen also same =
        absurd (rays.tip-ne-side L (face_sides t) k letters also (sym same ∙ ap (edge_vector t) e))
    same_letters h k e (Some letters) None seen also same = absurd (rays.tip-ne-side L (face_sides t) h letters seen (same ∙ ap (edge_vector t) (sym e)))
    same_letters h k e (Some letters) (Some others) seen also same =
        ap Some
        (rays.one_word L (face_sides t) h letters others seen (subst (λ x. IsSeen d t x (Some others)) (sym e) also)
        (same ∙ ap (λ x. tip (quadratic d) (face_sides t) x others) (sym e)))

    same_sighting : (at on : Sighting) → IsSighting d t bound at → IsSighting d t bound on → ray_of d t at ≡ ray_of d t on → at ≡ on
    same_sighting at on s u e =
        let same = ap (λ (r : Ray). r.half_edge) e in
        let letters = same_letters at.half_edge on.half_edge same at.letters on.letters s.seen u.seen (ap (λ (r : Ray). r.v) e) in
        λ i. record { half_edge = same i; letters = letters i }

    pub found_once : IsDistinct found
    found_once =
        subst IsDistinct (sym f.rays)
        (apart_map (ray_of d t) (λ x y. x ≡ y) (λ x y. x ≡ y) f.sightings
        (λ at on m n e. same_sighting at on ((f.all at).0 m) ((f.all on).0 n) e)
        (in_order_distinct IsSeenBefore sighting_irrefl f.sightings f.in_order))
