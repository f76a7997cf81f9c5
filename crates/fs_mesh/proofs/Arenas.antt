-- Arenas of half-edges: what is read from them, and how they are filled.
use Rattle.std.proofs.Common.{◌≡◌, ℕ, ◌+◌, ◌<◌, ◌≤◌, List, [], ◌∷◌, ◌++◌, length, map, take, get_or, sym, ap, ◌∙◌, subst, arith, zero-add, length-append}
use Rattle.std.proofs.lemmas.List.{map-append, take_more, get_or-map, length-map}
use Rattle.std.proofs.lemmas.List.FromFn.{map-range_with_len_more, get_or-map-range_with_len}
use Rattle.std.proofs.lemmas.List.Folds.{length-flat_map-take}
use Rattle.std.specs.List.{range_with_len, flat_map}
use Rattle.fs_plane.specs.declared.corners.Corner.{Corner}
use Rattle.fs_plane.specs.Vector.{PlaneVector}
use Rattle.fs_gluing.specs.Homes.{home_of, IsInCorner}
use Rattle.fs_gluing.specs.Polygons.{HasSide}
use Rattle.fs_gluing.specs.Surface.{GluedPolygons}
use Rattle.fs_gluing.specs.Triangulation.{edge_vector, edge_twin, next_in_face}
use Rattle.fs_mesh.specs.declared.arena.HalfEdge.{HalfEdge}
use Rattle.fs_mesh.specs.Arena.{vectors_of, arena_triangles, arena_homes, arena_mesh, HasNexts, IsFilled}
use Rattle.fs_mesh.specs.Meshes.{IsMesh}
use Rattle.fs_mesh.proofs.HalfEdgeNumbers.{next_is_below, twin_is_below}

-- ---- reading

-- there are as many half-edges as vectors
below_count : (half_edges : List HalfEdge) (h : ℕ) → h < length (vectors_of half_edges) → h < length half_edges
below_count half_edges h = subst (λ n. h < n) (length-map half_edges (λ k. k.vector))

module _ (half_edges : List HalfEdge) (h : ℕ) (x : HalfEdge) (there : h < length half_edges) (read : x ≡ get_or half_edges h x) where
  -- what a half-edge keeps is what the triangulation has at its number
  twin_read : edge_twin (arena_triangles half_edges) h ≡ x.twin
  twin_read = get_or-map (λ k. k.twin) half_edges h x 0 there ∙ ap (λ k. k.twin) (sym read)

  home_read : home_of (arena_homes half_edges) h ≡ x.home
  home_read = get_or-map (λ k. k.home) half_edges h x (record { polygon = 0; side = 0 }) there ∙ ap (λ k. k.home) (sym read)

  next_read : HasNexts half_edges → x.next ≡ next_in_face h
  next_read nexts =
      ap (λ k. k.next) read
      ∙ sym (get_or-map (λ k. k.next) half_edges h x 0 there)
      ∙ ap (λ ns. get_or ns h 0) nexts
      ∙ get_or-map-range_with_len next_in_face 0 (length half_edges) h h 0 there (zero-add h)

-- a mesh has its triangulation and its homes in the arena
module _ (surface : GluedPolygons) (half_edges : List HalfEdge) (mesh : IsMesh (arena_mesh surface half_edges))
    (h : ℕ) (x : HalfEdge) (below : h < length (vectors_of half_edges)) (read : x ≡ get_or half_edges h x) where
  pub next_kept : HasNexts half_edges → x.next ≡ next_in_face h
  next_kept = next_read half_edges h x (below_count half_edges h below) read

  pub next_there : HasNexts half_edges → x.next < length (vectors_of half_edges)
  next_there nexts = subst (λ n. n < length (vectors_of half_edges)) (sym (next_kept nexts)) (next_is_below (arena_triangles half_edges) mesh.triangulation.triangles h below)

  pub twin_there : x.twin < length (vectors_of half_edges)
  twin_there =
      subst (λ n. n < length (vectors_of half_edges)) (twin_read half_edges h x (below_count half_edges h below) read)
      (twin_is_below (arena_triangles half_edges) mesh.triangulation.triangles h below)

  pub home_kept : x.home ≡ home_of (arena_homes half_edges) h
  home_kept = sym (home_read half_edges h x (below_count half_edges h below) read)

  pub home_there : HasSide surface.polygons x.home
  home_there = subst (HasSide surface.polygons) (sym home_kept) (mesh.homes.corner h below)

  pub home_holds : IsInCorner surface x.home (edge_vector (arena_triangles half_edges) h)
  home_holds = subst (λ c. IsInCorner surface c (edge_vector (arena_triangles half_edges) h)) (sym home_kept) (mesh.homes.holds h below)

-- ---- filling

-- half-edges of faces that are there have room for those of one face more
pub room_for_face : (faces : List (List PlaneVector)) (half_edges : List HalfEdge) (i : ℕ) (face : List PlaneVector) → vectors_of half_edges ≡ flat_map (λ f. f) (take i faces) → i < length faces
    → face ≡ get_or faces i face → length half_edges + length face ≤ length (flat_map (λ f. f) faces)
room_for_face faces half_edges i face filled there read =
    subst (λ n. n ≤ length (flat_map (λ f. f) faces)) (λ j. (sym (ap length filled) ∙ length-map half_edges (λ k. k.vector)) j + length (sym read j))
    (length-flat_map-take (λ f. f) faces i face there)

-- an arena with one half-edge more
pub filled_more : (twins : List ℕ) (homes : List Corner) (half_edges : List HalfEdge) (vector : PlaneVector) (corner : Corner) → IsFilled twins homes half_edges → length half_edges < length twins → length homes ≡ length twins
    → IsFilled twins homes (half_edges ++ record { vector = vector; twin = get_or twins (length half_edges) 0; next = next_in_face (length half_edges); home = get_or homes (length half_edges) corner } ∷ [])
filled_more twins homes half_edges vector corner filled room as_many = record {
  within = subst (λ k. k ≤ length twins) (sym longer) (omega arith);
  twins_kept = map-append (λ h. h.twin) half_edges (added ∷ []) ∙ ap (λ ts. ts ++ added.twin ∷ []) filled.twins_kept ∙ sym (take_more twins n 0 room) ∙ ap (λ k. take k twins) (sym longer);
  homes_kept = map-append (λ h. h.home) half_edges (added ∷ []) ∙ ap (λ cs. cs ++ added.home ∷ []) filled.homes_kept ∙ sym (take_more homes n corner (subst (λ k. n < k) (sym as_many) room)) ∙ ap (λ k. take k homes) (sym longer);
  nexts = map-append (λ h. h.next) half_edges (added ∷ []) ∙ ap (λ ns. ns ++ added.next ∷ []) filled.nexts ∙ sym (map-range_with_len_more next_in_face 0 n n (zero-add n)) ∙ ap (λ k. map next_in_face (range_with_len 0 k)) (sym longer);
}
  where
    n : ℕ
    n = length half_edges

    added : HalfEdge
    added = record { vector = vector; twin = get_or twins n 0; next = next_in_face n; home = get_or homes n corner }

    longer : length (half_edges ++ added ∷ []) ≡ n + 1
    longer = length-append half_edges (added ∷ [])
