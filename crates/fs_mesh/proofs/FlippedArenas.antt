-- The lists and the arena of a mesh after the writes of a flip.
use Rattle.std.proofs.Common.{◌≡◌, ℕ, ◌<◌, List, ◌++◌, length, map, take, drop, eqb, Ok, refl, sym, ap, ◌∙◌, subst}
use Rattle.std.proofs.Math.Seq.{take-append_seam}
use Rattle.std.specs.List.{range_with_len}
use Rattle.fs_quadratic.proofs.Laws.{field_order}
use Rattle.fs_ring.specs.OrderedRing.{IsOrderedRing}
use Rattle.fs_quadratic.specs.Ring.{quadratic, IsPositive}
use Rattle.fs_plane.specs.declared.corners.Corner.{Corner}
use Rattle.fs_plane.proofs.FormulaLaws.{sum_value}
use Rattle.fs_triangles.specs.Flips.{moved}
use Rattle.fs_gluing.specs.Homes.{home_of}
use Rattle.fs_gluing.specs.Triangulation.{Triangulation, face_sides, edge_twin, next_in_face}
use Rattle.fs_mesh.specs.declared.arena.HalfEdge.{HalfEdge}
use Rattle.fs_mesh.specs.Arena.{vectors_of, twins_of, nexts_of, arena_triangles, arena_homes, arena_mesh, HasNexts, hinge_of, vectors_written, twins_written, homes_written}
use Rattle.fs_mesh.specs.Meshes.{MeshValue, IsMesh, hinge_after, hinge_before_twin}
use Rattle.fs_mesh.specs.FlippedMeshes.{IsMeshFlipped, NewEdge, FindsNewEdge}
use Rattle.fs_mesh.proofs.HalfEdgeNumbers.{side_of_number}
use Rattle.fs_mesh.proofs.FlippedLists.{flip_of_writes, length-items_after, item_at_edge, item_at_twin, item_kept}
use Rattle.fs_mesh.proofs.NewEdges.{IsNewEdge, is_new_edge}

-- a list that is written whole over one of the same length
pub refilled : {X : Type 0} (n : ℕ) (new old : List X) → n ≡ length new → take n (new ++ drop (length new) old) ≡ new
refilled n new old e = ap (λ k. take k (new ++ drop (length new) old)) e ∙ take-append_seam new (drop (length new) old)

module _ (m : MeshValue) (mesh : IsMesh m) (h : ℕ) (there : h < length m.triangles.vectors) (edge : NewEdge) (found : FindsNewEdge m h (Ok edge)) where
  L : IsOrderedRing (quadratic m.surface.d) (IsPositive m.surface.d)
  L = field_order mesh.surface.radicand

  is_new : IsNewEdge m h edge
  is_new = is_new_edge m mesh h there (Ok edge) found

  abbrev none : Corner
  none = record { polygon = 0; side = 0 }

  -- the lists after the writes are the mesh with the edge flipped
  pub flip_of_lists : (after : Triangulation) (homes : List Corner) → after.vectors ≡ vectors_written m.triangles.vectors (hinge_of m.triangles h) edge.vector → after.twins ≡ twins_written m.triangles.twins (hinge_of m.triangles h)
      → homes ≡ homes_written m.homes (hinge_of m.triangles h) edge.home edge.twin_home → IsMeshFlipped m h (record { surface = m.surface; triangles = after; homes = homes })
  flip_of_lists after homes vectors twins written = record {
    surface = refl;
    triangles =
        flip_of_writes L m.triangles mesh.triangulation.triangles h there (mesh.triangulation.twins ∙ sym mesh.triangulation.vectors)
        (vectors ∙ ap (vectors_written m.triangles.vectors (hinge_of m.triangles h)) (sum_value 0 (hinge_before_twin m.triangles h) (hinge_after m.triangles h) edge.vector is_new.vector)) twins;
    edge = edge;
    found = found;
    homes = ap length written ∙ length-items_after L m.triangles mesh.triangulation.triangles h there none m.homes edge.home edge.twin_home;
    home = ap (λ cs. home_of cs h) written ∙ item_at_edge L m.triangles mesh.triangulation.triangles h there none m.homes edge.home edge.twin_home mesh.homes.as_many;
    twin_home = ap (λ cs. home_of cs (edge_twin m.triangles h)) written ∙ item_at_twin L m.triangles mesh.triangulation.triangles h there none m.homes edge.home edge.twin_home mesh.homes.as_many;
    kept = λ x below other not_twin.
        ap (λ cs. home_of cs (moved eqb (face_sides m.triangles) h x)) written
        ∙ item_kept L m.triangles mesh.triangulation.triangles h there none m.homes edge.home edge.twin_home mesh.homes.as_many x (side_of_number m.triangles x (subst (λ n. x < n) mesh.homes.as_many below)) other not_twin;
  }

  -- so is the arena
  pub flip_of_arena : (old new : List HalfEdge) → arena_mesh m.surface old ≡ m → vectors_of new ≡ vectors_written (vectors_of old) (hinge_of m.triangles h) edge.vector
      → twins_of new ≡ twins_written (twins_of old) (hinge_of m.triangles h) → arena_homes new ≡ homes_written (arena_homes old) (hinge_of m.triangles h) edge.home edge.twin_home
      → IsMeshFlipped m h (arena_mesh m.surface new)
  flip_of_arena old new before vectors twins homes =
      flip_of_lists (arena_triangles new) (arena_homes new)
      (vectors ∙ ap (λ w. vectors_written w.triangles.vectors (hinge_of m.triangles h) edge.vector) before)
      (twins ∙ ap (λ w. twins_written w.triangles.twins (hinge_of m.triangles h)) before)
      (homes ∙ ap (λ w. homes_written w.homes (hinge_of m.triangles h) edge.home edge.twin_home) before)

-- and keep the next half-edges
pub nexts_kept : (old new : List HalfEdge) → nexts_of new ≡ nexts_of old → length new ≡ length old → HasNexts old → HasNexts new
nexts_kept old new same as_many nexts = same ∙ nexts ∙ ap (λ n. map next_in_face (range_with_len 0 n)) (sym as_many)
