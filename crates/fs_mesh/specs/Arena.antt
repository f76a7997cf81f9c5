-- The arena of half-edges in which a mesh keeps its triangulation, and the writes of a flip. The contract of `flat` doesn't rest on this file.
use Rattle.std.specs.Prelude.{◌≡◌, ℕ, ◌<◌, ◌≤◌, cond, eqb, List, length, map, take, slice_index_or, slice_set}
use Rattle.std.specs.List.{range_with_len}
use Rattle.fs_plane.specs.declared.corners.Corner.{Corner}
use Rattle.fs_plane.specs.Vector.{PlaneVector, vector_zero, vector_neg}
use Rattle.fs_gluing.specs.Surface.{GluedPolygons}
use Rattle.fs_gluing.specs.Triangulation.{Triangulation, edge_twin, next_in_face, prev_in_face}
use Rattle.fs_mesh.specs.declared.arena.HalfEdge.{HalfEdge}
use Rattle.fs_mesh.specs.declared.arena.Hinge.{Hinge}
use Rattle.fs_mesh.specs.Meshes.{MeshValue}

-- the vectors of half-edges
abbrev pub vectors_of : List HalfEdge → List PlaneVector
vectors_of half_edges = map (λ h. h.vector) half_edges

-- their twins
abbrev pub twins_of : List HalfEdge → List ℕ
twins_of half_edges = map (λ h. h.twin) half_edges

-- the next half-edges of their faces
abbrev pub nexts_of : List HalfEdge → List ℕ
nexts_of half_edges = map (λ h. h.next) half_edges

-- their homes
abbrev pub arena_homes : List HalfEdge → List Corner
arena_homes half_edges = map (λ h. h.home) half_edges

-- the triangulation that an arena keeps
abbrev pub arena_triangles : List HalfEdge → Triangulation
arena_triangles half_edges = record { vectors = vectors_of half_edges; twins = twins_of half_edges }

-- the mesh of a surface that it keeps
abbrev pub arena_mesh : GluedPolygons → List HalfEdge → MeshValue
arena_mesh surface half_edges = record { surface = surface; triangles = arena_triangles half_edges; homes = arena_homes half_edges }

-- each half-edge keeps the next one of its face
abbrev pub HasNexts : List HalfEdge → Type 0
HasNexts half_edges = nexts_of half_edges ≡ map next_in_face (range_with_len 0 (length half_edges))

-- an arena that is filled up to some half-edge: it has the first of these twins and of these homes
pub record IsFilled (twins : List ℕ) (homes : List Corner) (half_edges : List HalfEdge) : Type 0 where
  pub within : length half_edges ≤ length twins
  pub twins_kept : twins_of half_edges ≡ take (length half_edges) twins
  pub homes_kept : arena_homes half_edges ≡ take (length half_edges) homes
  pub nexts : HasNexts half_edges

-- the half-edges of the hinge of half-edge h
abbrev pub hinge_of : Triangulation → ℕ → Hinge
hinge_of t h = record {
  edge = h;
  after = next_in_face h;
  before = prev_in_face h;
  twin = edge_twin t h;
  after_twin = next_in_face (edge_twin t h);
  before_twin = prev_in_face (edge_twin t h);
}

-- the number of a half-edge after the flip of the hinge's edge: those of the hinge's sides move on by one, round the hinge
abbrev pub moved_by : Hinge → ℕ → ℕ
moved_by hinge x =
    cond (eqb x hinge.before) hinge.after (cond (eqb x hinge.after_twin) hinge.before (cond (eqb x hinge.before_twin) hinge.after_twin (cond (eqb x hinge.after) hinge.before_twin x)))

-- the numbers of the hinge, and of its outer twins, are below n
pub record IsWithin (n : ℕ) (twins : List ℕ) (hinge : Hinge) : Type 0 where
  pub edge : hinge.edge < n
  pub after : hinge.after < n
  pub before : hinge.before < n
  pub twin : hinge.twin < n
  pub after_twin : hinge.after_twin < n
  pub before_twin : hinge.before_twin < n
  pub twin_of_after : slice_index_or twins hinge.after 0 < n
  pub twin_of_before : slice_index_or twins hinge.before 0 < n
  pub twin_of_after_twin : slice_index_or twins hinge.after_twin 0 < n
  pub twin_of_before_twin : slice_index_or twins hinge.before_twin 0 < n

-- a list with an item for each half-edge after the writes of a flip, which give the edge and its twin these items
abbrev pub items_written : {B : Type 0} → B → List B → Hinge → (edge twin : B) → List B
items_written {B} none items hinge edge twin =
    let of : ℕ → B = λ h. slice_index_or items h none in
    slice_set (slice_set (slice_set (slice_set (slice_set (slice_set items hinge.edge edge) hinge.twin twin)
    hinge.after (of hinge.before)) hinge.before (of hinge.after_twin)) hinge.after_twin (of hinge.before_twin)) hinge.before_twin (of hinge.after)

-- the vectors after the writes, where the new edge leads along this vector
abbrev pub vectors_written : List PlaneVector → Hinge → PlaneVector → List PlaneVector
vectors_written vectors hinge across = items_written vector_zero vectors hinge across (vector_neg across)

-- the homes after the writes, where the new edge has these
abbrev pub homes_written : List Corner → Hinge → (home twin_home : Corner) → List Corner
homes_written homes hinge home twin_home = items_written (record { polygon = 0; side = 0 }) homes hinge home twin_home

-- the twins after the writes of the six half-edges of the hinge
abbrev pub hinge_twins_written : List ℕ → Hinge → List ℕ
hinge_twins_written twins hinge =
    let outer : ℕ → ℕ = λ h. moved_by hinge (slice_index_or twins h 0) in
    slice_set (slice_set (slice_set (slice_set (slice_set (slice_set twins hinge.edge hinge.twin) hinge.twin hinge.edge)
    hinge.after (outer hinge.before)) hinge.before (outer hinge.after_twin)) hinge.after_twin (outer hinge.before_twin)) hinge.before_twin (outer hinge.after)

-- and after the writes of the outer twins
abbrev pub twins_written : List ℕ → Hinge → List ℕ
twins_written twins hinge =
    let outer : ℕ → ℕ = λ h. moved_by hinge (slice_index_or twins h 0) in
    slice_set (slice_set (slice_set (slice_set (hinge_twins_written twins hinge) (outer hinge.after) hinge.before_twin) (outer hinge.before) hinge.after)
    (outer hinge.after_twin) hinge.before) (outer hinge.before_twin) hinge.after_twin
