-- The steps of a Delaunay run, as the code takes them. Only proofs and inner calls of this crate cite it; public contracts don't.
use Rattle.std.specs.Prelude.{◌≡◌, ℕ, ◌<◌, ◌≤◌, Bool, true, false, Ok, Err, Result, Option, Some, None, List, [], ◌∷◌, ◌++◌, length}
use Rattle.fs_quadratic.specs.declared.steps.Place.{Place}
use Rattle.fs_plane.specs.declared.sites.Site.TheVariants.{Circle, Flip}
use Rattle.fs_plane.specs.declared.sites.Stop.{Stop}
use Rattle.fs_plane.specs.declared.sites.Stop.TheVariants.{Undecided, Overflow, NoMemory}
use Rattle.fs_gluing.specs.Triangulation.{Triangulation, IsEdge}
use Rattle.fs_mesh.specs.Meshes.{MeshValue, edge_circle_after}
use Rattle.fs_mesh.specs.FlippedMeshes.{IsMeshFlipped, FindsNewEdge}
use Rattle.fs_delaunay.specs.CheckedRuns.{Flipped, Passes, Fails, AllPass, IsReached}

-- how the run of at most n flips ends at a mesh, after the flips of these edges, with no flip more
pub data EndsHere (m : MeshValue) (edges : List ℕ) (n : ℕ) : Result Flipped Stop → Type 0 where
  all_pass : length edges ≤ n → AllPass m.surface.d m.triangles → EndsHere m edges n (Ok (record { edges = edges; mesh = m }))
  circle_overflows : (e : ℕ) (place : Place) → length edges ≤ n → IsReached m.surface.d m.triangles e → edge_circle_after m.surface.d m.triangles e ≡ Err place
      → EndsHere m edges n (Err (Overflow (Circle (length edges) e place.0)))
  flip_overflows : (e : ℕ) (place : Place) → length edges < n → IsReached m.surface.d m.triangles e → Fails m.surface.d m.triangles e → FindsNewEdge m e (Err place)
      → EndsHere m edges n (Err (Overflow (Flip (length edges) e place.0)))
  budget_spent : (e : ℕ) → length edges ≡ n → IsReached m.surface.d m.triangles e → Fails m.surface.d m.triangles e → EndsHere m edges n (Err (Undecided n))

-- after so many flips, the circle value of an edge overflows
pub record StopsAtEdge (d : ℕ) (t : Triangulation) (flips e : ℕ) (stop : Stop) : Type 0 where
  pub place : Place
  pub given : edge_circle_after d t e ≡ Err place
  pub is : stop ≡ Overflow (Circle flips e place.0)

-- whether half-edge h names an edge that fails
abbrev pub TestsEdge : ℕ → Triangulation → ℕ → ℕ → Result Bool Stop → Type 0
TestsEdge d t flips h (Ok true) = IsEdge t h × Fails d t h
TestsEdge d t flips h (Ok false) = IsEdge t h → Passes d t h
TestsEdge d t flips h (Err stop) = IsEdge t h × StopsAtEdge d t flips h stop

-- the first edge that doesn't pass, where it fails, or none
abbrev pub FindsFailing : ℕ → Triangulation → ℕ → Result (Option ℕ) Stop → Type 0
FindsFailing d t flips (Ok (Some e)) = IsReached d t e × Fails d t e
FindsFailing d t flips (Ok None) = AllPass d t
FindsFailing d t flips (Err stop) = (e : ℕ) × IsReached d t e × StopsAtEdge d t flips e stop

-- the first edge that doesn't pass is flipped, and added to the list
pub record FlipsNext (m : MeshValue) (edges : List ℕ) (budget : ℕ) (after : MeshValue) (edges_after : List ℕ) : Type 0 where
  pub edge : ℕ
  pub room : length edges < budget
  pub reached : IsReached m.surface.d m.triangles edge
  pub fails : Fails m.surface.d m.triangles edge
  pub flip : IsMeshFlipped m edge after
  pub added : edges_after ≡ edges ++ edge ∷ []

-- all edges pass, and nothing is flipped
pub record FlipsNone (m : MeshValue) (edges : List ℕ) (after : MeshValue) (edges_after : List ℕ) : Type 0 where
  pub pass : AllPass m.surface.d m.triangles
  pub same : after ≡ m
  pub same_edges : edges_after ≡ edges

-- one step of a run: whether an edge is flipped, or how the run ends
abbrev pub Steps : MeshValue → List ℕ → ℕ → MeshValue → List ℕ → Result Bool Stop → Type 0
Steps m edges budget after edges_after (Ok true) = FlipsNext m edges budget after edges_after
Steps m edges budget after edges_after (Ok false) = FlipsNone m edges after edges_after
Steps m edges budget after edges_after (Err NoMemory) = Unit {0}
Steps m edges budget after edges_after (Err (Undecided n)) = EndsHere m edges budget (Err (Undecided n))
Steps m edges budget after edges_after (Err (Overflow site)) = EndsHere m edges budget (Err (Overflow site))
