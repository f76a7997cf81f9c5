-- Delaunay runs with the numbers by which they are computed, within a budget of flips: how each ends.
use Rattle.std.specs.Prelude.{◌≡◌, ℕ, ◌<◌, ◌≤◌, Ok, Err, Result, List, [], ◌∷◌, ◌++◌, length}
use Rattle.fs_quadratic.specs.Ring.{Quadratic, IsPositive}
use Rattle.fs_quadratic.specs.declared.steps.Place.{Place}
use Rattle.fs_plane.specs.declared.sites.Site.TheVariants.{Circle, Flip}
use Rattle.fs_plane.specs.declared.sites.Stop.{Stop}
use Rattle.fs_plane.specs.declared.sites.Stop.TheVariants.{Undecided, Overflow}
use Rattle.fs_gluing.specs.Triangulation.{Triangulation, IsEdge}
use Rattle.fs_mesh.specs.Meshes.{MeshValue, edge_circle_after}
use Rattle.fs_mesh.specs.FlippedMeshes.{IsMeshFlipped, FindsNewEdge}

-- the formula of the edge's circle value gives a value that isn't above 0
pub record Passes (d : ℕ) (t : Triangulation) (e : ℕ) : Type 0 where
  pub value : Quadratic
  pub given : edge_circle_after d t e ≡ Ok value
  pub legal : ¬ IsPositive d value

-- it gives a value above 0
pub record Fails (d : ℕ) (t : Triangulation) (e : ℕ) : Type 0 where
  pub value : Quadratic
  pub given : edge_circle_after d t e ≡ Ok value
  pub illegal : IsPositive d value

-- each edge passes
abbrev pub AllPass : ℕ → Triangulation → Type 0
AllPass d t = (e : ℕ) → IsEdge t e → Passes d t e

-- e is an edge, and each edge before it passes
pub record IsReached (d : ℕ) (t : Triangulation) (e : ℕ) : Type 0 where
  pub edge : IsEdge t e
  pub before : (o : ℕ) → IsEdge t o → o < e → Passes d t o

-- flips of these edges lead from the one mesh to the other, in order, each of the first edge that doesn't pass: that one fails, and all that its flip computes fits
pub data LeadsByChecks (start : MeshValue) : List ℕ → MeshValue → Type 0 where
  no_flip : LeadsByChecks start [] start
  flip : (edges : List ℕ) (e : ℕ) (m after : MeshValue) → LeadsByChecks start edges m → IsReached m.surface.d m.triangles e → Fails m.surface.d m.triangles e
      → IsMeshFlipped m e after → LeadsByChecks start (edges ++ e ∷ []) after

-- the edges that were flipped, and the mesh to which this led
pub record Flipped : Type 0 where
  pub edges : List ℕ
  pub mesh : MeshValue

-- how the run ends that makes at most n flips
pub data EndsRun (start : MeshValue) (n : ℕ) : Result Flipped Stop → Type 0 where
  -- each edge passes
  all_pass : (edges : List ℕ) (m : MeshValue) → LeadsByChecks start edges m → length edges ≤ n → AllPass m.surface.d m.triangles → EndsRun start n (Ok (record { edges = edges; mesh = m }))
  -- the circle value of the first edge that doesn't pass overflows
  circle_overflows : (edges : List ℕ) (m : MeshValue) (e : ℕ) (place : Place) → LeadsByChecks start edges m → length edges ≤ n → IsReached m.surface.d m.triangles e
      → edge_circle_after m.surface.d m.triangles e ≡ Err place → EndsRun start n (Err (Overflow (Circle (length edges) e place.0)))
  -- the vector of its flip overflows, or a search for a home of the new edge
  flip_overflows : (edges : List ℕ) (m : MeshValue) (e : ℕ) (place : Place) → LeadsByChecks start edges m → length edges < n → IsReached m.surface.d m.triangles e
      → Fails m.surface.d m.triangles e → FindsNewEdge m e (Err place) → EndsRun start n (Err (Overflow (Flip (length edges) e place.0)))
  -- n flips leave an edge that fails
  budget_spent : (edges : List ℕ) (m : MeshValue) (e : ℕ) → LeadsByChecks start edges m → length edges ≡ n → IsReached m.surface.d m.triangles e → Fails m.surface.d m.triangles e
      → EndsRun start n (Err (Undecided n))
