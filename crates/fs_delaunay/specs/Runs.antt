-- Delaunay triangulations, and the run of flips that leads to one: again and again the first illegal edge is flipped.
use Rattle.std.specs.Prelude.{◌≡◌, ℕ, ◌<◌, List, [], ◌∷◌, ◌++◌}
use Rattle.fs_gluing.specs.declared.triangulations.Triangles.{Triangles}
use Rattle.fs_gluing.specs.FirstCut.{IsFirstCut}
use Rattle.fs_gluing.specs.Surface.{GluedPolygons}
use Rattle.fs_gluing.specs.Triangulation.{Triangulation, IsEdge, triangulation_of}
use Rattle.fs_mesh.specs.Meshes.{MeshValue, IsIllegal}
use Rattle.fs_mesh.specs.FlippedMeshes.{IsFlipOf}

-- the mesh is that of the first cut of the surface
pub record IsFirstMesh (s : GluedPolygons) (m : MeshValue) : Type 0 where
  pub surface : m.surface ≡ s
  pub triangles : Triangles
  pub cut : IsFirstCut s triangles
  pub same : m.triangles ≡ triangulation_of triangles
  pub homes : m.homes ≡ triangles.homes

-- no edge is illegal
abbrev pub IsDelaunay : ℕ → Triangulation → Type 0
IsDelaunay d t = (e : ℕ) → IsEdge t e → ¬ IsIllegal d t e

-- e is the first illegal edge
pub record IsFirstIllegal (d : ℕ) (t : Triangulation) (e : ℕ) : Type 0 where
  pub edge : IsEdge t e
  pub illegal : IsIllegal d t e
  pub first : (o : ℕ) → IsEdge t o → o < e → ¬ IsIllegal d t o

-- flips of these edges lead from the one triangulation to the other, in order, each of the edge that is the first illegal one then
pub data LeadsByFlips (d : ℕ) (start : Triangulation) : List ℕ → Triangulation → Type 0 where
  no_flip : LeadsByFlips d start [] start
  flip : (edges : List ℕ) (e : ℕ) (t after : Triangulation) → LeadsByFlips d start edges t → IsFirstIllegal d t e → IsFlipOf d t e after → LeadsByFlips d start (edges ++ e ∷ []) after

-- the Delaunay run from a triangulation: the edges that it flips, and the Delaunay triangulation to which it leads
pub record IsDelaunayRun (d : ℕ) (start : Triangulation) (edges : List ℕ) (t : Triangulation) : Type 0 where
  pub flips : LeadsByFlips d start edges t
  pub delaunay : IsDelaunay d t
