-- What the calls of fs_delaunay return, as contracts see it.
use Rattle.std.specs.Prelude.{ℕ, Ok, Err, Result, List}
use Rattle.fs_plane.specs.declared.sites.Stop.{Stop}
use Rattle.fs_plane.specs.declared.sites.Stop.TheVariants.{Undecided, Overflow, NoMemory}
use Rattle.fs_mesh.specs.Meshes.{MeshValue}
use Rattle.fs_delaunay.specs.CheckedRuns.{Flipped, AllPass}

-- a mesh and the edges that were flipped, as contracts see a `Delaunay`
pub record DelaunayValue : Type 0 where
  pub mesh : MeshValue
  pub edges : List ℕ

-- each edge of the mesh passes: its formula gives a value that isn't above 0
abbrev pub IsDelaunayValue : DelaunayValue → Type 0
IsDelaunayValue v = AllPass v.mesh.surface.d v.mesh.triangles

-- what holds of the end of a run holds of the end that a call returns; where memory runs out it returns none
abbrev pub ReturnsRun : (Result Flipped Stop → Type 0) → Result DelaunayValue Stop → Type 0
ReturnsRun P (Ok delaunay) = P (Ok (record { edges = delaunay.edges; mesh = delaunay.mesh }))
ReturnsRun P (Err NoMemory) = Unit {0}
ReturnsRun P (Err (Undecided n)) = P (Err (Undecided n))
ReturnsRun P (Err (Overflow site)) = P (Err (Overflow site))
