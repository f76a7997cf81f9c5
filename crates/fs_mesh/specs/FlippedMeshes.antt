-- What a flip makes of a mesh: the faces after it, the cuts that lead to them, and the homes of the new edge.
use Rattle.std.specs.Prelude.{◌≡◌, ◌≢◌, ℕ, ◌<◌, cond, eqb, ltb, length, Result, Ok, Err}
use Rattle.fs_quadratic.specs.Ring.{Quadratic, quadratic, IsPositive}
use Rattle.fs_quadratic.specs.declared.steps.Place.{Place}
use Rattle.fs_plane.specs.declared.corners.Corner.{Corner}
use Rattle.fs_plane.specs.Formulas.{vector_sum_after}
use Rattle.fs_plane.specs.Vector.{PlaneVector, vector_neg}
use Rattle.fs_paths.specs.SideGluing.{SideGluing, AreGluedPolygons}
use Rattle.fs_cuts.specs.Cuts.{IsCut}
use Rattle.fs_triangles.specs.Flips.{moved, IsFlip}
use Rattle.fs_gluing.specs.Homes.{home_of, FindsCorner, IsFirstCorner}
use Rattle.fs_gluing.specs.SurfaceSides.{is_ahead}
use Rattle.fs_gluing.specs.Triangulation.{Triangulation, face_sides, edge_twin, next_in_face, prev_in_face}
use Rattle.fs_mesh.specs.Meshes.{MeshValue, hinge_after, hinge_before_twin}

-- the vector of half-edge h after its edge is flipped, by its formula
abbrev pub flipped_vector : Triangulation → ℕ → Result PlaneVector Place
flipped_vector t h = vector_sum_after 0 (hinge_before_twin t h) (hinge_after t h)

-- after is before with the edge of half-edge h flipped
pub record IsFlipOf (d : ℕ) (before : Triangulation) (h : ℕ) (after : Triangulation) : Type 0 where
  pub vectors : length after.vectors ≡ length before.vectors
  pub twins : length after.twins ≡ length before.twins
  pub flip : IsFlip (quadratic d) eqb (face_sides before) (face_sides after) h

-- one cut undone and one cut lead from the faces before to the faces after the edge of half-edge h is flipped: some glued polygons are cut along the edge into the faces before, and along the other diagonal of its hinge into the faces after, where the sides of the hinge have their moved names
pub record ArePastedAndCut (d : ℕ) (before : Triangulation) (h : ℕ) (after : Triangulation) : Type 0 where
  pub between : SideGluing ℕ Quadratic
  pub glued : AreGluedPolygons (quadratic d) (IsPositive d) (is_ahead d) between
  pub cut_before : IsCut (quadratic d) between (face_sides before) (λ x. x) (prev_in_face h) (prev_in_face (edge_twin before h)) h (edge_twin before h)
  pub cut_after : IsCut (quadratic d) between (face_sides after) (moved eqb (face_sides before) h) (next_in_face (edge_twin before h)) (next_in_face h) h (edge_twin before h)

-- what a flip finds: the vector of the half-edge that names the edge, and the homes of it and of its twin
pub record NewEdge : Type 0 where
  pub vector : PlaneVector
  pub home : Corner
  pub twin_home : Corner

-- both homes, or the least of the places at which the searches for them overflow
abbrev pub with_homes : PlaneVector → Result Corner Place → Result Corner Place → Result NewEdge Place
with_homes v (Ok home) (Ok twin_home) = Ok (record { vector = v; home = home; twin_home = twin_home })
with_homes v (Ok home) (Err stop) = Err stop
with_homes v (Err stop) (Ok twin_home) = Err stop
with_homes v (Err one) (Err two) = Err (cond (ltb one.0 two.0) one two)

-- what is found where the edge of half-edge h is flipped, or the place that overflows: its vector, then both homes, each by the search from the home of the half-edge before, round the vertex where the new one begins
pub data FindsNewEdge (m : MeshValue) (h : ℕ) : Result NewEdge Place → Type 0 where
  vector_overflows : (stop : Place) → flipped_vector m.triangles h ≡ Err stop → FindsNewEdge m h (Err stop)
  searched : (v : PlaneVector) (home twin_home : Result Corner Place) → flipped_vector m.triangles h ≡ Ok v
      → FindsCorner m.surface (home_of m.homes (prev_in_face (edge_twin m.triangles h))) v 2 18 home
      → FindsCorner m.surface (home_of m.homes (prev_in_face h)) (vector_neg v) 11 18 twin_home → FindsNewEdge m h (with_homes v home twin_home)

-- the homes are, by their meaning, the first corners whose sectors hold the new vectors
pub record AreFirstHomes (m : MeshValue) (h : ℕ) (edge : NewEdge) : Type 0 where
  pub home : IsFirstCorner m.surface (home_of m.homes (prev_in_face (edge_twin m.triangles h))) edge.vector edge.home
  pub twin_home : IsFirstCorner m.surface (home_of m.homes (prev_in_face h)) (vector_neg edge.vector) edge.twin_home

-- after is before with the edge of half-edge h flipped: the new edge has the homes that were found, and each other half-edge keeps its home under its moved number
pub record IsMeshFlipped (before : MeshValue) (h : ℕ) (after : MeshValue) : Type 0 where
  pub surface : after.surface ≡ before.surface
  pub triangles : IsFlipOf before.surface.d before.triangles h after.triangles
  pub edge : NewEdge
  pub found : FindsNewEdge before h (Ok edge)
  pub homes : length after.homes ≡ length before.homes
  pub home : home_of after.homes h ≡ edge.home
  pub twin_home : home_of after.homes (edge_twin before.triangles h) ≡ edge.twin_home
  pub kept : (x : ℕ) → x < length before.homes → x ≢ h → x ≢ edge_twin before.triangles h
      → home_of after.homes (moved eqb (face_sides before.triangles) h x) ≡ home_of before.homes x
