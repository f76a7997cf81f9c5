-- Half-edges of a triangulation by their numbers: which there are, and which belong to a hinge.
use Rattle.std.proofs.Common.{ℕ, ◌<◌, length, eqb}
use Rattle.std.proofs.lemmas.Bool.{eqb-true, eq-eqb, ltb-true, lt-ltb}
use Rattle.fs_cuts.specs.EdgeRemoval.{TellsNames}
use Rattle.fs_paths.specs.SideGluing.{IsSide}
use Rattle.fs_triangles.specs.Triangles.{AreTriangles}
use Rattle.fs_quadratic.specs.Ring.{quadratic, IsPositive}
use Rattle.fs_gluing.specs.Triangulation.{Triangulation, face_sides, edge_twin, next_in_face}

-- the test for equal numbers tells names
pub eqb_tells_names : TellsNames eqb
eqb_tells_names x y = (eqb-true x y, eq-eqb x y)

-- the half-edges are the numbers below their count
pub side_of_number : (t : Triangulation) (h : ℕ) → h < length t.vectors → IsSide (face_sides t) h
side_of_number t h = lt-ltb h (length t.vectors)

pub number_of_side : (t : Triangulation) (h : ℕ) → IsSide (face_sides t) h → h < length t.vectors
number_of_side t h = ltb-true h (length t.vectors)

module _ {d : ℕ} (t : Triangulation) (triangles : AreTriangles (quadratic d) (IsPositive d) (face_sides t)) (h : ℕ) (there : h < length t.vectors) where
  -- the next half-edge and the twin of a half-edge are half-edges
  pub next_is_below : next_in_face h < length t.vectors
  next_is_below = number_of_side t (next_in_face h) (triangles.next_side h (side_of_number t h there))

  pub twin_is_below : edge_twin t h < length t.vectors
  twin_is_below = number_of_side t (edge_twin t h) (triangles.twin_side h (side_of_number t h there))
