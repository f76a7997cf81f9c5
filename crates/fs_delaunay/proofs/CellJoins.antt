-- Edges that join faces: the value at an edge doesn't depend on which of its half-edges names it, and faces that are joined step by step are of one cell.
use Rattle.std.proofs.Common.{◌≡◌, ℕ, ◌/◌, ◌<◌, ◌≤◌, Ok, Err, length, refl, sym, ◌∙◌, subst, arith}
use Rattle.fs_quadratic.specs.Radicand.{IsRadicand}
use Rattle.fs_quadratic.specs.Ring.{quadratic, IsPositive}
use Rattle.fs_quadratic.proofs.Laws.{field_order}
use Rattle.fs_quadratic.specs.declared.steps.Place.{Place}
use Rattle.fs_triangles.specs.Triangles.{AreTriangles}
use Rattle.fs_triangles.proofs.TriangleSides.{twin_not_self}
use Rattle.fs_gluing.specs.Triangulation.{Triangulation, IsEdge, face_sides, edge_twin}
use Rattle.fs_mesh.specs.Meshes.{edge_circle_after}
use Rattle.fs_mesh.proofs.HingeHalfEdges.{circle_of_twin}
use Rattle.fs_mesh.proofs.HalfEdgeNumbers.{side_of_number, twin_is_below}
use Rattle.fs_delaunay.specs.Cells.{AreJoined, AreOfOneCell}
use Rattle.fs_delaunay.specs.CheckedRuns.{AllPass}
use Rattle.fs_delaunay.specs.CellNumbers.{JoinsFaces}

-- a face is of one cell with itself
pub one_cell_refl : {d : ℕ} {t : Triangulation} (x : ℕ) → AreOfOneCell d t x x
one_cell_refl x held steps = refl

pub one_cell_sym : {d : ℕ} {t : Triangulation} {x y : ℕ} → AreOfOneCell d t x y → AreOfOneCell d t y x
one_cell_sym a held steps = sym (a held steps)

module _ {d : ℕ} (t : Triangulation) (triangles : AreTriangles (quadratic d) (IsPositive d) (face_sides t)) where
  -- the faces at an edge that joins them are joined
  pub joined_across : (h : ℕ) → JoinsFaces d t h → AreJoined d t (h / 3) (edge_twin t h / 3)
  joined_across h joins = record {
    half_edge = h;
    side = record { there = joins.there; of = refl };
    twin = record { there = twin_is_below t triangles h joins.there; of = refl };
    zero = joins.zero;
  }

  -- what is of one cell with a face is so with the faces that are joined to it
  pub one_cell_across : (x h : ℕ) → AreOfOneCell d t x (h / 3) → JoinsFaces d t h → AreOfOneCell d t x (edge_twin t h / 3)
  one_cell_across x h a joins held steps = a held steps ∙ steps (h / 3) (edge_twin t h / 3) (joined_across h joins)

  twin_back : (h : ℕ) → h < length t.vectors → edge_twin t (edge_twin t h) ≡ h
  twin_back h there = triangles.twin_twin h (side_of_number t h there)

  -- the twin of a half-edge whose edge joins its faces is one, too
  pub twin_joins : IsRadicand d → (h : ℕ) → JoinsFaces d t h → JoinsFaces d t (edge_twin t h)
  twin_joins radicand h joins = record { there = twin_is_below t triangles h joins.there; zero = sym (circle_of_twin t triangles h joins.there) ∙ joins.zero }

  -- the lesser of two twins names their edge
  pub twin_names_edge : IsRadicand d → (h : ℕ) → h < length t.vectors → edge_twin t h ≤ h → IsEdge t (edge_twin t h)
  twin_names_edge radicand h there lesser =
      let other = twin_not_self (field_order radicand) triangles h (side_of_number t h there) in
      let below : edge_twin t h < h = omega (arith, lesser, other) in
      record { there = twin_is_below t triangles h there; lesser = subst (λ g. edge_twin t h < g) (sym (twin_back h there)) below }

-- where all edges pass, the formula of an edge gives a value
pub edge_not_stopped : (d : ℕ) (t : Triangulation) (e : ℕ) (place : Place) → AllPass d t → IsEdge t e → Err place ≡ edge_circle_after d t e → ⊥
edge_not_stopped d t e place pass edge is =
    let p = pass e edge in
    let both : Err place ≡ Ok p.value = is ∙ p.given in
    cc
