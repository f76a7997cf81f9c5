-- The steps of a run: where it ends, and what a flip leaves.
use Rattle.std.proofs.Common.{◌≡◌, ◌≢◌, ℕ, ◌≤◌, Bool, List, length, Ok, Err, Option, Some, sym, ◌∙◌, subst, arith}
use Rattle.fs_quadratic.specs.declared.steps.Place.{Place}
use Rattle.fs_plane.specs.declared.sites.Site.TheVariants.{Circle, Flip}
use Rattle.fs_plane.specs.declared.sites.Stop.{Stop}
use Rattle.fs_plane.specs.declared.sites.Stop.TheVariants.{Undecided, Overflow}
use Rattle.fs_gluing.specs.Triangulation.{Triangulation}
use Rattle.fs_mesh.specs.Meshes.{MeshValue, IsMesh, IsIllegal}
use Rattle.fs_mesh.specs.FlippedMeshes.{IsMeshFlipped, FindsNewEdge}
use Rattle.fs_mesh.proofs.MeshAfterFlip.{mesh_after}
use Rattle.fs_delaunay.specs.CheckedRuns.{Fails, IsReached}
use Rattle.fs_delaunay.specs.Steps.{EndsHere, circle_overflows, flip_overflows, budget_spent, StopsAtEdge, FindsFailing, Steps}
use Rattle.fs_delaunay.specs.Suspects.{MarksSuspects, with_marks, hinge_edges}
use Rattle.fs_delaunay.proofs.CheckedRunLaws.{illegal_of_fails}
use Rattle.fs_delaunay.proofs.SuspectsAfterFlip.{suspects_after_flip}

module _ (m : MeshValue) (edges : List ℕ) (budget flips : ℕ) (count : flips ≡ length edges) where
  abbrev d : ℕ
  d = m.surface.d

  abbrev t : Triangulation
  t = m.triangles

  -- where a circle value overflows the run ends
  pub step_stops : (stop : Stop) → (e : ℕ) × IsReached d t e × StopsAtEdge d t flips e stop → length edges ≤ budget → (after : MeshValue) (edges_after : List ℕ)
      → Steps m edges budget after edges_after (Err stop)
  step_stops stop found few after edges_after =
      let place = found.2.place in
      subst (λ s. Steps m edges budget after edges_after (Err s)) (sym found.2.is)
      (subst (λ n. EndsHere m edges budget (Err (Overflow (Circle n found.0 place.0)))) (sym count) (circle_overflows found.0 place few found.1 found.2.given))

  -- where the budget is spent
  pub step_spent : (found : Option ℕ) (e : ℕ) → FindsFailing d t flips (Ok found) → found ≡ Some e → flips ≡ budget → EndsHere m edges budget (Err (Undecided budget))
  step_spent found e finds is spent =
      let failing = subst (λ f. FindsFailing d t flips (Ok f)) is finds in
      budget_spent e (sym count ∙ spent) failing.0 failing.1

  -- and where a flip overflows
  pub step_overflows : (found : Option ℕ) (e : ℕ) → FindsFailing d t flips (Ok found) → found ≡ Some e → flips ≢ budget → length edges ≤ budget → (place : Place) → FindsNewEdge m e (Err place)
      → EndsHere m edges budget (Err (Overflow (Flip flips e place.0)))
  step_overflows found e finds is room few place given =
      let failing = subst (λ f. FindsFailing d t flips (Ok f)) is finds in
      subst (λ n. EndsHere m edges budget (Err (Overflow (Flip n e place.0)))) (sym count) (flip_overflows e place (omega arith) failing.0 failing.1 given)

module _ (d : ℕ) (t : Triangulation) (flips : ℕ) (found : Option ℕ) (e : ℕ) (finds : FindsFailing d t flips (Ok found)) (is : found ≡ Some e) where
  pub found_failing : IsReached d t e × Fails d t e
  found_failing = subst (λ f. FindsFailing d t flips (Ok f)) is finds

  -- an edge that fails is illegal
  pub found_illegal : IsIllegal d t e
  found_illegal = illegal_of_fails d t e found_failing.1

-- the mesh after the flip of an edge that fails
module _ (before after : MeshValue) (mesh : IsMesh before) (flips : ℕ) (found : Option ℕ) (e : ℕ) (finds : FindsFailing before.surface.d before.triangles flips (Ok found)) (is : found ≡ Some e)
    (flip : IsMeshFlipped before e after) where
  reached : IsReached before.surface.d before.triangles e
  reached = (found_failing before.surface.d before.triangles flips found e finds is).0

  illegal : IsIllegal before.surface.d before.triangles e
  illegal = found_illegal before.surface.d before.triangles flips found e finds is

  pub mesh_of_flip : IsMesh after
  mesh_of_flip = mesh_after before mesh e reached.edge.there flip illegal

  -- has the suspects before and those of its hinge
  pub suspects_of_flip : (marks marks_after : List Bool) → MarksSuspects before.surface.d before.triangles marks → marks_after ≡ with_marks marks (hinge_edges after.triangles e)
      → MarksSuspects after.surface.d after.triangles marks_after
  suspects_of_flip marks marks_after suspects marked =
      subst (λ s. MarksSuspects s.d after.triangles marks_after) (sym flip.surface)
      (subst (MarksSuspects before.surface.d after.triangles) (sym marked) (suspects_after_flip mesh.surface.radicand mesh.triangulation e reached.edge illegal flip.triangles marks suspects))
