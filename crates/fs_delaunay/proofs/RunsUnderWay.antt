-- A run under way: the loop's invariant, and how the run ends.
use Rattle.std.proofs.Common.{◌≡◌, ℕ, ◌+◌, ◌-◌, ◌<◌, ◌≤◌, Bool, true, false, cond, List, [], ◌∷◌, length, Ok, Err, Result, refl, sym, ap, ◌∙◌, subst, arith, length-append}
use Rattle.std.specs.Result.{IsErrAnd}
use Rattle.fs_lists.proofs.Results.{at_exit}
use Rattle.fs_plane.specs.declared.sites.Stop.{Stop}
use Rattle.fs_plane.specs.declared.sites.Stop.TheVariants.{Undecided, Overflow, NoMemory}
use Rattle.fs_mesh.specs.Meshes.{MeshValue, IsMesh}
use Rattle.fs_delaunay.specs.Runs.{IsDelaunayRun}
use Rattle.fs_delaunay.specs.CheckedRuns as checked
use Rattle.fs_delaunay.specs.CheckedRuns.{Flipped, AllPass, LeadsByChecks, EndsRun}
use Rattle.fs_delaunay.specs.Results.{DelaunayValue, ReturnsRun}
use Rattle.fs_delaunay.specs.Steps.{Steps}
use Rattle.fs_delaunay.specs.Suspects.{MarksSuspects, mark_of}
use Rattle.fs_delaunay.proofs.CheckedRunLaws.{run_of_checks, delaunay_of_all_pass}
use Rattle.fs_delaunay.proofs.EndsUnique.{end_unique, ends_here}

-- checked flips of these edges led from the start to the mesh; each edge that isn't a suspect passes, and each edge does where nothing was left to flip
pub record IsUnderWay (start : MeshValue) (budget : ℕ) (m : MeshValue) (marks : List Bool) (edges : List ℕ) (more : Bool) : Type 0 where
  pub mesh : IsMesh m
  pub surface : m.surface ≡ start.surface
  pub leads : LeadsByChecks start edges m
  pub within : length edges ≤ budget
  pub suspects : MarksSuspects m.surface.d m.triangles marks
  pub all_pass : more ≡ false → AllPass m.surface.d m.triangles

pub run_starts : (start : MeshValue) (budget : ℕ) (marks : List Bool) → IsMesh start → length marks ≡ length start.triangles.vectors
    → ((h : ℕ) → h < length start.triangles.vectors → mark_of marks h ≡ true) → IsUnderWay start budget start marks [] true
run_starts start budget marks mesh as_many marked = record {
  mesh = mesh;
  surface = refl;
  leads = checked.no_flip;
  within = omega arith;
  suspects = record { as_many = as_many; passes = λ e edge unmarked. let m = marked e edge.there in absurd cc };
  all_pass = λ f. absurd cc;
}

module _ (start : MeshValue) (budget : ℕ) (m : MeshValue) (marks : List Bool) (edges : List ℕ) (more : Bool) (u : IsUnderWay start budget m marks edges more) where
  abbrev d : ℕ
  d = start.surface.d

  -- a step goes on with the run, or it finds that each edge passes
  pub step_goes_on : (after : MeshValue) (marks_after : List Bool) (edges_after : List ℕ) (again : Bool) → after.surface ≡ m.surface → IsMesh after → MarksSuspects after.surface.d after.triangles marks_after
      → Steps m edges budget after edges_after (Ok again) → IsUnderWay start budget after marks_after edges_after again
  step_goes_on after marks_after edges_after true surface mesh suspects s = record {
    mesh = mesh;
    surface = surface ∙ u.surface;
    leads = subst (λ es. LeadsByChecks start es after) (sym s.added) (checked.flip edges s.edge m after u.leads s.reached s.fails s.flip);
    within = let room = s.room in let longer = ap length s.added ∙ length-append edges (s.edge ∷ []) in omega arith;
    suspects = suspects;
    all_pass = λ f. absurd cc;
  }
  step_goes_on after marks_after edges_after false surface mesh suspects s = record {
    mesh = mesh;
    surface = surface ∙ u.surface;
    leads = subst (λ es. LeadsByChecks start es after) (sym s.same_edges) (subst (LeadsByChecks start edges) (sym s.same) u.leads);
    within = subst (λ es. length es ≤ budget) (sym s.same_edges) u.within;
    suspects = suspects;
    all_pass = λ f. subst (λ x. AllPass x.surface.d x.triangles) (sym s.same) s.pass;
  }

  -- a step flips an edge, or it is the last
  pub step_is_smaller : more ≡ true → (after : MeshValue) (edges_after : List ℕ) (again : Bool) → Steps m edges budget after edges_after (Ok again)
      → (budget - length edges_after) + cond again 1 0 < (budget - length edges) + cond more 1 0
  step_is_smaller is after edges_after true s =
      let room : length edges < budget = s.room in
      let longer : length edges_after ≡ length edges + 1 = ap length s.added ∙ length-append edges (s.edge ∷ []) in
      let now : cond {A = ℕ} more 1 0 ≡ 1 = ap (λ b. cond {A = ℕ} b 1 0) is in
      omega (arith, room, longer, now)
  step_is_smaller is after edges_after false s =
      let same : length edges_after ≡ length edges = ap length s.same_edges in
      let now : cond {A = ℕ} more 1 0 ≡ 1 = ap (λ b. cond {A = ℕ} b 1 0) is in
      omega (arith, same, now)

  -- where a step ends the run, this is the end
  step_ends : (after : MeshValue) (edges_after : List ℕ) (stop : Stop) → Steps m edges budget after edges_after (Err stop)
      → ReturnsRun (EndsRun start budget) (Err stop)
  step_ends after edges_after NoMemory s = tt
  step_ends after edges_after (Undecided n) s =
      ends_here budget start edges m (Err (Undecided n)) u.leads s
  step_ends after edges_after (Overflow site) s =
      ends_here budget start edges m (Err (Overflow site)) u.leads s

  pub stop_returned : (after : MeshValue) (edges_after : List ℕ) (stop : Stop) → Steps m edges budget after edges_after (Err stop)
      → (result : Result DelaunayValue Stop) → IsErrAnd result (λ y. y ≡ stop) → ReturnsRun (EndsRun start budget) result
  stop_returned after edges_after stop s result is = at_exit (ReturnsRun (EndsRun start budget)) result stop is (step_ends after edges_after stop s)

  -- where nothing is left to flip, the run ends with the mesh
  run_ends : more ≡ false → EndsRun start budget (Ok (record { edges = edges; mesh = m }))
  run_ends last = checked.all_pass edges m u.leads u.within (u.all_pass last)

  -- and this is the Delaunay run
  run_is_delaunay : more ≡ false → IsDelaunayRun d start.triangles edges m.triangles
  run_is_delaunay last = record {
    flips = run_of_checks start edges m u.leads;
    delaunay = delaunay_of_all_pass d m.triangles (subst (λ x. AllPass x.d m.triangles) u.surface (u.all_pass last));
  }

  -- a value with this mesh and these edges
  module _ (value : DelaunayValue) (same_mesh : value.mesh ≡ m) (same_edges : value.edges ≡ edges) (last : more ≡ false) where
    -- is the end
    pub run_returned : ReturnsRun (EndsRun start budget) (Ok value)
    run_returned =
        subst (λ es. EndsRun start budget (Ok (record { edges = es; mesh = value.mesh }))) (sym same_edges)
        (subst (λ x. EndsRun start budget (Ok (record { edges = edges; mesh = x }))) (sym same_mesh) (run_ends last))

    -- and what the Delaunay run leads to
    pub delaunay_returned : IsDelaunayRun d start.triangles value.edges value.mesh.triangles
    delaunay_returned =
        subst (λ es. IsDelaunayRun d start.triangles es value.mesh.triangles) (sym same_edges)
        (subst (λ x. IsDelaunayRun d start.triangles edges x.triangles) (sym same_mesh) (run_is_delaunay last))

-- what a call returns is the one end of the run
pub returned_unique : (start : MeshValue) (budget : ℕ) → IsMesh start → (result : Result DelaunayValue Stop) → ReturnsRun (EndsRun start budget) result
    → (end : Result Flipped Stop) → EndsRun start budget end → ReturnsRun (λ returned. returned ≡ end) result
returned_unique start budget mesh (Ok v) h end ends =
    end_unique budget start (Ok (record { edges = v.edges; mesh = v.mesh })) end mesh h ends
returned_unique start budget mesh (Err NoMemory) h end ends = tt
returned_unique start budget mesh (Err (Undecided n)) h end ends = end_unique budget start (Err (Undecided n)) end mesh h ends
returned_unique start budget mesh (Err (Overflow site)) h end ends = end_unique budget start (Err (Overflow site)) end mesh h ends
