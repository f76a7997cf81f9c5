-- `delaunay` and `cells` have one answer about a surface without straight corners, and no other.
use Rattle.std.proofs.Common.{◌≡◌, ℕ, Bool, true, false, Result, Ok, Err, List, [], refl, sym, ap, ◌∙◌, subst}
use Rattle.std.specs.Prelude.{codes, unsigned_abs}
use mathlib.Core.Logic.{∥∥₁_map}
use Rattle.fs_lists.proofs.Results.{ok_equal, err_equal, ok_not_err}
use Rattle.fs_plane.specs.declared.sites.Stop.{Stop}
use Rattle.fs_plane.specs.declared.sites.Stop.TheVariants.{Undecided, Overflow, NoMemory}
use Rattle.fs_gluing.specs.Surface.{GluedPolygons, IsSurface}
use Rattle.fs_gluing.specs.Triangulation.{IsTriangulation, IsCutFrom, triangulation_of}
use Rattle.fs_triangulate.proofs.FanCuts.{fan_is_cut}
use Rattle.fs_triangulate.proofs.FanHomes.{fan_has_homes}
use Rattle.fs_triangulate.proofs.FanTriangulation.{fan_is_triangulation}
use Rattle.fs_triangulate.proofs.FirstCutUnique.{fans_of_first_cut, first_cut_unique, first_cut_exists}
use Rattle.fs_mesh.specs.Meshes.{MeshValue, IsMesh}
use Rattle.fs_mesh.proofs.MeshAfterFlip.{mesh_after}
use Rattle.fs_delaunay.specs.Runs.{IsFirstMesh, IsDelaunay, IsDelaunayRun}
use Rattle.fs_delaunay.specs.CheckedRuns.{LeadsByChecks, EndsRun, Flipped, no_flip, flip, all_pass, circle_overflows, flip_overflows, budget_spent}
use Rattle.fs_delaunay.specs.Cells.{AreCells}
use Rattle.fs_delaunay.specs.Results.{DelaunayValue, ReturnsRun}
use Rattle.fs_delaunay.proofs.CellListExists.{cell_list_exists}
use Rattle.fs_delaunay.proofs.CellListUnique.{cell_list_unique}
use Rattle.fs_delaunay.proofs.CheckedRunLaws.{delaunay_of_all_pass, run_of_checks, surface_of_checks, illegal_of_fails}
use Rattle.fs_delaunay.proofs.EndsUnique.{end_unique, end_exists}
use Rattle.fs_report.specs.Text.{overflow_line}
use Rattle.fs_report.specs.DelaunayText.{IsDelaunayOf, IsStopText, AnswersStopped, overflowed, undecided, undecided_line, AnswersDelaunay, whole, stopped, delaunay_text, AnswersCells, celled, not_celled, cells_text}

-- ---- how a run ends

-- the line, after these words, of a run that stops so
abbrev stop_line : List ℕ → Stop → List ℕ
stop_line words (Overflow site) = overflow_line words site
stop_line words (Undecided n) = undecided_line words n
stop_line words NoMemory = []

-- a run with a spent budget makes all its flips
abbrev IsBudget : ℕ → Result Flipped Stop → Type 0
IsBudget n (Err (Undecided m)) = m ≡ n
IsBudget n end = Unit {0}

spent_is : (start : MeshValue) (n : ℕ) (end : Result Flipped Stop) → EndsRun start n end → IsBudget n end
spent_is start n _ (all_pass edges m leads few pass) = tt
spent_is start n _ (circle_overflows edges m e place leads few r o) = tt
spent_is start n _ (flip_overflows edges m e place leads few r f o) = tt
spent_is start n _ (budget_spent edges m e leads all r f) = refl

-- a run never ends because memory runs out
abbrev EndsSomehow : Result Flipped Stop → Type 0
EndsSomehow (Err NoMemory) = ⊥
EndsSomehow end = Unit {0}

ends_somehow : (start : MeshValue) (n : ℕ) (end : Result Flipped Stop) → EndsRun start n end → EndsSomehow end
ends_somehow start n _ (all_pass edges m leads few pass) = tt
ends_somehow start n _ (circle_overflows edges m e place leads few r o) = tt
ends_somehow start n _ (flip_overflows edges m e place leads few r f o) = tt
ends_somehow start n _ (budget_spent edges m e leads all r f) = tt

-- checked flips lead from a mesh to a mesh
mesh_of_checks : (start : MeshValue) (edges : List ℕ) (m : MeshValue) → IsMesh start → LeadsByChecks start edges m → IsMesh m
mesh_of_checks start _ _ mesh no_flip = mesh
mesh_of_checks start _ _ mesh (flip edges e m after leads r f is_flip) =
    mesh_after m (mesh_of_checks start edges m mesh leads) e r.edge.there is_flip (illegal_of_fails m.surface.d m.triangles e f)

-- what a run leads to: a mesh of the surface, by a Delaunay run
record IsReachedFrom (start : MeshValue) (found : Flipped) : Type 0 where
  pub surface : found.mesh.surface ≡ start.surface
  pub mesh : IsMesh found.mesh
  pub run : IsDelaunayRun start.surface.d start.triangles found.edges found.mesh.triangles

-- where a run leads to a triangulation, it is that
abbrev IsRunTo : MeshValue → Result Flipped Stop → Type 0
IsRunTo start (Ok found) = IsReachedFrom start found
IsRunTo start (Err stop) = Unit {0}

run_to : (start : MeshValue) (n : ℕ) (end : Result Flipped Stop) → IsMesh start → EndsRun start n end → IsRunTo start end
run_to start n _ mesh (all_pass edges m leads few pass) =
    let same = surface_of_checks start edges m leads in record {
      surface = same;
      mesh = mesh_of_checks start edges m mesh leads;
      run = record { flips = run_of_checks start edges m leads; delaunay = subst (λ (u : GluedPolygons). IsDelaunay u.d m.triangles) same (delaunay_of_all_pass m.surface.d m.triangles pass) };
    }
run_to start n _ mesh (circle_overflows edges m e place leads few r o) = tt
run_to start n _ mesh (flip_overflows edges m e place leads few r f o) = tt
run_to start n _ mesh (budget_spent edges m e leads all r f) = tt

module _ (s : GluedPolygons) (budget : ℕ) (surface : IsSurface s) (strict : s.straight ≡ false) where
  -- ---- the first cut

  first_unique : (m n : MeshValue) → IsFirstMesh s m → IsFirstMesh s n → m ≡ n
  first_unique m n one other =
      let same = first_cut_unique s one.triangles other.triangles one.cut other.cut in
      λ i. record {
        surface = (one.surface ∙ sym other.surface) i;
        triangles = (one.same ∙ (ap triangulation_of same ∙ sym other.same)) i;
        homes = (one.homes ∙ (ap (λ triangles. triangles.homes) same ∙ sym other.homes)) i;
      }

  first_is_mesh : (m : MeshValue) → IsFirstMesh s m → IsMesh m
  first_is_mesh m first =
      let fans = fans_of_first_cut s first.triangles first.cut in
      let is : IsMesh (record { surface = s; triangles = triangulation_of first.triangles; homes = first.triangles.homes }) = record {
        surface = surface;
        triangulation = fan_is_triangulation s surface.surface first.triangles fans strict surface.sides;
        cut = ∣ fan_is_cut s surface.surface first.triangles fans strict ∣₁;
        homes = fan_has_homes s surface.surface strict first.triangles fans;
      } in
      subst IsMesh (λ i. record { surface = sym first.surface i; triangles = sym first.same i; homes = sym first.homes i }) is

  -- ---- the run from there

  ends_equal : (m n : MeshValue) (a b : Result Flipped Stop) → IsFirstMesh s m → IsFirstMesh s n → EndsRun m budget a → EndsRun n budget b → a ≡ b
  ends_equal m n a b one other h k = end_unique budget m a b (first_is_mesh m one) h (subst (λ v. EndsRun v budget b) (sym (first_unique m n one other)) k)

  -- a stopped run has one line
  record StopsWith (words text : List ℕ) (partial : Bool) : Type 0 where
    pub start : MeshValue
    pub stop : Stop
    pub first : IsFirstMesh s start
    pub ends : EndsRun start budget (Err stop)
    pub line : text ≡ stop_line words stop
    pub kind : partial ≡ true

  stops_with : (words text : List ℕ) (partial : Bool) → AnswersStopped s budget words text partial → StopsWith words text partial
  stops_with words text partial (overflowed start site first ends line kind) = record { start = start; stop = Overflow site; first = first; ends = ends; line = line; kind = kind }
  stops_with words text partial (undecided start first ends line kind) = record { start = start; stop = Undecided budget; first = first; ends = ends; line = line; kind = kind }

  -- where the run stops there is one answer at most
  pub stopped_unique : (words m n : List ℕ) (p q : Bool) → AnswersStopped s budget words m p → AnswersStopped s budget words n q → (m ≡ n) × (p ≡ q)
  stopped_unique words m n p q a b =
      let one = stops_with words m p a in
      let other = stops_with words n q b in
      let same = err_equal one.stop other.stop (ends_equal one.start other.start (Err one.stop) (Err other.stop) one.first other.first one.ends other.ends) in
      (one.line ∙ (ap (stop_line words) same ∙ sym other.line), one.kind ∙ sym other.kind)

  -- it leads to one mesh at most, by the same flips
  pub found_unique : (edges edges' : List ℕ) (m m' : MeshValue) → IsDelaunayOf s budget edges m → IsDelaunayOf s budget edges' m' → ◌≡◌ {A = Flipped} (record { edges = edges; mesh = m }) (record { edges = edges'; mesh = m' })
  found_unique edges edges' m m' a b =
      ok_equal (record { edges = edges; mesh = m }) (record { edges = edges'; mesh = m' })
      (ends_equal a.start b.start (Ok (record { edges = edges; mesh = m })) (Ok (record { edges = edges'; mesh = m' })) a.first b.first a.ends b.ends)

  -- and then it doesn't stop
  pub not_found_and_stopped : (edges : List ℕ) (m : MeshValue) (words text : List ℕ) (partial : Bool) → IsDelaunayOf s budget edges m → AnswersStopped s budget words text partial → ⊥
  not_found_and_stopped edges m words text partial a b =
      let other = stops_with words text partial b in
      ok_not_err (record { edges = edges; mesh = m }) other.stop
      (ends_equal a.start other.start (Ok (record { edges = edges; mesh = m })) (Err other.stop) a.first other.first a.ends other.ends)

  -- the mesh to which it leads is one of the surface
  pub found_mesh : (edges : List ℕ) (m : MeshValue) → IsDelaunayOf s budget edges m → IsMesh m
  found_mesh edges m a = (run_to a.start budget (Ok (record { edges = edges; mesh = m })) (first_is_mesh a.start a.first) a.ends).mesh

  -- it is one of the surface
  pub found_surface : (edges : List ℕ) (m : MeshValue) → IsDelaunayOf s budget edges m → m.surface ≡ s
  found_surface edges m a = (run_to a.start budget (Ok (record { edges = edges; mesh = m })) (first_is_mesh a.start a.first) a.ends).surface ∙ a.first.surface

  -- ---- `delaunay`

  -- `delaunay` has one answer at most
  pub delaunay_unique : (m n : List ℕ) (p q : Bool) → AnswersDelaunay s budget m p → AnswersDelaunay s budget n q → (m ≡ n) × (p ≡ q)
  delaunay_unique m n p q (whole edges t a text kind) (whole edges' t' b text' kind') =
      (text ∙ (ap (λ (found : Flipped). delaunay_text (unsigned_abs s.den) found.edges found.mesh.triangles) (found_unique edges edges' t t' a b) ∙ sym text'), kind ∙ sym kind')
  delaunay_unique m n p q (whole edges t a text kind) (stopped b) = absurd (not_found_and_stopped edges t (codes "delaunay") n q a b)
  delaunay_unique m n p q (stopped a) (whole edges t b text kind) = absurd (not_found_and_stopped edges t (codes "delaunay") m p b a)
  delaunay_unique m n p q (stopped a) (stopped b) = stopped_unique (codes "delaunay") m n p q a b

  -- `cells` has one answer at most
  pub cells_unique : (m n : List ℕ) (p q : Bool) → AnswersCells s budget m p → AnswersCells s budget n q → (m ≡ n) × (p ≡ q)
  cells_unique m n p q (celled edges t cells a are text kind) (celled edges' t' cells' b are' text' kind') =
      let same = found_unique edges edges' t t' a b in
      let same_cells = cell_list_unique s.d t.triangles cells cells' are (subst (λ (u : MeshValue). AreCells s.d u.triangles cells') (sym (ap (λ (found : Flipped). found.mesh) same)) are') in
      (text ∙ ((λ i. cells_text (same i).edges (same_cells i)) ∙ sym text'), kind ∙ sym kind')
  cells_unique m n p q (celled edges t cells a are text kind) (not_celled b) = absurd (not_found_and_stopped edges t (codes "cells") n q a b)
  cells_unique m n p q (not_celled a) (celled edges t cells b are text kind) = absurd (not_found_and_stopped edges t (codes "cells") m p b a)
  cells_unique m n p q (not_celled a) (not_celled b) = stopped_unique (codes "cells") m n p q a b

  -- ---- there are answers

  -- the run leads to a Delaunay triangulation
  found_at : (start : MeshValue) → IsFirstMesh s start → (found : Flipped) → EndsRun start budget (Ok found) → IsDelaunayOf s budget found.edges found.mesh
  found_at start first found ends = let to = run_to start budget (Ok found) (first_is_mesh start first) ends in record {
    start = start;
    first = first;
    ends = ends;
    run = subst (λ (u : GluedPolygons). IsDelaunayRun u.d start.triangles found.edges found.mesh.triangles) first.surface to.run;
    cut = subst (λ u. ∥ IsCutFrom u found.mesh.triangles ∥₁) (to.surface ∙ first.surface) (∥∥₁_map to.mesh.cut (λ k. k.equal));
  }

  -- or it stops
  stopped_at : (words : List ℕ) (start : MeshValue) → IsFirstMesh s start → (stop : Stop) → EndsRun start budget (Err stop) → (text : List ℕ) × AnswersStopped s budget words text true
  stopped_at words start first (Overflow site) ends = (_, overflowed start site first ends refl refl)
  stopped_at words start first (Undecided n) ends =
      let same : n ≡ budget = spent_is start budget (Err (Undecided n)) ends in
      (_, undecided start first (subst (λ (m : ℕ). EndsRun start budget (Err (Undecided m))) same ends) refl refl)
  stopped_at words start first NoMemory ends = absurd (ends_somehow start budget (Err NoMemory) ends)

  abbrev first_there : (start : MeshValue) × IsFirstMesh s start
  first_there = let cut = first_cut_exists s surface in (
    record { surface = s; triangles = triangulation_of cut.0; homes = cut.0.homes },
    record { surface = refl; triangles = cut.0; cut = cut.1; same = refl; homes = refl },
  )

  -- the run from the first cut leads to a Delaunay triangulation, or stops
  pub run_exists : (words : List ℕ) → ((edges : List ℕ) (m : MeshValue) → ¬ IsDelaunayOf s budget edges m) → ((text : List ℕ) → ¬ AnswersStopped s budget words text true) → ⊥
  run_exists words not_found not_stopped = by_end (end_exists budget first_there.0 (first_is_mesh first_there.0 first_there.1))
    where
      by_end : (end : Result Flipped Stop) × EndsRun first_there.0 budget end → ⊥
      by_end (Ok found, ends) = not_found found.edges found.mesh (found_at first_there.0 first_there.1 found ends)
      by_end (Err stop, ends) = let line = stopped_at words first_there.0 first_there.1 stop ends in not_stopped line.0 line.1

  -- `delaunay` has an answer
  pub delaunay_exists : ((text : List ℕ) (partial : Bool) → ¬ AnswersDelaunay s budget text partial) → ⊥
  delaunay_exists none = run_exists (codes "delaunay") (λ edges m at. none _ _ (whole edges m at refl refl)) (λ text line. none _ _ (stopped line))

  -- `cells` has an answer
  pub cells_exist : ((text : List ℕ) (partial : Bool) → ¬ AnswersCells s budget text partial) → ⊥
  cells_exist none =
      run_exists (codes "cells")
      (λ edges m at. cell_list_exists s.d m.triangles (triangulation_found edges m at) (λ cells are. none _ _ (celled edges m cells at are refl refl)))
      (λ text line. none _ _ (not_celled line))
    where
      triangulation_found : (edges : List ℕ) (m : MeshValue) → IsDelaunayOf s budget edges m → IsTriangulation s.d m.triangles
      triangulation_found edges m at =
          let to = run_to at.start budget (Ok (record { edges = edges; mesh = m })) (first_is_mesh at.start at.first) at.ends in
          subst (λ (u : GluedPolygons). IsTriangulation u.d m.triangles) (to.surface ∙ at.first.surface) to.mesh.triangulation

-- ---- what is answered

module _ (s : GluedPolygons) (budget : ℕ) (mesh : MeshValue) (first : IsFirstMesh s mesh) where
  -- a run that stops
  pub answered_at_stop : (words text : List ℕ) (partial : Bool) (stop : Stop) → ReturnsRun (EndsRun mesh budget) (Err stop) → IsStopText stop words text partial → AnswersStopped s budget words text partial
  answered_at_stop words text partial (Overflow site) run is = overflowed mesh site first run is.0 is.1
  answered_at_stop words text partial (Undecided n) run is =
      let same : n ≡ budget = spent_is mesh budget (Err (Undecided n)) run in
      undecided mesh first (subst (λ (m : ℕ). EndsRun mesh budget (Err (Undecided m))) same run) (is.0 ∙ ap (undecided_line words) same) is.1
  answered_at_stop words text partial NoMemory run is = absurd is

  module _ (found : DelaunayValue) (on_surface : found.mesh.surface ≡ mesh.surface) (is_mesh : IsMesh found.mesh) (run : ReturnsRun (EndsRun mesh budget) (Ok found))
      (is_run : IsDelaunayRun mesh.surface.d mesh.triangles found.edges found.mesh.triangles) where
    -- the mesh is one of the surface
    pub same_surface : found.mesh.surface ≡ s
    same_surface = on_surface ∙ first.surface

    -- a run that leads to a Delaunay triangulation
    pub is_delaunay_of : IsDelaunayOf s budget found.edges found.mesh
    is_delaunay_of = record {
      start = mesh;
      first = first;
      ends = run;
      run = subst (λ (u : GluedPolygons). IsDelaunayRun u.d mesh.triangles found.edges found.mesh.triangles) first.surface is_run;
      cut = subst (λ u. ∥ IsCutFrom u found.mesh.triangles ∥₁) same_surface (∥∥₁_map is_mesh.cut (λ k. k.equal));
    }

    -- its faces
    pub answered_whole : (text : List ℕ) (partial : Bool) → text ≡ delaunay_text (unsigned_abs found.mesh.surface.den) found.edges found.mesh.triangles → partial ≡ false → AnswersDelaunay s budget text partial
    answered_whole text partial line kind =
        whole found.edges found.mesh is_delaunay_of (line ∙ ap (λ (u : GluedPolygons). delaunay_text (unsigned_abs u.den) found.edges found.mesh.triangles) same_surface) kind

    -- and its cells
    pub answered_celled : (text : List ℕ) (partial : Bool) (cells : List (List ℕ)) → AreCells found.mesh.surface.d found.mesh.triangles cells → text ≡ cells_text found.edges cells → partial ≡ false
        → AnswersCells s budget text partial
    answered_celled text partial cells are line kind =
        celled found.edges found.mesh cells is_delaunay_of (subst (λ (u : GluedPolygons). AreCells u.d found.mesh.triangles cells) same_surface are) line kind
