-- `saddles` has one answer about a surface without straight corners, and no other.
use Rattle.std.proofs.Common.{◌≡◌, ◌⊎◌, ℕ, Bool, true, false, Result, Ok, Err, List, [], refl, sym, ap, ◌∙◌, subst, inl, inr}
use Rattle.std.specs.Prelude.{unsigned_abs}
use Rattle.fs_quadratic.specs.Ring.{Quadratic}
use Rattle.fs_plane.specs.declared.sites.Stop.{Stop}
use Rattle.fs_plane.specs.declared.sites.Stop.TheVariants.{Undecided, Overflow, NoMemory}
use Rattle.fs_gluing.specs.Surface.{GluedPolygons, IsSurface}
use Rattle.fs_gluing.specs.Triangulation.{Triangulation}
use Rattle.fs_mesh.specs.Meshes.{MeshValue, IsMesh}
use Rattle.fs_delaunay.specs.Runs.{IsFirstMesh, IsDelaunayRun}
use Rattle.fs_delaunay.specs.CheckedRuns.{EndsRun, Flipped}
use Rattle.fs_delaunay.specs.Results.{DelaunayValue, ReturnsRun}
use Rattle.fs_fan.specs.Search as search
use Rattle.fs_fan.specs.Search.{Findings, EndsSearch}
use Rattle.fs_saddles.specs.declared.saddles.Saddles.{Saddles}
use Rattle.fs_saddles.specs.WholeLists.{IsSaddleListOf}
use Rattle.fs_saddles.specs.Saddles.{SaddleList, EndsSaddles, ReturnsSaddles, bound_overflows, search_stops, keep_overflows, home_overflows, listed}
use Rattle.fs_saddles.proofs.EndExists.{saddles_end_exists}
use Rattle.fs_saddles.proofs.EndsUnique.{end_unique}
use Rattle.fs_saddles.proofs.SaddleLists.{saddles_of_end}
use Rattle.fs_saddles.proofs.WholeLists.{whole_list}
use Rattle.fs_report.specs.Text.{overflow_line}
use Rattle.fs_report.specs.DelaunayText.{IsDelaunayOf, IsStopText, AnswersStopped}
use Rattle.fs_report.specs.SaddlesText.{AnswersSaddles, whole, overflowed, undecided, not_triangulated, IsListStopText, saddles_words, saddles_text, live_line}
use Rattle.fs_report.proofs.DelaunayUnique.{stopped_unique, found_unique, not_found_and_stopped, found_mesh, found_surface, run_exists, answered_at_stop, same_surface, is_delaunay_of}

-- ---- how a list ends

-- a search with a spent budget visits as many words, and none ends because memory runs out
abbrev IsSearchStop : ℕ → Result Findings Stop → Type 0
IsSearchStop n (Ok found) = Unit {0}
IsSearchStop n (Err (Overflow site)) = Unit {0}
IsSearchStop n (Err (Undecided m)) = m ≡ n
IsSearchStop n (Err NoMemory) = ⊥

search_stop_is : (d : ℕ) (t : Triangulation) (bound : Quadratic) (n : ℕ) (end : Result Findings Stop) → EndsSearch d t bound n end → IsSearchStop n end
search_stop_is d t bound n _ (search.whole words found are few openings visits all) = tt
search_stop_is d t bound n _ (search.first_overflows words h place are few openings visits there o) = tt
search_stop_is d t bound n _ (search.fan_overflows words w place live are few openings visits o) = tt
search_stop_is d t bound n _ (search.budget_spent words w live are all openings visits) = refl

-- so it is of a list
abbrev IsListStop : ℕ → Result SaddleList Stop → Type 0
IsListStop n (Ok saddles) = Unit {0}
IsListStop n (Err (Overflow site)) = Unit {0}
IsListStop n (Err (Undecided m)) = m ≡ n
IsListStop n (Err NoMemory) = ⊥

list_stop_of : (n : ℕ) (stop : Stop) → IsSearchStop n (Err stop) → IsListStop n (Err stop)
list_stop_of n (Overflow site) is = tt
list_stop_of n (Undecided m) is = is
list_stop_of n NoMemory is = is

list_stop_is : (m : MeshValue) (limit : Quadratic) (n : ℕ) (end : Result SaddleList Stop) → EndsSaddles m limit n end → IsListStop n end
list_stop_is m limit n _ (bound_overflows place o) = tt
list_stop_is m limit n _ (search_stops bound stop given ends) = list_stop_of n stop (search_stop_is m.surface.d m.triangles bound n (Err stop) ends)
list_stop_is m limit n _ (keep_overflows bound found before after ray place given ends is kept o) = tt
list_stop_is m limit n _ (home_overflows bound found before after ray place given ends is kept keepable o) = tt
list_stop_is m limit n _ (listed bound found list given ends kept is) = tt

module _ (s : GluedPolygons) (budget : ℕ) (limit : Quadratic) where
  -- the text of a list that ends so, after flips of these edges
  abbrev end_text : List ℕ → Result SaddleList Stop → List ℕ
  end_text edges (Ok saddles) = saddles_text (unsigned_abs s.den) (saddles_words limit) edges saddles
  end_text edges (Err (Overflow site)) = overflow_line (saddles_words limit) site
  end_text edges (Err (Undecided n)) = live_line (saddles_words limit) n
  end_text edges (Err NoMemory) = []

  -- whether it is in place of the list
  abbrev is_partial : Result SaddleList Stop → Bool
  is_partial (Ok saddles) = false
  is_partial (Err stop) = true

  -- the answer where the run leads to a Delaunay triangulation
  record AnswersList (text : List ℕ) (partial : Bool) : Type 0 where
    pub edges : List ℕ
    pub mesh : MeshValue
    pub end : Result SaddleList Stop
    pub run : IsDelaunayOf s budget edges mesh
    pub ends : EndsSaddles mesh limit budget end
    pub line : text ≡ end_text edges end
    pub kind : partial ≡ is_partial end

  module _ (surface : IsSurface s) (strict : s.straight ≡ false) where
    list_unique : (m n : List ℕ) (p q : Bool) → AnswersList m p → AnswersList n q → (m ≡ n) × (p ≡ q)
    list_unique m n p q a b =
        let found = found_unique s budget surface strict a.edges b.edges a.mesh b.mesh a.run b.run in
        let same_mesh : a.mesh ≡ b.mesh = ap (λ (f : Flipped). f.mesh) found in
        let same_edges : a.edges ≡ b.edges = ap (λ (f : Flipped). f.edges) found in
        let same = end_unique a.mesh limit budget a.end b.end a.ends (subst (λ u. EndsSaddles u limit budget b.end) (sym same_mesh) b.ends) in
        (a.line ∙ ((λ i. end_text (same_edges i) (same i)) ∙ sym b.line), a.kind ∙ (ap is_partial same ∙ sym b.kind))

    -- there is a list, or the run stops
    kind_of : (text : List ℕ) (partial : Bool) → AnswersSaddles s budget limit text partial → AnswersList text partial ⊎ AnswersStopped s budget (saddles_words limit) text partial
    kind_of text partial (whole edges m saddles run ends is line kind) = inl (record { edges = edges; mesh = m; end = Ok saddles; run = run; ends = ends; line = line; kind = kind })
    kind_of text partial (overflowed edges m site run ends line kind) = inl (record { edges = edges; mesh = m; end = Err (Overflow site); run = run; ends = ends; line = line; kind = kind })
    kind_of text partial (undecided edges m run ends line kind) = inl (record { edges = edges; mesh = m; end = Err (Undecided budget); run = run; ends = ends; line = line; kind = kind })
    kind_of text partial (not_triangulated stops) = inr stops

    -- `saddles` has one answer at most
    pub saddles_unique : (m n : List ℕ) (p q : Bool) → AnswersSaddles s budget limit m p → AnswersSaddles s budget limit n q → (m ≡ n) × (p ≡ q)
    saddles_unique m n p q a b = elim (kind_of m p a) [
      | inl list ↦ elim (kind_of n q b) [
        | inl other ↦ list_unique m n p q list other
        | inr stops ↦ absurd (not_found_and_stopped s budget surface strict list.edges list.mesh (saddles_words limit) n q list.run stops)
      ]
      | inr stops ↦ elim (kind_of n q b) [
        | inl other ↦ absurd (not_found_and_stopped s budget surface strict other.edges other.mesh (saddles_words limit) m p other.run stops)
        | inr also ↦ stopped_unique s budget surface strict (saddles_words limit) m n p q stops also
      ]
    ]

  -- ---- there is an answer

  -- the list of a mesh, or where it stops
  list_at : (edges : List ℕ) (m : MeshValue) → IsMesh m → m.surface ≡ s → IsDelaunayOf s budget edges m → (end : Result SaddleList Stop) → EndsSaddles m limit budget end → (text : List ℕ) × (partial : Bool) × AnswersSaddles s budget limit text partial
  list_at edges m mesh on_surface run (Ok saddles) ends = (_, _, whole edges m saddles run ends (subst (λ (u : GluedPolygons). IsSaddleListOf u limit saddles.list) on_surface (whole_list m mesh limit saddles.list (saddles_of_end m mesh limit budget saddles ends))) refl refl)
  list_at edges m mesh on_surface run (Err (Overflow site)) ends = (_, _, overflowed edges m site run ends refl refl)
  list_at edges m mesh on_surface run (Err (Undecided n)) ends =
      let same : n ≡ budget = list_stop_is m limit budget (Err (Undecided n)) ends in
      (_, _, undecided edges m run (subst (λ (k : ℕ). EndsSaddles m limit budget (Err (Undecided k))) same ends) refl refl)
  list_at edges m mesh on_surface run (Err NoMemory) ends = absurd (list_stop_is m limit budget (Err NoMemory) ends)

  -- `saddles` has an answer
  pub saddles_exist : IsSurface s → s.straight ≡ false → ((text : List ℕ) (partial : Bool) → ¬ AnswersSaddles s budget limit text partial) → ⊥
  saddles_exist surface strict none =
      run_exists s budget surface strict (saddles_words limit)
      (λ edges m run.
      let mesh = found_mesh s budget surface strict edges m run in
      let list = saddles_end_exists m mesh limit budget in
      let answer = list_at edges m mesh (found_surface s budget surface strict edges m run) run list.0 list.1 in
      none answer.0 answer.1 answer.2)
      (λ text stops. none _ _ (not_triangulated stops))

  -- ---- what is answered

  module _ (mesh : MeshValue) (first : IsFirstMesh s mesh) where
    -- a run that stops
    pub answered_at_run_stop : (words text : List ℕ) (partial : Bool) (stop : Stop) → words ≡ saddles_words limit → ReturnsRun (EndsRun mesh budget) (Err stop) → IsStopText stop words text partial
        → AnswersSaddles s budget limit text partial
    answered_at_run_stop words text partial stop same run is =
        not_triangulated (subst (λ (ws : List ℕ). AnswersStopped s budget ws text partial) same (answered_at_stop s budget mesh first words text partial stop run is))

    module _ (found : DelaunayValue) (on_surface : found.mesh.surface ≡ mesh.surface) (is_mesh : IsMesh found.mesh) (run : ReturnsRun (EndsRun mesh budget) (Ok found))
        (is_run : IsDelaunayRun mesh.surface.d mesh.triangles found.edges found.mesh.triangles) where
      abbrev reached : IsDelaunayOf s budget found.edges found.mesh
      reached = is_delaunay_of s budget mesh first found on_surface is_mesh run is_run

      -- a list
      pub answered_list : (saddles : Saddles) (words text : List ℕ) (partial : Bool) → words ≡ saddles_words limit → ReturnsSaddles (EndsSaddles found.mesh limit budget) (Ok saddles) → IsSaddleListOf found.mesh.surface limit saddles.list
          → text ≡ saddles_text (unsigned_abs found.mesh.surface.den) words found.edges (record { list = saddles.list; live = saddles.live }) → partial ≡ false → AnswersSaddles s budget limit text partial
      answered_list saddles words text partial same ends is line kind =
          let surfaces = same_surface s budget mesh first found on_surface is_mesh run is_run in
          whole found.edges found.mesh (record { list = saddles.list; live = saddles.live }) reached ends (subst (λ (u : GluedPolygons). IsSaddleListOf u limit saddles.list) surfaces is)
          (line ∙ (λ i. saddles_text (unsigned_abs ((surfaces i).den)) (same i) found.edges (record { list = saddles.list; live = saddles.live }))) kind

      -- a list that stops
      pub answered_at_list_stop : (words text : List ℕ) (partial : Bool) (stop : Stop) → words ≡ saddles_words limit → ReturnsSaddles (EndsSaddles found.mesh limit budget) (Err stop)
          → IsListStopText stop words text partial → AnswersSaddles s budget limit text partial
      answered_at_list_stop words text partial (Overflow site) same ends is = overflowed found.edges found.mesh site reached ends (is.0 ∙ ap (λ (ws : List ℕ). overflow_line ws site) same) is.1
      answered_at_list_stop words text partial (Undecided n) same ends is =
          let spent : n ≡ budget = list_stop_is found.mesh limit budget (Err (Undecided n)) ends in
          undecided found.edges found.mesh reached (subst (λ (k : ℕ). EndsSaddles found.mesh limit budget (Err (Undecided k))) spent ends) (is.0 ∙ (λ i. live_line (same i) (spent i))) is.1
      answered_at_list_stop words text partial NoMemory same ends is = absurd is
