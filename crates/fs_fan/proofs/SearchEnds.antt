-- How a search ends, from its state, and what an end that is returned says.
use Rattle.std.proofs.Common.{◌≡◌, ◌↔◌, ℕ, ◌+◌, ◌<◌, ◌≤◌, Option, Some, None, Result, Ok, Err, List, [], ◌∷◌, ◌++◌, length, sym, ◌∙◌, subst}
use Rattle.fs_quadratic.specs.Radicand.{IsRadicand}
use Rattle.fs_quadratic.specs.Ring.{Quadratic, quadratic, IsPositive}
use Rattle.fs_quadratic.specs.declared.steps.Place.{Place}
use Rattle.fs_quadratic.proofs.Laws.{field_order}
use Rattle.fs_plane.specs.declared.sites.Site.TheVariants.{First, Fan}
use Rattle.fs_plane.specs.declared.sites.Stop.{Stop}
use Rattle.fs_plane.specs.declared.sites.Stop.TheVariants.{Undecided, Overflow, NoMemory}
use Rattle.fs_triangles.specs.Triangles.{AreTriangles}
use Rattle.fs_gluing.specs.Triangulation.{Triangulation, face_sides}
use Rattle.fs_mesh.proofs.HalfEdgeNumbers.{side_of_number}
use Rattle.fs_words.specs.Words.{Letter}
use Rattle.fs_words.proofs.LiveWords as live_words
use Rattle.fs_lists.specs.Members.{IsIn}
use Rattle.fs_fan.specs.declared.fans.Ray.{Ray}
use Rattle.fs_fan.specs.declared.visits.Entry.{Entry}
use Rattle.fs_fan.specs.Visits.{opening, visit}
use Rattle.fs_fan.specs.Search.{Word, IsBefore, IsSighting, IsLiveWord, AreLiveWords, AreFound, Findings, EndsSearch, whole, first_overflows, fan_overflows, budget_spent, HasOpenings, ReturnsSearch}
use Rattle.fs_fan.specs.Entries.{view_at, word_entry}
use Rattle.fs_fan.specs.Searching.{AreVisited, IsPassed, Searches, StopsSearch}
use Rattle.fs_fan.proofs.VisitedWords as visited_words
use Rattle.fs_fan.proofs.SearchStates.{nil_of_map, NextWord, next_word, next_live, next_last, visit_next}

module _ {d : ℕ} (radicand : IsRadicand d) (t : Triangulation) (triangles : AreTriangles (quadratic d) (IsPositive d) (face_sides t)) (bound : Quadratic) (budget : ℕ) where
  abbrev Ends : Result Findings Stop → Type 0
  Ends end = EndsSearch d t bound budget end

  -- ---- no word waits

  module _ (n : ℕ) (entries : List Entry) (found : List Ray) (live : ℕ) (s : Searches d t bound n entries found live) (empty : entries ≡ []) where
    visited : AreVisited d t bound n s.words []
    visited = subst (AreVisited d t bound n s.words) (nil_of_map (word_entry d t bound) s.stack (sym s.entries_are ∙ empty)) s.visited

    below : (u : Word) → IsIn u s.words ↔ (IsLiveWord d t bound u × (u.half_edge < n))
    below = visited_words.visited_below (field_order radicand) t triangles bound n s.words visited

    few : live ≤ budget → length s.words ≤ budget
    few within = subst (λ k. k ≤ budget) s.live_is within

    -- what is computed at half-edge n overflows
    pub ends_at_opening : live ≤ budget → n < length t.vectors → (place : Place) → opening d t bound n ≡ Err place → Ends (Err (Overflow (First n place.0)))
    ends_at_opening within there place known =
        first_overflows s.words n place (record { in_order = visited.in_order; all = below }) (few within) s.openings s.visits there known

    -- all half-edges are opened
    module _ (all : n ≡ length t.vectors) where
      all_words : (u : Word) → IsIn u s.words ↔ (IsLiveWord d t bound u × Unit {0})
      all_words u = ((λ m. (((below u).0 m).0, tt)), (λ h. (below u).1 (h.0, subst (λ k. u.half_edge < k) (sym all) h.0.there)))

      passed : (h : ℕ) (o : Option (List Letter)) → IsSighting d t bound (record { half_edge = h; letters = o }) → IsPassed n s.words h o
      passed h None x = subst (λ k. h < k) (sym all) x.there
      passed h (Some letters) x =
          (all_words (record { half_edge = h; letters = letters })).1
          (record { there = x.there; live = live_words.live_of_tip (field_order radicand) triangles bound h (side_of_number t h x.there) letters x.seen x.short }, tt)

      -- so all rays are found
      pub are_found : AreFound d t bound found
      are_found = record {
        sightings = s.sightings;
        in_order = s.seen.in_order;
        all = λ at. ((λ m. ((s.seen.all at).0 m).0), (λ x. (s.seen.all at).1 (x, passed at.half_edge at.letters x)));
        rays = s.found_are;
      }

      -- and the search is whole
      pub ends_whole : live ≤ budget → Ends (Ok (record { found = found; live = live }))
      ends_whole within =
          subst (λ k. Ends (Ok (record { found = found; live = k }))) (sym s.live_is)
          (whole s.words found (record { in_order = visited.in_order; all = all_words }) (few within) (λ h l. s.openings h (subst (λ k. h < k) (sym all) l)) s.visits are_found)

  -- ---- a word waits

  module _ (n : ℕ) (rest : List Entry) (entry : Entry) (found : List Ray) (live : ℕ) (searches : Searches d t bound n (rest ++ entry ∷ []) found live) where
    abbrev s : NextWord d t bound n rest entry found live
    s = next_word d t bound n rest entry found live searches

    before : AreLiveWords d t bound (λ o. IsBefore o s.next) s.words
    before = record {
      in_order = s.visited.in_order;
      all = visited_words.visited_before (field_order radicand) t triangles bound n s.words s.waiting s.next s.visited;
    }

    openings : HasOpenings d t bound (s.next.half_edge + 1)
    openings = subst (HasOpenings d t bound) (sym (next_last d t bound n rest entry found live s)) s.openings

    -- what is computed at it overflows
    pub ends_at_visit : live < budget → (place : Place) → visit d t bound (view_at entry) ≡ Err place → Ends (Err (Overflow (Fan live place.0)))
    ends_at_visit room place known =
        subst (λ k. Ends (Err (Overflow (Fan k place.0)))) (sym s.live_is)
        (fan_overflows s.words s.next place (next_live d t bound n rest entry found live s) before (subst (λ k. k < budget) s.live_is room) openings s.visits
        (visit_next d t bound n rest entry found live s (Err place) known))

    -- the budget is spent
    pub ends_undecided : live ≡ budget → Ends (Err (Undecided budget))
    ends_undecided spent = budget_spent s.words s.next (next_live d t bound n rest entry found live s) before (sym s.live_is ∙ spent) openings s.visits

-- where the search stops, this is the end that is returned
pub stop_returned : (d : ℕ) (t : Triangulation) (bound : Quadratic) (budget : ℕ) (stop : Stop) → StopsSearch d t bound budget stop → ReturnsSearch (EndsSearch d t bound budget) (Err stop)
stop_returned d t bound budget NoMemory s = tt
stop_returned d t bound budget (Undecided n) s = s
stop_returned d t bound budget (Overflow site) s = s
