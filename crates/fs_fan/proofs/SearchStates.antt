-- The state of a search: at its start, after an opening, and after a visit.
use Rattle.std.proofs.Common.{◌≡◌, ℕ, ◌+◌, ◌<◌, Option, Some, None, Result, Ok, List, [], ◌∷◌, ◌++◌, length, map, refl, sym, ap, ◌∙◌, subst, inl, inr, arith, length-append}
use Rattle.std.specs.Prelude.{IsOk}
use Rattle.std.proofs.lemmas.Bool.{cases_order}
use Rattle.std.proofs.lemmas.List.{map-append}
use Rattle.fs_quadratic.specs.Radicand.{IsRadicand}
use Rattle.fs_quadratic.specs.Ring.{Quadratic, quadratic, IsPositive}
use Rattle.fs_quadratic.specs.declared.steps.Place.{Place}
use Rattle.fs_quadratic.proofs.Laws.{field_order}
use Rattle.fs_triangles.specs.Triangles.{AreTriangles}
use Rattle.fs_gluing.specs.Triangulation.{Triangulation, face_sides, edge_vector}
use Rattle.fs_mesh.proofs.HalfEdgeNumbers.{side_of_number, number_of_side}
use Rattle.fs_words.specs.Words.{Letter, right, left}
use Rattle.fs_words.specs.Sectors.{first_view, view_after}
use Rattle.fs_words.proofs.Crossings as crossings
use Rattle.fs_lists.specs.Members.{IsIn}
use Rattle.fs_lists.proofs.Equal.{nil_not_around}
use Rattle.fs_fan.specs.declared.fans.Ray.{Ray}
use Rattle.fs_fan.specs.declared.visits.Entry.{Entry}
use Rattle.fs_fan.specs.declared.visits.Opening.{Opening}
use Rattle.fs_fan.specs.declared.visits.Visit.{Visit}
use Rattle.fs_fan.specs.Visits.{is_left_of, view_of, opening, visit}
use Rattle.fs_fan.specs.Search.{Word, IsBefore, Sighting, IsLiveWord, ray_of, HasOpenings, HasVisits, visit_of}
use Rattle.fs_fan.specs.Entries.{view_at, entry_of, word_entry, TellsEnds, optional}
use Rattle.fs_fan.specs.Searching.{AreVisited, AreSeen, IsPassed, Searches}
use Rattle.fs_fan.proofs.OrderedLists.{in_last, in_more_cases, map-optional, last_of_map}
use Rattle.fs_fan.proofs.Extensions.{with_letter, stack_after}
use Rattle.fs_fan.proofs.VisitedWords as visited_words
use Rattle.fs_fan.proofs.SeenRays as seen_rays
use Rattle.fs_fan.proofs.VisitMeanings as meanings

-- a list that is mapped to none is none
pub nil_of_map : {X Y : Type 0} (f : X → Y) (xs : List X) → map f xs ≡ [] → xs ≡ []
nil_of_map f [] e = refl
nil_of_map f (x ∷ xs) e = absurd (nil_not_around (f x) [] (map f xs) (sym e))

module _ (d : ℕ) (t : Triangulation) (bound : Quadratic) where
  nothing_passed : (h : ℕ) (o : Option (List Letter)) → IsPassed 0 [] h o → ⊥
  nothing_passed h None l = omega arith
  nothing_passed h (Some letters) m = m

  -- nothing is opened yet
  pub search_starts : Searches d t bound 0 [] [] 0
  search_starts = record {
    words = [];
    stack = [];
    sightings = [];
    visited = record {
      in_order = tt;
      live = λ w m. absurd m;
      below = λ w m. absurd m;
      covered = λ w live l. absurd (omega arith);
      waiting = λ s m. absurd m;
      last = λ s m. absurd m;
      before = λ w s m. absurd m;
      apart = tt;
    };
    seen = record { in_order = tt; all = λ at. ((λ m. absurd m), (λ h. nothing_passed at.half_edge at.letters h.1)) };
    entries_are = refl;
    found_are = refl;
    live_is = refl;
    openings = λ h l. absurd (omega arith);
    visits = λ w m. absurd m;
  }

  -- ---- the next word

  -- the next word to be visited, which the last entry keeps
  pub record NextWord (n : ℕ) (rest : List Entry) (entry : Entry) (found : List Ray) (live : ℕ) : Type 0 where
    pub words : List Word
    pub waiting : List Word
    pub next : Word
    pub sightings : List Sighting
    pub visited : AreVisited d t bound n words (waiting ++ next ∷ [])
    pub seen : AreSeen d t bound n words sightings
    pub rest_are : rest ≡ map (word_entry d t bound) waiting
    pub entry_is : entry ≡ word_entry d t bound next
    pub found_are : found ≡ map (ray_of d t) sightings
    pub live_is : live ≡ length words
    pub openings : HasOpenings d t bound n
    pub visits : HasVisits d t bound words

  -- there is one where the stack isn't empty
  pub next_word : (n : ℕ) (rest : List Entry) (entry : Entry) (found : List Ray) (live : ℕ) → Searches d t bound n (rest ++ entry ∷ []) found live → NextWord n rest entry found live
  next_word n rest entry found live s =
      let last = last_of_map (word_entry d t bound) rest entry s.stack s.entries_are in
      record {
        words = s.words;
        waiting = last.before;
        next = last.last;
        sightings = s.sightings;
        visited = subst (AreVisited d t bound n s.words) last.whole s.visited;
        seen = s.seen;
        rest_are = last.before_mapped;
        entry_is = last.last_mapped;
        found_are = s.found_are;
        live_is = s.live_is;
        openings = s.openings;
        visits = s.visits;
      }

  module _ (n : ℕ) (rest : List Entry) (entry : Entry) (found : List Ray) (live : ℕ) (s : NextWord n rest entry found live) where
    -- it is live
    pub next_live : IsLiveWord d t bound s.next
    next_live = s.visited.waiting s.next (in_last s.waiting s.next)

    -- it is one of the last half-edge that is opened
    pub next_last : s.next.half_edge + 1 ≡ n
    next_last = s.visited.last s.next (in_last s.waiting s.next)

    -- its visit is that of the entry
    pub visit_next : (r : Result Visit Place) → visit d t bound (view_at entry) ≡ r → visit_of d t bound s.next ≡ r
    visit_next r e = ap (λ x. visit d t bound (view_at x)) (sym s.entry_is) ∙ e

module _ {d : ℕ} (radicand : IsRadicand d) (t : Triangulation) (triangles : AreTriangles (quadratic d) (IsPositive d) (face_sides t)) (bound : Quadratic) where
  -- ---- an opening

  module _ (n : ℕ) (entries : List Entry) (found : List Ray) (live : ℕ) (s : Searches d t bound n entries found live) (empty : entries ≡ []) (there : n < length t.vectors)
      (o : Opening) (known : opening d t bound n ≡ Ok o) where
    abbrev first : Entry
    first = entry_of d bound (first_view (quadratic d) (is_left_of d) (face_sides t) n)

    opened : HasOpenings d t bound (n + 1)
    opened h l = elim (cases_order h n) [
      | inl e ↦ subst (λ k. IsOk (opening d t bound k)) (sym e) (subst IsOk (sym known) refl)
      | inr (inl less) ↦ s.openings h less
      | inr (inr more) ↦ absurd (omega arith)
    ]

    -- half-edge n is opened
    pub search_opened : (entries_now : List Entry) (found_now : List Ray) → entries_now ≡ entries ++ optional o.live first → found_now ≡ found ++ optional o.found (record { half_edge = n; v = edge_vector t n })
        → Searches d t bound (n + 1) entries_now found_now live
    search_opened entries_now found_now more_entries more_found =
        let tells = meanings.opening_tells radicand t triangles bound n there o known in
        let no_stack = nil_of_map (word_entry d t bound) s.stack (sym s.entries_are ∙ empty) in
        let visited = subst (AreVisited d t bound n s.words) no_stack s.visited in
        let word = visited_words.first_word (field_order radicand) t triangles bound n in
        let at = seen_rays.along d t bound n in
        record {
          words = s.words;
          stack = optional o.live word;
          sightings = s.sightings ++ optional o.found at;
          visited = visited_words.visited_opened (field_order radicand) t triangles bound n s.words visited o.live tells.1;
          seen = seen_rays.seen_opened d t bound n s.words s.sightings s.visited.below s.seen o.found tells.0;
          entries_are = more_entries ∙ ap (λ es. es ++ optional o.live first) empty ∙ sym (map-optional (word_entry d t bound) o.live word);
          found_are =
              more_found ∙ ap (λ rays. rays ++ optional o.found (ray_of d t at)) s.found_are
              ∙ ap (λ rays. map (ray_of d t) s.sightings ++ rays) (sym (map-optional (ray_of d t) o.found at))
              ∙ sym (map-append (ray_of d t) s.sightings (optional o.found at));
          live_is = s.live_is;
          openings = opened;
          visits = s.visits;
        }

  -- ---- a visit

  -- the crossed half-edge of an entry is one
  pub entry_side : (n : ℕ) (rest : List Entry) (entry : Entry) (found : List Ray) (live : ℕ) → Searches d t bound n (rest ++ entry ∷ []) found live → entry.side < length t.vectors
  entry_side n rest entry found live searches =
      let s = next_word d t bound n rest entry found live searches in
      let w = s.next in
      let there = (next_live d t bound n rest entry found live s).there in
      subst (λ (e : Entry). e.side < length t.vectors) (sym s.entry_is)
      (number_of_side t (view_of d t w.half_edge w.letters).crossing.side
      (crossings.view_side (field_order radicand) triangles (is_left_of d) w.half_edge (side_of_number t w.half_edge there) w.letters))

  -- what it tells of its ends is so
  pub entry_ends : (n : ℕ) (rest : List Entry) (entry : Entry) (found : List Ray) (live : ℕ) → Searches d t bound n (rest ++ entry ∷ []) found live → TellsEnds d bound entry
  entry_ends n rest entry found live searches =
      let s = next_word d t bound n rest entry found live searches in
      subst (TellsEnds d bound) (sym s.entry_is) (record { right = refl; left = refl })

  module _ (n : ℕ) (rest : List Entry) (entry : Entry) (found : List Ray) (live : ℕ) (searches : Searches d t bound n (rest ++ entry ∷ []) found live)
      (v : Visit) (known : visit d t bound (view_at entry) ≡ Ok v) where
    abbrev s : NextWord d t bound n rest entry found live
    s = next_word d t bound n rest entry found live searches

    abbrev w : Word
    w = s.next

    abbrev word_known : visit_of d t bound w ≡ Ok v
    word_known = visit_next d t bound n rest entry found live s (Ok v) known

    abbrev is_live : IsLiveWord d t bound w
    is_live = next_live d t bound n rest entry found live s

    abbrev last : w.half_edge + 1 ≡ n
    last = next_last d t bound n rest entry found live s

    abbrev entry_after : Letter → Entry
    entry_after letter = entry_of d bound (view_after (quadratic d) (is_left_of d) (face_sides t) (view_at entry) letter)

    -- the entry of the word with one letter more
    entry_is_after : (letter : Letter) → word_entry d t bound (with_letter w letter) ≡ entry_after letter
    entry_is_after letter =
        ap (entry_of d bound) (crossings.last_view-snoc (quadratic d) (face_sides t) (is_left_of d) w.half_edge w.letters letter)
        ∙ ap (λ e. entry_of d bound (view_after (quadratic d) (is_left_of d) (face_sides t) (view_at e) letter)) (sym s.entry_is)

    visited_all : HasVisits d t bound (s.words ++ w ∷ [])
    visited_all u m = elim (in_more_cases s.words w u m) [
      | inl k ↦ s.visits u k
      | inr e ↦ subst (λ x. IsOk (visit_of d t bound x)) (sym e) (subst IsOk (sym word_known) refl)
    ]

    stack_entries : map (word_entry d t bound) (stack_after s.waiting w v.left v.right) ≡ (rest ++ optional v.left (entry_after left)) ++ optional v.right (entry_after right)
    stack_entries =
        map-append (word_entry d t bound) (s.waiting ++ optional v.left (with_letter w left)) (optional v.right (with_letter w right))
        ∙ ap (λ es. es ++ map (word_entry d t bound) (optional v.right (with_letter w right))) (map-append (word_entry d t bound) s.waiting (optional v.left (with_letter w left)))
        ∙ (λ i. (sym s.rest_are i ++ (map-optional (word_entry d t bound) v.left (with_letter w left) ∙ ap (optional v.left) (entry_is_after left)) i)
        ++ (map-optional (word_entry d t bound) v.right (with_letter w right) ∙ ap (optional v.right) (entry_is_after right)) i)

    -- the next word is visited
    pub search_visited : (h : ℕ) (entries_now : List Entry) (found_now : List Ray) (live_now : ℕ) → h + 1 ≡ n
        → entries_now ≡ (rest ++ optional v.left (entry_after left)) ++ optional v.right (entry_after right)
        → found_now ≡ found ++ optional v.found (record { half_edge = h; v = v.tip }) → live_now ≡ live + 1 → Searches d t bound n entries_now found_now live_now
    search_visited h entries_now found_now live_now of_half_edge more_entries more_found more_live =
        let before : (u : Word) → IsIn u s.words → IsBefore u w = λ u m. s.visited.before u w m (in_last s.waiting w) in
        let at = seen_rays.at_tip d t bound n s.words w before last in
        let same : h ≡ w.half_edge = omega (arith, last, of_half_edge) in
        let same_tip = (meanings.visit_tests radicand t triangles bound (view_of d t w.half_edge w.letters) v word_known).tip.tip ∙ meanings.is_tip radicand t triangles bound w is_live v word_known in
        let is_ray : ◌≡◌ {A = Ray} (record { half_edge = h; v = v.tip }) (ray_of d t at) = λ i. record { half_edge = same i; v = same_tip i } in
        let count = length-append s.words (w ∷ []) in
        record {
          words = s.words ++ w ∷ [];
          stack = stack_after s.waiting w v.left v.right;
          sightings = s.sightings ++ optional v.found at;
          visited =
              visited_words.visited_more (field_order radicand) t triangles bound n s.words s.waiting w s.visited v.left v.right
              (meanings.visit_left radicand t triangles bound w is_live v word_known) (meanings.visit_right radicand t triangles bound w is_live v word_known);
          seen = seen_rays.seen_visited d t bound n s.words w before last s.sightings s.seen v.found (meanings.visit_found radicand t triangles bound w is_live v word_known);
          entries_are = more_entries ∙ sym stack_entries;
          found_are =
              more_found ∙ (λ i. s.found_are i ++ optional v.found (is_ray i))
              ∙ ap (λ rays. map (ray_of d t) s.sightings ++ rays) (sym (map-optional (ray_of d t) v.found at))
              ∙ sym (map-append (ray_of d t) s.sightings (optional v.found at));
          live_is = more_live ∙ ap (λ k. k + 1) s.live_is ∙ sym count;
          openings = s.openings;
          visits = visited_all;
        }
