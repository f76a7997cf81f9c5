-- A search within a budget has an end: half-edge after half-edge is opened, and word after word visited, up to one.
use Rattle.std.proofs.Common.{◌≡◌, ◌⊎◌, ℕ, zero, suc, ◌+◌, ◌<◌, Result, Ok, Err, List, [], ◌∷◌, ◌++◌, length, refl, ap, subst, inl, inr, arith}
use Rattle.fs_quadratic.specs.Radicand.{IsRadicand}
use Rattle.fs_quadratic.specs.Ring.{Quadratic, quadratic, IsPositive}
use Rattle.fs_quadratic.specs.declared.steps.Place.{Place}
use Rattle.fs_plane.specs.declared.sites.Site.TheVariants.{First, Fan}
use Rattle.fs_plane.specs.declared.sites.Stop.{Stop}
use Rattle.fs_plane.specs.declared.sites.Stop.TheVariants.{Undecided, Overflow}
use Rattle.fs_triangles.specs.Triangles.{AreTriangles}
use Rattle.fs_gluing.specs.Triangulation.{Triangulation, face_sides, edge_vector}
use Rattle.fs_words.specs.Words.{left, right}
use Rattle.fs_words.specs.Sectors.{first_view, view_after}
use Rattle.fs_fan.specs.declared.fans.Ray.{Ray}
use Rattle.fs_fan.specs.declared.visits.Entry.{Entry}
use Rattle.fs_fan.specs.declared.visits.Opening.{Opening}
use Rattle.fs_fan.specs.declared.visits.Visit.{Visit}
use Rattle.fs_fan.specs.Visits.{is_left_of, opening, visit}
use Rattle.fs_fan.specs.Search.{Findings, EndsSearch}
use Rattle.fs_fan.specs.Entries.{view_at, entry_of, optional}
use Rattle.fs_fan.specs.Searching.{Searches}
use Rattle.fs_fan.proofs.SearchStates.{search_starts, search_opened, search_visited}
use Rattle.fs_fan.proofs.SearchEnds.{ends_at_opening, ends_whole, ends_at_visit, ends_undecided}

-- a list is empty or has a last item
last_item : {X : Type 0} (xs : List X) → (xs ≡ []) ⊎ ((rest : List X) × (last : X) × (xs ≡ rest ++ last ∷ []))
last_item [] = inl refl
last_item (x ∷ xs) = elim (last_item xs) [
  | inl e ↦ inr ([], x, ap (λ l. x ∷ l) e)
  | inr r ↦ inr (x ∷ r.0, r.1, ap (λ l. x ∷ l) r.2)
]

module _ {d : ℕ} (radicand : IsRadicand d) (t : Triangulation) (triangles : AreTriangles (quadratic d) (IsPositive d) (face_sides t)) (bound : Quadratic) (budget : ℕ) where
  abbrev HasEnd : Type 0
  HasEnd = (end : Result Findings Stop) × EndsSearch d t bound budget end

  -- from each state in which no word waits there is an end
  abbrev GoesOn : ℕ → Type 0
  GoesOn n = (k : ℕ) (found : List Ray) (live : ℕ) → Searches d t bound n [] found live → live + k ≡ budget → HasEnd

  -- and from each in which words of half-edge h may wait, where k more may be visited
  abbrev VisitsEnd : ℕ → ℕ → Type 0
  VisitsEnd h k = (entries : List Entry) (found : List Ray) (live : ℕ) → Searches d t bound (h + 1) entries found live → live + k ≡ budget → HasEnd

  -- one word is visited
  visit_one : (h k : ℕ) → VisitsEnd h k → (rest : List Entry) (entry : Entry) (found : List Ray) (live : ℕ) → Searches d t bound (h + 1) (rest ++ entry ∷ []) found live → live + suc k ≡ budget → HasEnd
  visit_one h k on rest entry found live s few = by (visit d t bound (view_at entry)) refl
    where
      by : (r : Result Visit Place) → visit d t bound (view_at entry) ≡ r → HasEnd
      by (Err place) known = (Err (Overflow (Fan live place.0)), ends_at_visit radicand t triangles bound budget (h + 1) rest entry found live s (omega arith) place known)
      by (Ok v) known =
          let left_entry = entry_of d bound (view_after (quadratic d) (is_left_of d) (face_sides t) (view_at entry) left) in
          let right_entry = entry_of d bound (view_after (quadratic d) (is_left_of d) (face_sides t) (view_at entry) right) in
          let entries = (rest ++ optional v.left left_entry) ++ optional v.right right_entry in
          let rays = found ++ optional v.found (record { half_edge = h; v = v.tip }) in
          on entries rays (live + 1) (search_visited radicand t triangles bound (h + 1) rest entry found live s v known h entries rays (live + 1) refl refl refl refl) (omega arith)

  visits_end : (h : ℕ) → GoesOn (h + 1) → (k : ℕ) → VisitsEnd h k
  visits_end h on zero entries found live s few = elim (last_item entries) [
    | inl e ↦ on zero found live (subst (λ es. Searches d t bound (h + 1) es found live) e s) few
    | inr r ↦ (Err (Undecided budget), ends_undecided radicand t triangles bound budget (h + 1) r.0 r.1 found live (subst (λ es. Searches d t bound (h + 1) es found live) r.2 s) (omega arith))
  ]
  visits_end h on (suc k) entries found live s few = elim (last_item entries) [
    | inl e ↦ on (suc k) found live (subst (λ es. Searches d t bound (h + 1) es found live) e s) few
    | inr r ↦ visit_one h k (visits_end h on k) r.0 r.1 found live (subst (λ es. Searches d t bound (h + 1) es found live) r.2 s) few
  ]

  -- one half-edge is opened
  open_one : (n : ℕ) → n < length t.vectors → GoesOn (n + 1) → GoesOn n
  open_one n there on k found live s few = by (opening d t bound n) refl
    where
      by : (r : Result Opening Place) → opening d t bound n ≡ r → HasEnd
      by (Err place) known = (Err (Overflow (First n place.0)), ends_at_opening radicand t triangles bound budget n [] found live s refl (omega arith) there place known)
      by (Ok o) known =
          let entries = optional o.live (entry_of d bound (first_view (quadratic d) (is_left_of d) (face_sides t) n)) in
          let rays = found ++ optional o.found (record { half_edge = n; v = edge_vector t n }) in
          visits_end n on k entries rays live (search_opened radicand t triangles bound n [] found live s refl there o known entries rays refl refl) few

  -- m more half-edges are opened
  openings_end : (m n : ℕ) → n + m ≡ length t.vectors → GoesOn n
  openings_end zero n all k found live s few =
      (Ok (record { found = found; live = live }), ends_whole radicand t triangles bound budget n [] found live s refl (omega arith) (omega arith))
  openings_end (suc m) n all k found live s few = open_one n (omega arith) (openings_end m (n + 1) (omega arith)) k found live s few

  -- a search has an end
  pub search_end_exists : (end : Result Findings Stop) × EndsSearch d t bound budget end
  search_end_exists = openings_end (length t.vectors) 0 (omega arith) budget [] 0 (search_starts d t bound) (omega arith)
