-- A saddle list ends in exactly one way.
use Rattle.std.proofs.Common.{◌≡◌, ℕ, Result, Ok, Err, List, [], ◌∷◌, ◌++◌, length, refl, sym, ap, ◌∙◌, subst, inl, inr}
use Rattle.std.specs.Prelude.{IsPermutation}
use Rattle.std.proofs.lemmas.Bool.{cases_order}
use Rattle.fs_quadratic.specs.Ring.{Quadratic}
use Rattle.fs_quadratic.specs.declared.steps.Place.{Place}
use Rattle.fs_plane.specs.declared.corners.Corner.{Corner}
use Rattle.fs_plane.specs.declared.listing.Listed.{Listed}
use Rattle.fs_plane.specs.declared.sites.Site.TheVariants.{Bound, Keep, Home}
use Rattle.fs_plane.specs.declared.sites.Stop.{Stop}
use Rattle.fs_plane.specs.declared.sites.Stop.TheVariants.{Undecided, Overflow, NoMemory}
use Rattle.fs_plane.specs.ListedLaws.{listed_total}
use Rattle.fs_plane.specs.Vector.{PlaneVector}
use Rattle.fs_gluing.specs.Homes.{home_of, IsInCorner, IsFirstCorner, nth_corner}
use Rattle.fs_gluing.specs.Surface.{GluedPolygons}
use Rattle.fs_gluing.proofs.Sides.CornerSearch.{found_corner_unique}
use Rattle.fs_gluing.specs.Triangulation.{Triangulation}
use Rattle.fs_mesh.specs.Meshes.{MeshValue}
use Rattle.fs_lists.proofs.Equal.{cons_equal, heads_equal, tails_equal}
use Rattle.fs_lists.proofs.Results.{ok_equal, err_equal, ok_not_err}
use Rattle.fs_fan.specs.declared.fans.Ray.{Ray}
use Rattle.fs_fan.specs.Search.{Findings, EndsSearch, whole, first_overflows, fan_overflows, budget_spent}
use Rattle.fs_fan.proofs.EndsUnique as searches
use Rattle.fs_saddles.specs.declared.saddles.Saddles.{Saddles}
use Rattle.fs_saddles.specs.Saddles.{scaled_bound, AreEntriesOf, IsSaddleList, IsKeptAs, AreKept, SaddleList, EndsSaddles, bound_overflows, search_stops, keep_overflows, home_overflows, listed, ReturnsSaddles}
use Rattle.fs_saddles.specs.Keeping.{RayStops, keep_stops, home_stops, FirstStop}
use Rattle.fs_plane.proofs.EqualListed.{listed_equal, listed_exact}
use Rattle.fs_lists.proofs.SortedLists.{sorted_unique}

-- the first corner whose sector holds a vector is one
first_corner_unique : (s : GluedPolygons) (c : Corner) (v : PlaneVector) (one other : Corner) → IsFirstCorner s c v one → IsFirstCorner s c v other → one ≡ other
first_corner_unique s c v one other f g = elim (cases_order f.corners g.corners) [
  | inl e ↦ f.is ∙ ap (nth_corner s c) e ∙ sym g.is
  | inr (inl less) ↦ absurd (g.first f.corners less (subst (λ e. IsInCorner s e v) f.is f.holds))
  | inr (inr more) ↦ absurd (f.first g.corners more (subst (λ e. IsInCorner s e v) g.is g.holds))
]

-- a search has one end
module _ (d : ℕ) (t : Triangulation) (bound : Quadratic) (n : ℕ) where
  IsOutOfMemory : Result Findings Stop → Type 0
  IsOutOfMemory (Err NoMemory) = Unit {0}
  IsOutOfMemory end = ⊥

  not_out_of_memory : (end : Result Findings Stop) → EndsSearch d t bound n end → ¬ IsOutOfMemory end
  unfolding IsOutOfMemory
  not_out_of_memory _ (whole words found a few openings visits f) h = h
  not_out_of_memory _ (first_overflows words k place a few openings visits there known) h = h
  not_out_of_memory _ (fan_overflows words w place live a few openings visits known) h = h
  not_out_of_memory _ (budget_spent words w live a all openings visits) h = h

  search_unique : (a b : Result Findings Stop) → EndsSearch d t bound n a → EndsSearch d t bound n b → a ≡ b
  unfolding IsOutOfMemory
  search_unique (Ok found) b p q = searches.returned_unique d t bound n (Ok (record { found = found.found; live = found.live })) p b q
  search_unique (Err NoMemory) b p q = absurd (not_out_of_memory (Err NoMemory) p tt)
  search_unique (Err (Undecided k)) b p q = searches.returned_unique d t bound n (Err (Undecided k)) p b q
  search_unique (Err (Overflow site)) b p q = searches.returned_unique d t bound n (Err (Overflow site)) p b q

module _ (m : MeshValue) where
  -- ---- entries

  entries_unique : (rays : List Ray) (one other : List Listed) → AreEntriesOf m rays one → AreEntriesOf m rays other → one ≡ other
  entries_unique [] [] [] p q = refl
  entries_unique [] [] (e ∷ other) p q = absurd q
  entries_unique [] (e ∷ one) other p q = absurd p
  entries_unique (ray ∷ rays) [] other p q = absurd p
  entries_unique (ray ∷ rays) (e ∷ one) [] p q = absurd q
  entries_unique (ray ∷ rays) (e ∷ one) (f ∷ other) p q =
      cons_equal e f one other
      (listed_equal e f (p.0.field ∙ sym q.0.field) (p.0.vector ∙ sym q.0.vector) (first_corner_unique m.surface (home_of m.homes ray.half_edge) ray.v e.start f.start p.0.corner q.0.corner))
      (entries_unique rays one other p.1 q.1)

  list_unique : (found : List Ray) (one other : List Listed) → IsSaddleList m found one → IsSaddleList m found other → one ≡ other
  list_unique found one other p q =
      let same = entries_unique found p.entries q.entries p.each q.each in
      sorted_unique listed_total listed_exact p.entries one other p.all (subst (λ es. IsPermutation es other) (sym same) q.all) p.ascending q.ascending

  -- ---- the first ray that can't be kept

  -- a ray that is kept has no stop
  kept_or_stops : (ray : Ray) (entry : Listed) (n : ℕ) (stop : Stop) → IsKeptAs m ray entry → ¬ RayStops m ray n stop
  kept_or_stops ray entry n stop k (keep_stops s) = ok_not_err ray.v s.place (sym k.keepable ∙ s.overflows)
  kept_or_stops ray entry n stop k (home_stops kept s) =
      ok_not_err entry.start s.place (found_corner_unique m.surface (home_of m.homes ray.half_edge) ray.v 0 9 (Ok entry.start) (Err s.place) k.found s.overflows)

  ray_stop_unique : (ray : Ray) (n : ℕ) (one other : Stop) → RayStops m ray n one → RayStops m ray n other → one ≡ other
  ray_stop_unique ray n one other (keep_stops s) (keep_stops t) = s.is ∙ ap (λ (p : Place). Overflow (Keep n p.0)) (err_equal s.place t.place (sym s.overflows ∙ t.overflows)) ∙ sym t.is
  ray_stop_unique ray n one other (keep_stops s) (home_stops kept t) = absurd (ok_not_err ray.v s.place (sym kept ∙ s.overflows))
  ray_stop_unique ray n one other (home_stops kept s) (keep_stops t) = absurd (ok_not_err ray.v t.place (sym kept ∙ t.overflows))
  ray_stop_unique ray n one other (home_stops kept s) (home_stops kept_too t) =
      s.is ∙ ap (λ (p : Place). Overflow (Home n p.0))
      (err_equal s.place t.place (found_corner_unique m.surface (home_of m.homes ray.half_edge) ray.v 0 9 (Err s.place) (Err t.place) s.overflows t.overflows)) ∙ sym t.is

  Stopped : Ray → Type 0
  Stopped ray = (n : ℕ) × (stop : Stop) × RayStops m ray n stop

  kept_not_stopped : (ray : Ray) → ((entry : Listed) × IsKeptAs m ray entry) → ¬ Stopped ray
  unfolding Stopped
  kept_not_stopped ray k s = kept_or_stops ray k.0 s.0 s.1 k.1 s.2

  -- two lists before the first ray that can't be kept are one
  one_prefix : (before others : List Ray) (ray other : Ray) (after rest : List Ray) → before ++ ray ∷ after ≡ others ++ other ∷ rest → AreKept m before → AreKept m others
      → Stopped ray → Stopped other → (before ≡ others) × (ray ≡ other)
  one_prefix [] [] ray other after rest e p q s t = (refl, heads_equal ray other after rest e)
  one_prefix [] (o ∷ others) ray other after rest e p q s t = absurd (kept_not_stopped o q.0 (subst Stopped (heads_equal ray o after (others ++ other ∷ rest) e) s))
  one_prefix (b ∷ before) [] ray other after rest e p q s t = absurd (kept_not_stopped b p.0 (subst Stopped (sym (heads_equal b other (before ++ ray ∷ after) rest e)) t))
  one_prefix (b ∷ before) (o ∷ others) ray other after rest e p q s t =
      let more = one_prefix before others ray other after rest (tails_equal b o (before ++ ray ∷ after) (others ++ other ∷ rest) e) p.1 q.1 s t in
      (cons_equal b o before others (heads_equal b o (before ++ ray ∷ after) (others ++ other ∷ rest) e) more.0, more.1)

  first_stop_unique : (rays : List Ray) (one other : Stop) → FirstStop m rays one → FirstStop m rays other → one ≡ other
  unfolding Stopped
  first_stop_unique rays one other f g =
      let same = one_prefix f.before g.before f.ray g.ray f.after g.after (sym f.is ∙ g.is) f.kept g.kept (length f.before, one, f.stops) (length g.before, other, g.stops) in
      ray_stop_unique f.ray (length f.before) one other f.stops
      (subst (λ r. RayStops m r (length f.before) other) (sym same.1) (subst (λ (b : List Ray). RayStops m g.ray (length b) other) (sym same.0) g.stops))

  kept_around : (before : List Ray) (ray : Ray) (after : List Ray) → AreKept m (before ++ ray ∷ after) → (entry : Listed) × IsKeptAs m ray entry
  kept_around [] ray after k = k.0
  kept_around (b ∷ before) ray after k = kept_around before ray after k.1

  all_or_stop : (rays : List Ray) (stop : Stop) → AreKept m rays → ¬ FirstStop m rays stop
  all_or_stop rays stop kept f =
      let k = kept_around f.before f.ray f.after (subst (AreKept m) f.is kept) in
      kept_or_stops f.ray k.0 (length f.before) stop k.1 f.stops

  -- ---- stage after stage

  -- how a list ends whose rays are found
  data AfterSearch (found : Findings) (end : Result SaddleList Stop) : Type 0 where
    some_stops : (stop : Stop) → FirstStop m found.found stop → end ≡ Err stop → AfterSearch found end
    none_stops : (list : List Listed) → AreKept m found.found → IsSaddleList m found.found list → end ≡ Ok (record { list = list; live = found.live }) → AfterSearch found end

  after_search_unique : (found : Findings) (a b : Result SaddleList Stop) → AfterSearch found a → AfterSearch found b → a ≡ b
  after_search_unique found a b (some_stops stop f e) (some_stops other g h) = e ∙ ap (λ s. Err s) (first_stop_unique found.found stop other f g) ∙ sym h
  after_search_unique found a b (some_stops stop f e) (none_stops list kept l h) = absurd (all_or_stop found.found stop kept f)
  after_search_unique found a b (none_stops list kept l e) (some_stops other g h) = absurd (all_or_stop found.found other kept g)
  after_search_unique found a b (none_stops list kept l e) (none_stops other kept_too k h) =
      e ∙ ap (λ (list : List Listed). Ok (record { list = list; live = found.live })) (list_unique found.found list other l k) ∙ sym h

  -- how one ends whose search has ended
  abbrev AfterBound : Result Findings Stop → Result SaddleList Stop → Type 0
  AfterBound (Err stop) end = end ≡ Err stop
  AfterBound (Ok found) end = AfterSearch found end

  after_bound_unique : (s : Result Findings Stop) (a b : Result SaddleList Stop) → AfterBound s a → AfterBound s b → a ≡ b
  after_bound_unique (Err stop) a b e h = e ∙ sym h
  after_bound_unique (Ok found) a b p q = after_search_unique found a b p q

  module _ (limit : Quadratic) (n : ℕ) where
    abbrev bounds : Result Quadratic Place
    bounds = scaled_bound m.surface.d m.surface.den limit

    without_bound : (place : Place) → bounds ≡ Err place → (a : Result SaddleList Stop) → EndsSaddles m limit n a → a ≡ Err (Overflow (Bound place.0))
    without_bound place none _ (bound_overflows other is) = ap (λ (p : Place). Err (Overflow (Bound p.0))) (err_equal other place (sym is ∙ none))
    without_bound place none _ (search_stops bound stop is s) = absurd (ok_not_err bound place (sym is ∙ none))
    without_bound place none _ (keep_overflows bound found before after ray p is s split kept k) = absurd (ok_not_err bound place (sym is ∙ none))
    without_bound place none _ (home_overflows bound found before after ray p is s split kept k h) = absurd (ok_not_err bound place (sym is ∙ none))
    without_bound place none _ (listed bound found list is s kept l) = absurd (ok_not_err bound place (sym is ∙ none))

    module _ (bound : Quadratic) (known : bounds ≡ Ok bound) where
      Searched : Result SaddleList Stop → Type 0
      Searched a = (s : Result Findings Stop) × EndsSearch m.surface.d m.triangles bound n s × AfterBound s a

      searched_at : (other : Quadratic) → bounds ≡ Ok other → (s : Result Findings Stop) → EndsSearch m.surface.d m.triangles other n s → EndsSearch m.surface.d m.triangles bound n s
      searched_at other is s ends = subst (λ b. EndsSearch m.surface.d m.triangles b n s) (ok_equal other bound (sym is ∙ known)) ends

      searched : (a : Result SaddleList Stop) → EndsSaddles m limit n a → Searched a
      unfolding Searched
      searched _ (bound_overflows place is) = absurd (ok_not_err bound place (sym known ∙ is))
      searched _ (search_stops other stop is s) = (Err stop, searched_at other is (Err stop) s, refl)
      searched _ (keep_overflows other found before after ray p is s split kept k) = (
        Ok found,
        searched_at other is (Ok found) s,
        some_stops (Overflow (Keep (length before) p.0))
            (record { before = before; ray = ray; after = after; is = split; kept = kept; stops = keep_stops (record { place = p; overflows = k; is = refl }) }) refl,
      )
      searched _ (home_overflows other found before after ray p is s split kept k h) = (
        Ok found,
        searched_at other is (Ok found) s,
        some_stops (Overflow (Home (length before) p.0))
            (record { before = before; ray = ray; after = after; is = split; kept = kept; stops = home_stops k (record { place = p; overflows = h; is = refl }) }) refl,
      )
      searched _ (listed other found list is s kept l) = (Ok found, searched_at other is (Ok found) s, none_stops list kept l refl)

      searched_unique : (a b : Result SaddleList Stop) → Searched a → Searched b → a ≡ b
      unfolding Searched
      searched_unique a b p q =
          after_bound_unique p.0 a b p.2 (subst (λ s. AfterBound s b) (sym (search_unique m.surface.d m.triangles bound n p.0 q.0 p.1 q.1)) q.2)

    -- a list ends in one way
    pub end_unique : (a b : Result SaddleList Stop) → EndsSaddles m limit n a → EndsSaddles m limit n b → a ≡ b
    end_unique a b p q = by bounds refl
      where
        by : (r : Result Quadratic Place) → bounds ≡ r → a ≡ b
        by (Err place) none = without_bound place none a p ∙ sym (without_bound place none b q)
        by (Ok bound) known = searched_unique bound known a b (searched bound known a p) (searched bound known b q)

-- what a call returns is the one end of the list
pub returned_unique : (m : MeshValue) (limit : Quadratic) (n : ℕ) (result : Result Saddles Stop) → ReturnsSaddles (EndsSaddles m limit n) result
    → (end : Result SaddleList Stop) → EndsSaddles m limit n end → ReturnsSaddles (λ returned. returned ≡ end) result
returned_unique m limit n (Ok saddles) h end ends = end_unique m limit n (Ok (record { list = saddles.list; live = saddles.live })) end h ends
returned_unique m limit n (Err NoMemory) h end ends = tt
returned_unique m limit n (Err (Undecided k)) h end ends = end_unique m limit n (Err (Undecided k)) end h ends
returned_unique m limit n (Err (Overflow site)) h end ends = end_unique m limit n (Err (Overflow site)) end h ends
