-- The search for the corner of a vector: corner after corner round a vertex is tested, one holds the vector, and the search has exactly one result.
use Rattle.std.proofs.Common.{◌≡◌, ◌≢◌, ◌⊎◌, ℕ, ◌+◌, ◌*◌, ◌<◌, Bool, true, false, Result, Ok, Err, IfOk, refl, sym, ap, ◌∙◌, subst, inl, inr, arith}
use Rattle.fs_lists.proofs.Results.{err_equal, ok_not_err}
use Rattle.fs_cycles.specs.Cycles.{Permutes}
use Rattle.fs_cycles.proofs.Iterates.{returns, first_below}
use Rattle.fs_quadratic.specs.declared.steps.Place.{Place}
use Rattle.fs_plane.specs.declared.corners.Corner.{Corner}
use Rattle.fs_plane.specs.Vector.{PlaneVector, vector_zero}
use Rattle.fs_plane.proofs.Sectors.{sector_of_formula}
use Rattle.fs_paths.specs.NextCorners as corners
use Rattle.fs_paths.proofs.CornerRounds.{next_corner_there, next_corner_one_to_one, nth_corner_there, some_corner}
use Rattle.fs_gluing.specs.Limits.{most_sides}
use Rattle.fs_gluing.specs.Polygons.{HasSide, all_sides}
use Rattle.fs_gluing.specs.NextCorner.{side_before}
use Rattle.fs_gluing.specs.Surface.{GluedPolygons, IsSurface}
use Rattle.fs_gluing.specs.SurfaceSides.{polygon_sides, vector_of}
use Rattle.fs_gluing.specs.Homes.{IsInCorner, nth_corner, IsFirstCorner, corner_test_after, FindsCorner, found, overflows}
use Rattle.fs_gluing.proofs.Base.Equality.{same_corner}
use Rattle.fs_gluing.proofs.Sides.AllSides.{in_all_sides, all_sides_in, length-all_sides}
use Rattle.fs_gluing.proofs.Sides.GluedSurface.{path_laws}

module _ (s : GluedPolygons) (surface : IsSurface s) where
  permutes : Permutes (corners.next_corner (polygon_sides s.polygons)) (all_sides s.polygons)
  permutes =
      let glued = (path_laws s surface.surface).glued in
      record {
        inside = λ c i. in_all_sides s.polygons (corners.next_corner (polygon_sides s.polygons) c) (next_corner_there glued c (all_sides_in s.polygons c i));
        one_to_one = λ c e i j. next_corner_one_to_one glued c e (all_sides_in s.polygons c i) (all_sides_in s.polygons e j);
      }

  -- the corners after a corner exist
  nth_corner_has : (k : ℕ) (c : Corner) → HasSide s.polygons c → HasSide s.polygons (nth_corner s c k)
  nth_corner_has = nth_corner_there (path_laws s surface.surface).glued

  -- each vector that isn't zero is in the sector of a corner of each vertex, which comes after fewer steps than there may be sides
  pub some_corner_holds : (c : Corner) → HasSide s.polygons c → (v : PlaneVector) → v ≢ vector_zero → (k : ℕ) × (k < most_sides) × IsInCorner s (nth_corner s c k) v
  some_corner_holds c h v off =
      let laws = path_laws s surface.surface in
      let back = returns same_corner permutes c (in_all_sides s.polygons c h) in
      let there = some_corner laws.order laws.glued c h back.0 back.2 v off in
      let sides = length-all_sides s.polygons in
      let few = surface.sides in
      let within = back.1 in
      let below = there.1 in
      (there.0, omega arith, there.2)

  -- ---- what a test says

  -- a corner that the test accepts has the vector in its sector
  accepted : (before : ℕ) (c : Corner) (v : PlaneVector) → corner_test_after before s c v ≡ Ok true → IsInCorner s c v
  accepted before c v e = (sector_of_formula surface.radicand before (vector_of s.polygons c) (vector_of s.polygons (side_before s.polygons c)) v (Ok true) (sym e)).0 refl

  -- a corner that it rejects hasn't
  rejected : (before : ℕ) (c : Corner) (v : PlaneVector) → corner_test_after before s c v ≡ Ok false → ¬ IsInCorner s c v
  rejected before c v e i =
      let held : false ≡ true = (sector_of_formula surface.radicand before (vector_of s.polygons c) (vector_of s.polygons (side_before s.polygons c)) v (Ok false) (sym e)).1 i in cc

-- the search goes no further after this result of a test
abbrev EndsSearch : Result Bool Place → Type 0
EndsSearch (Ok true) = Unit {0}
EndsSearch (Ok false) = ⊥
EndsSearch (Err stop) = Unit {0}

decide_ends : (r : Result Bool Place) → EndsSearch r ⊎ ¬ EndsSearch r
decide_ends (Ok true) = inl tt
decide_ends (Ok false) = inr (λ e. e)
decide_ends (Err stop) = inl tt

rejected_of_not_ends : (r : Result Bool Place) → ¬ EndsSearch r → r ≡ Ok false
rejected_of_not_ends (Ok true) n = absurd (n tt)
rejected_of_not_ends (Ok false) n = refl
rejected_of_not_ends (Err stop) n = absurd (n tt)

ends_or_rejected : (r : Result Bool Place) → EndsSearch r → r ≡ Ok false → ⊥
ends_or_rejected r e f = subst EndsSearch f e

true_ends : (r : Result Bool Place) → r ≡ Ok true → EndsSearch r
true_ends r e = subst EndsSearch (sym e) tt

error_ends : (r : Result Bool Place) (stop : Place) → r ≡ Err stop → EndsSearch r
error_ends r stop e = subst EndsSearch (sym e) tt

less_or_more : (n m : ℕ) → (n < m) ⊎ ((n ≡ m) ⊎ (m < n))
less_or_more n m = grind arith

-- the search from the corner c
module _ (s : GluedPolygons) (c : Corner) (v : PlaneVector) (before stride : ℕ) where
  -- the result of test number t
  abbrev pub nth_test : ℕ → Result Bool Place
  nth_test t = corner_test_after (before + stride * t) s (nth_corner s c t) v

  -- the first t corners are rejected
  abbrev pub AreRejected : ℕ → Type 0
  AreRejected t = (n : ℕ) → n < t → nth_test n ≡ Ok false

  one_end : (t u : ℕ) → AreRejected t → EndsSearch (nth_test t) → AreRejected u → EndsSearch (nth_test u) → t ≡ u
  one_end t u none_t end_t none_u end_u = elim (less_or_more t u) [
    | inl l ↦ absurd (ends_or_rejected (nth_test t) end_t (none_u t l))
    | inr (inl e) ↦ e
    | inr (inr l) ↦ absurd (ends_or_rejected (nth_test u) end_u (none_t u l))
  ]

  -- a search has at most one result
  pub found_corner_unique : (a b : Result Corner Place) → FindsCorner s c v before stride a → FindsCorner s c v before stride b → a ≡ b
  found_corner_unique _ _ (found t none accepts) (found u none_u accepts_u) =
      let same = one_end t u none (true_ends (nth_test t) accepts) none_u (true_ends (nth_test u) accepts_u) in ap (λ n. Ok (nth_corner s c n)) same
  found_corner_unique _ _ (found t none accepts) (overflows u stop none_u stops_u) =
      let same = one_end t u none (true_ends (nth_test t) accepts) none_u (error_ends (nth_test u) stop stops_u) in
      absurd (ok_not_err true stop (sym accepts ∙ ap nth_test same ∙ stops_u))
  found_corner_unique _ _ (overflows t stop none stops) (found u none_u accepts_u) =
      let same = one_end t u none (error_ends (nth_test t) stop stops) none_u (true_ends (nth_test u) accepts_u) in
      absurd (ok_not_err true stop (sym accepts_u ∙ ap nth_test (sym same) ∙ stops))
  found_corner_unique _ _ (overflows t stop none stops) (overflows u stop_u none_u stops_u) =
      let same = one_end t u none (error_ends (nth_test t) stop stops) none_u (error_ends (nth_test u) stop_u stops_u) in
      ap Err (err_equal stop stop_u (sym stops ∙ ap nth_test same ∙ stops_u))

  -- the result where test number t is the first that doesn't reject its corner
  ended_at : (t : ℕ) → AreRejected t → (r : Result Bool Place) → nth_test t ≡ r → EndsSearch r → (result : Result Corner Place) × FindsCorner s c v before stride result
  ended_at t none (Ok true) e h = (Ok (nth_corner s c t), found t none e)
  ended_at t none (Ok false) e h = absurd h
  ended_at t none (Err stop) e h = (Err stop, overflows t stop none e)

  module _ (surface : IsSurface s) (there : HasSide s.polygons c) where
    -- a corner that is found is the first whose sector holds the vector, and exists
    pub first_of_found : (result : Result Corner Place) → FindsCorner s c v before stride result → IfOk result (λ e. IsFirstCorner s c v e × HasSide s.polygons e)
    first_of_found _ (found t none accepts) = (
      record {
        corners = t;
        is = refl;
        holds = accepted s surface (before + stride * t) (nth_corner s c t) v accepts;
        first = λ n l. rejected s surface (before + stride * n) (nth_corner s c n) v (none n l);
      },
      nth_corner_has s surface t c there,
    )
    first_of_found _ (overflows t stop none stops) = tt

    module _ (off : v ≢ vector_zero) where
      -- not all corners are rejected
      pub rejected_below : (t : ℕ) → AreRejected t → t < most_sides
      rejected_below t none =
          let holds = some_corner_holds s surface c there v off in
          let few = holds.1 in
          elim (less_or_more holds.0 t) [
            | inl l ↦ absurd (rejected s surface (before + stride * holds.0) (nth_corner s c holds.0) v (none holds.0 l) holds.2)
            | inr (inl e) ↦ omega arith
            | inr (inr l) ↦ omega arith
          ]

      -- a search has a result
      pub found_corner_exists : (result : Result Corner Place) × FindsCorner s c v before stride result
      found_corner_exists = elim (first_below (λ t. EndsSearch (nth_test t)) (λ t. decide_ends (nth_test t)) most_sides) [
        | inl first ↦ ended_at first.0 (λ n l. rejected_of_not_ends (nth_test n) (first.3 n l)) (nth_test first.0) refl first.2
        | inr none ↦ absurd (below_itself (rejected_below most_sides (λ n l. rejected_of_not_ends (nth_test n) (none n l))))
      ]
        where
          below_itself : most_sides < most_sides → ⊥
          below_itself l = absurd (omega arith)
