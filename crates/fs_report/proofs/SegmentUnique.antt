-- `segment` has one answer about a surface, and no other.
use Rattle.std.proofs.Common.{◌≡◌, ◌⊎◌, ℕ, Bool, true, Result, Ok, Err, None, Some, List, refl, sym, ap, ◌∙◌, subst, inl, inr, ◌++◌, ◌%◌}
use Rattle.std.specs.Prelude.{codes, unsigned_abs}
use Rattle.std.specs.Int.{◌∣◌}
use Rattle.std.proofs.lemmas.Nat.Gcd.{dvd_of_mod-eq-zero, mod-eq-zero_of_dvd}
use Rattle.std.proofs.lemmas.Bool.{cases_eq}
use Rattle.fs_lists.proofs.Results.{ok_equal, err_equal, ok_not_err}
use Rattle.fs_quadratic.specs.declared.steps.Place.{Place}
use Rattle.fs_plane.specs.declared.corners.Corner.{Corner}
use Rattle.fs_plane.specs.declared.sites.Site.{Site}
use Rattle.fs_plane.specs.declared.sites.Site.TheVariants as sites
use Rattle.fs_plane.specs.Vector.{PlaneVector}
use Rattle.fs_paths.specs.Ends.{PathEnd}
use Rattle.fs_gluing.specs.declared.shapes.Point.{Point}
use Rattle.fs_gluing.specs.Polygons.{HasSide}
use Rattle.fs_gluing.specs.Scaling.{IsMultipleOf}
use Rattle.fs_gluing.specs.Surface.{GluedPolygons, IsSurface}
use Rattle.fs_gluing.specs.SurfaceSides.{polygon_sides}
use Rattle.fs_develop.specs.Grid.{scale_to, GivesScaled}
use Rattle.fs_plane.specs.declared.sites.Stop.TheVariants as stops
use Rattle.fs_develop.specs.declared.walking.Walk.{Walk}
use Rattle.fs_develop.specs.Walks.{end_of, IsWithin, WalksTo, IsOnly, IsPathEnd, ReturnsWalk}
use Rattle.fs_develop.proofs.RunUnique.{leads_unique}
use Rattle.fs_develop.proofs.RunExists.{walk_exists}
use Rattle.fs_develop.proofs.ScaledVectors.{scaled_value}
use Rattle.fs_develop.proofs.Walks.{walk_end}
use Rattle.fs_report.specs.Text.{line_of, overflow_line, segment_words, end_words, is_undecided, AnswersPath, overflowed, ended, AnswersSegment, off_grid, wide, followed}

module _ (s : GluedPolygons) (budget : ℕ) (start : Corner) where
  walks_unique : (w : PlaneVector) (r q : Result (PathEnd Corner) Site) → WalksTo s start w budget r → WalksTo s start w budget q → r ≡ q
  walks_unique w r q h k = sym (leads_unique s.d (polygon_sides s.polygons) w (IsWithin budget) start r q h k)

  path_unique : (w : PlaneVector) (words m n : List ℕ) (p q : Bool) → AnswersPath s budget start w words m p → AnswersPath s budget start w words n q → (m ≡ n) × (p ≡ q)
  path_unique w words m n p q (overflowed site h text kind) (overflowed site' k text' kind') =
      (text ∙ (ap (λ (x : Site). overflow_line words x) (err_equal site site' (walks_unique w (Err site) (Err site') h k)) ∙ sym text'), kind ∙ sym kind')
  path_unique w words m n p q (overflowed site h text kind) (ended end k is text' kind') = absurd (ok_not_err end site (walks_unique w (Ok end) (Err site) k h))
  path_unique w words m n p q (ended end h is text kind) (overflowed site k text' kind') = absurd (ok_not_err end site (walks_unique w (Ok end) (Err site) h k))
  path_unique w words m n p q (ended end h is text kind) (ended end' k is' text' kind') =
      let same = ok_equal end end' (walks_unique w (Ok end) (Ok end') h k) in
      (text ∙ (ap (λ (e : PathEnd Corner). line_of (words ++ codes " " ++ end_words budget e)) same ∙ sym text'), kind ∙ (ap is_undecided same ∙ sym kind'))

  path_exists : IsSurface s → HasSide s.polygons start → (w : PlaneVector) (words : List ℕ) → (text : List ℕ) × (partial : Bool) × AnswersPath s budget start w words text partial
  path_exists surface there w words = by_result (walk_exists s surface w budget start there).0 (walk_exists s surface w budget start there).1
    where
      by_result : (r : Result (PathEnd Corner) Site) → WalksTo s start w budget r → (text : List ℕ) × (partial : Bool) × AnswersPath s budget start w words text partial
      by_result (Err site) h = (_, _, overflowed site h refl refl)
      by_result (Ok end) h = (_, _, ended end h (walk_end s surface.surface start there w budget end h) refl refl)

  module _ (v : Point) where
    abbrev den : ℕ
    den = unsigned_abs s.den

    off_not_on : (w : PlaneVector) → GivesScaled s v (Ok None) → GivesScaled s v (Ok (Some w)) → ⊥
    off_not_on w h k = h k.0

    off_not_wide : (site : Site) → GivesScaled s v (Ok None) → GivesScaled s v (Err site) → ⊥
    off_not_wide site h k = h k.0

    on_not_wide : (w : PlaneVector) (site : Site) → GivesScaled s v (Ok (Some w)) → GivesScaled s v (Err site) → ⊥
    on_not_wide w site h k = ok_not_err w k.1.0 (sym h.1 ∙ k.1.1)

    same_scaled : (w u : PlaneVector) → GivesScaled s v (Ok (Some w)) → GivesScaled s v (Ok (Some u)) → w ≡ u
    same_scaled w u h k = ok_equal w u (sym h.1 ∙ k.1)

    same_site : (site site' : Site) → GivesScaled s v (Err site) → GivesScaled s v (Err site') → site ≡ site'
    same_site site site' h k = h.1.2 ∙ (ap (λ (stop : Place). sites.Grid stop.0) (err_equal h.1.0 k.1.0 (sym h.1.1 ∙ k.1.1)) ∙ sym k.1.2)

    -- `segment` has one answer at most
    pub segment_unique : (m n : List ℕ) (p q : Bool) → AnswersSegment s budget start v m p → AnswersSegment s budget start v n q → (m ≡ n) × (p ≡ q)
    segment_unique m n p q (off_grid h text kind) (off_grid k text' kind') = (text ∙ sym text', kind ∙ sym kind')
    segment_unique m n p q (off_grid h text kind) (wide site k text' kind') = absurd (off_not_wide site h k)
    segment_unique m n p q (off_grid h text kind) (followed w k path) = absurd (off_not_on w h k)
    segment_unique m n p q (wide site h text kind) (off_grid k text' kind') = absurd (off_not_wide site k h)
    segment_unique m n p q (wide site h text kind) (wide site' k text' kind') =
        (text ∙ (ap (λ (x : Site). overflow_line (segment_words start v) x) (same_site site site' h k) ∙ sym text'), kind ∙ sym kind')
    segment_unique m n p q (wide site h text kind) (followed w k path) = absurd (on_not_wide w site k h)
    segment_unique m n p q (followed w h path) (off_grid k text' kind') = absurd (off_not_on w k h)
    segment_unique m n p q (followed w h path) (wide site k text' kind') = absurd (on_not_wide w site h k)
    segment_unique m n p q (followed w h path) (followed u k path') =
        path_unique w (segment_words start v) m n p q path
        (subst (λ (x : PlaneVector). AnswersPath s budget start x (segment_words start v) n q) (sym (same_scaled w u h k)) path')

    -- it has an answer, where the surface has the corner
    pub segment_exists : IsSurface s → HasSide s.polygons start → (text : List ℕ) × (partial : Bool) × AnswersSegment s budget start v text partial
    segment_exists surface there = by_divisors (divides_or_not v.x.den) (divides_or_not v.y.den)
      where
        divides_or_not : (m : ℕ) → (m ∣ den) ⊎ ¬ (m ∣ den)
        divides_or_not m = elim (cases_eq (den % m) 0) [
          | inl e ↦ inl (dvd_of_mod-eq-zero m e)
          | inr n ↦ inr (λ h. n (mod-eq-zero_of_dvd m h))
        ]

        by_scaling : IsMultipleOf den v → (r : Result PlaneVector Place) → scale_to den v ≡ r → (text : List ℕ) × (partial : Bool) × AnswersSegment s budget start v text partial
        by_scaling h (Err stop) e = (_, _, wide (sites.Grid stop.0) (h, (stop, e, refl)) refl refl)
        by_scaling h (Ok w) e = (let path = path_exists surface there w (segment_words start v) in (path.0, path.1, followed w (h, e, scaled_value den v w e) path.2))

        by_divisors : (v.x.den ∣ den) ⊎ ¬ (v.x.den ∣ den) → (v.y.den ∣ den) ⊎ ¬ (v.y.den ∣ den) → (text : List ℕ) × (partial : Bool) × AnswersSegment s budget start v text partial
        by_divisors (inl x) (inl y) = by_scaling (x, y) (scale_to den v) refl
        by_divisors (inr x) other = (_, _, off_grid (λ h. x h.0) refl refl)
        by_divisors (inl x) (inr y) = (_, _, off_grid (λ h. y h.1) refl refl)

-- ---- what is answered

module _ (s : GluedPolygons) (budget : ℕ) (start : Corner) where
  -- a walk that ends
  pub answered_at_end : (w : PlaneVector) (words text : List ℕ) (partial : Bool) (walk : Walk) → ReturnsWalk (IsOnly (WalksTo s start w budget)) (Ok walk) → IsOnly (IsPathEnd s start w budget) (end_of walk)
      → text ≡ line_of (words ++ codes " " ++ end_words budget (end_of walk)) → partial ≡ is_undecided (end_of walk) → AnswersPath s budget start w words text partial
  answered_at_end w words text partial walk run end line kind = ended (end_of walk) run.is end.is line kind

  -- a walk that overflows
  pub answered_at_site : (w : PlaneVector) (words text : List ℕ) (partial : Bool) (site : Site) → ReturnsWalk (IsOnly (WalksTo s start w budget)) (Err (stops.Overflow site))
      → text ≡ overflow_line words site → partial ≡ true → AnswersPath s budget start w words text partial
  answered_at_site w words text partial site run line kind = overflowed site run.is line kind

  -- a vector on the grid
  pub answered_along : (v : Point) (words text : List ℕ) (partial : Bool) (w : PlaneVector) → GivesScaled s v (Ok (Some w)) → words ≡ segment_words start v → AnswersPath s budget start w words text partial
      → AnswersSegment s budget start v text partial
  answered_along v words text partial w scaled same path = followed w scaled (subst (λ (ws : List ℕ). AnswersPath s budget start w ws text partial) same path)

  -- a vector that overflows
  pub answered_wide : (v : Point) (words text : List ℕ) (partial : Bool) (site : Site) → GivesScaled s v (Err site) → words ≡ segment_words start v → text ≡ overflow_line words site → partial ≡ true
      → AnswersSegment s budget start v text partial
  answered_wide v words text partial site scaled same line kind = wide site scaled (line ∙ ap (λ (ws : List ℕ). overflow_line ws site) same) kind
