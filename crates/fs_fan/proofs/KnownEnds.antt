-- What is known of the ends of entries: tests by it answer as the formulas do, and entries that go on keep what is known.
use Rattle.std.proofs.Common.{◌≡◌, ℕ, ◌+◌, Bool, true, false, Option, Some, None, Result, Ok, Err, refl, ap, ◌∙◌}
use Rattle.std.specs.Prelude.{cond}
use Rattle.fs_quadratic.specs.Ring.{Quadratic, quadratic}
use Rattle.fs_quadratic.specs.Checked.{shifted, ◌>>=◌}
use Rattle.fs_quadratic.specs.declared.steps.Place.{Place}
use Rattle.fs_plane.specs.Vector.{PlaneVector}
use Rattle.fs_plane.specs.Formulas.{norm_after, comes_within_after, inner_comes_within_after, is_at_most}
use Rattle.fs_plane.proofs.FormulaLaws.{norm_after-shifted}
use Rattle.fs_gluing.specs.Triangulation.{Triangulation, face_sides}
use Rattle.fs_words.specs.Words.{right, left}
use Rattle.fs_words.specs.Sectors.{view_after}
use Rattle.fs_fan.specs.declared.visits.Entry.{Entry}
use Rattle.fs_fan.specs.declared.visits.Sight.{Sight}
use Rattle.fs_fan.specs.Visits.{is_left_of, tip_within, side_within}
use Rattle.fs_fan.specs.Entries.{view_at, told_within, known_within, is_known_near, entry_of, TellsEnds, TellsTip, right_entry, left_entry}

module _ (d : ℕ) (bound : Quadratic) where
  -- ---- what is known of an end

  -- the squared length is computed, wherever its places begin, and its test answers this
  abbrev IsTold : ℕ → PlaneVector → Bool → Type 0
  IsTold before v within = (length : Quadratic) × (norm_after before d v ≡ Ok length) × (is_at_most d length bound ≡ within)

  some_equal : {a b : Bool} → ◌≡◌ {A = Option Bool} (Some a) (Some b) → a ≡ b
  some_equal e = cc

  told : (before : ℕ) (v : PlaneVector) (within : Bool) → known_within d bound v ≡ Some within → IsTold before v within
  told before v within known = by (norm_after 0 d v) refl known
    where
      by : (r : Result Quadratic Place) → norm_after 0 d v ≡ r → told_within d bound r ≡ Some within → IsTold before v within
      by (Ok length) e k = (length, norm_after-shifted before d v ∙ ap (shifted before) e, some_equal k)
      by (Err stop) e k = cc

  -- ---- the tests of a visit

  -- a tip in the sector
  pub tip_known : (v : PlaneVector) (within : Bool) → known_within d bound v ≡ Some within → tip_within d bound v true ≡ Ok within
  unfolding tip_within
  tip_known v within known =
      let t = told 8 v within known in
      ap (λ (r : Result Quadratic Place). r >>= (λ x. Ok (is_at_most d x bound))) t.1 ∙ ap Ok t.2

  abbrev after_end : ℕ → PlaneVector → PlaneVector → Bool → Result Bool Place
  after_end before p q within = cond within (Ok true) (inner_comes_within_after (before + 6) d p q bound)

  abbrev after_start : ℕ → PlaneVector → PlaneVector → Bool → Result Bool Place
  after_start before p q within = cond within (Ok true) (norm_after (before + 3) d q >>= (λ end. after_end before p q (is_at_most d end bound)))

  -- the test of a segment begins with its ends
  comes_within_is : (before : ℕ) (p q : PlaneVector) → comes_within_after before d p q bound ≡ norm_after before d p >>= (λ start. after_start before p q (is_at_most d start bound))
  unfolding comes_within_after
  comes_within_is before p q = refl

  start_told : (before : ℕ) (p q : PlaneVector) (within : Bool) → known_within d bound p ≡ Some within → comes_within_after before d p q bound ≡ after_start before p q within
  start_told before p q within known =
      let t = told before p within known in
      comes_within_is before p q ∙ ap (λ (r : Result Quadratic Place). r >>= (λ start. after_start before p q (is_at_most d start bound))) t.1 ∙ ap (after_start before p q) t.2

  near_by : (before : ℕ) (p q : PlaneVector) (start end : Option Bool) → known_within d bound p ≡ start → known_within d bound q ≡ end → is_known_near start end ≡ true
      → comes_within_after before d p q bound ≡ Ok true
  near_by before p q (Some true) end at_start at_end near = start_told before p q true at_start
  near_by before p q (Some false) (Some true) at_start at_end near =
      let t = told (before + 3) q true at_end in
      start_told before p q false at_start ∙ ap (λ (r : Result Quadratic Place). r >>= (λ end. after_end before p q (is_at_most d end bound))) t.1 ∙ ap (after_end before p q) t.2
  near_by before p q (Some false) (Some false) at_start at_end near = cc
  near_by before p q (Some false) None at_start at_end near = cc
  near_by before p q None end at_start at_end near = cc

  -- a half-edge beyond, which the sector reaches
  pub side_known : (before : ℕ) (p q : PlaneVector) → is_known_near (known_within d bound p) (known_within d bound q) ≡ true → side_within before d bound p q true ≡ Ok true
  unfolding side_within
  side_known before p q near = near_by before p q (known_within d bound p) (known_within d bound q) refl refl near

  -- ---- entries that go on

  module _ (t : Triangulation) (e : Entry) (s : Sight) (ends : TellsEnds d bound e) (tip : TellsTip d t (view_at e) s.visit) (within : s.within ≡ known_within d bound s.visit.tip) where
    pub right_entry_is : right_entry t e s ≡ entry_of d bound (view_after (quadratic d) (is_left_of d) (face_sides t) (view_at e) right)
    right_entry_is = λ i. record {
      side = (right_entry t e s).side;
      right_within = ends.right i;
      left_within = (within ∙ ap (known_within d bound) tip.tip) i;
      right_end = e.right_end;
      left_end = tip.tip i;
      right_bound = e.right_bound;
      left_bound = cond (tip.past_left i) (tip.tip i) e.left_bound;
    }

    pub left_entry_is : left_entry t e s ≡ entry_of d bound (view_after (quadratic d) (is_left_of d) (face_sides t) (view_at e) left)
    left_entry_is = λ i. record {
      side = (left_entry t e s).side;
      right_within = (within ∙ ap (known_within d bound) tip.tip) i;
      left_within = ends.left i;
      right_end = tip.tip i;
      left_end = e.left_end;
      right_bound = cond (tip.past_right i) (tip.tip i) e.right_bound;
      left_bound = e.left_bound;
    }
