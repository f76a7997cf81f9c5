-- What is computed at a half-edge and at a live word says which rays are within the bound, and which words are live.
use Rattle.std.proofs.Common.{◌≡◌, ◌↔◌, ℕ, ◌<◌, Bool, true, false, ◌&&◌, Result, Ok, Some, None, [], length, refl, sym, ap, ◌∙◌, subst}
use Rattle.std.specs.Ordering.{is_gt, is_le}
use Rattle.std.specs.declared.cmp.Ordering.{Ordering}
use Rattle.std.specs.declared.cmp.Ordering.TheVariants.{Less, Equal, Greater}
use Rattle.fs_ring.specs.OrderedRing.{IsAtMost}
use Rattle.fs_ring.specs.Discs.{ComesWithin}
use Rattle.fs_quadratic.specs.Radicand.{IsRadicand}
use Rattle.fs_quadratic.specs.Ring.{Quadratic, quadratic, IsPositive, sign, sub}
use Rattle.fs_quadratic.specs.Checked.{◌>>=◌}
use Rattle.fs_quadratic.specs.declared.steps.Place.{Place}
use Rattle.fs_quadratic.proofs.Laws.{field_order}
use Rattle.fs_quadratic.proofs.SquareRoot.{radicand_no_square}
use Rattle.fs_quadratic.proofs.Signs.{sign-positive, positive_of_sign, compare-is}
use Rattle.fs_plane.specs.Vector.{PlaneVector, cross, norm, vector_neg}
use Rattle.fs_plane.specs.Formulas.{cross_after, norm_after, vector_sum_after, comes_within_after, is_at_most}
use Rattle.fs_plane.proofs.ComputedSigns.{after_value}
use Rattle.fs_plane.proofs.FormulaLaws.{cross_value, norm_value, sum_value}
use Rattle.fs_plane.proofs.Segments as segments
use Rattle.fs_lists.proofs.Results.{ok_equal}
use Rattle.fs_paths.specs.SideGluing.{IsSide}
use Rattle.fs_triangles.specs.Triangles.{AreTriangles}
use Rattle.fs_gluing.specs.Triangulation.{Triangulation, face_sides, edge_vector, edge_twin, next_in_face, prev_in_face}
use Rattle.fs_mesh.proofs.HalfEdgeNumbers.{side_of_number}
use Rattle.fs_words.specs.Words.{right, left, tip, tip_of}
use Rattle.fs_words.specs.Sectors.{View, TellsLeft}
use Rattle.fs_words.proofs.Crossings as crossings
use Rattle.fs_words.proofs.LiveWords as live_words
use Rattle.fs_fan.specs.declared.visits.Opening.{Opening}
use Rattle.fs_fan.specs.declared.visits.Visit.{Visit}
use Rattle.fs_fan.specs.Visits.{is_left_of, view_of, opening, tip_within, side_within, visit}
use Rattle.fs_fan.specs.Search.{Word, IsLiveWord, IsSighting, IsShort}
use Rattle.fs_fan.specs.Entries.{TellsTip}
use Rattle.fs_fan.proofs.Extensions.{with_letter}

-- ---- tests

greater_of : (o : Ordering) → is_gt o ≡ true → o ≡ Greater
greater_of Less h = cc
greater_of Equal h = cc
greater_of Greater h = refl

greater_of_not_le : (o : Ordering) → is_le o ≡ false → o ≡ Greater
greater_of_not_le Less h = cc
greater_of_not_le Equal h = cc
greater_of_not_le Greater h = refl

and_true : (a b : Bool) → (a && b) ≡ true → (a ≡ true) × (b ≡ true)
and_true true true h = (refl, refl)
and_true true false h = cc
and_true false b h = cc

true_and : (a b : Bool) → a ≡ true → b ≡ true → (a && b) ≡ true
true_and a b e f = ap (λ x. x && b) e ∙ f

module _ {d : ℕ} (radicand : IsRadicand d) where
  above : (x : Quadratic) → (is_gt (sign d x) ≡ true) ↔ IsPositive d x
  above x = ((λ h. positive_of_sign (radicand_no_square radicand) x (greater_of (sign d x) h)), (λ p. ap is_gt (sign-positive d x p)))

  -- the test tells what is to the left
  pub tells_left : TellsLeft (quadratic d) (IsPositive d) (is_left_of d)
  tells_left a b = above (cross d a b)

  at_most_by : (x y : Quadratic) (test : Bool) → is_at_most d x y ≡ test → (test ≡ true) ↔ IsAtMost (quadratic d) (IsPositive d) x y
  at_most_by x y true t = ((λ h p. let f = sym t ∙ ap is_le (compare-is d x y) ∙ ap is_le (sign-positive d (sub x y) p) in cc), (λ h. refl))
  at_most_by x y false t =
      ((λ h. cc), (λ h. absurd (h (positive_of_sign (radicand_no_square radicand) (sub x y) (greater_of_not_le (sign d (sub x y)) (ap is_le (sym (compare-is d x y)) ∙ t))))))

  at_most : (x y : Quadratic) → (is_at_most d x y ≡ true) ↔ IsAtMost (quadratic d) (IsPositive d) x y
  at_most x y = at_most_by x y (is_at_most d x y) refl

  -- ---- the two tests of a visit

  module _ (bound : Quadratic) where
    tip_within_tells : (v : PlaneVector) (in_sector found : Bool) → tip_within d bound v in_sector ≡ Ok found → (found ≡ true) ↔ ((in_sector ≡ true) × IsShort d bound v)
    unfolding tip_within
    tip_within_tells v true found known =
        let length = after_value (norm_after 8 d v) (λ x. Ok (is_at_most d x bound)) found known in
        let is : is_at_most d (norm d v) bound ≡ found = ap (λ x. is_at_most d x bound) (sym (norm_value 8 d v length.0 length.1)) ∙ ok_equal (is_at_most d length.0 bound) found length.2 in (
          (λ h. (refl, (at_most (norm d v) bound).0 (is ∙ h))),
          (λ h. sym is ∙ (at_most (norm d v) bound).1 h.1),
        )
    tip_within_tells v false found known = let is = ok_equal false found known in ((λ h. absurd (let f = is ∙ h in cc)), (λ h. absurd (let f = h.0 in cc)))

    side_within_tells : (before : ℕ) (p q : PlaneVector) (reached within : Bool) → side_within before d bound p q reached ≡ Ok within
        → (within ≡ true) ↔ ((reached ≡ true) × ComesWithin (quadratic d) (IsPositive d) p q bound)
    unfolding side_within
    side_within_tells before p q true within known =
        let tells = segments.comes_within_meaning radicand p q bound before within known in ((λ h. (refl, tells.0 h)), (λ h. tells.1 h.1))
    side_within_tells before p q false within known = let is = ok_equal false within known in ((λ h. absurd (let f = is ∙ h in cc)), (λ h. absurd (let f = h.0 in cc)))

  module _ (t : Triangulation) (triangles : AreTriangles (quadratic d) (IsPositive d) (face_sides t)) (bound : Quadratic) where
    -- ---- an opening

    module _ (h : ℕ) (there : h < length t.vectors) (o : Opening) where
      abbrev ray : PlaneVector
      ray = edge_vector t h

      abbrev other : PlaneVector
      other = vector_neg (edge_vector t (prev_in_face h))

      abbrev from_near : Quadratic → Bool → Result Opening Place
      from_near length near = Ok (record { found = is_at_most d length bound; live = near })

      abbrev from_length : Quadratic → Result Opening Place
      from_length length = comes_within_after 3 d ray other bound >>= from_near length

      -- it says whether the half-edge is a ray within the bound, and whether the first word is live
      pub opening_tells : opening d t bound h ≡ Ok o
          → ((o.found ≡ true) ↔ IsSighting d t bound (record { half_edge = h; letters = None })) × ((o.live ≡ true) ↔ IsLiveWord d t bound (record { half_edge = h; letters = [] }))
      unfolding opening
      opening_tells known =
          let length = after_value (norm_after 0 d ray) from_length o known in
          let near = after_value (comes_within_after 3 d ray other bound) (from_near length.0) o length.2 in
          let is = ok_equal (record { found = is_at_most d length.0 bound; live = near.0 }) o near.2 in
          let is_found = ap (λ x. is_at_most d x bound) (sym (norm_value 0 d ray length.0 length.1)) ∙ ap (λ (x : Opening). x.found) is in
          let is_live : near.0 ≡ o.live = ap (λ (x : Opening). x.live) is in
          let within = segments.comes_within_meaning radicand ray other bound 3 near.0 near.1 in
          let live = live_words.opening (field_order radicand) triangles bound h (side_of_number t h there) in
          let short = at_most (norm d ray) bound in (
            ((λ f. record { there = there; seen = tt; short = short.0 (is_found ∙ f) }), (λ s. sym is_found ∙ short.1 s.short)),
            ((λ l. record { there = there; live = live.0 (within.0 (is_live ∙ l)) }), (λ l. sym is_live ∙ within.1 (live.1 l.live))),
          )

    -- ---- a visit

    module _ (s : View ℕ Quadratic) where
      abbrev next_tip : PlaneVector
      next_tip = tip_of (quadratic d) (face_sides t) s.crossing

      -- what a visit says, test by test
      pub record Tests (v : Visit) : Type 0 where
        pub tip : TellsTip d t s v
        pub found : tip_within d bound v.tip (v.past_right && v.past_left) ≡ Ok v.found
        pub right : side_within 11 d bound s.crossing.right_end v.tip v.past_right ≡ Ok v.right
        pub left : side_within 33 d bound v.tip s.crossing.left_end v.past_left ≡ Ok v.left

      abbrev given : PlaneVector → Quadratic → Quadratic → (found goes_right goes_left : Bool) → Visit
      given tip right_turn left_turn found goes_right goes_left = record {
        tip = tip;
        past_right = is_gt (sign d right_turn);
        past_left = is_gt (sign d left_turn);
        found = found;
        right = goes_right;
        left = goes_left;
      }

      abbrev from_right : PlaneVector → Quadratic → Quadratic → Bool → Bool → Result Visit Place
      from_right tip right_turn left_turn found goes_right =
          side_within 33 d bound tip s.crossing.left_end (is_gt (sign d left_turn)) >>= (λ goes_left. Ok (given tip right_turn left_turn found goes_right goes_left))

      abbrev from_found : PlaneVector → Quadratic → Quadratic → Bool → Result Visit Place
      from_found tip right_turn left_turn found = side_within 11 d bound s.crossing.right_end tip (is_gt (sign d right_turn)) >>= from_right tip right_turn left_turn found

      abbrev from_turns : PlaneVector → Quadratic → Quadratic → Result Visit Place
      from_turns tip right_turn left_turn = tip_within d bound tip (is_gt (sign d right_turn) && is_gt (sign d left_turn)) >>= from_found tip right_turn left_turn

      abbrev from_turn : PlaneVector → Quadratic → Result Visit Place
      from_turn tip right_turn = cross_after 5 d tip s.left_bound >>= from_turns tip right_turn

      abbrev from_tip : PlaneVector → Result Visit Place
      from_tip tip = cross_after 2 d s.right_bound tip >>= from_turn tip

      abbrev beyond : PlaneVector
      beyond = edge_vector t (next_in_face (edge_twin t s.crossing.side))

      -- a visit that fits says all of it
      pub visit_tests : (v : Visit) → visit d t bound s ≡ Ok v → Tests v
      unfolding visit
      visit_tests v known =
          let tip = after_value (vector_sum_after 0 s.crossing.right_end beyond) from_tip v known in
          let r = after_value (cross_after 2 d s.right_bound tip.0) (from_turn tip.0) v tip.2 in
          let l = after_value (cross_after 5 d tip.0 s.left_bound) (from_turns tip.0 r.0) v r.2 in
          let f = after_value (tip_within d bound tip.0 (is_gt (sign d r.0) && is_gt (sign d l.0))) (from_found tip.0 r.0 l.0) v l.2 in
          let goes_right = after_value (side_within 11 d bound s.crossing.right_end tip.0 (is_gt (sign d r.0))) (from_right tip.0 r.0 l.0 f.0) v f.2 in
          let goes_left = after_value (side_within 33 d bound tip.0 s.crossing.left_end (is_gt (sign d l.0))) (λ x. Ok (given tip.0 r.0 l.0 f.0 goes_right.0 x)) v goes_right.2 in
          let is_tip : tip.0 ≡ next_tip = sum_value 0 s.crossing.right_end beyond tip.0 tip.1 in
          subst Tests {x = given tip.0 r.0 l.0 f.0 goes_right.0 goes_left.0} (ok_equal (given tip.0 r.0 l.0 f.0 goes_right.0 goes_left.0) v goes_left.2)
          (record {
            tip = record {
              tip = is_tip;
              past_right = ap (λ x. is_gt (sign d x)) (cross_value 2 d s.right_bound tip.0 r.0 r.1 ∙ ap (cross d s.right_bound) is_tip);
              past_left = ap (λ x. is_gt (sign d x)) (cross_value 5 d tip.0 s.left_bound l.0 l.1 ∙ ap (λ x. cross d x s.left_bound) is_tip);
            };
            found = f.1;
            right = goes_right.1;
            left = goes_left.1;
          })

    module _ (w : Word) (live : IsLiveWord d t bound w) (v : Visit) (known : visit d t bound (view_of d t w.half_edge w.letters) ≡ Ok v) where
      abbrev view : View ℕ Quadratic
      view = view_of d t w.half_edge w.letters

      abbrev here : PlaneVector
      here = next_tip view

      abbrev tests : Tests view v
      tests = visit_tests view v known

      side : IsSide (face_sides t) w.half_edge
      side = side_of_number t w.half_edge live.there

      abbrev IsPast : (PlaneVector → PlaneVector → Type 0)
      IsPast a b = IsPositive d (cross d a b)

      past_right : (v.past_right ≡ true) ↔ IsPast view.right_bound here
      past_right = let tells = above (cross d view.right_bound here) in ((λ h. tells.0 (sym tests.tip.past_right ∙ h)), (λ p. tests.tip.past_right ∙ tells.1 p))

      past_left : (v.past_left ≡ true) ↔ IsPast here view.left_bound
      past_left = let tells = above (cross d here view.left_bound) in ((λ h. tells.0 (sym tests.tip.past_left ∙ h)), (λ p. tests.tip.past_left ∙ tells.1 p))

      pub is_tip : here ≡ tip (quadratic d) (face_sides t) w.half_edge w.letters
      is_tip = ap (tip_of (quadratic d) (face_sides t)) (crossings.last_view-crossing (quadratic d) (face_sides t) (is_left_of d) w.half_edge w.letters)

      -- whether the tip is a ray within the bound
      pub visit_found : (v.found ≡ true) ↔ IsSighting d t bound (record { half_edge = w.half_edge; letters = Some w.letters })
      visit_found =
          let tells = tip_within_tells bound v.tip (v.past_right && v.past_left) v.found tests.found in
          let passes = live_words.passes_tip (field_order radicand) triangles tells_left bound w.half_edge side w.letters live.live in
          let same = tests.tip.tip ∙ is_tip in (
            (λ h.
                let both = and_true v.past_right v.past_left (tells.0 h).0 in
                record { there = live.there; seen = passes.1 (past_right.0 both.0, past_left.0 both.1); short = subst (IsShort d bound) same (tells.0 h).1 }),
            (λ s.
                let both = passes.0 s.seen in
                tells.1 (true_and v.past_right v.past_left (past_right.1 both.0) (past_left.1 both.1), subst (IsShort d bound) (sym same) s.short)),
          )

      -- whether the word with right more is live
      pub visit_right : (v.right ≡ true) ↔ IsLiveWord d t bound (with_letter w right)
      visit_right =
          let tells = side_within_tells bound 11 view.crossing.right_end v.tip v.past_right v.right tests.right in
          let extends = live_words.extension_right (field_order radicand) triangles tells_left bound w.half_edge side w.letters live.live in
          let at = tests.tip.tip in (
            (λ h.
                let both = tells.0 h in
                record { there = live.there; live = extends.1 (past_right.0 both.0, subst (λ x. ComesWithin (quadratic d) (IsPositive d) view.crossing.right_end x bound) at both.1) }),
            (λ l.
                let both = extends.0 l.live in
                tells.1 (past_right.1 both.0, subst (λ x. ComesWithin (quadratic d) (IsPositive d) view.crossing.right_end x bound) (sym at) both.1)),
          )

      -- whether the word with left more is live
      pub visit_left : (v.left ≡ true) ↔ IsLiveWord d t bound (with_letter w left)
      visit_left =
          let tells = side_within_tells bound 33 v.tip view.crossing.left_end v.past_left v.left tests.left in
          let extends = live_words.extension_left (field_order radicand) triangles tells_left bound w.half_edge side w.letters live.live in
          let at = tests.tip.tip in (
            (λ h.
                let both = tells.0 h in
                record { there = live.there; live = extends.1 (past_left.0 both.0, subst (λ x. ComesWithin (quadratic d) (IsPositive d) x view.crossing.left_end bound) at both.1) }),
            (λ l.
                let both = extends.0 l.live in
                tells.1 (past_left.1 both.0, subst (λ x. ComesWithin (quadratic d) (IsPositive d) x view.crossing.left_end bound) (sym at) both.1)),
          )
