-- The bounds of a word are those of its sector: what is between them leads between the ends of all its crossed half-edges. A library for crates to come.
use Rattle.std.proofs.Common.{◌≡◌, ◌↔◌, ℕ, ◌≤◌, Bool, true, false, cond, List, [], ◌∷◌, ◌++◌, length, refl, sym, ap, ◌∙◌, subst, arith, true≢false}
use Rattle.fs_ring.specs.Operations.{Operations}
use Rattle.fs_ring.specs.OrderedRing.{IsOrderedRing, Sign, positive, null, negative}
use Rattle.fs_ring.specs.Vector.{Vector, add_vector, cross}
use Rattle.fs_ring.proofs.Signs as signs
use Rattle.fs_ring.proofs.Directions as directions
use Rattle.fs_paths.specs.SideGluing.{SideGluing, IsSide}
use Rattle.fs_triangles.specs.Triangles.{AreTriangles}
use Rattle.fs_words.specs.Words.{Letter, right, left, Crossing, first_crossing, tip_of, crossing_after, last_crossing, nth_crossing}
use Rattle.fs_words.specs.LiveWords.{IsBetween, Passes}
use Rattle.fs_words.specs.Sectors.{View, TellsLeft, first_view, view_after, last_view}
use Rattle.fs_words.proofs.Orientations.{IsNarrowed, IsWithin, Chooses}
use Rattle.fs_words.proofs.Orientations as orientations
use Rattle.fs_words.proofs.Crossings.{by_last_letter, IsSpanned, last_spanned, first_open, tip_beyond, last_crossing-snoc, last_view-snoc, last_view-crossing, nth_crossing-append, nth_crossing-length, of_crossings-nil, of_crossings-snoc, of_crossings-prefix, of_crossings-last, length-snoc}
use Rattle.fs_words.proofs.CrossingOrder.{beyond_clockwise}

-- ---- a test of what is to the left

module _ {A : Type 0} {R : Operations A} {IsPositive : A → Type 0} where
  abbrev is_positive : {x : A} → Sign R IsPositive x → Bool
  is_positive (positive p) = true
  is_positive (null e) = false
  is_positive (negative n) = false

module _ {A : Type 0} {R : Operations A} {IsPositive : A → Type 0} (L : IsOrderedRing R IsPositive) where
  tells_positive : {x : A} (s : Sign R IsPositive x) → (is_positive s ≡ true) ↔ IsPositive x
  tells_positive (positive p) = ((λ e. p), (λ k. refl))
  tells_positive (null e) = ((λ f. absurd (true≢false (sym f))), (λ p. absurd (signs.positive-ne-zero L p e)))
  tells_positive (negative n) = ((λ f. absurd (true≢false (sym f))), (λ p. absurd (signs.not_both_signs L p n)))

  -- one test that tells what is to the left: by the sign
  abbrev pub left_by_sign : Vector A → Vector A → Bool
  left_by_sign a b = is_positive (L.trichotomy (cross R a b))

  -- it is such a test
  pub tells_by_sign : TellsLeft R IsPositive left_by_sign
  tells_by_sign a b = tells_positive (L.trichotomy (cross R a b))

-- ---- the bounds are ends of crossed half-edges

module _ {A : Type 0} (R : Operations A) {X : Type 0} (G : SideGluing X A) where
  -- u is that end of some crossing of the word
  abbrev pub IsEndOf : (Crossing X A → Vector A) → X → List Letter → Vector A → Type 0
  IsEndOf end h letters u = (m : ℕ) × (m ≤ length letters) × (u ≡ end (nth_crossing R G h letters m))

  end_kept : (end : Crossing X A → Vector A) (h : X) (letters : List Letter) (letter : Letter) {u : Vector A} → IsEndOf end h letters u → IsEndOf end h (letters ++ letter ∷ []) u
  end_kept end h letters letter e =
      let l = e.1 in
      let n = length-snoc letters letter in
      (e.0, omega (arith, l, n), e.2 ∙ ap end (sym (nth_crossing-append R G h letters (letter ∷ []) e.0 e.1)))

  end_last : (end : Crossing X A → Vector A) (h : X) (letters : List Letter) → IsEndOf end h letters (end (last_crossing R G h letters))
  end_last end h letters = (length letters, omega arith, ap end (sym (nth_crossing-length R G h letters)))

  end_chosen : (end : Crossing X A → Vector A) (h : X) (letters : List Letter) {u v : Vector A} (b : Bool) → IsEndOf end h letters u → IsEndOf end h letters v → IsEndOf end h letters (cond b u v)
  end_chosen end h letters true e f = e
  end_chosen end h letters false e f = f

  module _ (is_left : Vector A → Vector A → Bool) where
    abbrev HasEnds : X → List Letter → View X A → Type 0
    HasEnds h letters s = IsEndOf (λ c. c.right_end) h letters s.right_bound × IsEndOf (λ c. c.left_end) h letters s.left_bound

    ends_after : (h : X) (letters : List Letter) (letter : Letter) (s : View X A) → s.crossing ≡ last_crossing R G h letters → HasEnds h letters s
        → HasEnds h (letters ++ letter ∷ []) (view_after R is_left G s letter)
    ends_after h letters right s e k = (
      end_kept (λ c. c.right_end) h letters right k.0,
      end_chosen (λ c. c.left_end) h (letters ++ right ∷ []) (is_left (tip_of R G s.crossing) s.left_bound)
          (subst (λ c. IsEndOf (λ c. c.left_end) h (letters ++ right ∷ []) c.left_end) (last_crossing-snoc R G h letters right ∙ ap (λ c. crossing_after R G c right) (sym e)) (end_last (λ c. c.left_end) h (letters ++ right ∷ [])))
          (end_kept (λ c. c.left_end) h letters right k.1),
    )
    ends_after h letters left s e k = (
      end_chosen (λ c. c.right_end) h (letters ++ left ∷ []) (is_left s.right_bound (tip_of R G s.crossing))
          (subst (λ c. IsEndOf (λ c. c.right_end) h (letters ++ left ∷ []) c.right_end) (last_crossing-snoc R G h letters left ∙ ap (λ c. crossing_after R G c left) (sym e)) (end_last (λ c. c.right_end) h (letters ++ left ∷ [])))
          (end_kept (λ c. c.right_end) h letters left k.0),
      end_kept (λ c. c.left_end) h letters left k.1,
    )

    -- the bounds of a word are a right end and a left end of its crossings
    pub bounds_are_ends : (h : X) (letters : List Letter) → IsEndOf (λ c. c.right_end) h letters (last_view R is_left G h letters).right_bound × IsEndOf (λ c. c.left_end) h letters (last_view R is_left G h letters).left_bound
    bounds_are_ends h letters =
        by_last_letter (λ w. HasEnds h w (last_view R is_left G h w))
        ((0, omega arith, refl), (0, omega arith, refl))
        (λ w letter k. subst (HasEnds h (w ++ letter ∷ [])) (sym (last_view-snoc R G is_left h w letter)) (ends_after h w letter (last_view R is_left G h w) (last_view-crossing R G is_left h w) k))
        letters

-- ---- the sector

module _ {A : Type 0} (R : Operations A) (IsPositive : A → Type 0) {X : Type 0} (G : SideGluing X A) where
  -- the bounds of s are those of the sector of all vectors that lead between the ends of each crossed half-edge of the word
  pub record IsSectorOf (h : X) (letters : List Letter) (s : View X A) : Type 0 where
    pub narrowed : IsNarrowed R IsPositive (cross R) s.crossing.right_end s.crossing.left_end s.right_bound s.left_bound
    pub passes : (v : Vector A) → IsWithin R IsPositive (cross R) s.right_bound s.left_bound v → Passes R IsPositive G h letters v
    pub within : (v : Vector A) → Passes R IsPositive G h letters v → IsWithin R IsPositive (cross R) s.right_bound s.left_bound v

module _ {A : Type 0} {R : Operations A} {IsPositive : A → Type 0} where
  -- a narrowed sector, seen clockwise
  narrowed_clockwise : {p q a c : Vector A} → IsNarrowed R IsPositive (cross R) p q a c → IsNarrowed R IsPositive (λ x y. cross R y x) q p c a
  narrowed_clockwise n = record { ends = n.ends; wide = n.wide; end_first = n.bound_first; bound_first = n.end_first; end_bound = n.bound_end; bound_end = n.end_bound }

  narrowed_counterclockwise : {p q a c : Vector A} → IsNarrowed R IsPositive (λ x y. cross R y x) q p c a → IsNarrowed R IsPositive (cross R) p q a c
  narrowed_counterclockwise n = record { ends = n.ends; wide = n.wide; end_first = n.bound_first; bound_first = n.end_first; end_bound = n.bound_end; bound_end = n.end_bound }

  within_clockwise : {a c v : Vector A} → IsWithin R IsPositive (cross R) a c v → IsWithin R IsPositive (λ x y. cross R y x) c a v
  within_clockwise w = record { after = w.before; before = w.after }

  within_counterclockwise : {a c v : Vector A} → IsWithin R IsPositive (λ x y. cross R y x) c a v → IsWithin R IsPositive (cross R) a c v
  within_counterclockwise w = record { after = w.before; before = w.after }

module _ {A : Type 0} {R : Operations A} {IsPositive : A → Type 0} (L : IsOrderedRing R IsPositive) {X : Type 0} {G : SideGluing X A} (T : AreTriangles R IsPositive G)
    {is_left : Vector A → Vector A → Bool} (tells : TellsLeft R IsPositive is_left) where
  abbrev Sector : X → List Letter → View X A → Type 0
  Sector h letters s = IsSectorOf R IsPositive G h letters s

  first_sector : (h : X) → IsSide G h → Sector h [] (first_view R is_left G h)
  first_sector h s =
      let o = first_open L T h s in
      let c = first_crossing R G h in
      let here = orientations.self_non_negative L (orientations.counterclockwise L) in
      record {
        narrowed = record { ends = o; wide = o; end_first = here c.right_end; bound_first = here c.left_end; end_bound = o; bound_end = o };
        passes = λ v w. of_crossings-nil R G (IsBetween R IsPositive v) h (record { right = w.after; left = w.before });
        within = λ v p. let b = of_crossings-last R G (IsBetween R IsPositive v) h [] p in record { after = b.right; before = b.left };
      }

  -- v leads between the ends of the crossing after the last one
  between_next : (h : X) (letters : List Letter) (letter : Letter) (s : View X A) → s.crossing ≡ last_crossing R G h letters → {v : Vector A} → Passes R IsPositive G h (letters ++ letter ∷ []) v
      → IsBetween R IsPositive v (crossing_after R G s.crossing letter)
  between_next h letters letter s e {v} p =
      subst (IsBetween R IsPositive v) (last_crossing-snoc R G h letters letter ∙ ap (λ c. crossing_after R G c letter) (sym e)) (of_crossings-last R G (IsBetween R IsPositive v) h (letters ++ letter ∷ []) p)

  between_last : (h : X) (letters : List Letter) (s : View X A) → s.crossing ≡ last_crossing R G h letters → {v : Vector A} → Passes R IsPositive G h letters v → IsBetween R IsPositive v s.crossing
  between_last h letters s e {v} p = subst (IsBetween R IsPositive v) (sym e) (of_crossings-last R G (IsBetween R IsPositive v) h letters p)

  passes_next : (h : X) (letters : List Letter) (letter : Letter) (s : View X A) → s.crossing ≡ last_crossing R G h letters → {v : Vector A} → Passes R IsPositive G h letters v
      → IsBetween R IsPositive v (crossing_after R G s.crossing letter) → Passes R IsPositive G h (letters ++ letter ∷ []) v
  passes_next h letters letter s e {v} p b =
      of_crossings-snoc R G (IsBetween R IsPositive v) h letters letter p (subst (λ c. IsBetween R IsPositive v (crossing_after R G c letter)) e b)

  sector_right : (h : X) (letters : List Letter) (s : View X A) → s.crossing ≡ last_crossing R G h letters → IsSpanned R G s.crossing → Sector h letters s
      → {v : Vector A} → Passes R IsPositive G h (letters ++ right ∷ []) v → Sector h (letters ++ right ∷ []) (view_after R is_left G s right)
  sector_right h letters s e k n {v} p =
      let ccw = orientations.counterclockwise L in
      let c = s.crossing in
      let d = tip_of R G c in
      let prior = of_crossings-prefix R G (IsBetween R IsPositive v) h letters (right ∷ []) p in
      let b = between_last h letters s e prior in
      let more = between_next h letters right s e p in
      let chosen = orientations.choice L ccw d s.left_bound (is_left d s.left_bound) (tells d s.left_bound) in
      let m = orientations.narrows L ccw n.narrowed (tip_beyond L T c k) b.right b.left more.left (n.within v prior) chosen in
      record {
        narrowed = m;
        passes = λ w i.
            let q = n.passes w (orientations.within_before L ccw n.narrowed m chosen i) in
            let at = between_last h letters s e q in
            passes_next h letters right s e q (record { right = at.right; left = orientations.right_of_new L ccw n.narrowed m.ends chosen i at.right });
        within = λ w q. orientations.within_after L ccw chosen (n.within w (of_crossings-prefix R G (IsBetween R IsPositive w) h letters (right ∷ []) q)) (between_next h letters right s e q).left;
      }

  sector_left : (h : X) (letters : List Letter) (s : View X A) → s.crossing ≡ last_crossing R G h letters → IsSpanned R G s.crossing → Sector h letters s
      → {v : Vector A} → Passes R IsPositive G h (letters ++ left ∷ []) v → Sector h (letters ++ left ∷ []) (view_after R is_left G s left)
  sector_left h letters s e k n {v} p =
      let cw = orientations.clockwise L in
      let c = s.crossing in
      let d = tip_of R G c in
      let before = narrowed_clockwise n.narrowed in
      let prior = of_crossings-prefix R G (IsBetween R IsPositive v) h letters (left ∷ []) p in
      let b = between_last h letters s e prior in
      let more = between_next h letters left s e p in
      let chosen = orientations.choice L cw d s.right_bound (is_left s.right_bound d) (tells s.right_bound d) in
      let m =
      orientations.narrows L cw before (beyond_clockwise L c.right_end c.left_end d (tip_beyond L T c k)) b.left b.right more.right (within_clockwise (n.within v prior)) chosen in
      record {
        narrowed = narrowed_counterclockwise m;
        passes = λ w i.
            let j = within_clockwise i in
            let q = n.passes w (within_counterclockwise (orientations.within_before L cw before m chosen j)) in
            let at = between_last h letters s e q in
            passes_next h letters left s e q (record { right = orientations.right_of_new L cw before m.ends chosen j at.left; left = at.left });
        within = λ w q.
            within_counterclockwise
            (orientations.within_after L cw chosen (within_clockwise (n.within w (of_crossings-prefix R G (IsBetween R IsPositive w) h letters (left ∷ []) q))) (between_next h letters left s e q).right);
      }

  -- where some vector leads between the ends of all crossed half-edges, the bounds of the word are those of its sector
  pub sector_of : (h : X) → IsSide G h → (letters : List Letter) {v : Vector A} → Passes R IsPositive G h letters v → IsSectorOf R IsPositive G h letters (last_view R is_left G h letters)
  sector_of h s letters {v} p = by_last_letter (λ w. (u : Vector A) → Passes R IsPositive G h w u → Sector h w (last_view R is_left G h w)) (λ u q. first_sector h s) more letters v p
    where
      more : (w : List Letter) (letter : Letter) → ((u : Vector A) → Passes R IsPositive G h w u → Sector h w (last_view R is_left G h w))
          → (u : Vector A) → Passes R IsPositive G h (w ++ letter ∷ []) u → Sector h (w ++ letter ∷ []) (last_view R is_left G h (w ++ letter ∷ []))
      more w letter known u q =
          let at = last_view R is_left G h w in
          let e = last_view-crossing R G is_left h w in
          let k = subst (IsSpanned R G) (sym e) (last_spanned L T h s w) in
          let prior = known u (of_crossings-prefix R G (IsBetween R IsPositive u) h w (letter ∷ []) q) in
          subst (Sector h (w ++ letter ∷ [])) (sym (last_view-snoc R G is_left h w letter)) (step letter at e k prior q)
        where
          step : (l : Letter) (at : View X A) → at.crossing ≡ last_crossing R G h w → IsSpanned R G at.crossing → Sector h w at → Passes R IsPositive G h (w ++ l ∷ []) u
              → Sector h (w ++ l ∷ []) (view_after R is_left G at l)
          step right at e k n q = sector_right h w at e k n q
          step left at e k n q = sector_left h w at e k n q

  -- and their sum is such a vector
  pub sum_passes : (h : X) → IsSide G h → (letters : List Letter) {v : Vector A} → Passes R IsPositive G h letters v
      → Passes R IsPositive G h letters (add_vector R (last_view R is_left G h letters).right_bound (last_view R is_left G h letters).left_bound)
  sum_passes h s letters p =
      let n = sector_of h s letters p in
      let a = (last_view R is_left G h letters).right_bound in
      let c = (last_view R is_left G h letters).left_bound in
      n.passes (add_vector R a c) (record { after = directions.cross-add_self_right L a c n.narrowed.wide; before = directions.cross-add_self_left L a c n.narrowed.wide })
