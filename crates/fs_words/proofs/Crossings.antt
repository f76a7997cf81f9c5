-- The crossings of a word as it goes on by one letter, and where their ends and tips are in triangles. A library for crates to come.
use Rattle.std.proofs.Common.{◌≡◌, ◌⊎◌, ℕ, zero, suc, ◌≤◌, Bool, List, [], ◌∷◌, ◌++◌, take, length, refl, sym, ap, ◌∙◌, subst, inl, inr, arith, add-one, append-nil, append_assoc, length-append}
use Rattle.std.proofs.lemmas.List.{take_all, take-append-le}
use Rattle.fs_ring.specs.Operations.{Operations}
use Rattle.fs_ring.specs.CommutativeRing.{IsCommutativeRing}
use Rattle.fs_ring.specs.OrderedRing.{IsOrderedRing}
use Rattle.fs_ring.specs.Vector.{Vector, zero_vector, add_vector, neg_vector, cross}
use Rattle.fs_ring.proofs.Plane as plane
use Rattle.fs_ring.proofs.Directions as directions
use Rattle.fs_ring.proofs.Solver.{expressions as E, numeral, ◌⊕◌, ◌≐◌, ◌from◌}
use Rattle.fs_ring.proofs.PlaneSolver.{plane_derived, vector_eq}
use Rattle.fs_paths.specs.SideGluing.{SideGluing, IsSide}
use Rattle.fs_triangles.specs.Triangles.{AreTriangles}
use Rattle.fs_triangles.proofs.TriangleSides as sides
use Rattle.fs_words.specs.Words.{Letter, right, left, Crossing, first_crossing, tip_of, crossing_after, crossing_from, last_crossing, nth_crossing}
use Rattle.fs_words.specs.LiveWords.{IsBetween}
use Rattle.fs_words.proofs.Orientations.{beyond}
use Rattle.fs_words.specs.Sectors.{View, first_view, view_after, view_from, last_view}

-- what holds of the empty word, and with a word of those that go on from it by one letter, holds of all
pub by_last_letter : (P : List Letter → Type 0) → P [] → ((letters : List Letter) (letter : Letter) → P letters → P (letters ++ letter ∷ [])) → (letters : List Letter) → P letters
by_last_letter P empty more letters = go [] letters empty
  where
    go : (done rest : List Letter) → P done → P (done ++ rest)
    go done [] p = subst P (sym (append-nil done)) p
    go done (letter ∷ rest) p = subst P (append_assoc done (letter ∷ []) rest) (go (done ++ letter ∷ []) rest (more done letter p))

-- a word that goes on by a letter has one letter more
pub length-snoc : (letters : List Letter) (letter : Letter) → length (letters ++ letter ∷ []) ≡ suc (length letters)
length-snoc letters letter = length-append letters (letter ∷ []) ∙ add-one (length letters)

-- a number of a crossing of the word that goes on by a letter is one of the word's, or the last
number_cases : (letters : List Letter) (letter : Letter) (m : ℕ) → m ≤ length (letters ++ letter ∷ []) → (m ≤ length letters) ⊎ (m ≡ suc (length letters))
number_cases letters letter m l =
    let e = length-snoc letters letter in
    let cases : (n : ℕ) → n ≤ suc (length letters) → (n ≤ length letters) ⊎ (n ≡ suc (length letters)) = λ n k. grind (arith, k) in
    cases m (subst (λ n. m ≤ n) e l)

module _ {A : Type 0} (R : Operations A) {X : Type 0} (G : SideGluing X A) where
  -- ---- words that go on by a letter

  crossing_from-append : (c : Crossing X A) (letters more : List Letter) → crossing_from R G c (letters ++ more) ≡ crossing_from R G (crossing_from R G c letters) more
  crossing_from-append c [] more = refl
  crossing_from-append c (letter ∷ letters) more = crossing_from-append (crossing_after R G c letter) letters more

  -- the last crossing is the one after that of the word without its last letter
  pub last_crossing-snoc : (h : X) (letters : List Letter) (letter : Letter) → last_crossing R G h (letters ++ letter ∷ []) ≡ crossing_after R G (last_crossing R G h letters) letter
  last_crossing-snoc h letters letter = crossing_from-append (first_crossing R G h) letters (letter ∷ [])

  -- the crossings of a prefix
  pub nth_crossing-append : (h : X) (letters more : List Letter) (m : ℕ) → m ≤ length letters → nth_crossing R G h (letters ++ more) m ≡ nth_crossing R G h letters m
  nth_crossing-append h letters more m l = ap (last_crossing R G h) (take-append-le m letters more l)

  -- the last one
  pub nth_crossing-length : (h : X) (letters : List Letter) → nth_crossing R G h letters (length letters) ≡ last_crossing R G h letters
  nth_crossing-length h letters = ap (last_crossing R G h) (take_all (length letters) letters (omega arith))

  -- the empty word has the first crossing alone
  pub of_crossings-nil : (P : Crossing X A → Type 0) (h : X) → P (first_crossing R G h) → (m : ℕ) → m ≤ 0 → P (nth_crossing R G h [] m)
  of_crossings-nil P h p zero l = p
  of_crossings-nil P h p (suc m) l = absurd (omega (arith, l))

  -- what holds of the crossings of a word and of one more
  pub of_crossings-snoc : (P : Crossing X A → Type 0) (h : X) (letters : List Letter) (letter : Letter)
      → ((m : ℕ) → m ≤ length letters → P (nth_crossing R G h letters m)) → P (crossing_after R G (last_crossing R G h letters) letter)
      → (m : ℕ) → m ≤ length (letters ++ letter ∷ []) → P (nth_crossing R G h (letters ++ letter ∷ []) m)
  of_crossings-snoc P h letters letter all last m l = elim (number_cases letters letter m l) [
    | inl k ↦ subst P (sym (nth_crossing-append h letters (letter ∷ []) m k)) (all m k)
    | inr e ↦
        let whole = letters ++ letter ∷ [] in
        let same : m ≡ length whole = e ∙ sym (length-snoc letters letter) in
        subst P (sym (last_crossing-snoc h letters letter) ∙ sym (nth_crossing-length h whole) ∙ sym (ap (λ (i : ℕ). nth_crossing R G h whole i) same)) last
  ]

  -- what holds of the crossings of a word holds of those of a prefix
  pub of_crossings-prefix : (P : Crossing X A → Type 0) (h : X) (letters more : List Letter)
      → ((m : ℕ) → m ≤ length (letters ++ more) → P (nth_crossing R G h (letters ++ more) m)) → (m : ℕ) → m ≤ length letters → P (nth_crossing R G h letters m)
  of_crossings-prefix P h letters more all m l =
      let e = length-append letters more in
      subst P (nth_crossing-append h letters more m l) (all m (omega (arith, l, e)))

  -- and of the last one
  pub of_crossings-last : (P : Crossing X A → Type 0) (h : X) (letters : List Letter) → ((m : ℕ) → m ≤ length letters → P (nth_crossing R G h letters m)) → P (last_crossing R G h letters)
  of_crossings-last P h letters all = subst P (nth_crossing-length h letters) (all (length letters) (omega arith))

  module _ (is_left : Vector A → Vector A → Bool) where
    view_from-append : (s : View X A) (letters more : List Letter) → view_from R is_left G s (letters ++ more) ≡ view_from R is_left G (view_from R is_left G s letters) more
    view_from-append s [] more = refl
    view_from-append s (letter ∷ letters) more = view_from-append (view_after R is_left G s letter) letters more

    -- so is the last view
    pub last_view-snoc : (h : X) (letters : List Letter) (letter : Letter) → last_view R is_left G h (letters ++ letter ∷ []) ≡ view_after R is_left G (last_view R is_left G h letters) letter
    last_view-snoc h letters letter = view_from-append (first_view R is_left G h) letters (letter ∷ [])

    view_after-crossing : (s : View X A) (letter : Letter) → (view_after R is_left G s letter).crossing ≡ crossing_after R G s.crossing letter
    view_after-crossing s right = refl
    view_after-crossing s left = refl

    view_from-crossing : (s : View X A) (letters : List Letter) → (view_from R is_left G s letters).crossing ≡ crossing_from R G s.crossing letters
    view_from-crossing s [] = refl
    view_from-crossing s (letter ∷ letters) =
        view_from-crossing (view_after R is_left G s letter) letters ∙ ap (λ c. crossing_from R G c letters) (view_after-crossing s letter)

    -- the crossing of the last view is the last crossing
    pub last_view-crossing : (h : X) (letters : List Letter) → (last_view R is_left G h letters).crossing ≡ last_crossing R G h letters
    last_view-crossing h letters = view_from-crossing (first_view R is_left G h) letters

module _ {A : Type 0} (R : Operations A) (IsPositive : A → Type 0) {X : Type 0} (G : SideGluing X A) where
  -- v leads strictly between the ends of each half-edge that a word crosses from c on
  abbrev pub PassesFrom : Crossing X A → List Letter → Vector A → Type 0
  PassesFrom c letters v = (m : ℕ) → m ≤ length letters → IsBetween R IsPositive v (crossing_from R G c (take m letters))

-- ---- in triangles

module _ {A : Type 0} (R : Operations A) {X : Type 0} (G : SideGluing X A) where
  -- the crossed half-edge is one, and its vector leads from its right end to its left end
  pub record IsSpanned (c : Crossing X A) : Type 0 where
    pub side : IsSide G c.side
    pub spans : c.left_end ≡ add_vector R c.right_end (G.vector c.side)

module _ {A : Type 0} {R : Operations A} (L : IsCommutativeRing R) where
  -- in a triangle that closes the opposite of the third side is the sum of the others
  opposite_of_closed : {u v w : Vector A} → add_vector R (add_vector R u v) w ≡ zero_vector R → neg_vector R w ≡ add_vector R u v
  opposite_of_closed {u} {v} {w} closed =
      vector_eq
      (plane_derived L [] (u ∷ v ∷ w ∷ []) (λ u v w. E.neg w.x ≐ u.x ⊕ v.x from (E.neg (numeral 1), (add_vector E (add_vector E u v) w).x ≐ numeral 0) ∷ []) refl (ap (λ p. p.x) closed, tt))
      (plane_derived L [] (u ∷ v ∷ w ∷ []) (λ u v w. E.neg w.y ≐ u.y ⊕ v.y from (E.neg (numeral 1), (add_vector E (add_vector E u v) w).y ≐ numeral 0) ∷ []) refl (ap (λ p. p.y) closed, tt))

module _ {A : Type 0} {R : Operations A} {IsPositive : A → Type 0} (L : IsOrderedRing R IsPositive) {X : Type 0} {G : SideGluing X A} (T : AreTriangles R IsPositive G) where
  -- the other two half-edges beyond a half-edge sum to its vector
  beyond_sum : (x : X) → IsSide G x → G.vector x ≡ add_vector R (G.vector (G.next (G.twin x))) (G.vector (G.prev (G.twin x)))
  beyond_sum x s =
      let t = T.twin_side x s in
      sym (plane.neg_vector-neg L.ring (G.vector x))
      ∙ ap (neg_vector R) (sym (T.twin_opposite x s))
      ∙ opposite_of_closed L.ring (sides.closed_next L (T.closed (G.twin x) t))
      ∙ ap (λ y. add_vector R (G.vector (G.next (G.twin x))) (G.vector y)) (sym (T.prev (G.twin x) t))

  -- the left end of a crossing is the tip and the vector of the half-edge before the twin
  left_end_from_tip : (c : Crossing X A) → IsSpanned R G c → c.left_end ≡ add_vector R (tip_of R G c) (G.vector (G.prev (G.twin c.side)))
  left_end_from_tip c k =
      k.spans ∙ ap (add_vector R c.right_end) (beyond_sum c.side k.side)
      ∙ sym (plane.add_vector_assoc L.ring c.right_end (G.vector (G.next (G.twin c.side))) (G.vector (G.prev (G.twin c.side))))

  -- the first crossing is so
  pub first_spanned : (h : X) → IsSide G h → IsSpanned R G (first_crossing R G h)
  first_spanned h s = record { side = T.next_side h s; spans = ap (λ y. neg_vector R (G.vector y)) (T.prev h s) ∙ opposite_of_closed L.ring (T.closed h s) }

  -- and the one after another
  pub spanned_after : (c : Crossing X A) → IsSpanned R G c → (letter : Letter) → IsSpanned R G (crossing_after R G c letter)
  spanned_after c k right = record { side = T.next_side (G.twin c.side) (T.twin_side c.side k.side); spans = refl }
  spanned_after c k left = record { side = sides.prev_side L T (G.twin c.side) (T.twin_side c.side k.side); spans = left_end_from_tip c k }

  -- so the last one
  pub last_spanned : (h : X) → IsSide G h → (letters : List Letter) → IsSpanned R G (last_crossing R G h letters)
  last_spanned h s letters = go (first_crossing R G h) (first_spanned h s) letters
    where
      go : (c : Crossing X A) → IsSpanned R G c → (letters : List Letter) → IsSpanned R G (crossing_from R G c letters)
      go c k [] = k
      go c k (letter ∷ letters) = go (crossing_after R G c letter) (spanned_after c k letter) letters

  -- the half-edges that a word crosses are half-edges
  pub last_side : (h : X) → IsSide G h → (letters : List Letter) → IsSide G (last_crossing R G h letters).side
  last_side h s letters = (last_spanned h s letters).side

  -- that of the last view too
  pub view_side : (is_left : Vector A → Vector A → Bool) (h : X) → IsSide G h → (letters : List Letter) → IsSide G (last_view R is_left G h letters).crossing.side
  view_side is_left h s letters = subst (λ c. IsSide G c.side) (sym (last_view-crossing R G is_left h letters)) (last_side h s letters)

  -- ---- which vectors are beyond a crossing

  -- the right end of the first crossing is right of its left end
  pub first_open : (h : X) → IsSide G h → IsPositive (cross R (first_crossing R G h).right_end (first_crossing R G h).left_end)
  first_open h s =
      subst (λ q. IsPositive (cross R (G.vector h) q)) (sym (first_spanned h s).spans)
      (directions.positive_by_plane L [] (G.vector h ∷ G.vector (G.next h) ∷ []) (λ u v. cross E u (add_vector E u v) ≐ cross E u v) refl (T.counterclockwise h s))

  -- the tip is beyond the crossed half-edge
  pub tip_beyond : (c : Crossing X A) → IsSpanned R G c → IsPositive (beyond R (cross R) c.right_end c.left_end (tip_of R G c))
  tip_beyond c k =
      let t = G.twin c.side in
      let ts = T.twin_side c.side k.side in
      let next = G.next t in
      let ccw : IsPositive (cross R (G.vector next) (G.vector (G.prev t))) =
      subst (λ y. IsPositive (cross R (G.vector next) (G.vector y))) (sym (T.prev t ts)) (T.counterclockwise next (T.next_side t ts)) in
      subst (λ q. IsPositive (beyond R (cross R) c.right_end q (tip_of R G c))) (sym (left_end_from_tip c k))
      (directions.positive_by_plane L [] (c.right_end ∷ G.vector next ∷ G.vector (G.prev t) ∷ [])
      (λ p b d. beyond E (cross E) p (add_vector E (add_vector E p b) d) (add_vector E p b) ≐ cross E b d) refl ccw)
