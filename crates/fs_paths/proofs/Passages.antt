-- How a straight path passes through a put polygon: where its line leaves, and that the path comes into the next polygon. A library for crates to come.
use Rattle.std.proofs.Common.{◌≡◌, ◌≢◌, ◌⊎◌, ℕ, Bool, zero, suc, ◌-◌, ◌<◌, ◌≤◌, [], ◌∷◌, refl, sym, ap, ◌∙◌, subst, inl, inr, arith}
use Rattle.fs_cycles.proofs.Iterates.{iterate_after}
use Rattle.fs_ring.specs.Operations.{Operations}
use Rattle.fs_ring.specs.OrderedRing.{IsOrderedRing, positive, null, negative, IsAtMost, IsNonNegative}
use Rattle.fs_ring.specs.Vector.{Vector, zero_vector, add_vector, sub_vector, neg_vector, cross, dot}
use Rattle.fs_ring.proofs.Signs as signs
use Rattle.fs_ring.proofs.Order as order
use Rattle.fs_ring.proofs.Plane as plane
use Rattle.fs_ring.proofs.Chords as chords
use Rattle.fs_ring.proofs.Directions as directions
use Rattle.fs_ring.proofs.Turns as turns
use Rattle.fs_ring.proofs.Solver.{expressions as E, numeral, ◌⊕◌, ◌⊖◌, ◌⊗◌, ◌≐◌, ◌from◌}
use Rattle.fs_ring.proofs.PlaneSolver.{plane_derived, by_plane_identity}
use Rattle.fs_convex.specs.Turning.{DecidesHalfPlanes}
use Rattle.fs_convex.specs.Polygon.{position, IsConvexPolygon, IsExit}
use Rattle.fs_convex.proofs.Exits as exits
use Rattle.fs_paths.specs.SideGluing.{SideGluing, IsSide, nth_side, sides_from, AreGluedPolygons, StrictlyInSectorOf}
use Rattle.fs_paths.specs.Development.{IsPutAt, InPutPolygon}
use Rattle.fs_paths.specs.StraightPaths.{Crosses}
use Rattle.fs_paths.specs.Passages.{ComesInto, begins, enters, Leaves, LeavesBySide, LeavesAtCorner, by_side, at_corner}
use Rattle.fs_paths.proofs.Developments as developments
use Rattle.fs_paths.proofs.PutPolygons as put_polygons

at_least_two : (n : ℕ) → 0 < n → (n ≡ 1 → ⊥) → 2 ≤ n
at_least_two zero l h = absurd (omega arith)
at_least_two (suc zero) l h = absurd (h refl)
at_least_two (suc (suc n)) l h = omega arith

zero_or_more : (k : ℕ) → (k ≡ 0) ⊎ (1 ≤ k)
zero_or_more k = grind arith

below_or_same : (k m : ℕ) → k < suc m → (k < m) ⊎ (k ≡ m)
below_or_same k m l = grind arith

module _ {A : Type 0} {R : Operations A} {IsPositive : A → Type 0} (L : IsOrderedRing R IsPositive)
    {is_ahead : Vector A → Vector A → Bool} (test : DecidesHalfPlanes R IsPositive is_ahead)
    {X : Type 0} {G : SideGluing X A} (g : AreGluedPolygons R IsPositive is_ahead G) where
  abbrev Put : X → Vector A → X → Vector A → Type 0
  Put b B x Q = IsPutAt R G b B x Q

  -- ---- where the line leaves

  module _ (v : Vector A) (b : X) (B : Vector A) (h : IsSide G b) where
    abbrev n : ℕ
    n = g.sides b

    abbrev q : ℕ → Vector A
    q = position R B (sides_from G b)

    abbrev polygon : IsConvexPolygon R IsPositive is_ahead n (sides_from G b) q
    polygon = developments.put_polygon L test g b B h

    -- where there is an exit before corner m, the last or the first again, which is left, and corner 0 is neither right nor met
    module _ {i m : ℕ} (e : IsExit R IsPositive v q i m) (most : m ≤ n) (all : n ≤ suc m) (end_left : IsPositive (cross R v (q m)))
        (first_not_right : IsPositive (cross R B v) → ⊥) (first_not_met : cross R v B ≡ R.zero → IsPositive (dot R v B) → ⊥) where
      crossed_number : (k : ℕ) → k < n → IsPositive (cross R (q k) v) → IsPositive (cross R v (q (suc k))) → k ≡ i
      crossed_number k l r f = go (zero_or_more k) (below_or_same k m (omega arith))
        where
          go : (k ≡ 0) ⊎ (1 ≤ k) → (k < m) ⊎ (k ≡ m) → k ≡ i
          go (inl z) s = absurd (first_not_right (subst (λ (j : ℕ). IsPositive (cross R (q j) v)) z r))
          go (inr o) (inl c) = exits.crossed_side_is_exit L e k o c r f
          go (inr o) (inr z) = absurd (turns.not_both_crosses L end_left (subst (λ (j : ℕ). IsPositive (cross R (q j) v)) z r))

      met_number : (k : ℕ) → k < n → cross R v (q k) ≡ R.zero → IsPositive (dot R v (q k)) → k ≡ suc i
      met_number k l z p = go (zero_or_more k)
        where
          go : (k ≡ 0) ⊎ (1 ≤ k) → k ≡ suc i
          go (inl f) = absurd (first_not_met (ap (λ (j : ℕ). cross R v (q j)) (sym f) ∙ z) (subst (λ (j : ℕ). IsPositive (dot R v (q j))) f p))
          go (inr o) = exits.corner_on_line_is_exit L e k o (omega arith) z

      crossed : (y : X) (P : Vector A) → Put b B y P → IsPositive (cross R P v) → IsPositive (cross R v (add_vector R P (G.vector y))) → (y ≡ nth_side G b i) × (P ≡ q i)
      crossed y P k r f =
          let below = developments.put_below L test g h k in
          let same : below.0 ≡ i = crossed_number below.0 below.1 (subst (λ w. IsPositive (cross R w v)) (sym below.3) r)
          (signs.positive_of_eq L (λ j. cross R v (add_vector R (below.3 j) (G.vector (below.2 j)))) f) in
          (sym below.2 ∙ ap (λ (j : ℕ). nth_side G b j) same, sym below.3 ∙ ap q same)

      -- a side that comes from the right of the line to a corner on it is the exit side
      touched_number : (k : ℕ) → k < n → IsPositive (cross R (q k) v) → cross R v (q (suc k)) ≡ R.zero → k ≡ i
      touched_number k l r z = go (zero_or_more k)
        where
          go : (k ≡ 0) ⊎ (1 ≤ k) → k ≡ i
          go (inl f) = absurd (first_not_right (subst (λ (j : ℕ). IsPositive (cross R (q j) v)) f r))
          go (inr o) = elim (below_or_same k i (let a = exits.right_before_exit L e k (omega arith) r in omega arith)) [
            | inl c ↦ absurd (signs.positive-ne-zero L (e.right_before (suc k) (omega arith) (omega arith)) (directions.parallel_comm L v (q (suc k)) z))
            | inr same ↦ same
          ]

      touched : (y : X) (P : Vector A) → Put b B y P → IsPositive (cross R P v) → cross R v (add_vector R P (G.vector y)) ≡ R.zero → (y ≡ nth_side G b i) × (P ≡ q i)
      touched y P k r z =
          let below = developments.put_below L test g h k in
          let same : below.0 ≡ i = touched_number below.0 below.1 (subst (λ w. IsPositive (cross R w v)) (sym below.3) r)
          (ap (cross R v) (λ j. add_vector R (below.3 j) (G.vector (below.2 j))) ∙ z) in
          (sym below.2 ∙ ap (λ (j : ℕ). nth_side G b j) same, sym below.3 ∙ ap q same)

      met : (y : X) (P : Vector A) → Put b B y P → cross R v P ≡ R.zero → IsPositive (dot R v P) → P ≡ q (suc i)
      met y P k z p =
          let below = developments.put_below L test g h k in
          sym below.3 ∙ ap q (met_number below.0 below.1 (ap (cross R v) below.3 ∙ z) (subst (λ w. IsPositive (dot R v w)) (sym below.3) p))

      leaves_at_exit : (IsPositive (cross R v (q (suc i))) → IsPositive (cross R (q i) (q (suc i)))) → (cross R v (q (suc i)) ≡ R.zero → IsPositive (dot R v (q (suc i))))
          → Leaves R IsPositive G v b B
      leaves_at_exit side_ahead corner_ahead = elim (L.trichotomy (cross R v (q (suc i)))) [
        | positive p ↦ by_side (nth_side G b i) (q i) (record {
          side = developments.put_number b B i;
          right = e.right_before i e.not_first (omega arith);
          left = p;
          ahead = side_ahead p;
          only = crossed;
          no_corner = λ y P k z d. signs.positive-ne-zero L p (ap (cross R v) (sym (met y P k z d)) ∙ z);
          no_end = λ y P k r z.
              let same = touched y P k r z in
              signs.positive-ne-zero L p (sym (λ j. cross R v (add_vector R (same.1 j) (G.vector (same.0 j)))) ∙ z);
        })
        | null z ↦ at_corner (nth_side G b (suc i)) (q (suc i)) (record {
          corner = developments.put_number b B (suc i);
          on_line = z;
          ahead = corner_ahead z;
          only = met;
          only_end = λ y P k r f.
              let same = touched y P k r f in
              (ap G.next same.0 ∙ sym (iterate_after G.next i b), λ j. add_vector R (same.1 j) (G.vector (same.0 j)));
          no_side = λ y P k r f.
              let same = crossed y P k r f in
              signs.positive-ne-zero L (signs.positive_of_eq L (sym (λ j. cross R v (add_vector R (same.1 j) (G.vector (same.0 j))))) f) z;
        })
        | negative p ↦ absurd (e.not_right (directions.cross_positive L v (q (suc i)) p))
      ]

    leaves_after_entry : IsPositive (cross R v B) → IsPositive (cross R (add_vector R B (G.vector b)) v) → IsPositive (cross R (add_vector R B (G.vector b)) B)
        → Leaves R IsPositive G v b B
    leaves_after_entry l r a =
        let end_left : IsPositive (cross R v (q n)) = subst (λ w. IsPositive (cross R v w)) (sym polygon.closed) l in
        let two : 2 ≤ n = at_least_two n (developments.some_side L test g b h) (λ z. turns.not_both_crosses L end_left (subst (λ (j : ℕ). IsPositive (cross R (q j) v)) (sym z) r)) in
        let down : IsPositive (cross R (G.vector b) v) =
        directions.positive_by_plane L [] (v ∷ B ∷ G.vector b ∷ []) (λ v b s. cross E s v ≐ cross E (add_vector E b s) v ⊕ cross E v b) refl (L.add_positive r l) in
        let found = exits.exit L test polygon v n two (omega arith) down r end_left in
        go end_left found.0 found.1
      where
        go : IsPositive (cross R v (q n)) → (i : ℕ) → IsExit R IsPositive v q i n → Leaves R IsPositive G v b B
        go end_left i e =
            leaves_at_exit e (omega arith) (omega arith) end_left (λ k. turns.not_both_crosses L l k) (λ z d. signs.positive-ne-zero L l z)
            (λ p. exits.side_ahead_of_entry L test polygon l r a i (suc i) (e.right_before i e.not_first (omega arith)) p)
            (λ z. exits.corner_ahead_of_entry L test polygon l r a (suc i) z)

    leaves_after_start : B ≡ zero_vector R → StrictlyInSectorOf R IsPositive G b v → Leaves R IsPositive G v b B
    leaves_after_start start strict =
        let some = developments.some_side L test g b h in
        let to_n : suc (n - 1) ≡ n = omega arith in
        let last : add_vector R (q (n - 1)) (G.vector (G.prev b)) ≡ zero_vector R =
        ap (λ x. add_vector R (q (n - 1)) (G.vector x)) (sym (put_polygons.last_side L test g b h)) ∙ ap q to_n ∙ polygon.closed ∙ start in
        let end_left : IsPositive (cross R v (q (n - 1))) =
        directions.positive_by_plane L [] (v ∷ q (n - 1) ∷ G.vector (G.prev b) ∷ []) (λ v a s. cross E v a ≐ cross E v (neg_vector E s) ⊕ cross E v (add_vector E a s)) refl
        (signs.add_positive_non_negative L strict.right_of_end (signs.non_negative_of_zero L (ap (cross R v) last ∙ plane.cross-zero_right L.ring v))) in
        let right : IsPositive (cross R (add_vector R B (G.vector b)) v) =
        subst (λ w. IsPositive (cross R (add_vector R w (G.vector b)) v)) (sym start)
        (directions.positive_by_plane L [] (v ∷ G.vector b ∷ []) (λ v s. cross E (add_vector E (zero_vector E) s) v ≐ cross E s v) refl strict.left_of_start) in
        let not_one : n - 1 ≡ 1 → ⊥ = λ z. turns.not_both_crosses L end_left (subst (λ (j : ℕ). IsPositive (cross R (q j) v)) (sym z) right) in
        let not_zero : 0 < n - 1 = positive_number (n - 1) (λ z. signs.positive-ne-zero L end_left (ap (λ (j : ℕ). cross R v (q j)) z ∙ ap (cross R v) start ∙ plane.cross-zero_right L.ring v)) in
        let two : 2 ≤ n - 1 = at_least_two (n - 1) not_zero not_one in
        let found = exits.exit L test polygon v (n - 1) two (omega arith) strict.left_of_start right end_left in
        go end_left some found.0 found.1
      where
        positive_number : (k : ℕ) → (k ≡ 0 → ⊥) → 0 < k
        positive_number zero f = absurd (f refl)
        positive_number (suc k) f = omega arith

        go : IsPositive (cross R v (q (n - 1))) → 0 < n → (i : ℕ) → IsExit R IsPositive v q i (n - 1) → Leaves R IsPositive G v b B
        go end_left some i e =
            leaves_at_exit e (omega arith) (omega arith) end_left
            (λ k. directions.cross_positive-ne-zero_left L k start)
            (λ z d. directions.dot_positive-ne-zero_right L d start)
            (λ p. exits.side_ahead_of_start L test polygon start e (omega arith))
            (λ z. exits.corner_ahead_of_start L test polygon start e (omega arith) z)

  -- where a path comes into a put polygon, its line leaves by one side or at one corner
  pub leaves : {v : Vector A} {b : X} {B : Vector A} → IsSide G b → ComesInto R IsPositive G v b B → Leaves R IsPositive G v b B
  leaves {v} {b} {B} h (begins start strict) = leaves_after_start v b B h start strict
  leaves {v} {b} {B} h (enters l r a f) = leaves_after_entry v b B h l r a

  -- the line leaves by the side that comes from its right to its left
  pub leaves_by_side : {v : Vector A} {b x : X} {B Q : Vector A} → IsSide G b → ComesInto R IsPositive G v b B → Put b B x Q → IsPositive (cross R Q v)
      → IsPositive (cross R v (add_vector R Q (G.vector x))) → LeavesBySide R IsPositive G v b B x Q
  leaves_by_side {v} {b} {x} {B} {Q} h c k r f = elim (leaves h c) [
    | by_side y P l ↦
        let same = l.only x Q k r f in
        subst (λ z. LeavesBySide R IsPositive G v b B z Q) (sym same.0) (subst (λ w. LeavesBySide R IsPositive G v b B y w) (sym same.1) l)
    | at_corner y P l ↦ absurd (l.no_side x Q k r f)
  ]

  -- the line leaves at the corner on it to which a side comes from its right
  pub leaves_at_corner : {v : Vector A} {b x : X} {B Q : Vector A} → IsSide G b → ComesInto R IsPositive G v b B → Put b B x Q → IsPositive (cross R Q v)
      → cross R v (add_vector R Q (G.vector x)) ≡ R.zero → LeavesAtCorner R IsPositive G v b B (G.next x) (add_vector R Q (G.vector x))
  leaves_at_corner {v} {b} {x} {B} {Q} h c k r z = elim (leaves h c) [
    | by_side y P l ↦ absurd (l.no_end x Q k r z)
    | at_corner y P l ↦
        let same = l.only_end x Q k r z in
        subst (λ e. LeavesAtCorner R IsPositive G v b B e (add_vector R Q (G.vector x))) (sym same.0) (subst (λ w. LeavesAtCorner R IsPositive G v b B y w) (sym same.1) l)
  ]

  -- the corners from the first on that are right of the line are fewer than the sides
  pub right_corners_below_sides : {v : Vector A} {b : X} {B : Vector A} → IsSide G b → ComesInto R IsPositive G v b B → (k : ℕ)
      → ((j : ℕ) → 1 ≤ j → j ≤ k → IsPositive (cross R (position R B (sides_from G b) j) v)) → k < g.sides b
  right_corners_below_sides {v} {b} {B} h c k right = elim (below_or_not k (g.sides b)) [
    | inl l ↦ l
    | inr l ↦
        let again : IsPositive (cross R B v) =
        subst (λ w. IsPositive (cross R w v)) (developments.put_polygon L test g b B h).closed (right (g.sides b) (let some = developments.some_side L test g b h in omega arith) l) in
        absurd (start_not_right c again)
  ]
    where
      below_or_not : (k n : ℕ) → (k < n) ⊎ (n ≤ k)
      below_or_not k n = grind arith

      start_not_right : ComesInto R IsPositive G v b B → IsPositive (cross R B v) → ⊥
      start_not_right (begins start strict) r = directions.cross_positive-ne-zero_left L r start
      start_not_right (enters l r a f) p = turns.not_both_crosses L l p

  -- a vector along which a path comes into a polygon isn't zero
  pub comes_into-ne-zero : {v : Vector A} {b : X} {B : Vector A} → ComesInto R IsPositive G v b B → v ≢ zero_vector R
  comes_into-ne-zero (begins start strict) = directions.cross_positive-ne-zero_right L strict.left_of_start
  comes_into-ne-zero (enters l r a f) = directions.cross_positive-ne-zero_left L l

  -- ---- into the next polygon

  -- where a path crosses a side, it comes into the polygon at the other side of it
  pub comes_into_next : {v : Vector A} {b x : X} {B Q : Vector A} → IsSide G b → ComesInto R IsPositive G v b B → Put b B x Q → Crosses R IsPositive v Q (add_vector R Q (G.vector x))
      → ComesInto R IsPositive G v (G.twin x) (add_vector R Q (G.vector x))
  comes_into_next {v} {b} {x} {B} {Q} h c k cr =
      let hx = developments.put_is_side L test g h k in
      let u = G.vector x in
      let ahead : IsPositive (cross R Q (add_vector R Q u)) = go (leaves h c) in
      enters cr.left
      (subst (λ w. IsPositive (cross R (add_vector R (add_vector R Q u) w) v)) (sym (g.twin_opposite x hx))
      (directions.positive_by_plane L [] (v ∷ Q ∷ u ∷ []) (λ v q u. cross E (add_vector E (add_vector E q u) (neg_vector E u)) v ≐ cross E q v) refl cr.right))
      (subst (λ w. IsPositive (cross R (add_vector R (add_vector R Q u) w) (add_vector R Q u))) (sym (g.twin_opposite x hx))
      (directions.positive_by_plane L [] (Q ∷ u ∷ []) (λ q u. cross E (add_vector E (add_vector E q u) (neg_vector E u)) (add_vector E q u) ≐ cross E q (add_vector E q u)) refl ahead))
      (subst (λ w. IsPositive (cross R w (sub_vector R v (add_vector R Q u)))) (sym (g.twin_opposite x hx))
      (directions.positive_by_plane L [] (v ∷ Q ∷ u ∷ [])
      (λ v q u. cross E (neg_vector E u) (sub_vector E v (add_vector E q u)) ≐ cross E (sub_vector E v q) (sub_vector E (add_vector E q u) q)) refl cr.beyond))
    where
      go : Leaves R IsPositive G v b B → IsPositive (cross R Q (add_vector R Q (G.vector x)))
      go (at_corner y P l) = absurd (l.no_side x Q k cr.right cr.left)
      go (by_side y P l) =
          let same = l.only x Q k cr.right cr.left in
          signs.positive_of_eq L (λ j. cross R (same.1 j) (add_vector R (same.1 j) (G.vector (same.0 j)))) l.ahead

  -- ---- chords of a polygon

  -- where a path crosses a side of a polygon, it crosses each chord from a corner right of the line to one left of it
  pub crosses_chord : {v : Vector A} {b x d e : X} {B Q D F : Vector A} → IsSide G b → Put b B x Q → Crosses R IsPositive v Q (add_vector R Q (G.vector x))
      → Put b B d D → Put b B e F → IsPositive (cross R D v) → IsPositive (cross R v F) → Crosses R IsPositive v D F
  crosses_chord {v} {b} {x} {d} {e} {B} {Q} {D} {F} h k cr hd he right left =
      let u = G.vector x in
      record {
        right = right;
        left = left;
        beyond =
            signs.positive_of_mul_left L (L.add_positive cr.left cr.right)
            (directions.positive_by_plane L [] (v ∷ Q ∷ u ∷ D ∷ F ∷ [])
            (λ v q u a b. (cross E v (add_vector E q u) ⊕ cross E q v) ⊗ cross E (sub_vector E v a) (sub_vector E b a)
            ≐ (cross E v b ⊕ cross E a v) ⊗ cross E (sub_vector E v q) (sub_vector E (add_vector E q u) q)
            ⊕ (cross E v b ⊗ cross E u (sub_vector E a q) ⊕ cross E a v ⊗ cross E u (sub_vector E b q))) refl
            (signs.add_positive_non_negative L (L.mul_positive (L.add_positive left right) cr.beyond)
            (signs.add_non_negative L
            (signs.mul_non_negative L (signs.non_negative_of_positive L left) (put_polygons.put_not_right L test g h k hd))
            (signs.mul_non_negative L (signs.non_negative_of_positive L right) (put_polygons.put_not_right L test g h k he)))));
      }

  -- ---- where the path ends in a polygon

  -- s times any corner's distance from the line of a side is at most k times that of v
  abbrev BelowAll : Vector A → X → Vector A → A → A → Type 0
  BelowAll v b B k s = (y : X) (P : Vector A) → Put b B y P → IsAtMost R IsPositive (R.mul s (cross R (G.vector y) P)) (R.mul k (cross R (G.vector y) v))

  -- the point v·k/s, with 0 ≤ k ≤ s, is right of no side
  abbrev HasPointBefore : Vector A → X → Vector A → Type 0
  HasPointBefore v b B = (k : A) × (s : A) × IsNonNegative R IsPositive k × IsAtMost R IsPositive k s × IsPositive s × BelowAll v b B k s

  -- the point v·m/t, with t ≤ m, is right of no side
  abbrev HasPointAfter : Vector A → X → Vector A → Type 0
  HasPointAfter v b B = (m : A) × (t : A) × IsAtMost R IsPositive t m × IsPositive t × BelowAll v b B m t

  inside_between : {v : Vector A} {b : X} {B : Vector A} → HasPointBefore v b B → HasPointAfter v b B → InPutPolygon R G IsPositive b B v
  inside_between {v} {b} {B} a e y P k n =
      chords.at_most_between L a.0 a.1 e.0 e.1 (cross R (G.vector y) v) (cross R (G.vector y) P) a.2 a.3 a.4 e.2 e.3 (a.5 y P k) (e.4 y P k)
      (directions.positive_by_plane L [] (v ∷ P ∷ G.vector y ∷ []) (λ v p u. cross E u p ⊖ cross E u v ≐ E.neg (cross E u (sub_vector E v p))) refl n)

  below_chord : {v : Vector A} {b d e : X} {B D F : Vector A} → IsSide G b → Put b B d D → Put b B e F → IsPositive (cross R D v) → IsPositive (cross R v F)
      → BelowAll v b B (cross R D F) (R.add (cross R v F) (cross R D v))
  below_chord {v} {b} {d} {e} {B} {D} {F} h hd he right left y P k =
      order.at_most_of_sub L _ _
      (by_plane_identity L.ring (IsNonNegative R IsPositive) [] (v ∷ P ∷ G.vector y ∷ D ∷ F ∷ [])
      (λ v p u a b. cross E a b ⊗ cross E u v ⊖ (cross E v b ⊕ cross E a v) ⊗ cross E u p
      ≐ cross E v b ⊗ cross E u (sub_vector E a p) ⊕ cross E a v ⊗ cross E u (sub_vector E b p)) refl
      (signs.add_non_negative L
      (signs.mul_non_negative L (signs.non_negative_of_positive L left) (put_polygons.put_not_right L test g h k hd))
      (signs.mul_non_negative L (signs.non_negative_of_positive L right) (put_polygons.put_not_right L test g h k he))))

  entry_at_start : (v : Vector A) {b : X} {B : Vector A} → IsSide G b → B ≡ zero_vector R → HasPointBefore v b B
  entry_at_start v {b} {B} h start = (
    R.zero,
    R.one,
    signs.zero_non_negative L,
    order.at_most_of_less L R.zero R.one (order.zero_less L L.one_positive),
    L.one_positive,
    λ y P k. order.at_most_of_sub L _ _
        (by_plane_identity L.ring (IsNonNegative R IsPositive) [] (v ∷ P ∷ G.vector y ∷ [])
        (λ v p u. numeral 0 ⊗ cross E u v ⊖ numeral 1 ⊗ cross E u p ≐ cross E u (sub_vector E (zero_vector E) p)) refl
        (subst (λ w. IsNonNegative R IsPositive (cross R (G.vector y) (sub_vector R w P))) start (put_polygons.put_not_right L test g h k (developments.put_refl b B)))),
  )

  entry_of : {v : Vector A} {b : X} {B : Vector A} → IsSide G b → ComesInto R IsPositive G v b B → HasPointBefore v b B
  entry_of {v} h (begins start strict) = entry_at_start v h start
  entry_of {v} {b} {B} h (enters l r a f) = (
    cross R (add_vector R B (G.vector b)) B,
    R.add (cross R v B) (cross R (add_vector R B (G.vector b)) v),
    signs.non_negative_of_positive L a,
    order.at_most_of_less L _ _
        (directions.positive_by_plane L [] (v ∷ B ∷ G.vector b ∷ [])
        (λ v b u. (cross E v b ⊕ cross E (add_vector E b u) v) ⊖ cross E (add_vector E b u) b ≐ cross E u (sub_vector E v b)) refl f),
    L.add_positive l r,
    below_chord h (developments.put_next (developments.put_refl b B)) (developments.put_refl b B) r l,
  )

  end_at_corner : {v : Vector A} {b x : X} {B Q : Vector A} → IsSide G b → Put b B x Q → v ≢ zero_vector R → cross R v Q ≡ R.zero → IsAtMost R IsPositive (dot R v v) (dot R v Q) → HasPointAfter v b B
  end_at_corner {v} {b} {x} {B} {Q} h k some z l = (
    dot R v Q,
    dot R v v,
    l,
    directions.norm_positive L v some,
    λ y P j. order.at_most_of_sub L _ _
        (subst (IsNonNegative R IsPositive)
        (sym (plane_derived L.ring [] (v ∷ P ∷ G.vector y ∷ Q ∷ [])
        (λ v p u q. dot E v q ⊗ cross E u v ⊖ dot E v v ⊗ cross E u p ≐ dot E v v ⊗ cross E u (sub_vector E q p) from (E.neg (dot E u v), cross E v q ≐ numeral 0) ∷ []) refl (z, tt)))
        (signs.mul_non_negative L (directions.norm_non_negative L v) (put_polygons.put_not_right L test g h j k))),
  )

  -- where the line leaves a polygon by a side, and v isn't beyond it, the path ends in the polygon
  pub in_polygon_before_side : {v : Vector A} {b x : X} {B Q : Vector A} → IsSide G b → ComesInto R IsPositive G v b B → LeavesBySide R IsPositive G v b B x Q
      → IsNonNegative R IsPositive (cross R (G.vector x) (sub_vector R v Q)) → InPutPolygon R G IsPositive b B v
  in_polygon_before_side {v} {b} {x} {B} {Q} h c l before = inside_between (entry_of h c) (
    cross R Q (add_vector R Q (G.vector x)),
    R.add (cross R v (add_vector R Q (G.vector x))) (cross R Q v),
    order.at_most_of_sub L _ _
        (by_plane_identity L.ring (IsNonNegative R IsPositive) [] (v ∷ Q ∷ G.vector x ∷ [])
        (λ v q u. cross E q (add_vector E q u) ⊖ (cross E v (add_vector E q u) ⊕ cross E q v) ≐ cross E u (sub_vector E v q)) refl before),
    L.add_positive l.left l.right,
    below_chord h l.side (developments.put_next l.side) l.right l.left,
  )

  -- where the line leaves a polygon at a corner, and v isn't beyond it, the path ends in the polygon
  pub in_polygon_before_corner : {v : Vector A} {b x : X} {B Q : Vector A} → IsSide G b → ComesInto R IsPositive G v b B → LeavesAtCorner R IsPositive G v b B x Q
      → IsAtMost R IsPositive (dot R v v) (dot R v Q) → InPutPolygon R G IsPositive b B v
  in_polygon_before_corner h c l before =
      inside_between (entry_of h c) (end_at_corner h l.corner (directions.dot_positive-ne-zero_left L l.ahead) l.on_line before)

  -- so does a path from a corner of the polygon along a line that meets another one, where v isn't beyond that
  pub in_polygon_from_corner : {v : Vector A} {b x : X} {B Q : Vector A} → IsSide G b → B ≡ zero_vector R → Put b B x Q → v ≢ zero_vector R → cross R v Q ≡ R.zero
      → IsAtMost R IsPositive (dot R v v) (dot R v Q) → InPutPolygon R G IsPositive b B v
  in_polygon_from_corner {v} h start k some z before = inside_between (entry_at_start v h start) (end_at_corner h k some z before)
