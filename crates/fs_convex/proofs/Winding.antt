-- How often a boundary without right bends passes a direction: as often as any other. A library for crates to come.
use Rattle.std.proofs.Common.{◌≡◌, ◌≢◌, ◌⊎◌, ℕ, zero, suc, ◌+◌, ◌-◌, ◌<◌, ◌≤◌, Bool, true, false, not, ◌&&◌, [], ◌∷◌, refl, sym, ap, ◌∙◌, inl, inr, arith, zero-add}
use Rattle.std.proofs.lemmas.Bool.{cases_Bool}
use Rattle.fs_ring.specs.Operations.{Operations}
use Rattle.fs_ring.specs.OrderedRing.{IsOrderedRing}
use Rattle.fs_ring.specs.Vector.{Vector, zero_vector, neg_vector, cross, dot}
use Rattle.fs_ring.specs.Direction.{IsAlong, InHalfPlane, at_start, inside, left, right, along, opposite}
use Rattle.fs_ring.proofs.Signs as signs
use Rattle.fs_ring.proofs.Directions as directions
use Rattle.fs_ring.proofs.HalfPlanes as half_planes
use Rattle.fs_ring.proofs.Solver.{expressions as E, numeral, ◌≐◌, ◌from◌}
use Rattle.fs_ring.proofs.PlaneSolver.{plane_derived}
use Rattle.fs_lists.proofs.Counts.{one_if}
use Rattle.fs_convex.specs.Counts.{count_below}
use Rattle.fs_convex.specs.Turning.{DecidesHalfPlanes, HasConvexCorners, is_rise, rises, IsRiseAt}
use Rattle.fs_convex.specs.Polygon.{HasSides}
use Rattle.fs_convex.proofs.Counts.{count_below-agree, count_below_at_most, one_passes, change_between}
use Rattle.fs_convex.proofs.Positions.{HoldsFrom, cross_to_same, dot_to_same, all_parallel, further_along}
use Rattle.fs_convex.proofs.Rises as at_corner

-- what both tests say
not_and_true : (a b : Bool) → not a && b ≡ true → (a ≡ false) × (b ≡ true)
not_and_true true b e = cc
not_and_true false true e = (refl, refl)
not_and_true false false e = cc

not_and : {a b : Bool} → a ≡ false → b ≡ true → not a && b ≡ true
not_and e f = (λ i. not (e i) && f i)

-- of four corners after two equal tests not two change to true
few_changes : (b : ℕ → Bool) → b 0 ≡ true → b 1 ≡ true → count_below (λ j. not (b j) && b (suc j)) 4 ≤ 1
few_changes b = go (b 0) (b 1) (b 2) (b 3) (b 4)
  where
    go : (b c d e f : Bool) → b ≡ true → c ≡ true → 0 + one_if (not b && c) + one_if (not c && d) + one_if (not d && e) + one_if (not e && f) ≤ 1
    go true true true true f p r = omega arith
    go true true true false true p r = omega arith
    go true true true false false p r = omega arith
    go true true false true f p r = omega arith
    go true true false false true p r = omega arith
    go true true false false false p r = omega arith
    go true false d e f p r = cc
    go false c d e f p r = cc

module _ {A : Type 0} {R : Operations A} {IsPositive : A → Type 0} (L : IsOrderedRing R IsPositive)
    {is_ahead : Vector A → Vector A → Bool} (test : DecidesHalfPlanes R IsPositive is_ahead) where
  abbrev HalfPlane : Vector A → Vector A → Type 0
  HalfPlane w v = InHalfPlane R IsPositive w v

  -- how often the first k corners pass v
  abbrev count : Vector A → (ℕ → Vector A) → ℕ → ℕ
  count v s k = rises R is_ahead v s k

  module _ {s : ℕ → Vector A} (convex : HasConvexCorners R IsPositive s) where
    -- no side is zero
    pub side-ne-zero : (j : ℕ) → s j ≢ zero_vector R
    side-ne-zero j = at_corner.first_ray-ne-zero L (convex j)

    -- ---- the same number of rises from each direction

    -- through k corners: the rises of v and of w, and the sides in the sector from v to w
    pub rises_of_sector : {v w : Vector A} → IsPositive (cross R v w) → (k : ℕ)
        → at_corner.in_sector L test v w (s k) + count w s k ≡ at_corner.in_sector L test v w (s 0) + count v s k
    rises_of_sector vw zero = refl
    rises_of_sector vw (suc k) =
        let rest = rises_of_sector vw k in
        let here = at_corner.rise_of_sector L test vw (convex k) in
        omega arith

    rises_left : {v w : Vector A} (n : ℕ) → s n ≡ s 0 → IsPositive (cross R v w) → count w s n ≡ count v s n
    rises_left {v} {w} n e vw =
        let all = rises_of_sector vw n in
        let same : at_corner.in_sector L test v w (s n) ≡ at_corner.in_sector L test v w (s 0) = ap (at_corner.in_sector L test v w) e in
        omega arith

    rises_through : {v : Vector A} → v ≢ zero_vector R → (k : ℕ)
        → one_if (is_ahead v (s k)) + count (neg_vector R v) s k ≡ one_if (is_ahead v (s 0)) + count v s k
    rises_through m zero = refl
    rises_through m (suc k) =
        let rest = rises_through m k in
        let here = at_corner.rise_of_opposite L test m (convex k) in
        omega arith

    -- a closed boundary passes -v as often as v
    pub rises_of_opposite : {v : Vector A} (n : ℕ) → s n ≡ s 0 → v ≢ zero_vector R → count (neg_vector R v) s n ≡ count v s n
    rises_of_opposite {v} n e m =
        let all = rises_through m n in
        let same : one_if (is_ahead v (s n)) ≡ one_if (is_ahead v (s 0)) = ap (λ x. one_if (is_ahead v x)) e in
        omega arith

    rises_along : {u v : Vector A} (n : ℕ) → IsAlong R IsPositive u v → count u s n ≡ count v s n
    rises_along {u} {v} n h =
        count_below-agree _ _ n
        (λ j l. at_corner.is_rise-ahead L test u (s j) (s (suc j)) (directions.dot_positive-ne-zero_left L h.same_way) (side-ne-zero j)
        ∙ (λ i. not (at_corner.is_ahead_along L test (s j) h i) && at_corner.is_ahead_along L test (s (suc j)) h i)
        ∙ sym (at_corner.is_rise-ahead L test v (s j) (s (suc j)) (directions.dot_positive-ne-zero_right L h.same_way) (side-ne-zero j)))

    -- a closed boundary passes each direction as often as any other
    pub rises_of_any : (u v : Vector A) (n : ℕ) → s n ≡ s 0 → u ≢ zero_vector R → v ≢ zero_vector R → count u s n ≡ count v s n
    rises_of_any u v n e mu mv =
        elim (directions.turn L u v mu mv) [
          | left p ↦ sym (rises_left n e p)
          | right p ↦ rises_left n e p
          | along h ↦ rises_along n h
          | opposite z p ↦ sym (rises_of_opposite n e mu) ∙ rises_along n (record {
            parallel = plane_derived L.ring [] (u ∷ v ∷ []) (λ u v. cross E (neg_vector E u) v ≐ numeral 0 from (E.neg (numeral 1), cross E u v ≐ numeral 0) ∷ []) refl (z, tt);
            same_way = directions.positive_by_plane L [] (u ∷ v ∷ []) (λ u v. dot E (neg_vector E u) v ≐ E.neg (dot E u v)) refl p;
          })
        ]

    -- ---- where the rises are

    -- a corner is a rise where its two sides are in the half planes of -v and of v
    pub rise_of_half_planes : (v : Vector A) (j : ℕ) → HalfPlane (neg_vector R v) (s j) → HalfPlane v (s (suc j)) → IsRiseAt R is_ahead v s j
    rise_of_half_planes v j h k = λ i. test.complete (neg_vector R v) (s j) h i && test.complete v (s (suc j)) k i

    -- a corner is a rise where the test isn't true of the side before and is true of the side after
    pub rise_of_change : {v : Vector A} → v ≢ zero_vector R → (j : ℕ) → is_ahead v (s j) ≡ false → is_ahead v (s (suc j)) ≡ true → IsRiseAt R is_ahead v s j
    rise_of_change {v} m j e f = at_corner.is_rise-ahead L test v (s j) (s (suc j)) m (side-ne-zero j) ∙ not_and e f

    -- and only there
    pub change_of_rise : {v : Vector A} → v ≢ zero_vector R → (j : ℕ) → IsRiseAt R is_ahead v s j → (is_ahead v (s j) ≡ false) × (is_ahead v (s (suc j)) ≡ true)
    change_of_rise {v} m j e = not_and_true _ _ (sym (at_corner.is_rise-ahead L test v (s j) (s (suc j)) m (side-ne-zero j)) ∙ e)

    -- from a side that isn't in the half plane of v to a later one that is, there is a rise
    pub rise_between : {v : Vector A} → v ≢ zero_vector R → (a k : ℕ) → is_ahead v (s a) ≡ false → is_ahead v (s (a + k)) ≡ true
        → (l : ℕ) × (a ≤ l) × (l < a + k) × IsRiseAt R is_ahead v s l
    rise_between {v} m a k e f =
        let c = change_between (λ j. is_ahead v (s j)) a k e f in
        (c.0, c.1, c.2, rise_of_change m c.0 c.3 c.4)

    -- two rises are one corner, where a boundary passes v once
    pub one_rise : (v : Vector A) (i j n : ℕ) → count v s n ≡ 1 → i < n → j < n → IsRiseAt R is_ahead v s i → IsRiseAt R is_ahead v s j → i ≡ j
    one_rise v i j n once li lj ei ej = one_passes _ i j n once li lj ei ej

    -- a closed boundary doesn't stay in a half plane
    pub not_one_sided : {q : ℕ → Vector A} → HasSides R q s → (v : Vector A) (n : ℕ) → 0 < n → q n ≡ q 0 → ((j : ℕ) → j < n → HalfPlane v (s j)) → ⊥
    not_one_sided {q} sides v n l closed h =
        let back : q (0 + n) ≡ q 0 = ap q (zero-add n) ∙ closed in
        let parallel : HoldsFrom (λ j. cross R v (s j) ≡ R.zero) 0 n =
        all_parallel L sides v 0 n (λ j k m. half_planes.half_plane_non_negative L (h j (omega (arith, zero-add n)))) (cross_to_same L v back) in
        signs.positive-ne-zero L (further_along L sides v 0 n (λ j k m. same_way v (h j (omega (arith, zero-add n))) (parallel j k m)) l) (dot_to_same L v back)
      where
        same_way : (v : Vector A) {x : Vector A} → HalfPlane v x → cross R v x ≡ R.zero → IsPositive (dot R v x)
        same_way v (at_start h) e = h.same_way
        same_way v (inside p) e = absurd (signs.positive-ne-zero L p e)

    -- a boundary of sides that sum to zero passes each direction
    pub some_rise : {q : ℕ → Vector A} → HasSides R q s → {v : Vector A} → v ≢ zero_vector R → (n : ℕ) → 0 < n → s n ≡ s 0 → q n ≡ q 0 → 0 < count v s n
    some_rise {q} sides {v} m n l e closed = go (none_or_some (count v s n))
      where
        none_or_some : (k : ℕ) → (k ≡ 0) ⊎ (0 < k)
        none_or_some k = grind arith

        no_rise : count v s n ≡ 0 → (a k : ℕ) → a + k ≤ n → is_ahead v (s a) ≡ false → is_ahead v (s (a + k)) ≡ true → ⊥
        no_rise none a k b f g =
            let r = rise_between m a k f g in
            let some = count_below_at_most (λ j. is_rise R is_ahead v (s j) (s (suc j))) (suc r.0) n (omega (arith, r.2)) in
            let here : one_if (is_rise R is_ahead v (s r.0) (s (suc r.0))) ≡ 1 = ap one_if r.3 in
            omega arith

        go : (count v s n ≡ 0) ⊎ (0 < count v s n) → 0 < count v s n
        go (inr r) = r
        go (inl none) = absurd (elim (cases_Bool (is_ahead v (s 0))) [
          | inl first ↦ not_one_sided sides v n l closed (λ j k.
              elim (cases_Bool (is_ahead v (s j))) [
                | inl f ↦ test.sound v (s j) f
                | inr f ↦
                    let parts : j + (n - j) ≡ n = omega arith in
                    absurd (no_rise none j (n - j) (omega arith) f (ap (λ (i : ℕ). is_ahead v (s i)) parts ∙ ap (is_ahead v) e ∙ first))
              ])
          | inr first ↦ not_one_sided sides (neg_vector R v) n l closed (λ j k.
              elim (cases_Bool (is_ahead v (s j))) [
                | inl f ↦ absurd (no_rise none 0 j (omega (arith, zero-add j)) first (ap (λ (i : ℕ). is_ahead v (s i)) (zero-add j) ∙ f))
                | inr f ↦ at_corner.half_plane_of_not_ahead L test m (side-ne-zero j) f
              ])
        ])

    -- the rises are the changes from a side that isn't in the half plane of v to one that is
    pub rises-changes : {v : Vector A} → v ≢ zero_vector R → (k : ℕ) → count v s k ≡ count_below (λ j. not (is_ahead v (s j)) && is_ahead v (s (suc j))) k
    rises-changes {v} m k = count_below-agree _ _ k (λ j l. at_corner.is_rise-ahead L test v (s j) (s (suc j)) m (side-ne-zero j))

    -- a closed boundary of at most four sides passes each direction once
    pub one_rise_of_few : {q : ℕ → Vector A} → HasSides R q s → {v : Vector A} → v ≢ zero_vector R → (n : ℕ) → 0 < n → n ≤ 4 → s n ≡ s 0 → q n ≡ q 0 → count v s n ≡ 1
    one_rise_of_few {q} sides {v} m n l few e closed =
        let u = s 0 in
        let nu = side-ne-zero 0 in
        let some = some_rise sides nu n l e closed in
        let changes = rises-changes nu 4 in
        let at_most = few_changes (λ j. is_ahead u (s j)) (test.complete u u (at_start (directions.along_self L u nu))) (test.complete u (s 1) (convex 0)) in
        let fewer = count_below_at_most (λ j. is_rise R is_ahead u (s j) (s (suc j))) n 4 few in
        let same = rises_of_any v u n e m nu in
        omega arith
