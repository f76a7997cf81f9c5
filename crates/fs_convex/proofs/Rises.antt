-- A corner of a boundary seen from a direction, and two corners in turn. A library for crates to come.
use Rattle.std.proofs.Common.{◌≡◌, ◌≢◌, ℕ, ◌+◌, Bool, true, false, not, ◌&&◌, [], ◌∷◌, refl, sym, ap, ◌∙◌, subst, inl, inr}
use Rattle.std.proofs.lemmas.Bool.{cases_Bool}
use Rattle.fs_ring.specs.Operations.{Operations}
use Rattle.fs_ring.specs.OrderedRing.{IsOrderedRing, Sign, positive, null, negative}
use Rattle.fs_ring.specs.Vector.{Vector, zero_vector, neg_vector, cross, dot}
use Rattle.fs_ring.specs.Direction.{IsAlong, InHalfPlane, at_start, inside}
use Rattle.fs_ring.proofs.Signs as signs
use Rattle.fs_ring.proofs.Plane as plane
use Rattle.fs_ring.proofs.Directions as directions
use Rattle.fs_ring.proofs.HalfPlanes as half_planes
use Rattle.fs_ring.proofs.Turns as turns
use Rattle.fs_ring.proofs.Solver.{expressions as E, numeral, ◌≐◌, ◌from◌}
use Rattle.fs_ring.proofs.PlaneSolver.{plane_derived, vector_identity, ◌≐ᵥ◌}
use Rattle.fs_lists.proofs.Counts.{one_if}
use Rattle.fs_convex.specs.Turning.{DecidesHalfPlanes, is_rise}

-- ---- tables over the tests

turn_table : (a b c : Bool) → (a ≡ true → b ≡ false → c ≡ true → ⊥) → (a ≡ false → b ≡ true → c ≡ false → ⊥)
    → one_if (not a && c) ≡ one_if (not a && b) + one_if (not b && c)
turn_table true true true f g = refl
turn_table true true false f g = refl
turn_table true false true f g = absurd (f refl refl refl)
turn_table true false false f g = refl
turn_table false true true f g = refl
turn_table false true false f g = absurd (g refl refl refl)
turn_table false false true f g = refl
turn_table false false false f g = refl

cut_table : (p d n : Bool) → (p ≡ true → d ≡ true → n ≡ false → ⊥) → (p ≡ false → d ≡ false → n ≡ true → ⊥)
    → one_if (not p && n) + one_if d ≡ one_if (not p && d) + one_if (not (not d) && n)
cut_table true true true f g = refl
cut_table true true false f g = absurd (f refl refl refl)
cut_table true false true f g = refl
cut_table true false false f g = refl
cut_table false true true f g = refl
cut_table false true false f g = refl
cut_table false false true f g = absurd (g refl refl refl)
cut_table false false false f g = refl

-- the bits of x and of y for v and for w
sector_table : (xv xw yv yw : Bool) → (xv ≡ true → xw ≡ false → yv ≡ false → yw ≡ false → ⊥) → (xv ≡ true → xw ≡ true → yv ≡ true → yw ≡ false → ⊥)
    → (xv ≡ false → xw ≡ true → yv ≡ true → yw ≡ true → ⊥) → (xv ≡ false → xw ≡ false → yv ≡ false → yw ≡ true → ⊥)
    → one_if (yv && not yw) + one_if (not xw && yw) ≡ one_if (xv && not xw) + one_if (not xv && yv)
sector_table true true true true a b c d = refl
sector_table true true true false a b c d = absurd (b refl refl refl refl)
sector_table true true false true a b c d = refl
sector_table true true false false a b c d = refl
sector_table true false true true a b c d = refl
sector_table true false true false a b c d = refl
sector_table true false false true a b c d = refl
sector_table true false false false a b c d = absurd (a refl refl refl refl)
sector_table false true true true a b c d = absurd (c refl refl refl refl)
sector_table false true true false a b c d = refl
sector_table false true false true a b c d = refl
sector_table false true false false a b c d = refl
sector_table false false true true a b c d = refl
sector_table false false true false a b c d = refl
sector_table false false false true a b c d = absurd (d refl refl refl refl)
sector_table false false false false a b c d = refl

opposite_table : (x y : Bool) → one_if y + one_if (not (not x) && not y) ≡ one_if x + one_if (not x && y)
opposite_table true true = refl
opposite_table true false = refl
opposite_table false true = refl
opposite_table false false = refl

-- ---- a test by signs

module _ {A : Type 0} {R : Operations A} {IsPositive : A → Type 0} where
  -- left of the first ray, or along it, by the signs of the cross and the dot product
  abbrev pub ahead_by_signs : {x y : A} → Sign R IsPositive x → Sign R IsPositive y → Bool
  ahead_by_signs (positive p) t = true
  ahead_by_signs (negative p) t = false
  ahead_by_signs (null e) (positive p) = true
  ahead_by_signs (null e) (null f) = false
  ahead_by_signs (null e) (negative p) = false

module _ {A : Type 0} {R : Operations A} {IsPositive : A → Type 0} (L : IsOrderedRing R IsPositive) where
  abbrev HalfPlane : Vector A → Vector A → Type 0
  HalfPlane w v = InHalfPlane R IsPositive w v

  -- the test by signs is one that the lemmas here ask for
  pub signs_decide_half_planes : DecidesHalfPlanes R IsPositive (λ v x. ahead_by_signs (L.trichotomy (cross R v x)) (L.trichotomy (dot R v x)))
  signs_decide_half_planes = record {
    sound = λ v x e. sound v x (L.trichotomy (cross R v x)) (L.trichotomy (dot R v x)) e;
    complete = λ v x h. complete v x (L.trichotomy (cross R v x)) (L.trichotomy (dot R v x)) h;
  }
    where
      sound : (v x : Vector A) (s : Sign R IsPositive (cross R v x)) (t : Sign R IsPositive (dot R v x)) → ahead_by_signs s t ≡ true → HalfPlane v x
      sound v x (positive p) t e = inside p
      sound v x (negative p) t e = cc
      sound v x (null z) (positive p) e = at_start (record { parallel = z; same_way = p })
      sound v x (null z) (null f) e = cc
      sound v x (null z) (negative p) e = cc

      complete : (v x : Vector A) (s : Sign R IsPositive (cross R v x)) (t : Sign R IsPositive (dot R v x)) → HalfPlane v x → ahead_by_signs s t ≡ true
      complete v x (positive p) t h = refl
      complete v x (negative p) t h = absurd (half_planes.half_plane_non_negative L h p)
      complete v x (null z) (positive p) h = refl
      complete v x (null z) (null f) (inside p) = absurd (signs.positive-ne-zero L p z)
      complete v x (null z) (null f) (at_start k) = absurd (signs.positive-ne-zero L k.same_way f)
      complete v x (null z) (negative p) (inside r) = absurd (signs.positive-ne-zero L r z)
      complete v x (null z) (negative p) (at_start k) = absurd (signs.not_both_signs L k.same_way p)

  -- ---- half planes of v and of -v

  -- the first ray of a half plane that has a vector isn't zero
  pub first_ray-ne-zero : {w x : Vector A} → HalfPlane w x → w ≢ zero_vector R
  first_ray-ne-zero (at_start h) = directions.dot_positive-ne-zero_left L h.same_way
  first_ray-ne-zero (inside p) = directions.cross_positive-ne-zero_left L p

  -- the opposite of a vector that isn't zero isn't zero
  pub neg_vector-ne-zero : {v : Vector A} → v ≢ zero_vector R → neg_vector R v ≢ zero_vector R
  neg_vector-ne-zero {v} n e = n (sym (plane.neg_vector-neg L.ring v) ∙ ap (neg_vector R) e ∙ neg_zero)
    where
      neg_zero : neg_vector R (zero_vector R) ≡ zero_vector R
      neg_zero = vector_identity L.ring [] [] (neg_vector E (zero_vector E) ≐ᵥ zero_vector E) refl

  -- opposite vectors are in opposite half planes
  pub half_plane_of_opposites : {v x : Vector A} → HalfPlane v x → HalfPlane (neg_vector R v) (neg_vector R x)
  half_plane_of_opposites {v} {x} (at_start h) = at_start (record {
    parallel = plane_derived L.ring [] (v ∷ x ∷ []) (λ v x. cross E (neg_vector E v) (neg_vector E x) ≐ numeral 0 from (numeral 1, cross E v x ≐ numeral 0) ∷ []) refl (h.parallel, tt);
    same_way = directions.positive_by_plane L [] (v ∷ x ∷ []) (λ v x. dot E (neg_vector E v) (neg_vector E x) ≐ dot E v x) refl h.same_way;
  })
  half_plane_of_opposites {v} {x} (inside p) =
      inside (directions.positive_by_plane L [] (v ∷ x ∷ []) (λ v x. cross E (neg_vector E v) (neg_vector E x) ≐ cross E v x) refl p)

  -- the opposite of the opposite is the vector
  pub half_plane_of_neg-neg : {v x : Vector A} → HalfPlane (neg_vector R (neg_vector R v)) x → HalfPlane v x
  half_plane_of_neg-neg {v} {x} = subst (λ w. HalfPlane w x) (plane.neg_vector-neg L.ring v)

  -- the vector is the opposite of its opposite
  pub half_plane_neg-neg : {v x : Vector A} → HalfPlane v x → HalfPlane (neg_vector R (neg_vector R v)) x
  half_plane_neg-neg {v} {x} = subst (λ w. HalfPlane w x) (sym (plane.neg_vector-neg L.ring v))

  -- what turns out of a half plane turns strictly left
  pub left_of_turn_out : {v x y : Vector A} → HalfPlane v x → HalfPlane (neg_vector R v) y → HalfPlane x y → IsPositive (cross R x y)
  left_of_turn_out hx hy (inside p) = p
  left_of_turn_out hx hy (at_start h) = absurd (half_planes.half_plane_one L (half_planes.half_plane_along L h hx) hy)

  -- what turns out of a half plane is left of its first ray
  pub left_before_turn_out : {v x y : Vector A} → HalfPlane v x → HalfPlane (neg_vector R v) y → HalfPlane x y → IsPositive (cross R v x)
  left_before_turn_out (inside p) hy xy = p
  left_before_turn_out {v} {x} {y} (at_start h) hy xy =
      absurd (half_planes.half_plane_one L (inside (directions.along_cross L y (directions.along_comm L h) (left_of_turn_out (at_start h) hy xy))) hy)

  -- two turns out of a half plane and back into it are more than one turn
  no_turn_over : {v x y z : Vector A} → HalfPlane v x → HalfPlane (neg_vector R v) y → HalfPlane v z → HalfPlane x y → HalfPlane y z → HalfPlane x z → ⊥
  no_turn_over {v} {x} {y} {z} hx hy hz xy yz xz =
      let opposite : HalfPlane v (neg_vector R y) = half_plane_of_neg-neg (half_plane_of_opposites hy) in
      let before : IsPositive (cross R (neg_vector R y) x) =
      directions.positive_by_plane L [] (x ∷ y ∷ []) (λ x y. cross E (neg_vector E y) x ≐ cross E x y) refl (left_of_turn_out hx hy xy) in
      let after : IsPositive (cross R z (neg_vector R y)) =
      directions.positive_by_plane L [] (y ∷ z ∷ []) (λ y z. cross E z (neg_vector E y) ≐ cross E y z) refl (left_of_turn_out hy (half_plane_neg-neg hz) yz) in
      turns.right_not_half_plane L (half_planes.half_plane_trans L hz opposite hx after before) xz

  -- a cut d of the corner between p and n isn't with p in a half plane that n isn't in
  no_cut_over : {v p d n : Vector A} → HalfPlane v p → HalfPlane v d → HalfPlane (neg_vector R v) n → IsPositive (cross R p d)
      → IsPositive (cross R (neg_vector R d) n) → HalfPlane p n → ⊥
  no_cut_over {v} {p} {d} {n} hp hd hn pd dn pn =
      let turned : IsPositive (cross R (neg_vector R p) (neg_vector R d)) =
      directions.positive_by_plane L [] (p ∷ d ∷ []) (λ p d. cross E (neg_vector E p) (neg_vector E d) ≐ cross E p d) refl pd in
      turns.right_not_half_plane L
      (turns.right_of_opposite L (half_planes.half_plane_trans L (half_plane_of_opposites hp) (half_plane_of_opposites hd) hn turned dn)) pn

  module _ {is_ahead : Vector A → Vector A → Bool} (test : DecidesHalfPlanes R IsPositive is_ahead) where
    abbrev rise : Vector A → Vector A → Vector A → Bool
    rise v x y = is_rise R is_ahead v x y

    -- ---- the test of v and of -v

    -- what isn't in the half plane of v is in that of -v
    pub half_plane_of_not_ahead : {v x : Vector A} → v ≢ zero_vector R → x ≢ zero_vector R → is_ahead v x ≡ false → HalfPlane (neg_vector R v) x
    half_plane_of_not_ahead {v} {x} m n e =
        elim (half_planes.half_plane_cases L v x m n) [ inl h ↦ absurd (let f = test.complete v x h in cc) | inr h ↦ h ]

    -- what is in the half plane of -v isn't in that of v
    pub not_ahead_of_half_plane : {v x : Vector A} → HalfPlane (neg_vector R v) x → is_ahead v x ≡ false
    not_ahead_of_half_plane {v} {x} h =
        elim (cases_Bool (is_ahead v x)) [ inl e ↦ absurd (half_planes.half_plane_one L (test.sound v x e) h) | inr e ↦ e ]

    -- the test of -v is the negation of that of v
    pub is_ahead-neg_left : (v x : Vector A) → v ≢ zero_vector R → x ≢ zero_vector R → is_ahead (neg_vector R v) x ≡ not (is_ahead v x)
    is_ahead-neg_left v x m n =
        elim (half_planes.half_plane_cases L v x m n) [
          | inl h ↦ not_ahead_of_half_plane (half_plane_neg-neg h) ∙ sym (ap not (test.complete v x h))
          | inr h ↦ test.complete (neg_vector R v) x h ∙ sym (ap not (not_ahead_of_half_plane h))
        ]

    -- the test of the opposite vector is the negation of that of the vector
    pub is_ahead-neg_right : (v x : Vector A) → v ≢ zero_vector R → x ≢ zero_vector R → is_ahead v (neg_vector R x) ≡ not (is_ahead v x)
    is_ahead-neg_right v x m n =
        elim (half_planes.half_plane_cases L v x m n) [
          | inl h ↦ not_ahead_of_half_plane (half_plane_of_opposites h) ∙ sym (ap not (test.complete v x h))
          | inr h ↦ test.complete v (neg_vector R x) (half_plane_of_neg-neg (half_plane_of_opposites h)) ∙ sym (ap not (not_ahead_of_half_plane h))
        ]

    -- vectors along each other have the same half plane
    pub is_ahead_along : {u v : Vector A} (x : Vector A) → IsAlong R IsPositive u v → is_ahead u x ≡ is_ahead v x
    is_ahead_along {u} {v} x h =
        elim (cases_Bool (is_ahead v x)) [
          | inl e ↦ test.complete u x (turns.half_plane_first_along L h (test.sound v x e)) ∙ sym e
          | inr e ↦
              elim (cases_Bool (is_ahead u x)) [
                | inl f ↦ f ∙ sym (test.complete v x (turns.half_plane_first_along L (directions.along_comm L h) (test.sound u x f)))
                | inr f ↦ f ∙ sym e
              ]
        ]

    -- a corner is a rise where the side before isn't in the half plane of v, and the side after is
    pub is_rise-ahead : (v x y : Vector A) → v ≢ zero_vector R → x ≢ zero_vector R → rise v x y ≡ not (is_ahead v x) && is_ahead v y
    is_rise-ahead v x y m n = ap (λ b. b && is_ahead v y) (is_ahead-neg_left v x m n)

    -- a corner is a rise where the opposite of the side before and the side after are both in the half plane of v
    pub is_rise-opposite_side : (v x y : Vector A) → v ≢ zero_vector R → x ≢ zero_vector R → rise v x y ≡ is_ahead v (neg_vector R x) && is_ahead v y
    is_rise-opposite_side v x y m n = ap (λ b. b && is_ahead v y) (is_ahead-neg_left v x m n ∙ sym (is_ahead-neg_right v x m n))

    -- ---- two corners as one

    -- a turn in two steps rises where one of the steps does
    pub rise_of_two_turns : {v x y z : Vector A} → v ≢ zero_vector R → HalfPlane x y → HalfPlane y z → HalfPlane x z
        → one_if (rise v x z) ≡ one_if (rise v x y) + one_if (rise v y z)
    rise_of_two_turns {v} {x} {y} {z} m xy yz xz =
        let nx = first_ray-ne-zero xy in
        let ny = first_ray-ne-zero yz in
        let nz = half_planes.half_plane-ne-zero L xz in
        let table = turn_table (is_ahead v x) (is_ahead v y) (is_ahead v z)
        (λ a b c. no_turn_over (test.sound v x a) (half_plane_of_not_ahead m ny b) (test.sound v z c) xy yz xz)
        (λ a b c. no_turn_over (half_plane_of_not_ahead m nx a) (half_plane_neg-neg (test.sound v y b)) (half_plane_of_not_ahead m nz c) xy yz xz) in
        ap one_if (is_rise-ahead v x z m nx) ∙ table
        ∙ sym (λ i. one_if (is_rise-ahead v x y m nx i) + one_if (is_rise-ahead v y z m ny i))

    -- a cut d from the corner between p and n: the corners of the two parts rise as the whole corner and the cut
    pub rise_of_cut : {v p d n : Vector A} → v ≢ zero_vector R → HalfPlane p d → HalfPlane (neg_vector R d) n → HalfPlane p n
        → one_if (rise v p n) + one_if (is_ahead v d) ≡ one_if (rise v p d) + one_if (rise v (neg_vector R d) n)
    rise_of_cut {v} {p} {d} {n} m pd dn pn =
        let np = first_ray-ne-zero pd in
        let nd = half_planes.half_plane-ne-zero L pd in
        let nn = half_planes.half_plane-ne-zero L pn in
        let left : IsPositive (cross R p d) =
        directions.positive_by_plane L [] (p ∷ d ∷ []) (λ p d. cross E p d ≐ cross E d (neg_vector E p)) refl (turns.end_left_of_ray L pn dn pd) in
        let right : IsPositive (cross R (neg_vector R d) n) =
        directions.positive_by_plane L [] (d ∷ n ∷ []) (λ d n. cross E (neg_vector E d) n ≐ cross E n d) refl (turns.ray_left_of_start L pn dn pd) in
        let table = cut_table (is_ahead v p) (is_ahead v d) (is_ahead v n)
        (λ a b c. no_cut_over (test.sound v p a) (test.sound v d b) (half_plane_of_not_ahead m nn c) left right pn)
        (λ a b c. no_cut_over (half_plane_of_not_ahead m np a) (half_plane_of_not_ahead m nd b) (half_plane_neg-neg (test.sound v n c)) left right pn) in
        ap (λ b. one_if b + one_if (is_ahead v d)) (is_rise-ahead v p n m np) ∙ table
        ∙ sym (λ i. one_if (is_rise-ahead v p d m np i) + one_if ((is_rise-ahead v (neg_vector R d) n m (neg_vector-ne-zero nd) ∙ ap (λ b. not b && is_ahead v n) (is_ahead-neg_right v d m nd)) i))

    -- ---- one corner from two directions

    -- 1 where x is in the half plane of v and not in that of w, so in the sector from v to w
    abbrev pub in_sector : Vector A → Vector A → Vector A → ℕ
    in_sector v w x = one_if (is_ahead v x && not (is_ahead w x))

    -- a turn that passes v comes into the sector from v to w, and one that passes w leaves it
    pub rise_of_sector : {v w x y : Vector A} → IsPositive (cross R v w) → HalfPlane x y
        → in_sector v w y + one_if (rise w x y) ≡ in_sector v w x + one_if (rise v x y)
    rise_of_sector {v} {w} {x} {y} vw xy =
        let mv = directions.cross_positive-ne-zero_left L vw in
        let mw = directions.cross_positive-ne-zero_right L vw in
        let nx = first_ray-ne-zero xy in
        let ny = half_planes.half_plane-ne-zero L xy in
        let wv : IsPositive (cross R w (neg_vector R v)) = directions.positive_by_plane L [] (v ∷ w ∷ []) (λ v w. cross E w (neg_vector E v) ≐ cross E v w) refl vw in
        let opposite : IsPositive (cross R (neg_vector R v) (neg_vector R w)) = directions.positive_by_plane L [] (v ∷ w ∷ []) (λ v w. cross E (neg_vector E v) (neg_vector E w) ≐ cross E v w) refl vw in
        let last : IsPositive (cross R (neg_vector R w) v) = turns.left_of_opposite L vw in
        let table = sector_table (is_ahead v x) (is_ahead w x) (is_ahead v y) (is_ahead w y)
        (λ a b c d. turns.no_turn_back L vw (test.sound v x a) (half_plane_of_not_ahead mw nx b) (half_plane_of_not_ahead mv ny c) (half_plane_of_not_ahead mw ny d) xy)
        (λ a b c d. turns.no_turn_back L wv (test.sound w x b) (half_plane_neg-neg (test.sound v x a)) (half_plane_of_not_ahead mw ny d) (half_plane_neg-neg (test.sound v y c)) xy)
        (λ a b c d. turns.no_turn_back L opposite (half_plane_of_not_ahead mv nx a) (half_plane_neg-neg (test.sound w x b)) (half_plane_neg-neg (test.sound v y c)) (half_plane_neg-neg (test.sound w y d)) xy)
        (λ a b c d. turns.no_turn_back L last (half_plane_of_not_ahead mw nx b) (half_plane_of_not_ahead mv nx a) (half_plane_neg-neg (test.sound w y d)) (half_plane_of_not_ahead mv ny c) xy) in
        ap (λ b. in_sector v w y + one_if b) (is_rise-ahead w x y mw nx) ∙ table ∙ sym (ap (λ b. in_sector v w x + one_if b) (is_rise-ahead v x y mv nx))

    -- a turn that passes v comes into the half plane of v, and one that passes -v leaves it
    pub rise_of_opposite : {v x y : Vector A} → v ≢ zero_vector R → HalfPlane x y
        → one_if (is_ahead v y) + one_if (rise (neg_vector R v) x y) ≡ one_if (is_ahead v x) + one_if (rise v x y)
    rise_of_opposite {v} {x} {y} m xy =
        let nx = first_ray-ne-zero xy in
        let ny = half_planes.half_plane-ne-zero L xy in
        ap (λ b. one_if (is_ahead v y) + one_if b) (is_rise-ahead (neg_vector R v) x y (neg_vector-ne-zero m) nx ∙ (λ i. not (is_ahead-neg_left v x m nx i) && is_ahead-neg_left v y m ny i))
        ∙ opposite_table (is_ahead v x) (is_ahead v y)
        ∙ sym (ap (λ b. one_if (is_ahead v x) + one_if b) (is_rise-ahead v x y m nx))
