-- Lengths and directions of vectors over an ordered ring: a library for crates to come.
use Rattle.std.proofs.Common.{◌≡◌, ◌≢◌, ◌⊎◌, true, List, [], ◌∷◌, refl, ap, ◌∙◌, inl, inr}
use Rattle.fs_ring.specs.Operations.{Operations, square}
use Rattle.fs_ring.specs.OrderedRing.{IsOrderedRing, Sign, positive, null, negative, IsAtMost, IsNonNegative}
use Rattle.fs_ring.specs.Vector.{Vector, zero_vector, add_vector, scale, cross, dot, norm}
use Rattle.fs_ring.specs.Direction.{IsAlong, Turn, left, right, along, opposite}
use Rattle.fs_ring.proofs.Signs as signs
use Rattle.fs_ring.proofs.Plane as plane
use Rattle.fs_ring.proofs.Solver.{Equation, is_identity, evaluate, expressions as E, numeral, ◌⊕◌, ◌⊖◌, ◌⊗◌, ◌≐◌, ◌from◌}
use Rattle.fs_ring.proofs.PlaneSolver.{OverPlane, at_plane, elements, plane_derived, by_plane_identity, vector_eq}

module _ {A : Type 0} {R : Operations A} {IsPositive : A → Type 0} (L : IsOrderedRing R IsPositive) where
  open R use {add as ◌+◌, mul as ◌*◌, neg, zero as 𝟘}

  infixl 60 ◌+◌
  infixl 70 ◌*◌
  -- what equals a positive element by an identity over vectors is positive
  pub positive_by_plane : (xs : List A) (vs : List (Vector A)) (f : OverPlane xs vs Equation) → is_identity (at_plane 0 xs vs f) ≡ true
      → IsPositive (evaluate R (elements xs vs) (at_plane 0 xs vs f).right)
      → IsPositive (evaluate R (elements xs vs) (at_plane 0 xs vs f).left)
  positive_by_plane = by_plane_identity L.ring IsPositive

  -- ---- lengths

  pub norm_non_negative : (a : Vector A) → IsNonNegative R IsPositive (norm R a)
  norm_non_negative a = signs.add_non_negative L (signs.square_non_negative L a.x) (signs.square_non_negative L a.y)

  -- a vector of norm zero is zero
  pub zero_of_norm-zero : (a : Vector A) → norm R a ≡ 𝟘 → a ≡ zero_vector R
  zero_of_norm-zero a h =
      let zeros = signs.zero_of_squares-zero L {x = a.x} {y = a.y} h in
      vector_eq zeros.0 zeros.1

  pub norm_positive : (a : Vector A) → a ≢ zero_vector R → IsPositive (norm R a)
  norm_positive a h =
      elim (signs.non_negative_cases L (norm R a) (norm_non_negative a)) [ inl p ↦ p | inr e ↦ absurd (h (zero_of_norm-zero a e)) ]

  pub zero_or_norm_positive : (a : Vector A) → (a ≡ zero_vector R) ⊎ IsPositive (norm R a)
  zero_or_norm_positive a =
      elim (signs.non_negative_cases L (norm R a) (norm_non_negative a)) [ inl p ↦ inr p | inr e ↦ inl (zero_of_norm-zero a e) ]

  -- the inequality of Cauchy and Schwarz
  pub square-dot_at_most : (a b : Vector A) → IsAtMost R IsPositive (square R (dot R a b)) (norm R a * norm R b)
  square-dot_at_most a b h =
      signs.square_non_negative L (cross R a b)
      (positive_by_plane [] (a ∷ b ∷ []) (λ a b. E.neg (square E (cross E a b)) ≐ square E (dot E a b) ⊖ norm E a ⊗ norm E b) refl h)

  pub cross_positive-ne-zero_left : {a b : Vector A} → IsPositive (cross R a b) → a ≢ zero_vector R
  cross_positive-ne-zero_left {a} {b} p e = signs.positive-ne-zero L p (ap (λ v. cross R v b) e ∙ plane.cross-zero_left L.ring b)

  pub cross_positive-ne-zero_right : {a b : Vector A} → IsPositive (cross R a b) → b ≢ zero_vector R
  cross_positive-ne-zero_right {a} {b} p e = signs.positive-ne-zero L p (ap (λ v. cross R a v) e ∙ plane.cross-zero_right L.ring a)

  pub dot_positive-ne-zero_left : {a b : Vector A} → IsPositive (dot R a b) → a ≢ zero_vector R
  dot_positive-ne-zero_left {a} {b} p e = signs.positive-ne-zero L p (ap (λ v. dot R v b) e ∙ plane.dot-zero_left L.ring b)

  pub dot_positive-ne-zero_right : {a b : Vector A} → IsPositive (dot R a b) → b ≢ zero_vector R
  dot_positive-ne-zero_right {a} {b} p e = signs.positive-ne-zero L p (ap (λ v. dot R a v) e ∙ plane.dot-zero_right L.ring a)

  -- the cross product the other way round
  pub cross_negative : (a b : Vector A) → IsPositive (cross R b a) → IsPositive (neg (cross R a b))
  cross_negative a b = positive_by_plane [] (a ∷ b ∷ []) (λ a b. E.neg (cross E a b) ≐ cross E b a) refl

  pub cross_positive : (a b : Vector A) → IsPositive (neg (cross R a b)) → IsPositive (cross R b a)
  cross_positive a b = positive_by_plane [] (a ∷ b ∷ []) (λ a b. cross E b a ≐ E.neg (cross E a b)) refl

  -- ---- parallel vectors

  -- of two vectors that are parallel and at a right angle one is zero
  pub zero_of_cross_dot-zero : (a b : Vector A) → cross R a b ≡ 𝟘 → dot R a b ≡ 𝟘 → (a ≡ zero_vector R) ⊎ (b ≡ zero_vector R)
  zero_of_cross_dot-zero a b h k =
      let product : norm R a * norm R b ≡ 𝟘 =
      plane_derived L.ring [] (a ∷ b ∷ [])
      (λ a b. norm E a ⊗ norm E b ≐ numeral 0 from (cross E a b, cross E a b ≐ numeral 0) ∷ (dot E a b, dot E a b ≐ numeral 0) ∷ []) refl (h, (k, tt)) in
      elim (signs.no_zero_divisors L (norm R a) (norm R b) product) [ inl e ↦ inl (zero_of_norm-zero a e) | inr e ↦ inr (zero_of_norm-zero b e) ]

  -- of two parallel vectors each is a multiple of the other, but for a factor
  pub scale_parallel : (a b : Vector A) → cross R a b ≡ 𝟘 → scale R (norm R a) b ≡ scale R (dot R a b) a
  scale_parallel a b h =
      vector_eq
      (plane_derived L.ring [] (a ∷ b ∷ []) (λ a b. norm E a ⊗ b.x ≐ dot E a b ⊗ a.x from (E.neg a.y, cross E a b ≐ numeral 0) ∷ []) refl (h, tt))
      (plane_derived L.ring [] (a ∷ b ∷ []) (λ a b. norm E a ⊗ b.y ≐ dot E a b ⊗ a.y from (a.x, cross E a b ≐ numeral 0) ∷ []) refl (h, tt))

  pub parallel_comm : (a b : Vector A) → cross R a b ≡ 𝟘 → cross R b a ≡ 𝟘
  parallel_comm a b h =
      plane_derived L.ring [] (a ∷ b ∷ []) (λ a b. cross E b a ≐ numeral 0 from (E.neg (numeral 1), cross E a b ≐ numeral 0) ∷ []) refl (h, tt)

  pub parallel_trans : (a b c : Vector A) → b ≢ zero_vector R → cross R a b ≡ 𝟘 → cross R b c ≡ 𝟘 → cross R a c ≡ 𝟘
  parallel_trans a b c n h k =
      signs.zero_of_mul_left L (signs.positive-ne-zero L (norm_positive b n))
      (plane_derived L.ring [] (a ∷ b ∷ c ∷ [])
      (λ a b c. norm E b ⊗ cross E a c ≐ numeral 0 from (dot E b c, cross E a b ≐ numeral 0) ∷ (dot E a b, cross E b c ≐ numeral 0) ∷ []) refl (h, (k, tt)))

  -- ---- vectors of one direction

  pub along_self : (a : Vector A) → a ≢ zero_vector R → IsAlong R IsPositive a a
  along_self a n = record { parallel = plane.cross_self L.ring a; same_way = norm_positive a n }

  pub along_comm : {a b : Vector A} → IsAlong R IsPositive a b → IsAlong R IsPositive b a
  along_comm {a} {b} h = record { parallel = parallel_comm a b h.parallel; same_way = signs.positive_of_eq L (plane.dot_comm L.ring b a) h.same_way }

  -- they have the same vectors to their left
  pub along_cross : {a b : Vector A} (c : Vector A) → IsAlong R IsPositive a b → IsPositive (cross R a c) → IsPositive (cross R b c)
  along_cross {a} {b} c h p =
      signs.positive_of_mul_left L (norm_positive a (cross_positive-ne-zero_left p))
      (signs.positive_of_eq L
      (plane_derived L.ring [] (a ∷ b ∷ c ∷ [])
      (λ a b c. norm E a ⊗ cross E b c ≐ dot E a b ⊗ cross E a c from (E.neg (dot E a c), cross E a b ≐ numeral 0) ∷ []) refl (h.parallel, tt))
      (L.mul_positive h.same_way p))

  -- and to their right
  pub along_cross_right : {a b : Vector A} (c : Vector A) → IsAlong R IsPositive a b → IsPositive (cross R c a) → IsPositive (cross R c b)
  along_cross_right {a} {b} c h p =
      signs.positive_of_mul_left L (norm_positive a (cross_positive-ne-zero_right p))
      (signs.positive_of_eq L
      (plane_derived L.ring [] (a ∷ b ∷ c ∷ [])
      (λ a b c. norm E a ⊗ cross E c b ≐ dot E a b ⊗ cross E c a from (dot E a c, cross E a b ≐ numeral 0) ∷ []) refl (h.parallel, tt))
      (L.mul_positive h.same_way p))

  -- they make acute angles with the same vectors
  pub along_dot : {a b : Vector A} (c : Vector A) → IsAlong R IsPositive a b → IsPositive (dot R a c) → IsPositive (dot R b c)
  along_dot {a} {b} c h p =
      signs.positive_of_mul_left L (norm_positive a (dot_positive-ne-zero_left p))
      (signs.positive_of_eq L
      (plane_derived L.ring [] (a ∷ b ∷ c ∷ [])
      (λ a b c. norm E a ⊗ dot E b c ≐ dot E a b ⊗ dot E a c from (cross E a c, cross E a b ≐ numeral 0) ∷ []) refl (h.parallel, tt))
      (L.mul_positive h.same_way p))

  pub along_trans : {a b c : Vector A} → IsAlong R IsPositive a b → IsAlong R IsPositive b c → IsAlong R IsPositive a c
  along_trans {a} {b} {c} h k = record {
    parallel = parallel_trans a b c (dot_positive-ne-zero_left k.same_way) h.parallel k.parallel;
    same_way = along_dot c (along_comm h) k.same_way;
  }

  -- ---- left, right, along, opposite

  pub turn : (a b : Vector A) → a ≢ zero_vector R → b ≢ zero_vector R → Turn R IsPositive a b
  turn a b m n = go (L.trichotomy (cross R a b)) (L.trichotomy (dot R a b))
    where
      go : Sign R IsPositive (cross R a b) → Sign R IsPositive (dot R a b) → Turn R IsPositive a b
      go (positive p) s = left p
      go (negative p) s = right (cross_positive a b p)
      go (null e) (positive p) = along (record { parallel = e; same_way = p })
      go (null e) (negative p) = opposite e p
      go (null e) (null f) = absurd (elim (zero_of_cross_dot-zero a b e f) [ inl z ↦ m z | inr z ↦ n z ])

  -- 'left of' is transitive on one side of a line: w is along the line, and b is strictly to the left of w
  pub cross_trans : (w a b c : Vector A) → IsNonNegative R IsPositive (cross R w a) → IsPositive (cross R w b) → IsPositive (cross R w c)
      → IsPositive (cross R a b) → IsPositive (cross R b c) → IsPositive (cross R a c)
  cross_trans w a b c wa wb wc ab bc =
      signs.positive_of_mul_left L wb
      (signs.positive_of_eq L (plane.cross-cross_middle L.ring w a b c)
      (signs.add_non_negative_positive L (signs.mul_non_negative L wa (signs.non_negative_of_positive L bc)) (L.mul_positive wc ab)))

  -- so is 'left of or along'
  pub cross_non_negative_trans : (w a b c : Vector A) → IsNonNegative R IsPositive (cross R w a) → IsPositive (cross R w b)
      → IsNonNegative R IsPositive (cross R w c) → IsNonNegative R IsPositive (cross R a b) → IsNonNegative R IsPositive (cross R b c)
      → IsNonNegative R IsPositive (cross R a c)
  cross_non_negative_trans w a b c wa wb wc ab bc n =
      signs.add_non_negative L (signs.mul_non_negative L wa bc) (signs.mul_non_negative L wc ab)
      (positive_by_plane [] (w ∷ a ∷ b ∷ c ∷ [])
      (λ w a b c. E.neg (cross E w a ⊗ cross E b c ⊕ cross E w c ⊗ cross E a b) ≐ cross E w b ⊗ E.neg (cross E a c)) refl (L.mul_positive wb n))

  -- ---- between two directions, less than half a turn apart

  -- what has both to its left has the vector between them to its left
  pub between_cross : (w a b c : Vector A) → IsPositive (cross R a b) → IsPositive (cross R b c) → IsPositive (cross R a c)
      → IsPositive (cross R w a) → IsPositive (cross R w c) → IsPositive (cross R w b)
  between_cross w a b c ab bc ac wa wc =
      signs.positive_of_mul_right L ac
      (signs.positive_of_eq L (plane.cross-cross_middle L.ring w a b c) (L.add_positive (L.mul_positive wa bc) (L.mul_positive wc ab)))

  -- what makes an acute angle with both makes one with the vector between them
  pub between_dot : (w a b c : Vector A) → IsPositive (cross R a b) → IsPositive (cross R b c) → IsPositive (cross R a c)
      → IsPositive (dot R w a) → IsPositive (dot R w c) → IsPositive (dot R w b)
  between_dot w a b c ab bc ac wa wc =
      signs.positive_of_mul_right L ac
      (signs.positive_of_eq L (plane.dot-cross_middle L.ring w a b c) (L.add_positive (L.mul_positive wa bc) (L.mul_positive wc ab)))

  -- a positive combination of two vectors is between them
  pub between_of_combination : (s t : A) (a c : Vector A) → IsPositive s → IsPositive t → IsPositive (cross R a c)
      → IsPositive (cross R a (add_vector R (scale R s a) (scale R t c))) × IsPositive (cross R (add_vector R (scale R s a) (scale R t c)) c)
  between_of_combination s t a c p q h = (
    positive_by_plane (s ∷ t ∷ []) (a ∷ c ∷ []) (λ s t a c. cross E a (add_vector E (scale E s a) (scale E t c)) ≐ t ⊗ cross E a c) refl (L.mul_positive q h),
    positive_by_plane (s ∷ t ∷ []) (a ∷ c ∷ []) (λ s t a c. cross E (add_vector E (scale E s a) (scale E t c)) c ≐ s ⊗ cross E a c) refl (L.mul_positive p h),
  )

  pub cross-add_self_right : (a b : Vector A) → IsPositive (cross R a b) → IsPositive (cross R a (add_vector R a b))
  cross-add_self_right a b = positive_by_plane [] (a ∷ b ∷ []) (λ a b. cross E a (add_vector E a b) ≐ cross E a b) refl

  pub cross-add_self_left : (a b : Vector A) → IsPositive (cross R a b) → IsPositive (cross R (add_vector R a b) b)
  cross-add_self_left a b = positive_by_plane [] (a ∷ b ∷ []) (λ a b. cross E (add_vector E a b) b ≐ cross E a b) refl

  -- what is between a and b is right of c too, where b is between a and c
  pub between_trans : (a e b c : Vector A) → IsPositive (cross R a e) → IsPositive (cross R e b) → IsPositive (cross R a b)
      → IsPositive (cross R b c) → IsPositive (cross R a c) → IsPositive (cross R e c)
  between_trans a e b c ae eb ab bc ac = cross_trans a e b c (signs.non_negative_of_positive L ae) ab ac eb bc
