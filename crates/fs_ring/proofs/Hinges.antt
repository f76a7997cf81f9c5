-- The hinge, the two triangles at an edge: a and b are the other two sides of one, c and g those of the other. A library for crates to come.
use Rattle.std.proofs.Common.{◌≡◌, ◌≢◌, [], ◌∷◌, refl, sym, ap, ◌∙◌, subst, inl, inr}
use Rattle.fs_ring.specs.Operations.{Operations}
use Rattle.fs_ring.specs.OrderedRing.{IsOrderedRing, positive, null, negative, IsNonNegative}
use Rattle.fs_ring.specs.Vector.{Vector, zero_vector, add_vector, neg_vector, scale, cross, dot, norm, circle}
use Rattle.fs_ring.proofs.RingLaws as ring
use Rattle.fs_ring.proofs.Signs as signs
use Rattle.fs_ring.proofs.Plane as plane
use Rattle.fs_ring.proofs.Directions as directions
use Rattle.fs_ring.proofs.Solver.{expressions as E, numeral, ◌⊕◌, ◌⊗◌, ◌≐◌, ◌from◌}
use Rattle.fs_ring.proofs.PlaneSolver.{plane_identity, plane_derived, vector_eq}

module _ {A : Type 0} (R : Operations A) where
  open R use {add as ◌+◌, mul as ◌*◌}

  infixl 60 ◌+◌
  infixl 70 ◌*◌
  -- the side that closes a, b and c
  abbrev pub closing : Vector A → Vector A → Vector A → Vector A
  closing a b c = neg_vector R (add_vector R (add_vector R a b) c)

  -- s is cross(a,b), t is cross(c,g), and r is -cross(b,c)
  abbrev total : A → A → A → A
  total s t r = s + t + r

  -- a form in a and b with the determinant `excess`
  abbrev form : A → A → A → Vector A → Vector A → A
  form s t r a b = r * (r + s) * norm R a + (r * total s t r + r * total s t r) * dot R a b + total s t r * (r + t) * norm R b

  abbrev weight : A → A → A → A
  weight s t r = total s t r * (r + t)

  -- what completes the square
  abbrev completed : A → A → A → Vector A → Vector A → Vector A
  completed s t r a b = add_vector R (scale R (r * total s t r) a) (scale R (weight s t r) b)

  abbrev excess : A → A → A → A
  excess s t r = r * total s t r * (s * t)

module _ {A : Type 0} {R : Operations A} {IsPositive : A → Type 0} (L : IsOrderedRing R IsPositive) where
  open R use {add as ◌+◌, mul as ◌*◌, neg}

  infixl 60 ◌+◌
  infixl 70 ◌*◌
  cross-mul-circle : (a b c : Vector A)
      → cross R a b * circle R a b c (closing R a b c) ≡ neg (form R (cross R a b) (cross R c (closing R a b c)) (neg (cross R b c)) a b)
  cross-mul-circle a b c =
      plane_identity L.ring [] (a ∷ b ∷ c ∷ [])
      (λ a b c. cross E a b ⊗ circle E a b c (closing E a b c) ≐ E.neg (form E (cross E a b) (cross E c (closing E a b c)) (E.neg (cross E b c)) a b)) refl

  weight-mul-form : (s t r : A) (a b : Vector A)
      → weight R s t r * form R s t r a b ≡ norm R (completed R s t r a b) + excess R s t r * norm R a
  weight-mul-form s t r a b =
      plane_identity L.ring (s ∷ t ∷ r ∷ []) (a ∷ b ∷ [])
      (λ s t r a b. weight E s t r ⊗ form E s t r a b ≐ E.add (norm E (completed E s t r a b)) (excess E s t r ⊗ norm E a)) refl

  -- the form is positive where r isn't negative and neither vector is zero
  form_positive : (s t r : A) (a b : Vector A) → IsPositive s → IsPositive t → IsNonNegative R IsPositive r → a ≢ zero_vector R → b ≢ zero_vector R
      → IsPositive (form R s t r a b)
  form_positive s t r a b hs ht hr na nb =
      elim (signs.non_negative_cases L r hr) [
        | inl p ↦
            let total_positive : IsPositive (total R s t r) = L.add_positive (L.add_positive hs ht) p in
            let weight_positive : IsPositive (weight R s t r) = L.mul_positive total_positive (L.add_positive p ht) in
            let excess_positive : IsPositive (excess R s t r) = L.mul_positive (L.mul_positive p total_positive) (L.mul_positive hs ht) in
            signs.positive_of_mul_left L weight_positive
            (signs.positive_of_eq L (weight-mul-form s t r a b)
            (signs.add_non_negative_positive L (directions.norm_non_negative L (completed R s t r a b)) (L.mul_positive excess_positive (directions.norm_positive L a na))))
        | inr e ↦
            signs.positive_of_eq L
            (plane_derived L.ring (s ∷ t ∷ r ∷ []) (a ∷ b ∷ [])
            (λ s t r a b. form E s t r a b ≐ (s ⊕ t) ⊗ t ⊗ norm E b
            from (E.add (E.add ((r ⊕ s) ⊗ norm E a) (E.add (total E s t r ⊗ dot E a b) (total E s t r ⊗ dot E a b))) ((r ⊕ s ⊕ t ⊕ t) ⊗ norm E b), r ≐ numeral 0) ∷ []) refl (e, tt))
            (L.mul_positive (L.mul_positive (L.add_positive hs ht) ht) (directions.norm_positive L b nb))
      ]

  -- b turns left into c where the circle value isn't negative
  hinge_left : (a b c : Vector A) → IsPositive (cross R a b) → IsPositive (cross R c (closing R a b c))
      → IsNonNegative R IsPositive (circle R a b c (closing R a b c)) → IsPositive (cross R b c)
  hinge_left a b c ab cg p =
      elim (L.trichotomy (cross R b c)) [
        | positive h ↦ h
        | null e ↦ absurd (not_right (signs.non_negative_of_zero L (ap neg e ∙ ring.neg_zero L.ring)))
        | negative h ↦ absurd (not_right (signs.non_negative_of_positive L h))
      ]
    where
      not_right : IsNonNegative R IsPositive (neg (cross R b c)) → ⊥
      not_right r =
          signs.mul_non_negative L (signs.non_negative_of_positive L ab) p
          (signs.positive_of_eq L (ap neg (cross-mul-circle a b c))
          (signs.neg-neg_positive L
          (form_positive (cross R a b) (cross R c (closing R a b c)) (neg (cross R b c)) a b ab cg r (directions.cross_positive-ne-zero_left L ab) (directions.cross_positive-ne-zero_right L ab))))

  pub closes : (a b c g : Vector A) → add_vector R (add_vector R a b) (add_vector R c g) ≡ zero_vector R → g ≡ closing R a b c
  closes a b c g e =
      vector_eq
      (plane_derived L.ring [] (a ∷ b ∷ c ∷ g ∷ []) (λ a b c g. g.x ≐ (closing E a b c).x from (numeral 1, (add_vector E (add_vector E a b) (add_vector E c g)).x ≐ numeral 0) ∷ []) refl (ap (λ v. v.x) e, tt))
      (plane_derived L.ring [] (a ∷ b ∷ c ∷ g ∷ []) (λ a b c g. g.y ≐ (closing E a b c).y from (numeral 1, (add_vector E (add_vector E a b) (add_vector E c g)).y ≐ numeral 0) ∷ []) refl (ap (λ v. v.y) e, tt))

  turn_left : (a b c g : Vector A) → add_vector R (add_vector R a b) (add_vector R c g) ≡ zero_vector R → IsPositive (cross R a b)
      → IsPositive (cross R c g) → IsNonNegative R IsPositive (circle R a b c g) → IsPositive (cross R b c)
  turn_left a b c g e ab cg p =
      let last = closes a b c g e in
      hinge_left a b c ab (subst (λ v. IsPositive (cross R c v)) last cg) (subst (λ v. IsNonNegative R IsPositive (circle R a b c v)) last p)

  -- the hinge of an edge whose circle value isn't negative is strictly convex: all four corners turn left
  pub hinge_convex-non_negative : (a b c g : Vector A) → add_vector R (add_vector R a b) (add_vector R c g) ≡ zero_vector R → IsPositive (cross R a b)
      → IsPositive (cross R c g) → IsNonNegative R IsPositive (circle R a b c g) → IsPositive (cross R b c) × IsPositive (cross R g a)
  hinge_convex-non_negative a b c g e ab cg p = (
    turn_left a b c g e ab cg p,
    turn_left c g a b (plane.add_vector_comm L.ring (add_vector R c g) (add_vector R a b) ∙ e) cg ab (subst (IsNonNegative R IsPositive) (sym (plane.circle_swap L.ring a b c g)) p),
  )

  -- so is that of an illegal edge, whose circle value is positive
  pub hinge_convex : (a b c g : Vector A) → add_vector R (add_vector R a b) (add_vector R c g) ≡ zero_vector R → IsPositive (cross R a b)
      → IsPositive (cross R c g) → IsPositive (circle R a b c g) → IsPositive (cross R b c) × IsPositive (cross R g a)
  hinge_convex a b c g e ab cg p = hinge_convex-non_negative a b c g e ab cg (signs.non_negative_of_positive L p)
