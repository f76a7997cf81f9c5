-- How a sector is narrowed by one vector more, over an orientation of the plane: counterclockwise or clockwise, so that each fact serves both sides. A library for crates to come.
use Rattle.std.proofs.Common.{◌≡◌, ◌⊎◌, ◌↔◌, Bool, true, false, cond, [], ◌∷◌, true≢false, refl, sym, subst, inl, inr}
use Rattle.fs_ring.specs.Operations.{Operations, sub}
use Rattle.fs_ring.specs.OrderedRing.{IsOrderedRing, positive, null, negative, IsNonNegative}
use Rattle.fs_ring.specs.Vector.{cross}
use Rattle.fs_ring.proofs.Signs as signs
use Rattle.fs_ring.proofs.Plane as plane
use Rattle.fs_ring.proofs.PlaneSolver.{plane_identity}
use Rattle.fs_ring.proofs.Solver.{expressions as E, ◌⊕◌, ◌⊖◌, ◌⊗◌, ◌≐◌, ◌from◌, derived, numeral}

-- a product of vectors with the laws of the cross product, or of the cross product the other way round
pub record IsOrientation {A : Type 0} (R : Operations A) {V : Type 0} (turn : V → V → A) : Type 0 where
  pub swap : (a b : V) → turn b a ≡ R.neg (turn a b)
  pub middle : (w a b c : V) → R.mul (turn w b) (turn a c) ≡ R.add (R.mul (turn w a) (turn b c)) (R.mul (turn w c) (turn a b))

module _ {A : Type 0} {R : Operations A} {IsPositive : A → Type 0} (L : IsOrderedRing R IsPositive) where
  -- the cross product is one
  pub counterclockwise : IsOrientation R (cross R)
  counterclockwise = record { swap = plane.cross_antisymm L.ring; middle = plane.cross-cross_middle L.ring }

  -- so it is the other way round
  pub clockwise : IsOrientation R (λ a b. cross R b a)
  clockwise = record {
    swap = λ a b. plane.cross_antisymm L.ring b a;
    middle = λ w a b c.
        plane_identity L.ring [] (w ∷ a ∷ b ∷ c ∷ []) (λ w a b c. cross E b w ⊗ cross E c a ≐ cross E a w ⊗ cross E c b ⊕ cross E c w ⊗ cross E b a) refl;
  }

module _ {A : Type 0} (R : Operations A) {V : Type 0} (turn : V → V → A) where
  -- positive where x is beyond the line from p to q
  abbrev pub beyond : V → V → V → A
  beyond p q x = sub R (R.add (turn p x) (turn x q)) (turn p q)

module _ {A : Type 0} (R : Operations A) (IsPositive : A → Type 0) {V : Type 0} (turn : V → V → A) where
  -- a and c bound the sector of the vectors between the ends of some crossed half-edges, the last of which has the ends p and q
  pub record IsNarrowed (p q a c : V) : Type 0 where
    pub ends : IsPositive (turn p q)
    pub wide : IsPositive (turn a c)
    pub end_first : IsNonNegative R IsPositive (turn p a)
    pub bound_first : IsNonNegative R IsPositive (turn c q)
    pub end_bound : IsPositive (turn p c)
    pub bound_end : IsPositive (turn a q)

  -- v is between a and c
  pub record IsWithin (a c v : V) : Type 0 where
    pub after : IsPositive (turn a v)
    pub before : IsPositive (turn v c)

  -- beside the bound c the vector d is the new bound e, where that makes the sector smaller
  abbrev pub Chooses : V → V → V → Type 0
  Chooses d c e = (IsPositive (turn d c) × (e ≡ d)) ⊎ (IsNonNegative R IsPositive (turn c d) × (e ≡ c))

module _ {A : Type 0} {R : Operations A} {IsPositive : A → Type 0} (L : IsOrderedRing R IsPositive) {V : Type 0} {turn : V → V → A} (o : IsOrientation R turn) where
  abbrev Left : V → V → Type 0
  Left a b = IsPositive (turn a b)

  -- so a test chooses that tells whether c is to the left of d
  pub choice : (d c : V) (is_left : Bool) → (is_left ≡ true) ↔ Left d c → Chooses R IsPositive turn d c (cond is_left d c)
  choice d c true tells = inl (tells.0 refl, refl)
  choice d c false tells = inr ((λ n. true≢false (sym (tells.1 (signs.positive_of_neg-neg L (subst (λ x. IsPositive (R.neg x)) (o.swap d c) n))))), refl)

  -- no vector is to the right of itself
  pub self_non_negative : (d : V) → IsNonNegative R IsPositive (turn d d)
  self_non_negative d n = signs.not_both_signs L (signs.positive_of_eq L (o.swap d d) n) n

  -- a vector between p and q, and right of a vector d beyond them, has p to its right: so has d
  pub opens : {p q d v : V} → Left p q → IsPositive (beyond R turn p q d) → Left p v → Left v q → Left v d → Left p d
  opens {p} {q} {d} {v} pq b pv vq vd = elim (L.trichotomy (turn p d)) [
    | positive k ↦ k
    | null e ↦ absurd (not_right (λ n. signs.positive-ne-zero L (signs.positive_of_neg-neg L n) e))
    | negative n ↦ absurd (not_right (signs.non_negative_of_positive L n))
  ]
    where
      not_right : ¬ IsNonNegative R IsPositive (R.neg (turn p d))
      not_right n =
          let dq : IsPositive (turn d q) =
          signs.positive_by L (turn p d ∷ turn d q ∷ turn p q ∷ []) (λ pd dq pq. dq ≐ ((pd ⊕ dq ⊖ pq) ⊕ pq) ⊕ E.neg pd) refl
          (signs.add_positive_non_negative L (L.add_positive b pq) n) in
          signs.not_both_signs L (L.mul_positive vd pq)
          (signs.positive_of_eq L
          (derived L.ring (turn v d ∷ turn p q ∷ turn v p ∷ turn d q ∷ turn v q ∷ turn p d ∷ turn p v ∷ [])
          (λ vd pq vp dq vq pd pv. E.neg (vd ⊗ pq) ≐ pv ⊗ dq ⊕ vq ⊗ E.neg pd from (E.neg (numeral 1), vd ⊗ pq ≐ vp ⊗ dq ⊕ vq ⊗ pd) ∷ (E.neg dq, vp ≐ E.neg pv) ∷ []) refl
          (o.middle v p d q, (o.swap p v, tt)))
          (signs.add_positive_non_negative L (L.mul_positive pv dq) (signs.mul_non_negative L (signs.non_negative_of_positive L vq) n)))

  -- the sector is narrowed by d, which takes the place of the end q
  pub narrows : {p q a c d e v : V} → IsNarrowed R IsPositive turn p q a c → IsPositive (beyond R turn p q d) → Left p v → Left v q → Left v d → IsWithin R IsPositive turn a c v
      → Chooses R IsPositive turn d c e → IsNarrowed R IsPositive turn p d a e
  narrows {p} {q} {a} {c} {d} {e} {v} n b pv vq vd w (inl k) =
      let ad : Left a d = signs.positive_of_mul_right L w.before (signs.positive_of_eq L (o.middle a v d c) (L.add_positive (L.mul_positive w.after k.0) (L.mul_positive n.wide vd))) in
      let pd = opens n.ends b pv vq vd in
      subst (λ u. IsNarrowed R IsPositive turn p d a u) (sym k.1)
      (record { ends = pd; wide = ad; end_first = n.end_first; bound_first = self_non_negative d; end_bound = pd; bound_end = ad })
  narrows {p} {q} {a} {c} {d} {e} {v} n b pv vq vd w (inr k) =
      let pd = opens n.ends b pv vq vd in
      let ad : Left a d =
      signs.positive_of_mul_left L n.end_bound
      (signs.positive_of_eq L (o.middle p a c d) (signs.add_non_negative_positive L (signs.mul_non_negative L n.end_first k.0) (L.mul_positive pd n.wide))) in
      subst (λ u. IsNarrowed R IsPositive turn p d a u) (sym k.1)
      (record { ends = pd; wide = n.wide; end_first = n.end_first; bound_first = k.0; end_bound = n.end_bound; bound_end = ad })

  -- what is within the narrowed sector is within the one before
  pub within_before : {p q a c d e v : V} → IsNarrowed R IsPositive turn p q a c → IsNarrowed R IsPositive turn p d a e → Chooses R IsPositive turn d c e → IsWithin R IsPositive turn a e v
      → IsWithin R IsPositive turn a c v
  within_before {p} {q} {a} {c} {d} {e} {v} n m (inl k) w =
      let vd : Left v d = subst (Left v) k.1 w.before in
      record {
        after = w.after;
        before = signs.positive_of_mul_left L m.bound_end
            (signs.positive_of_eq L (o.middle a v d c) (L.add_positive (L.mul_positive w.after k.0) (L.mul_positive n.wide vd)));
      }
  within_before {p} {q} {a} {c} {d} {e} {v} n m (inr k) w = record { after = w.after; before = subst (Left v) k.1 w.before }

  -- a vector within the narrowed sector is on the near side of d
  pub right_of_new : {p q a c d e v : V} → IsNarrowed R IsPositive turn p q a c → Left p d → Chooses R IsPositive turn d c e → IsWithin R IsPositive turn a e v → Left p v → Left v d
  right_of_new {p} {q} {a} {c} {d} {e} {v} n pd (inl k) w pv = subst (Left v) k.1 w.before
  right_of_new {p} {q} {a} {c} {d} {e} {v} n pd (inr k) w pv =
      signs.positive_of_mul_left L n.end_bound
      (signs.positive_of_eq L (o.middle p v c d) (signs.add_non_negative_positive L (signs.mul_non_negative L (signs.non_negative_of_positive L pv) k.0) (L.mul_positive pd (subst (Left v) k.1 w.before))))

  -- and what is within the one before and on the near side of d is within the narrowed one
  pub within_after : {a c d e v : V} → Chooses R IsPositive turn d c e → IsWithin R IsPositive turn a c v → Left v d → IsWithin R IsPositive turn a e v
  within_after {v = v} (inl k) w vd = record { after = w.after; before = subst (Left v) (sym k.1) vd }
  within_after {v = v} (inr k) w vd = record { after = w.after; before = subst (Left v) (sym k.1) w.before }

  -- where v is between the ends of two crossed half-edges after one another, and not on the near side of the second, it is beyond the first
  pub in_order : {p q d v : V} → Left p q → Left p d → Left p v → IsPositive (beyond R turn p q d) → IsNonNegative R IsPositive (beyond R turn p d v) → IsPositive (beyond R turn p q v)
  in_order {p} {q} {d} {v} pq pd pv b n =
      signs.positive_of_mul_left L pd
      (signs.positive_of_eq L
      (derived L.ring (turn p d ∷ turn v q ∷ turn p q ∷ turn v d ∷ turn p v ∷ turn d q ∷ [])
      (λ pd vq pq vd pv dq. pd ⊗ (pv ⊕ vq ⊖ pq) ≐ pq ⊗ (pv ⊕ vd ⊖ pd) ⊕ pv ⊗ (pd ⊕ dq ⊖ pq) from (numeral 1, pd ⊗ vq ≐ pv ⊗ dq ⊕ pq ⊗ vd) ∷ []) refl
      (o.middle p v d q, tt))
      (signs.add_non_negative_positive L (signs.mul_non_negative L (signs.non_negative_of_positive L pq) n) (L.mul_positive pv b)))
