-- A line across the polygons that a flow passes through, taken in each by the positions of the polygon's corners. A library for crates to come.
use Rattle.std.proofs.Common.{◌≡◌, [], ◌∷◌, refl, sym, ◌∙◌, subst}
use Rattle.fs_ring.specs.Operations.{Operations, sub as minus}
use Rattle.fs_ring.specs.OrderedRing.{IsOrderedRing, IsNonNegative}
use Rattle.fs_ring.specs.Vector.{Vector, zero_vector, add_vector, neg_vector, sub_vector, scale, cross}
use Rattle.fs_ring.proofs.Solver.{expressions as E, numeral, ◌⊕◌, ◌⊖◌, ◌⊗◌, ◌≐◌, ◌from◌}
use Rattle.fs_ring.proofs.PlaneSolver.{plane_identity, plane_derived, vector_identity, ◌≐ᵥ◌}

module _ {A : Type 0} {R : Operations A} {IsPositive : A → Type 0} (L : IsOrderedRing R IsPositive) where
  open R use {add as ◌+◌, mul as ◌*◌, neg, zero as 𝟘}

  infixl 60 ◌+◌ ◌-◌
  infixl 70 ◌*◌
  abbrev ◌-◌ : A → A → A
  a - b = minus R a b

  -- how far right of the line through o, which is at t, a corner at p is, of measure b + (cross p v - l), times k
  pub corner_from_right : (k t b l : A) (p o v : Vector A) → cross R o v ≡ k * (t - (b - l)) → cross R (sub_vector R (scale R k p) o) v ≡ k * (b + (cross R p v - l) - t)
  corner_from_right k t b l p o v e =
      plane_derived L.ring (k ∷ t ∷ b ∷ l ∷ []) (p ∷ o ∷ v ∷ [])
      (λ k t b l p o v. cross E (sub_vector E (scale E k p) o) v ≐ k ⊗ ((b ⊕ (cross E p v ⊖ l)) ⊖ t) from (E.neg (numeral 1), cross E o v ≐ k ⊗ (t ⊖ (b ⊖ l))) ∷ []) refl (e, tt)

  -- and how far left
  pub corner_from_left : (k t b l : A) (p o v : Vector A) → cross R o v ≡ k * (t - (b - l)) → cross R v (sub_vector R (scale R k p) o) ≡ k * (t - (b + (cross R p v - l)))
  corner_from_left k t b l p o v e =
      plane_derived L.ring (k ∷ t ∷ b ∷ l ∷ []) (p ∷ o ∷ v ∷ [])
      (λ k t b l p o v. cross E v (sub_vector E (scale E k p) o) ≐ k ⊗ (t ⊖ (b ⊕ (cross E p v ⊖ l))) from (numeral 1, cross E o v ≐ k ⊗ (t ⊖ (b ⊖ l))) ∷ []) refl (e, tt)

  -- what isn't right of the next polygon's first side isn't before the side that is crossed to it
  pub beyond_of_next : (k : A) (side right left next next_side g u : Vector A) → left ≡ add_vector R right side → g ≡ sub_vector R left next → next_side ≡ neg_vector R side
      → IsNonNegative R IsPositive (cross R next_side (sub_vector R (sub_vector R u (scale R k g)) (scale R k next)))
      → IsNonNegative R IsPositive (neg (cross R (sub_vector R left right) (sub_vector R u (scale R k right))))
  beyond_of_next k side right left next next_side g u on put opposite =
      subst (IsNonNegative R IsPositive)
      ((λ i. cross R (opposite i) (sub_vector R (sub_vector R u (scale R k (put i))) (scale R k next)))
      ∙ (λ i. cross R (neg_vector R side) (sub_vector R (sub_vector R u (scale R k (sub_vector R (on i) next))) (scale R k next)))
      ∙ plane_identity L.ring (k ∷ []) (side ∷ right ∷ next ∷ u ∷ [])
      (λ k s r n u.
      cross E (neg_vector E s) (sub_vector E (sub_vector E u (scale E k (sub_vector E (add_vector E r s) n))) (scale E k n))
      ≐ E.neg (cross E (sub_vector E (add_vector E r s) r) (sub_vector E u (scale E k r)))) refl
      ∙ (λ i. neg (cross R (sub_vector R (sym on i) right) (sub_vector R u (scale R k right)))))

  -- ---- the line in the next polygon

  -- put back by g, times k, u is on the line as before
  pub still_on_line : (k : A) (u o g v : Vector A) → cross R (sub_vector R u o) v ≡ 𝟘 → cross R (sub_vector R (sub_vector R u (scale R k g)) (sub_vector R o (scale R k g))) v ≡ 𝟘
  still_on_line k u o g v e =
      plane_derived L.ring (k ∷ []) (u ∷ o ∷ g ∷ v ∷ [])
      (λ k u o g v. cross E (sub_vector E (sub_vector E u (scale E k g)) (sub_vector E o (scale E k g))) v ≐ numeral 0 from (numeral 1, cross E (sub_vector E u o) v ≐ numeral 0) ∷ []) refl (e, tt)

  -- the line that is put back so is at the position of the next polygon
  pub next_line : (k q z a b t : A) (o g v : Vector A) → cross R o v ≡ k * (q + t - a) → cross R g v ≡ (q - a) - (z - b) → cross R (sub_vector R o (scale R k g)) v ≡ k * (z + t - b)
  next_line k q z a b t o g v line step =
      plane_derived L.ring (k ∷ q ∷ z ∷ a ∷ b ∷ t ∷ []) (o ∷ g ∷ v ∷ [])
      (λ k q z a b t o g v. cross E (sub_vector E o (scale E k g)) v ≐ k ⊗ ((z ⊕ t) ⊖ b)
      from (numeral 1, cross E o v ≐ k ⊗ ((q ⊕ t) ⊖ a)) ∷ (E.neg k, cross E g v ≐ (q ⊖ a) ⊖ (z ⊖ b)) ∷ []) refl (line, (step, tt))

  -- put back twice, and put back by zero
  pub shift_shift : (k : A) (u g r : Vector A) → sub_vector R (sub_vector R u (scale R k g)) (scale R k r) ≡ sub_vector R u (scale R k (add_vector R g r))
  shift_shift k u g r =
      vector_identity L.ring (k ∷ []) (u ∷ g ∷ r ∷ [])
      (λ k u g r. sub_vector E (sub_vector E u (scale E k g)) (scale E k r) ≐ᵥ sub_vector E u (scale E k (add_vector E g r))) refl

  pub shift_none : (k : A) (u : Vector A) → sub_vector R u (scale R k (zero_vector R)) ≡ u
  shift_none k u = vector_identity L.ring (k ∷ []) (u ∷ []) (λ k u. sub_vector E u (scale E k (zero_vector E)) ≐ᵥ u) refl

  -- ---- a point of the line on the first side

  -- on the side e from p, times k
  abbrev pub on_side : A → A → Vector A → Vector A → Vector A
  on_side k c p e = add_vector R (scale R k p) (scale R c e)

  -- it is on the line of e
  pub on_side_parallel : (k c : A) (p e : Vector A) → cross R e (sub_vector R (on_side k c p e) (scale R k p)) ≡ 𝟘
  on_side_parallel k c p e =
      plane_identity L.ring (k ∷ c ∷ []) (p ∷ e ∷ [])
      (λ k c p e. cross E e (sub_vector E (add_vector E (scale E k p) (scale E c e)) (scale E k p)) ≐ numeral 0) refl

  -- and on the line along v at t, where k is the width of e
  pub on_side_line : (t b l : A) (p e v : Vector A) → cross R (on_side (cross R e v) (t - (b + (cross R p v - l))) p e) v ≡ cross R e v * (t - (b - l))
  on_side_line t b l p e v =
      plane_identity L.ring (t ∷ b ∷ l ∷ []) (p ∷ e ∷ v ∷ [])
      (λ t b l p e v. cross E (add_vector E (scale E (cross E e v) p) (scale E (t ⊖ (b ⊕ (cross E p v ⊖ l))) e)) v ≐ cross E e v ⊗ (t ⊖ (b ⊖ l))) refl

  -- and what is further by h, times k
  pub on_side_further : (k c : A) (p e h : Vector A) → cross R e (sub_vector R (add_vector R (on_side k c p e) (scale R k h)) (scale R k p)) ≡ k * cross R e h
  on_side_further k c p e h =
      plane_identity L.ring (k ∷ c ∷ []) (p ∷ e ∷ h ∷ [])
      (λ k c p e h. cross E e (sub_vector E (add_vector E (add_vector E (scale E k p) (scale E c e)) (scale E k h)) (scale E k p)) ≐ k ⊗ cross E e h) refl

  -- this is on the line of v, where h is parallel to v
  pub further_on_line : (k : A) (o h v : Vector A) → cross R h v ≡ 𝟘 → cross R (sub_vector R (add_vector R o (scale R k h)) o) v ≡ 𝟘
  further_on_line k o h v e =
      plane_derived L.ring (k ∷ []) (o ∷ h ∷ v ∷ [])
      (λ k o h v. cross E (sub_vector E (add_vector E o (scale E k h)) o) v ≐ numeral 0 from (k, cross E h v ≐ numeral 0) ∷ []) refl (e, tt)

  -- put back by h, it is where it was
  pub back_to_side : (k : A) (o h : Vector A) → sub_vector R (add_vector R o (scale R k h)) (scale R k h) ≡ o
  back_to_side k o h = vector_identity L.ring (k ∷ []) (o ∷ h ∷ []) (λ k o h. sub_vector E (add_vector E o (scale E k h)) (scale E k h) ≐ᵥ o) refl
