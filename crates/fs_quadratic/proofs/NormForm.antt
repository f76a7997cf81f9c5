-- The form p² - d·q² of a pair p + q·√d over an ordered ring: it tells which part leads, and with it the sign of the pair.
use Rattle.std.proofs.Common.{◌≡◌, ◌≢◌, ◌⊎◌, [], ◌∷◌, refl, ap, subst, inl, inr}
use Rattle.fs_ring.specs.Operations.{Operations, sub, square}
use Rattle.fs_ring.specs.OrderedRing.{IsOrderedRing, Sign, positive, null, negative, IsNonNegative}
use Rattle.fs_ring.proofs.RingLaws as ring
use Rattle.fs_ring.proofs.Signs as signs
use Rattle.fs_ring.proofs.Solver.{expressions as E, numeral, ◌⊕◌, ◌⊖◌, ◌⊗◌, ◌≐◌, ◌from◌, identity, derived}

module _ {A : Type 0} (R : Operations A) (d : A) where
  -- (p + q·√d)·(p - q·√d)
  abbrev pub norm_form : A → A → A
  norm_form p q = sub R (square R p) (R.mul d (square R q))

  -- p + q·√d is above 0, by the part that leads
  pub data IsAbove (IsPositive : A → Type 0) (p q : A) : Type 0 where
    p_leads : IsPositive (norm_form p q) → IsPositive p → IsAbove IsPositive p q
    q_leads : IsPositive (R.neg (norm_form p q)) → IsPositive q → IsAbove IsPositive p q

module _ {A : Type 0} {R : Operations A} {IsPositive : A → Type 0} (L : IsOrderedRing R IsPositive) where
  open R use {add as ◌+◌, mul as ◌*◌, neg, zero as 𝟘}

  infixl 60 ◌+◌ ◌-◌
  infixl 70 ◌*◌
  abbrev ◌-◌ : A → A → A
  x - y = sub R x y

  -- the form of a product is the product of the forms
  pub norm_form-mul : (d p q r s : A) → norm_form R d (p * r + d * (q * s)) (p * s + q * r) ≡ norm_form R d p q * norm_form R d r s
  norm_form-mul d p q r s =
      identity L.ring (d ∷ p ∷ q ∷ r ∷ s ∷ [])
      (λ d p q r s. norm_form E d (p ⊗ r ⊕ d ⊗ (q ⊗ s)) (p ⊗ s ⊕ q ⊗ r) ≐ norm_form E d p q ⊗ norm_form E d r s) refl

  -- a positive element with the larger square stays positive when the other is added
  pub add_positive_of_squares : {a b : A} → IsPositive a → IsPositive (square R a - square R b) → IsPositive (a + b)
  add_positive_of_squares {a} {b} p h =
      elim (signs.mul_positive_cases L (a - b) (a + b) (signs.positive_by L (a ∷ b ∷ []) (λ a b. (a ⊖ b) ⊗ (a ⊕ b) ≐ square E a ⊖ square E b) refl h)) [
        | inl c ↦ c.1
        | inr c ↦ absurd (signs.not_both_signs L (L.add_positive p p)
            (signs.positive_by L (a ∷ b ∷ []) (λ a b. E.neg (a ⊕ a) ≐ E.neg (a ⊖ b) ⊕ E.neg (a ⊕ b)) refl (L.add_positive c.0 c.1)))
      ]

  module _ (d : A) (d_positive : IsPositive d) where
    abbrev Form : A → A → A
    Form p q = norm_form R d p q

    square_times : (x : A) → IsNonNegative R IsPositive (d * square R x)
    square_times x = signs.mul_non_negative L (signs.non_negative_of_positive L d_positive) (signs.square_non_negative L x)

    -- ---- the parts of a product, by the parts that lead

    p_leads_p : (p q r s : A) → IsPositive (Form p q) → IsPositive p → IsPositive (Form r s) → IsPositive r
        → IsPositive (p * r + d * (q * s))
    p_leads_p p q r s f hp g hr =
        add_positive_of_squares (L.mul_positive hp hr)
        (signs.positive_by L (d ∷ p ∷ q ∷ r ∷ s ∷ [])
        (λ d p q r s. square E (p ⊗ r) ⊖ square E (d ⊗ (q ⊗ s)) ≐ norm_form E d p q ⊗ square E r ⊕ (d ⊗ square E q) ⊗ norm_form E d r s) refl
        (signs.add_positive_non_negative L (L.mul_positive f (L.mul_positive hr hr)) (signs.mul_non_negative L (square_times q) (signs.non_negative_of_positive L g))))

    q_leads_q : (p q r s : A) → IsPositive (neg (Form p q)) → IsPositive q → IsPositive (neg (Form r s)) → IsPositive s
        → IsPositive (d * (q * s) + p * r)
    q_leads_q p q r s f hq g hs =
        add_positive_of_squares (L.mul_positive d_positive (L.mul_positive hq hs))
        (signs.positive_by L (d ∷ p ∷ q ∷ r ∷ s ∷ [])
        (λ d p q r s. square E (d ⊗ (q ⊗ s)) ⊖ square E (p ⊗ r) ≐ (d ⊗ square E q) ⊗ E.neg (norm_form E d r s) ⊕ square E r ⊗ E.neg (norm_form E d p q)) refl
        (signs.add_positive_non_negative L (L.mul_positive (L.mul_positive d_positive (L.mul_positive hq hq)) g) (signs.mul_non_negative L (signs.square_non_negative L r) (signs.non_negative_of_positive L f))))

    p_leads_q : (p q r s : A) → IsPositive (Form p q) → IsPositive p → IsPositive (neg (Form r s)) → IsPositive s
        → IsPositive (p * s + q * r)
    p_leads_q p q r s f hp g hs =
        add_positive_of_squares (L.mul_positive hp hs)
        (signs.positive_by L (d ∷ p ∷ q ∷ r ∷ s ∷ [])
        (λ d p q r s. square E (p ⊗ s) ⊖ square E (q ⊗ r) ≐ norm_form E d p q ⊗ square E s ⊕ square E q ⊗ E.neg (norm_form E d r s)) refl
        (signs.add_positive_non_negative L (L.mul_positive f (L.mul_positive hs hs)) (signs.mul_non_negative L (signs.square_non_negative L q) (signs.non_negative_of_positive L g))))

    pub above_mul : {p q r s : A} → IsAbove R d IsPositive p q → IsAbove R d IsPositive r s
        → IsAbove R d IsPositive (p * r + d * (q * s)) (p * s + q * r)
    above_mul {p} {q} {r} {s} (p_leads f h) (p_leads g k) =
        p_leads (signs.positive_of_eq L (norm_form-mul d p q r s) (L.mul_positive f g)) (p_leads_p p q r s f h g k)
    above_mul {p} {q} {r} {s} (p_leads f h) (q_leads g k) =
        q_leads (signs.positive_of_eq L (ap neg (norm_form-mul d p q r s)) (signs.mul_positive_negative L f g)) (p_leads_q p q r s f h g k)
    above_mul {p} {q} {r} {s} (q_leads f h) (p_leads g k) =
        q_leads (signs.positive_of_eq L (ap neg (norm_form-mul d p q r s)) (signs.mul_negative_positive L f g))
        (signs.positive_by L (p ∷ q ∷ r ∷ s ∷ []) (λ p q r s. p ⊗ s ⊕ q ⊗ r ≐ r ⊗ q ⊕ s ⊗ p) refl (p_leads_q r s p q g k f h))
    above_mul {p} {q} {r} {s} (q_leads f h) (q_leads g k) =
        p_leads (signs.positive_of_eq L (norm_form-mul d p q r s) (signs.mul_negative_negative L f g))
        (signs.positive_of_eq L (L.add_comm (p * r) (d * (q * s))) (q_leads_q p q r s f h g k))

    -- ---- sums in which one part leads in both

    p_leads_sum : (p q r s : A) → IsPositive (Form p q) → IsPositive p → IsPositive (Form r s) → IsPositive r
        → IsPositive (Form (p + r) (q + s))
    p_leads_sum p q r s f hp g hr =
        let mixed : IsPositive (p * r + d * (q * neg s)) =
        p_leads_p p q r (neg s) f hp (signs.positive_by L (d ∷ r ∷ s ∷ []) (λ d r s. norm_form E d r (E.neg s) ≐ norm_form E d r s) refl g) hr in
        signs.positive_by L (d ∷ p ∷ q ∷ r ∷ s ∷ [])
        (λ d p q r s. norm_form E d (p ⊕ r) (q ⊕ s) ≐ (norm_form E d p q ⊕ norm_form E d r s) ⊕ ((p ⊗ r ⊕ d ⊗ (q ⊗ E.neg s)) ⊕ (p ⊗ r ⊕ d ⊗ (q ⊗ E.neg s)))) refl
        (L.add_positive (L.add_positive f g) (L.add_positive mixed mixed))

    q_leads_sum : (p q r s : A) → IsPositive (neg (Form p q)) → IsPositive q → IsPositive (neg (Form r s)) → IsPositive s
        → IsPositive (neg (Form (p + r) (q + s)))
    q_leads_sum p q r s f hq g hs =
        let mixed : IsPositive (d * (q * s) + p * neg r) =
        q_leads_q p q (neg r) s f hq (signs.positive_by L (d ∷ r ∷ s ∷ []) (λ d r s. E.neg (norm_form E d (E.neg r) s) ≐ E.neg (norm_form E d r s)) refl g) hs in
        signs.positive_by L (d ∷ p ∷ q ∷ r ∷ s ∷ [])
        (λ d p q r s. E.neg (norm_form E d (p ⊕ r) (q ⊕ s)) ≐ (E.neg (norm_form E d p q) ⊕ E.neg (norm_form E d r s)) ⊕ ((d ⊗ (q ⊗ s) ⊕ p ⊗ E.neg r) ⊕ (d ⊗ (q ⊗ s) ⊕ p ⊗ E.neg r))) refl
        (L.add_positive (L.add_positive f g) (L.add_positive mixed mixed))

    pub not_above_zero : ¬ IsAbove R d IsPositive 𝟘 𝟘
    not_above_zero (p_leads f h) = L.zero_not_positive h
    not_above_zero (q_leads f h) = L.zero_not_positive h

    p-ne-zero : {p q : A} → IsPositive (Form p q) → p ≢ 𝟘
    p-ne-zero {p} {q} f e =
        square_times q (signs.positive_of_eq L (derived L.ring (d ∷ p ∷ q ∷ []) (λ d p q. E.neg (d ⊗ square E q) ≐ norm_form E d p q from (E.neg p, p ≐ numeral 0) ∷ []) refl (e, tt)) f)

    q-ne-zero : {p q : A} → IsPositive (neg (Form p q)) → q ≢ 𝟘
    q-ne-zero {p} {q} f e =
        signs.square_non_negative L p
        (signs.positive_of_eq L (derived L.ring (d ∷ p ∷ q ∷ []) (λ d p q. E.neg (square E p) ≐ E.neg (norm_form E d p q) from (E.neg (d ⊗ q), q ≐ numeral 0) ∷ []) refl (e, tt)) f)

    above_of_eq : {p q r s : A} → p ≡ r → q ≡ s → IsAbove R d IsPositive p q → IsAbove R d IsPositive r s
    above_of_eq {p} {q} {r} {s} e f h = subst (λ v. IsAbove R d IsPositive r v) f (subst (λ v. IsAbove R d IsPositive v q) e h)

    -- ---- where d isn't a square: no pair but zero has the form zero

    module _ (irrational : (p q : A) → square R p ≡ d * square R q → q ≡ 𝟘) where
      pub zero_of_norm_form-zero : (p q : A) → Form p q ≡ 𝟘 → (p ≡ 𝟘) × (q ≡ 𝟘)
      zero_of_norm_form-zero p q e =
          let squares : square R p ≡ d * square R q = ring.eq_of_sub-zero L.ring (square R p) (d * square R q) e in
          let q_zero : q ≡ 𝟘 = irrational p q squares in (
            signs.zero_of_square-zero L (derived L.ring (d ∷ p ∷ q ∷ []) (λ d p q. square E p ≐ numeral 0 from (numeral 1, square E p ≐ d ⊗ square E q) ∷ (d ⊗ q, q ≐ numeral 0) ∷ []) refl (squares, (q_zero, tt))),
            q_zero,
          )

      -- a pair is above zero, zero, or below it
      pub above_cases : (p q : A) → IsAbove R d IsPositive p q ⊎ (((p ≡ 𝟘) × (q ≡ 𝟘)) ⊎ IsAbove R d IsPositive (neg p) (neg q))
      above_cases p q = go (L.trichotomy (Form p q)) (L.trichotomy p) (L.trichotomy q)
        where
          turned : Form (neg p) (neg q) ≡ Form p q
          turned = identity L.ring (d ∷ p ∷ q ∷ []) (λ d p q. norm_form E d (E.neg p) (E.neg q) ≐ norm_form E d p q) refl

          go : Sign R IsPositive (Form p q) → Sign R IsPositive p → Sign R IsPositive q
              → IsAbove R d IsPositive p q ⊎ (((p ≡ 𝟘) × (q ≡ 𝟘)) ⊎ IsAbove R d IsPositive (neg p) (neg q))
          go (null e) s t = inr (inl (zero_of_norm_form-zero p q e))
          go (positive f) (positive h) t = inl (p_leads f h)
          go (positive f) (null e) t = absurd (p-ne-zero f e)
          go (positive f) (negative h) t = inr (inr (p_leads (signs.positive_of_eq L turned f) h))
          go (negative f) s (positive h) = inl (q_leads f h)
          go (negative f) s (null e) = absurd (q-ne-zero f e)
          go (negative f) s (negative h) = inr (inr (q_leads (signs.positive_of_eq L (ap neg turned) f) h))

      pub above_of_non_negative : (p q : A) → IsNonNegative R IsPositive p → IsNonNegative R IsPositive q → ¬ ((p ≡ 𝟘) × (q ≡ 𝟘))
          → IsAbove R d IsPositive p q
      above_of_non_negative p q hp hq n =
          elim (L.trichotomy (Form p q)) [
            | positive f ↦ elim (signs.non_negative_cases L p hp) [ inl h ↦ p_leads f h | inr e ↦ absurd (p-ne-zero f e) ]
            | null e ↦ absurd (n (zero_of_norm_form-zero p q e))
            | negative f ↦ elim (signs.non_negative_cases L q hq) [ inl h ↦ q_leads f h | inr e ↦ absurd (q-ne-zero f e) ]
          ]

      -- a sum in which p leads in one pair and q in the other: if it weren't above zero, the pairs would have one form
      add_mixed : (p q r s : A) → IsPositive (Form p q) → IsPositive p → IsPositive (neg (Form r s)) → IsPositive s
          → IsAbove R d IsPositive (p + r) (q + s)
      add_mixed p q r s f hp g hs = go (above_cases (p + r) (q + s))
        where
          go : IsAbove R d IsPositive (p + r) (q + s) ⊎ (((p + r ≡ 𝟘) × (q + s ≡ 𝟘)) ⊎ IsAbove R d IsPositive (neg (p + r)) (neg (q + s)))
              → IsAbove R d IsPositive (p + r) (q + s)
          go (inl h) = h
          go (inr (inl zeros)) =
              absurd (signs.not_both_signs L f
              (signs.positive_of_eq L
              (derived L.ring (d ∷ p ∷ q ∷ r ∷ s ∷ [])
              (λ d p q r s. E.neg (norm_form E d p q) ≐ E.neg (norm_form E d r s) from (r ⊖ p, p ⊕ r ≐ numeral 0) ∷ (E.neg (d ⊗ (s ⊖ q)), q ⊕ s ≐ numeral 0) ∷ []) refl (zeros.0, (zeros.1, tt)))
              g))
          go (inr (inr (p_leads f' h))) =
              absurd (signs.not_both_signs L
              (signs.positive_by L (d ∷ p ∷ q ∷ r ∷ s ∷ [])
              (λ d p q r s. norm_form E d r s ≐ norm_form E d (E.neg (p ⊕ r) ⊕ p) (E.neg (q ⊕ s) ⊕ q)) refl
              (p_leads_sum (neg (p + r)) (neg (q + s)) p q f' h f hp))
              g)
          go (inr (inr (q_leads f' h))) =
              absurd (signs.not_both_signs L f
              (signs.positive_by L (d ∷ p ∷ q ∷ r ∷ s ∷ [])
              (λ d p q r s. E.neg (norm_form E d p q) ≐ E.neg (norm_form E d (E.neg (p ⊕ r) ⊕ r) (E.neg (q ⊕ s) ⊕ s))) refl
              (q_leads_sum (neg (p + r)) (neg (q + s)) r s f' h g hs)))

      pub above_add : {p q r s : A} → IsAbove R d IsPositive p q → IsAbove R d IsPositive r s → IsAbove R d IsPositive (p + r) (q + s)
      above_add {p} {q} {r} {s} (p_leads f h) (p_leads g k) = p_leads (p_leads_sum p q r s f h g k) (L.add_positive h k)
      above_add {p} {q} {r} {s} (p_leads f h) (q_leads g k) = add_mixed p q r s f h g k
      above_add {p} {q} {r} {s} (q_leads f h) (p_leads g k) = above_of_eq (L.add_comm r p) (L.add_comm s q) (add_mixed r s p q g k f h)
      above_add {p} {q} {r} {s} (q_leads f h) (q_leads g k) = q_leads (q_leads_sum p q r s f h g k) (L.add_positive h k)
