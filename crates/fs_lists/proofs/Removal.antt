-- A list without one of its members, and counting by partners.
use Rattle.std.proofs.Common.{◌≡◌, suc, ◌≤◌, ◌⊎◌, List, [], ◌∷◌, length, refl, sym, ap, ◌∙◌, subst, inl, inr, arith}
use Rattle.fs_lists.specs.Members.{IsIn, AreApart}

module _ {X : Type 0} where
  -- the list without that member
  abbrev pub without : (x : X) (xs : List X) → IsIn x xs → List X
  without x [] h = absurd h
  without x (y ∷ ys) (inl e) = ys
  without x (y ∷ ys) (inr h) = y ∷ without x ys h

  pub length-without : (x : X) (xs : List X) (h : IsIn x xs) → length xs ≡ suc (length (without x xs h))
  length-without x [] h = absurd h
  length-without x (y ∷ ys) (inl e) = refl
  length-without x (y ∷ ys) (inr h) = ap suc (length-without x ys h)

  pub in_without : (x : X) (xs : List X) (h : IsIn x xs) (y : X) → IsIn y (without x xs h) → IsIn y xs
  in_without x [] h y m = absurd h
  in_without x (z ∷ zs) (inl e) y m = inr m
  in_without x (z ∷ zs) (inr h) y (inl e) = inl e
  in_without x (z ∷ zs) (inr h) y (inr m) = inr (in_without x zs h y m)

  pub without_or : (x : X) (xs : List X) (h : IsIn x xs) (y : X) → IsIn y xs → (y ≡ x) ⊎ IsIn y (without x xs h)
  without_or x [] h y m = absurd h
  without_or x (z ∷ zs) (inl e) y (inl d) = inl (d ∙ sym e)
  without_or x (z ∷ zs) (inl e) y (inr m) = inr m
  without_or x (z ∷ zs) (inr h) y (inl d) = inr (inl d)
  without_or x (z ∷ zs) (inr h) y (inr m) = elim (without_or x zs h y m) [ inl e ↦ inl e | inr k ↦ inr (inr k) ]

  pub apart_without : (R : X → X → Type 0) (x : X) (xs : List X) (h : IsIn x xs) → AreApart R xs → AreApart R (without x xs h)
  apart_without R x [] h p = absurd h
  apart_without R x (z ∷ zs) (inl e) p = p.1
  apart_without R x (z ∷ zs) (inr h) p = ((λ y m. p.0 y (in_without x zs h y m)), apart_without R x zs h p.1)

  -- apart in one relation, where another that holds leads to it
  pub apart_by : (R S : X → X → Type 0) (xs : List X) → ((u v : X) → IsIn u xs → IsIn v xs → S u v → R u v) → AreApart R xs → AreApart S xs
  apart_by R S [] to p = tt
  apart_by R S (x ∷ xs) to p =
      ((λ y m r. p.0 y m (to x y (inl refl) (inr m) r)), apart_by R S xs (λ u v hu hv. to u v (inr hu) (inr hv)) p.1)

  -- an item is apart from all others, where the relation goes both ways
  pub apart_from : (R : X → X → Type 0) (x : X) (xs : List X) (h : IsIn x xs) (y : X)
      → ((u v : X) → IsIn u xs → IsIn v xs → R u v → R v u) → AreApart R xs → IsIn y (without x xs h) → ¬ R x y
  apart_from R x [] h y back p m = absurd h
  apart_from R x (z ∷ zs) (inl e) y back p m = λ r. p.0 y m (subst (λ w. R w y) e r)
  apart_from R x (z ∷ zs) (inr h) y back p (inl d) = λ r. p.0 x h (subst (λ w. R w x) d (back x y (inr h) (inl d) r))
  apart_from R x (z ∷ zs) (inr h) y back p (inr m) = apart_from R x zs h y (λ u v hu hv. back u v (inr hu) (inr hv)) p.1 m

  -- items that are apart, each with a partner among others, one partner for two only where they aren't apart: there are no more of them than partners
  pub at_most_partners : (S R : X → X → Type 0) (xs ys : List X)
      → ((x : X) → IsIn x xs → (y : X) × IsIn y ys × R x y)
      → ((x w y : X) → IsIn x xs → IsIn w xs → R x y → R w y → S x w)
      → AreApart S xs → length xs ≤ length ys
  at_most_partners S R [] ys partner join p = omega arith
  at_most_partners S R (x ∷ xs) ys partner join p =
      let b = partner x (inl refl) in
      let rest : (w : X) → IsIn w xs → (y : X) × IsIn y (without b.0 ys b.1) × R w y =
      λ w h.
      let c = partner w (inr h) in
      elim (without_or b.0 ys b.1 c.0 c.1) [
        | inl e ↦ absurd (p.0 w h (join x w b.0 (inl refl) (inr h) b.2 (subst (λ y. R w y) e c.2)))
        | inr m ↦ (c.0, m, c.2)
      ] in
      omega (
        arith,
        length-without b.0 ys b.1,
        at_most_partners S R xs (without b.0 ys b.1) rest (λ u v y hu hv. join u v y (inr hu) (inr hv)) p.1,
      )
