-- When a segment comes within a bound of (0, 0), by the lengths of its ends, or by its distance where the nearest point of its line is between them. A library for crates to come.
use Rattle.std.proofs.Common.{[], ◌∷◌, refl, inl, inr}
use Rattle.fs_ring.specs.Operations.{Operations, sub, square}
use Rattle.fs_ring.specs.OrderedRing.{IsOrderedRing, IsAtMost, IsNonNegative}
use Rattle.fs_ring.specs.Vector.{Vector, add_vector, sub_vector, scale, cross, dot, norm}
use Rattle.fs_ring.specs.Discs.{ComesWithin}
use Rattle.fs_ring.proofs.Signs as signs
use Rattle.fs_ring.proofs.Order as order
use Rattle.fs_ring.proofs.Directions as directions
use Rattle.fs_ring.proofs.Directions.{positive_by_plane}
use Rattle.fs_ring.proofs.Solver.{expressions as E, ◌⊕◌, ◌⊖◌, ◌⊗◌, ◌≐◌}

module _ {A : Type 0} {R : Operations A} {IsPositive : A → Type 0} (L : IsOrderedRing R IsPositive) (p q : Vector A) (bound : A) where
  open R use {mul as ◌*◌, neg, zero as 𝟘, one as 𝟙}

  infixl 70 ◌*◌
  infix 50 ◌≤◌
  abbrev ◌≤◌ : A → A → Type 0
  x ≤ y = IsAtMost R IsPositive x y

  abbrev Within : Type 0
  Within = ComesWithin R IsPositive p q bound

  -- from the first end to the second
  abbrev e : Vector A
  e = sub_vector R q p

  -- ---- what makes it come within the bound

  -- the first end
  pub within_by_start : norm R p ≤ bound → Within
  within_by_start h = record {
    whole = 𝟙;
    part = 𝟘;
    whole_positive = L.one_positive;
    part_from_zero = signs.zero_non_negative L;
    part_to_whole = order.at_most_of_less L 𝟘 𝟙 (order.zero_less L L.one_positive);
    within = λ n. h (positive_by_plane L (bound ∷ []) (p ∷ q ∷ [])
        (λ b p q. norm E p ⊖ b ≐ norm E (add_vector E (scale E E.one p) (scale E E.zero (sub_vector E q p))) ⊖ square E E.one ⊗ b) refl n);
  }

  -- the second end
  pub within_by_end : norm R q ≤ bound → Within
  within_by_end h = record {
    whole = 𝟙;
    part = 𝟙;
    whole_positive = L.one_positive;
    part_from_zero = signs.non_negative_of_positive L L.one_positive;
    part_to_whole = order.at_most_refl L 𝟙;
    within = λ n. h (positive_by_plane L (bound ∷ []) (p ∷ q ∷ [])
        (λ b p q. norm E q ⊖ b ≐ norm E (add_vector E (scale E E.one p) (scale E E.one (sub_vector E q p))) ⊖ square E E.one ⊗ b) refl n);
  }

  -- the nearest point of its line, which is between the ends
  pub within_by_line : IsPositive (neg (dot R p e)) → IsPositive (dot R q e) → square R (cross R p e) ≤ bound * norm R e → Within
  within_by_line leaving arriving h =
      let length = directions.norm_positive L e (directions.dot_positive-ne-zero_right L arriving) in
      record {
        whole = norm R e;
        part = neg (dot R p e);
        whole_positive = length;
        part_from_zero = signs.non_negative_of_positive L leaving;
        part_to_whole = λ n. signs.not_both_signs L arriving (positive_by_plane L [] (p ∷ q ∷ [])
            (λ p q. E.neg (dot E q (sub_vector E q p)) ≐ E.neg (dot E p (sub_vector E q p)) ⊖ norm E (sub_vector E q p)) refl n);
        within = λ n. h (signs.positive_of_mul_left L length (positive_by_plane L (bound ∷ []) (p ∷ q ∷ [])
            (λ b p q. let e = sub_vector E q p in norm E e ⊗ (square E (cross E p e) ⊖ b ⊗ norm E e) ≐ norm E (add_vector E (scale E (norm E e) p) (scale E (E.neg (dot E p e)) e)) ⊖ square E (norm E e) ⊗ b) refl n));
      }

  -- ---- what follows where it does

  module _ (held : Within) where
    -- where it leaves (0, 0) from its first end on, this end is the nearest point
    pub start_within : IsNonNegative R IsPositive (dot R p e) → norm R p ≤ bound
    start_within leaving n =
        let m = held.whole in
        let k = held.part in
        let square_m = L.mul_positive held.whole_positive held.whole_positive in
        let mixed = signs.mul_non_negative L (signs.mul_non_negative L (signs.non_negative_of_positive L held.whole_positive) held.part_from_zero) leaving in
        held.within (positive_by_plane L (m ∷ k ∷ bound ∷ []) (p ∷ q ∷ [])
        (λ m k b p q. let e = sub_vector E q p in norm E (add_vector E (scale E m p) (scale E k e)) ⊖ square E m ⊗ b ≐ (m ⊗ m) ⊗ (norm E p ⊖ b) ⊕ ((m ⊗ k ⊗ dot E p e ⊕ m ⊗ k ⊗ dot E p e) ⊕ square E k ⊗ norm E e)) refl
        (signs.add_positive_non_negative L (L.mul_positive square_m n)
        (signs.add_non_negative L (signs.add_non_negative L mixed mixed)
        (signs.mul_non_negative L (signs.square_non_negative L k) (directions.norm_non_negative L e)))))

    -- where it comes nearer up to its second end, this end is
    pub end_within : IsNonNegative R IsPositive (neg (dot R q e)) → norm R q ≤ bound
    end_within arriving n =
        let m = held.whole in
        let k = held.part in
        let square_m = L.mul_positive held.whole_positive held.whole_positive in
        let rest = order.sub_of_at_most L k m held.part_to_whole in
        let mixed = signs.mul_non_negative L (signs.mul_non_negative L (signs.non_negative_of_positive L held.whole_positive) rest) arriving in
        held.within (positive_by_plane L (m ∷ k ∷ bound ∷ []) (p ∷ q ∷ [])
        (λ m k b p q. let e = sub_vector E q p in let l = m ⊖ k in norm E (add_vector E (scale E m p) (scale E k e)) ⊖ square E m ⊗ b ≐ (m ⊗ m) ⊗ (norm E q ⊖ b) ⊕ ((m ⊗ l ⊗ E.neg (dot E q e) ⊕ m ⊗ l ⊗ E.neg (dot E q e)) ⊕ square E l ⊗ norm E e)) refl
        (signs.add_positive_non_negative L (L.mul_positive square_m n)
        (signs.add_non_negative L (signs.add_non_negative L mixed mixed)
        (signs.mul_non_negative L (signs.square_non_negative L (sub R m k)) (directions.norm_non_negative L e)))))

    -- its line comes within the bound too
    pub line_within : square R (cross R p e) ≤ bound * norm R e
    line_within n =
        let m = held.whole in
        let k = held.part in
        let x = add_vector R (scale R m p) (scale R k e) in
        let product = positive_by_plane L (m ∷ k ∷ bound ∷ []) (p ∷ q ∷ [])
        (λ m k b p q. let e = sub_vector E q p in let x = add_vector E (scale E m p) (scale E k e) in (norm E x ⊖ square E m ⊗ b) ⊗ norm E e ≐ (m ⊗ m) ⊗ (square E (cross E p e) ⊖ b ⊗ norm E e) ⊕ square E (dot E x e)) refl
        (signs.add_positive_non_negative L (L.mul_positive (L.mul_positive held.whole_positive held.whole_positive) n) (signs.square_non_negative L (dot R x e))) in
        elim (signs.mul_positive_cases L (sub R (norm R x) (square R m * bound)) (norm R e) product)
        [ inl c ↦ held.within c.0 | inr c ↦ directions.norm_non_negative L e c.1 ]
