-- A position in an interval, and the position as far right of the beginning of another interval of the same length.
use Rattle.std.proofs.Common.{◌≡◌, [], ◌∷◌, refl, sym, ap, ◌∙◌}
use Rattle.fs_ring.specs.Operations.{Operations, sub}
use Rattle.fs_ring.specs.OrderedRing.{IsOrderedRing, IsNonNegative, IsLess, IsAtMost}
use Rattle.fs_ring.proofs.Order as order
use Rattle.fs_ring.proofs.Signs as signs
use Rattle.fs_ring.proofs.Solver.{expressions as E, identity, ◌⊕◌, ◌⊖◌, ◌≐◌}

-- how far right of t the position y is, from b on
abbrev pub moved : {A : Type 0} (R : Operations A) → A → A → A → A
moved R t b y = R.add (sub R y t) b

module _ {A : Type 0} {R : Operations A} {IsPositive : A → Type 0} (L : IsOrderedRing R IsPositive) where
  -- a position right of the one beginning is moved right of the other
  pub moved_from_left : (t b y : A) → IsAtMost R IsPositive t y → IsAtMost R IsPositive b (moved R t b y)
  moved_from_left t b y h k = h (signs.positive_by L (t ∷ b ∷ y ∷ []) (λ t b y. t ⊖ y ≐ b ⊖ ((y ⊖ t) ⊕ b)) refl k)

  -- a position left of the one end is moved left of the other
  pub moved_before_right : (t b l y : A) → IsLess R IsPositive y (R.add t l) → IsLess R IsPositive (moved R t b y) (R.add b l)
  moved_before_right t b l y = signs.positive_by L (t ∷ b ∷ l ∷ y ∷ []) (λ t b l y. (b ⊕ l) ⊖ ((y ⊖ t) ⊕ b) ≐ (t ⊕ l) ⊖ y) refl

  -- moved there and back it is where it was
  pub moved_back : (t b y : A) → moved R t b (moved R b t y) ≡ y
  moved_back t b y = identity L.ring (t ∷ b ∷ y ∷ []) (λ t b y. (((y ⊖ b) ⊕ t) ⊖ t) ⊕ b ≐ y) refl

  -- positions that are moved to one are one
  pub moved_one_to_one : (t b x y : A) → moved R t b x ≡ moved R t b y → x ≡ y
  moved_one_to_one t b x y e = sym (moved_back b t x) ∙ ap (moved R b t) e ∙ moved_back b t y

  -- the beginning is moved to the beginning
  pub moved_left : (t b : A) → moved R t b t ≡ b
  moved_left t b = identity L.ring (t ∷ b ∷ []) (λ t b. (t ⊖ t) ⊕ b ≐ b) refl

  -- what is moved further left is moved less far
  pub moved_sub : (t b y e : A) → sub R (moved R t b y) e ≡ moved R t b (sub R y e)
  moved_sub t b y e = identity L.ring (t ∷ b ∷ y ∷ e ∷ []) (λ t b y e. ((y ⊖ t) ⊕ b) ⊖ e ≐ ((y ⊖ e) ⊖ t) ⊕ b) refl

  -- what is less by a number that isn't negative is before what the whole was before
  pub sub_before : (y e z : A) → IsNonNegative R IsPositive e → IsLess R IsPositive y z → IsLess R IsPositive (sub R y e) z
  sub_before y e z h l =
      order.less_of_at_most_less L (sub R y e) y z
      (λ k. h (signs.positive_by L (y ∷ e ∷ []) (λ y e. E.neg e ≐ (y ⊖ e) ⊖ y) refl k)) l

  -- an interval of some length holds its beginning
  pub holds_left : (t l : A) → IsPositive l → IsLess R IsPositive t (R.add t l)
  holds_left t l = signs.positive_by L (t ∷ l ∷ []) (λ t l. (t ⊕ l) ⊖ t ≐ l) refl
