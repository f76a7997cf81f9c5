-- The laws of an ordered commutative ring, and its order.
use Rattle.std.specs.Prelude.{◌≡◌, ◌⊎◌}
use Rattle.fs_ring.specs.Operations.{Operations, sub}
use Rattle.fs_ring.specs.CommutativeRing.{IsCommutativeRing}

module _ {A : Type 0} (R : Operations A) (IsPositive : A → Type 0) where
  -- an element is positive, zero, or has a positive negative
  pub data Sign (x : A) : Type 0 where
    positive : IsPositive x → Sign x
    null : x ≡ R.zero → Sign x
    negative : IsPositive (R.neg x) → Sign x

  -- the laws of the ring, and of the elements above zero
  pub record IsOrderedRing : Type 0 where
    pub ring : IsCommutativeRing R
    pub open ring use *
    pub one_positive : IsPositive R.one
    pub zero_not_positive : ¬ IsPositive R.zero
    pub add_positive : {x y : A} → IsPositive x → IsPositive y → IsPositive (R.add x y)
    pub mul_positive : {x y : A} → IsPositive x → IsPositive y → IsPositive (R.mul x y)
    pub trichotomy : (x : A) → Sign x

  -- x < y
  abbrev pub IsLess : A → A → Type 0
  IsLess x y = IsPositive (sub R y x)

  -- x ≤ y: y isn't below x
  abbrev pub IsAtMost : A → A → Type 0
  IsAtMost x y = ¬ IsLess y x

  -- 0 ≤ x: the negative of x isn't positive
  abbrev pub IsNonNegative : A → Type 0
  IsNonNegative x = ¬ IsPositive (R.neg x)

  -- which of x < y, x = y and y < x holds
  pub data Comparison (x y : A) : Type 0 where
    less : IsLess x y → Comparison x y
    equal : x ≡ y → Comparison x y
    greater : IsLess y x → Comparison x y

  -- a is the absolute value of x
  pub record IsAbsolute (x a : A) : Type 0 where
    pub non_negative : IsNonNegative a
    pub either_sign : (a ≡ x) ⊎ (a ≡ R.neg x)

module _ {A : Type 0} {R : Operations A} {IsPositive : A → Type 0} where
  -- the element or its negative, by its sign
  abbrev pub magnitude : {x : A} → Sign R IsPositive x → A
  magnitude {x} (positive p) = x
  magnitude {x} (null e) = x
  magnitude {x} (negative p) = R.neg x

  -- the absolute value
  abbrev pub abs : IsOrderedRing R IsPositive → A → A
  abs L x = magnitude (L.trichotomy x)
