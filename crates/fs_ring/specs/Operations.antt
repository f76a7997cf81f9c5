-- The operations of a ring, without laws.
use Rattle.std.specs.Prelude.{ℕ, zero, suc}

-- what can be done with the elements of A
pub record Operations (A : Type 0) : Type 0 where
  pub add : A → A → A
  pub mul : A → A → A
  pub neg : A → A
  pub zero : A
  pub one : A

module _ {A : Type 0} (R : Operations A) where
  -- x - y
  abbrev pub sub : A → A → A
  sub x y = R.add x (R.neg y)

  -- x·x
  abbrev pub square : A → A
  square x = R.mul x x

  -- the sum of n ones; of 1 it is `one` itself
  abbrev pub of_nat : ℕ → A
  of_nat zero = R.zero
  of_nat (suc zero) = R.one
  of_nat (suc (suc n)) = R.add (of_nat (suc n)) R.one
