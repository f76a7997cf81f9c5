-- The laws of a commutative ring.
use Rattle.std.specs.Prelude.{◌≡◌}
use Rattle.fs_ring.specs.Operations.{Operations}

-- sum and product are associative and commutative, with 0, negatives and 1, and the product distributes over sums
pub record IsCommutativeRing {A : Type 0} (R : Operations A) : Type 0 where
  pub add_assoc : (x y z : A) → R.add (R.add x y) z ≡ R.add x (R.add y z)
  pub add_comm : (x y : A) → R.add x y ≡ R.add y x
  pub add_zero : (x : A) → R.add x R.zero ≡ x
  pub add_neg : (x : A) → R.add x (R.neg x) ≡ R.zero
  pub mul_assoc : (x y z : A) → R.mul (R.mul x y) z ≡ R.mul x (R.mul y z)
  pub mul_comm : (x y : A) → R.mul x y ≡ R.mul y x
  pub mul_one : (x : A) → R.mul x R.one ≡ x
  pub mul_add : (x y z : A) → R.mul x (R.add y z) ≡ R.add (R.mul x y) (R.mul x z)
