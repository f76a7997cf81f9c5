-- The numbers p + q·√d. Their parts are whole numbers without bounds.
use Rattle.std.specs.Prelude.{◌≡◌, ℕ, ℤ, pos, neg_ℤ, ◌+ℤ◌, ◌-ℤ◌, ◌*ℤ◌, ◌≤ℤ◌, ◌<ℤ◌, List, [], ◌∷◌}
use Rattle.std.specs.Ordering.{int_cmp, ordering_reverse}
use Rattle.std.specs.declared.cmp.Ordering.{Ordering}
use Rattle.std.specs.declared.cmp.Ordering.TheVariants.{Less, Equal, Greater}
use Rattle.fs_ring.specs.Operations.{Operations}

-- p + q·√d, as the pair of its parts
pub record Quadratic : Type 0 where
  pub p : ℤ
  pub q : ℤ

abbrev pub zero : Quadratic
zero = record { p = pos 0; q = pos 0 }

-- the sum, by parts
abbrev pub add : Quadratic → Quadratic → Quadratic
add x y = record { p = x.p +ℤ y.p; q = x.q +ℤ y.q }

-- the sum of a list of numbers
abbrev pub total : List Quadratic → Quadratic
total [] = zero
total (x ∷ xs) = add x (total xs)

-- the difference, by parts
abbrev pub sub : Quadratic → Quadratic → Quadratic
sub x y = record { p = x.p -ℤ y.p; q = x.q -ℤ y.q }

-- the negation
abbrev pub neg : Quadratic → Quadratic
neg x = record { p = neg_ℤ x.p; q = neg_ℤ x.q }

abbrev pub one : Quadratic
one = record { p = pos 1; q = pos 0 }

-- the parts of a product, in which √d·√d is d
abbrev pub rational_part : ℕ → Quadratic → Quadratic → ℤ
rational_part d x y = x.p *ℤ y.p +ℤ pos d *ℤ (x.q *ℤ y.q)

abbrev pub r_part : Quadratic → Quadratic → ℤ
r_part x y = x.p *ℤ y.q +ℤ x.q *ℤ y.p

-- the product
unfoldable pub mul : ℕ → Quadratic → Quadratic → Quadratic
mul d x y = record { p = rational_part d x y; q = r_part x y }

-- these numbers as a ring
abbrev pub quadratic : ℕ → Operations Quadratic
quadratic d = record { add = add; mul = mul d; neg = neg; zero = zero; one = one }

-- p + q·√d is above 0: both parts are at least 0, and not both are 0; or one part is above 0, the other below, and the former has the larger square, d being a factor of that of q·√d
pub data IsPositive (d : ℕ) (x : Quadratic) : Type 0 where
  both : pos 0 ≤ℤ x.p → pos 0 ≤ℤ x.q → ¬ ((x.p ≡ pos 0) × (x.q ≡ pos 0)) → IsPositive d x
  by_p : pos 0 <ℤ x.p → x.q <ℤ pos 0 → (pos d *ℤ (x.q *ℤ x.q)) <ℤ (x.p *ℤ x.p) → IsPositive d x
  by_q : x.p <ℤ pos 0 → pos 0 <ℤ x.q → (x.p *ℤ x.p) <ℤ (pos d *ℤ (x.q *ℤ x.q)) → IsPositive d x

-- x < y: the difference y - x is above 0
abbrev pub IsLess : ℕ → Quadratic → Quadratic → Type 0
IsLess d x y = IsPositive d (sub y x)

-- the sign of a number from the signs of its parts, and the comparison of the square of p with d times that of q
abbrev pub sign_by_parts : Ordering → Ordering → Ordering → Ordering
sign_by_parts Equal q squares = q
sign_by_parts Greater Less squares = squares
sign_by_parts Greater Equal squares = Greater
sign_by_parts Greater Greater squares = Greater
sign_by_parts Less Less squares = Less
sign_by_parts Less Equal squares = Less
sign_by_parts Less Greater squares = ordering_reverse squares

-- how the number compares with 0
unfoldable pub sign : ℕ → Quadratic → Ordering
sign d x = sign_by_parts (int_cmp x.p (pos 0)) (int_cmp x.q (pos 0)) (int_cmp (x.p *ℤ x.p) (pos d *ℤ (x.q *ℤ x.q)))

-- how x compares with y
unfoldable pub compare : ℕ → Quadratic → Quadratic → Ordering
compare d x y = sign d (sub x y)
