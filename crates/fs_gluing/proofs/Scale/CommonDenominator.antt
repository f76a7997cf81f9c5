-- The common denominator is the least common multiple of the denominators.
use Rattle.std.proofs.Common.{◌≡◌, ℕ, zero, suc, ◌+◌, ◌*◌, ◌/◌, ◌<◌, List, [], ◌∷◌, sym, ap, ◌∙◌, subst, arith}
use Rattle.std.proofs.Math.Nat.{dvd-mul_left, dvd-mul_right, mul-div_cancel', mul-dvd-mul_left, mul-dvd-mul_right, dvd_of_mul-dvd-mul_left, dvd_of_mul-dvd-mul_right, mul_comm}
use Rattle.std.proofs.lemmas.Nat.Gcd.{dvd_trans, dvd-zero}
use Rattle.std.specs.Int.{◌∣◌}
use Rattle.std.specs.List.{AllByRecursion}
use Rattle.fs_lists.proofs.All.{All-append, All-prefix, All-suffix}
use Rattle.fs_fraction.specs.Divisor.{gcd}
use Rattle.fs_fraction.proofs.Divisors.{gcd-is, divisor_positive}
use Rattle.fs_gluing.specs.declared.shapes.Point.{Point}
use Rattle.fs_gluing.specs.Scaling.{NumberedSide, numbered_sides, numbered_from, all_numbered, common_multiple, common_from, common_den, IsMultipleOf, IsLeastCommonMultiple}

-- ---- what holds of all vectors, by polygon and in one list

numbered_row : (P : Point → Type 0) (i j : ℕ) (points : List Point) → AllByRecursion P points → AllByRecursion (λ s. P s.vector) (numbered_sides i j points)
numbered_row P i j [] a = tt
numbered_row P i j (point ∷ points) a = (a.0, numbered_row P i (j + 1) points a.1)

row_numbered : (P : Point → Type 0) (i j : ℕ) (points : List Point) → AllByRecursion (λ s. P s.vector) (numbered_sides i j points) → AllByRecursion P points
row_numbered P i j [] a = tt
row_numbered P i j (point ∷ points) a = (a.0, row_numbered P i (j + 1) points a.1)

-- what holds of the vectors of all polygons holds of all numbered sides
pub numbered_all : (P : Point → Type 0) (i : ℕ) (polygons : List (List Point)) → AllByRecursion (AllByRecursion P) polygons → AllByRecursion (λ s. P s.vector) (numbered_from i polygons)
numbered_all P i [] a = tt
numbered_all P i (polygon ∷ polygons) a =
    All-append (λ s. P s.vector) (numbered_sides i 0 polygon) (numbered_from (i + 1) polygons) (numbered_row P i 0 polygon a.0) (numbered_all P (i + 1) polygons a.1)

all_numbered_all : (P : Point → Type 0) (i : ℕ) (polygons : List (List Point)) → AllByRecursion (λ s. P s.vector) (numbered_from i polygons) → AllByRecursion (AllByRecursion P) polygons
all_numbered_all P i [] a = tt
all_numbered_all P i (polygon ∷ polygons) a = (
  row_numbered P i 0 polygon (All-prefix (λ s. P s.vector) (numbered_sides i 0 polygon) (numbered_from (i + 1) polygons) a),
  all_numbered_all P (i + 1) polygons (All-suffix (λ s. P s.vector) (numbered_sides i 0 polygon) (numbered_from (i + 1) polygons) a),
)

-- ---- the denominators divide the common one

regroup : (a g b m n : ℕ) → g * a ≡ m → g * b ≡ n → a * n ≡ m * b
regroup a g b m n first second = ap (λ k. a * k) (sym second) ∙ omega arith ∙ ap (λ k. k * b) first

first_divides : (m n : ℕ) → m ∣ common_multiple m n
first_divides m n = dvd-mul_right m (n / gcd m n)

second_divides : (m n : ℕ) → n ∣ common_multiple m n
second_divides m n =
    let g = gcd m n in
    subst (λ k. n ∣ k) (regroup (m / g) g (n / g) m n (mul-div_cancel' g ((gcd-is m n).0)) (mul-div_cancel' g ((gcd-is m n).1))) (dvd-mul_left n (m / g))

common_divides : (m : ℕ) (sides : List NumberedSide) → m ∣ common_from m sides
common_divides m [] = subst (λ k. m ∣ k) (omega arith) (dvd-mul_right m 1)
common_divides m (s ∷ sides) =
    let with_x = common_multiple m s.vector.x.den in
    let with_y = common_multiple with_x s.vector.y.den in
    dvd_trans m (first_divides m s.vector.x.den) (dvd_trans with_x (first_divides with_x s.vector.y.den) (common_divides with_y sides))

-- the denominators of each side divide the common one
pub each_divides : (m : ℕ) (sides : List NumberedSide) → AllByRecursion (λ s. IsMultipleOf (common_from m sides) s.vector) sides
each_divides m [] = tt
each_divides m (s ∷ sides) =
    let with_x = common_multiple m s.vector.x.den in
    let with_y = common_multiple with_x s.vector.y.den in
    let rest = common_divides with_y sides in (
      (
        dvd_trans s.vector.x.den (second_divides m s.vector.x.den) (dvd_trans with_x (first_divides with_x s.vector.y.den) rest),
        dvd_trans s.vector.y.den (second_divides with_x s.vector.y.den) rest,
      ),
      each_divides with_y sides,
    )

-- ---- the common denominator divides each common multiple

divides_scaled : (k m n a : ℕ) → 0 < k → a ∣ k * m → a ∣ k * n → a ∣ k * gcd m n
divides_scaled k m n a up first second =
    let g = gcd (k * m) (k * n) in
    let is = gcd-is (k * m) (k * n) in
    let h = g / k in
    let e : k * h ≡ g = mul-div_cancel' k (is.2 k (dvd-mul_right k m) (dvd-mul_right k n)) in
    let of_m : h ∣ m = dvd_of_mul-dvd-mul_left h up (subst (λ x. x ∣ k * m) (sym e) is.0) in
    let of_n : h ∣ n = dvd_of_mul-dvd-mul_left h up (subst (λ x. x ∣ k * n) (sym e) is.1) in
    dvd_trans a (is.2 a first second) (subst (λ x. x ∣ k * gcd m n) e (mul-dvd-mul_left h k ((gcd-is m n).2 h of_m of_n)))

regroup_right : (m n g : ℕ) → m * (g * n) ≡ m * n * g
regroup_right m n g = omega arith

multiple_divides : (m n k : ℕ) → m ∣ k → n ∣ k → common_multiple m n ∣ k
multiple_divides m n zero first second = dvd-zero (common_multiple m n)
multiple_divides m n (suc k) first second =
    let g = gcd m n in
    let up : 0 < g = divisor_positive g (suc k) (dvd_trans g ((gcd-is m n).0) first) (omega arith) in
    let whole : m * n ∣ suc k * g =
    divides_scaled (suc k) m n (m * n) (omega arith) (subst (λ x. m * n ∣ x) (mul_comm m (suc k)) (mul-dvd-mul_left n m second)) (mul-dvd-mul_right m first n) in
    let apart : m * n ≡ m * (n / g) * g = ap (λ x. m * x) (sym (mul-div_cancel' g ((gcd-is m n).1))) ∙ regroup_right m (n / g) g in
    dvd_of_mul-dvd-mul_right (m * (n / g)) up (subst (λ x. x ∣ suc k * g) apart whole)

common_from_divides : (m : ℕ) (sides : List NumberedSide) (k : ℕ) → m ∣ k → AllByRecursion (λ s. IsMultipleOf k s.vector) sides → common_from m sides ∣ k
common_from_divides m [] k h a = h
common_from_divides m (s ∷ sides) k h a =
    let with_x = common_multiple m s.vector.x.den in
    common_from_divides (common_multiple with_x s.vector.y.den) sides k (multiple_divides with_x s.vector.y.den k (multiple_divides m s.vector.x.den k h a.0.0) a.0.1) a.1

-- the common denominator is the least common multiple
pub common_den_least : (polygons : List (List Point)) → IsLeastCommonMultiple polygons (common_den polygons)
common_den_least polygons = record {
  multiple = all_numbered_all (IsMultipleOf (common_den polygons)) 0 polygons (each_divides 1 (all_numbered polygons));
  least = λ k h. common_from_divides 1 (all_numbered polygons) k (subst (λ x. 1 ∣ x) (omega arith) (dvd-mul_right 1 k)) (numbered_all (IsMultipleOf k) 0 polygons h);
}
