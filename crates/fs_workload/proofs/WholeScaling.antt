-- The rectangles of a staircase have the common denominator 1, and pass the tests of scaling.
use Rattle.std.proofs.Common.{◌≡◌, ℕ, pos, ◌/◌, ◌&&◌, List, [], ◌∷◌, map, refl, sym, true, ◌∙◌, subst, arith}
use Rattle.std.proofs.lemmas.Bool.{and_parts}
use Rattle.std.specs.List.{AllByRecursion, range_with_len}
use Rattle.fs_lists.proofs.All.{All-append, All-map, All-of_each}
use Rattle.fs_lists.proofs.Equal.{cons_equal}
use Rattle.fs_quadratic.specs.Ring.{Quadratic, zero, neg}
use Rattle.fs_quadratic.specs.Width.{InWidth, Fits, is_fitting}
use Rattle.fs_quadratic.proofs.WidthTests.{Decides-is_fitting}
use Rattle.fs_fraction.specs.Fraction.{scale}
use Rattle.fs_plane.specs.Vector.{PlaneVector}
use Rattle.fs_gluing.specs.declared.shapes.Point.{Point}
use Rattle.fs_gluing.specs.Scaling.{NumberedSide, all_numbered, common_multiple, common_from, common_den, scaled_vector, scaled, PassesScale, common_tests, part_tests, scale_tests}
use Rattle.fs_gluing.proofs.Scale.CommonDenominator.{numbered_all}
use Rattle.fs_gluing.proofs.Scale.EqualDenominators.{scaled_once, multiple_of_same}
use Rattle.fs_workload.specs.Draws.{number_of}
use Rattle.fs_workload.specs.Staircase.{whole_vector, rectangle, width, height, rectangle_at}
use Rattle.fs_workload.proofs.RectangleTests.{rectangle_vectors, is_true_of_lengths, true_of_lengths}

-- ---- shapes whose denominators are 1

-- both denominators are 1, and both numbers are within the width
record IsWhole (point : Point) : Type 0 where
  pub x_whole : point.x.den ≡ 1
  pub y_whole : point.y.den ≡ 1
  pub x_fits : Fits point.x.num
  pub y_fits : Fits point.y.num

-- the common multiple with 1
with_one : (m n : ℕ) → m ≡ 1 → n ≡ 1 → InWidth (pos (common_multiple m n)) × (common_multiple m n ≡ 1)
with_one m n e f =
    let r = multiple_of_same m n (e ∙ sym f) (omega arith) (omega arith) in
    (r.0, sym r.1 ∙ e)

-- the tests of the denominators pass
common_pass : (m : ℕ) → m ≡ 1 → (sides : List NumberedSide) → AllByRecursion (λ s. IsWhole s.vector) sides → AllByRecursion PassesScale (common_tests m sides) × (common_from m sides ≡ 1)
common_pass m e [] all = (tt, e)
common_pass m e (s ∷ sides) all =
    let x = with_one m s.vector.x.den e all.0.x_whole in
    let y = with_one (common_multiple m s.vector.x.den) s.vector.y.den x.1 all.0.y_whole in
    let rest = common_pass (common_multiple (common_multiple m s.vector.x.den) s.vector.y.den) y.1 sides all.1 in
    ((x.0, (y.0, rest.0)), rest.1)

scaled_fits : (den n : ℕ) (x : Quadratic) → den ≡ 1 → n ≡ 1 → Fits x → Fits (scale (den / n) x)
scaled_fits den n x e f h = subst Fits (scaled_once den n x (e ∙ sym f) (omega arith)) h

-- the tests of the parts pass
parts_pass : (den : ℕ) → den ≡ 1 → (sides : List NumberedSide) → AllByRecursion (λ s. IsWhole s.vector) sides → AllByRecursion PassesScale (part_tests den sides)
parts_pass den e [] all = tt
parts_pass den e (s ∷ sides) all =
    let x = scaled_fits den s.vector.x.den s.vector.x.num e all.0.x_whole all.0.x_fits in
    let y = scaled_fits den s.vector.y.den s.vector.y.num e all.0.y_whole all.0.y_fits in
    (x.0, (x.1, (y.0, (y.1, parts_pass den e sides all.1))))

module _ (polygons : List (List Point)) (whole : AllByRecursion (AllByRecursion IsWhole) polygons) where
  numbered_whole : AllByRecursion (λ s. IsWhole s.vector) (all_numbered polygons)
  numbered_whole = numbered_all IsWhole 0 polygons whole

  common_one : common_den polygons ≡ 1
  common_one = (common_pass 1 refl (all_numbered polygons) numbered_whole).1

  scaling_passes : AllByRecursion PassesScale (scale_tests polygons)
  scaling_passes =
      All-append PassesScale (common_tests 1 (all_numbered polygons)) (part_tests (common_den polygons) (all_numbered polygons))
      ((common_pass 1 refl (all_numbered polygons) numbered_whole).0) (parts_pass (common_den polygons) common_one (all_numbered polygons) numbered_whole)

-- ---- rectangles of drawn lengths

-- a drawn length and its negation are within the width
length_fits : (s : ℕ) → Fits (number_of s) × Fits (neg (number_of s))
length_fits s =
    let each : is_true_of_lengths (λ x. is_fitting x && is_fitting (neg x)) ≡ true = refl in
    let parts = and_parts (is_fitting (number_of s)) (is_fitting (neg (number_of s))) (true_of_lengths (λ x. is_fitting x && is_fitting (neg x)) each s) in
    ((Decides-is_fitting (number_of s)).0 parts.0, (Decides-is_fitting (neg (number_of s))).0 parts.1)

zero_fits : Fits zero
zero_fits = (Decides-is_fitting zero).0 refl

whole_of : (x y : Quadratic) → Fits x → Fits y → IsWhole (whole_vector x y)
whole_of x y h k = record { x_whole = refl; y_whole = refl; x_fits = h; y_fits = k }

rectangle_whole : (w h : Quadratic) → Fits w × Fits (neg w) → Fits h × Fits (neg h) → AllByRecursion IsWhole (rectangle w h)
rectangle_whole w h u v = (whole_of w zero u.0 zero_fits, (whole_of zero h zero_fits v.0, (whole_of (neg w) zero u.1 zero_fits, (whole_of zero (neg h) zero_fits v.1, tt))))

-- the side vectors of rectangle i
abbrev pub vectors_at : ℕ → ℕ → List PlaneVector
vectors_at seed i = rectangle_vectors (width seed i) (height seed i)

vector_scaled : (den : ℕ) (x y : Quadratic) → den ≡ 1 → scaled_vector den (whole_vector x y) ≡ record { x = x; y = y }
vector_scaled den x y e = λ t. record { x = sym (scaled_once den 1 x e (omega arith)) t; y = sym (scaled_once den 1 y e (omega arith)) t }

rectangle_scaled : (den : ℕ) (w h : Quadratic) → den ≡ 1 → map (scaled_vector den) (rectangle w h) ≡ rectangle_vectors w h
rectangle_scaled den w h e = λ t. vector_scaled den w zero e t ∷ vector_scaled den zero h e t ∷ vector_scaled den (neg w) zero e t ∷ vector_scaled den zero (neg h) e t ∷ []

module _ (seed : ℕ) where
  rectangles_scaled : (den : ℕ) → den ≡ 1 → (is : List ℕ) → map (map (scaled_vector den)) (map (rectangle_at seed) is) ≡ map (vectors_at seed) is
  rectangles_scaled den e [] = refl
  rectangles_scaled den e (i ∷ is) = cons_equal _ _ _ _ (rectangle_scaled den (width seed i) (height seed i) e) (rectangles_scaled den e is)

  rectangles_whole : (is : List ℕ) → AllByRecursion (AllByRecursion IsWhole) (map (rectangle_at seed) is)
  rectangles_whole is = All-map (rectangle_at seed) (AllByRecursion IsWhole) is (All-of_each (λ i. AllByRecursion IsWhole (rectangle_at seed i)) is (λ j i e. rectangle_whole (width seed i) (height seed i) (length_fits _) (length_fits _)))

  -- scaling keeps the vectors of the rectangles
  pub staircase_scaled : (k : ℕ) → scaled (map (rectangle_at seed) (range_with_len 0 k)) ≡ map (vectors_at seed) (range_with_len 0 k)
  staircase_scaled k =
      let polygons = map (rectangle_at seed) (range_with_len 0 k) in
      rectangles_scaled (common_den polygons) (common_one polygons (rectangles_whole (range_with_len 0 k))) (range_with_len 0 k)

  -- and overflows nowhere
  pub staircase_scaling_passes : (k : ℕ) → AllByRecursion PassesScale (scale_tests (map (rectangle_at seed) (range_with_len 0 k)))
  staircase_scaling_passes k = scaling_passes (map (rectangle_at seed) (range_with_len 0 k)) (rectangles_whole (range_with_len 0 k))
