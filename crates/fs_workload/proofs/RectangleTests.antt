-- A polygon passes its tests where they compute to true, and rectangles of drawn lengths do.
use Rattle.std.proofs.Common.{◌≡◌, ◌≢◌, ◌≤◌, ◌<◌, ℕ, pos, ◌+◌, ◌*◌, ◌/◌, ◌%◌, ◌==◌, Bool, true, false, ◌&&◌, List, [], ◌∷◌, ◌++◌, Result, Ok, Err, length, refl, sym, ap, ◌∙◌, subst, arith}
use Rattle.std.proofs.Math.Nat.{mul-le-mul, mod-eq_of_lt}
use Rattle.std.proofs.lemmas.Bool.{and_parts, eqb-true, leb-true}
use Rattle.std.specs.List.{AllByRecursion, list_all, range_with_len, flat_map, count_by}
use Rattle.std.specs.Prelude.{leb}
use Rattle.fs_lists.proofs.All.{All-append, All-range}
use Rattle.fs_lists.proofs.Results.{ok_not_err}
use Rattle.fs_quadratic.specs.Checked.{place}
use Rattle.fs_quadratic.specs.Radicand.{IsRadicand}
use Rattle.fs_quadratic.specs.Ring.{Quadratic, mul, sign, neg}
use Rattle.fs_quadratic.specs.Ring as numbers
use Rattle.fs_quadratic.specs.Width.{is_fitting, is_fitting_mul}
use Rattle.fs_quadratic.specs.declared.steps.Place.{Place}
use Rattle.fs_quadratic.proofs.WidthTests.{Decides-is_fitting}
use Rattle.fs_plane.specs.Formulas.{cross_after, dot_after, is_convex_after}
use Rattle.fs_plane.specs.Vector.{PlaneVector, vector_zero, vector_total, is_same_vector}
use Rattle.fs_plane.proofs.ConvexCorners.{convex_of_formula}
use Rattle.fs_plane.proofs.EqualVectors.{Decides-is_same_vector}
use Rattle.fs_gluing.specs.Convex.{CornerSides, corners_of, corner_position, is_rise}
use Rattle.fs_gluing.specs.FirstFault.{PolygonTest, x_fits, y_fits, polygon_closes, turning_number_one, PassesIn, position_tests, corner_tests, polygon_tests}
use Rattle.fs_workload.specs.Draws.{number_of}

-- ---- tests that compute

-- the test of a corner gives true
abbrev is_true : Result Bool Place → Bool
is_true (Ok held) = held
is_true (Err stop) = false

abbrev is_convex : ℕ → CornerSides → Bool
is_convex d corner = is_true (is_convex_after 0 false d corner.before corner.after)

abbrev has_fitting_position : List PlaneVector → ℕ → Bool
has_fitting_position polygon j = is_fitting (corner_position polygon (j + 1)).x && is_fitting (corner_position polygon (j + 1)).y

-- whether a polygon passes all tests
abbrev is_passing : ℕ → List PlaneVector → Bool
is_passing d polygon =
    leb 3 (length polygon) && (list_all (has_fitting_position polygon) (range_with_len 0 (length polygon)) && (is_same_vector (vector_total polygon) vector_zero
    && (list_all (is_convex d) (corners_of polygon) && count_by (is_rise d) (corners_of polygon) == 1)))

module _ {d : ℕ} (radicand : IsRadicand d) (polygon : List PlaneVector) where
  abbrev Q : PolygonTest → Type 0
  Q = PassesIn false d polygon

  positions_pass : (js : List ℕ) → list_all (has_fitting_position polygon) js ≡ true → AllByRecursion Q (flat_map (λ j. x_fits j ∷ y_fits j ∷ []) js)
  positions_pass [] e = tt
  positions_pass (j ∷ js) e =
      let parts = and_parts (has_fitting_position polygon j) (list_all (has_fitting_position polygon) js) e in
      let both = and_parts (is_fitting (corner_position polygon (j + 1)).x) (is_fitting (corner_position polygon (j + 1)).y) parts.0 in
      ((Decides-is_fitting (corner_position polygon (j + 1)).x).0 both.0, ((Decides-is_fitting (corner_position polygon (j + 1)).y).0 both.1, positions_pass js parts.1))

  ok_of_true : (r : Result Bool Place) → is_true r ≡ true → r ≡ Ok true
  ok_of_true (Ok held) e = ap Ok e
  ok_of_true (Err stop) e = cc

  corners_pass : (j : ℕ) (corners : List CornerSides) → list_all (is_convex d) corners ≡ true → AllByRecursion Q (corner_tests j corners)
  corners_pass j [] e = tt
  corners_pass j (corner ∷ corners) e =
      let parts = and_parts (is_convex d corner) (list_all (is_convex d) corners) e in
      let ok = ok_of_true (is_convex_after 0 false d corner.before corner.after) parts.0 in
      let fits : (p : ℕ) → is_convex_after 0 false d corner.before corner.after ≢ Err (place p) = λ p f. ok_not_err true (place p) (sym ok ∙ f) in
      (fits 1, (fits 2, (fits 3, (fits 4, (fits 5, (fits 6, ((convex_of_formula radicand 0 corner.before corner.after false (Ok true) (sym ok)).0 refl, corners_pass (j + 1) corners parts.1)))))))

  -- a polygon passes its tests where they compute to true
  polygon_passes : is_passing d polygon ≡ true → AllByRecursion Q (polygon_tests polygon)
  polygon_passes e =
      let three = and_parts _ _ e in
      let fitting = and_parts _ _ three.1 in
      let closed = and_parts _ _ fitting.1 in
      let convex = and_parts _ _ closed.1 in (
        leb-true 3 (length polygon) three.0,
        All-append Q (position_tests (length polygon)) (polygon_closes ∷ (corner_tests 0 (corners_of polygon) ++ turning_number_one ∷ [])) (positions_pass (range_with_len 0 (length polygon)) fitting.0) (
          (Decides-is_same_vector (vector_total polygon) vector_zero).0 closed.0,
          All-append Q (corner_tests 0 (corners_of polygon)) (turning_number_one ∷ []) (corners_pass 0 (corners_of polygon) convex.0) (eqb-true (count_by (is_rise d) (corners_of polygon)) 1 convex.1, tt),
        ),
      )

-- ---- rectangles

-- the side vectors of a rectangle
abbrev pub rectangle_vectors : Quadratic → Quadratic → List PlaneVector
rectangle_vectors width height =
    record { x = width; y = numbers.zero } ∷ record { x = numbers.zero; y = height } ∷ record { x = neg width; y = numbers.zero } ∷ record { x = numbers.zero; y = neg height } ∷ []

-- p + 1 + q·√d
abbrev length_of : ℕ → ℕ → Quadratic
length_of p q = record { p = pos (1 + p); q = pos q }

all_true : (test : ℕ → Bool) (n : ℕ) (is : list_all test (range_with_len 0 n) ≡ true) (k : ℕ) → k < n → test k ≡ true
all_true test n is k l =
    let same : 0 + k ≡ k = omega arith in
    subst (λ k. test k ≡ true) same (All-range (λ k. test k ≡ true) 0 n k (each (range_with_len 0 n) is) l)
  where
    each : (ks : List ℕ) → list_all test ks ≡ true → AllByRecursion (λ k. test k ≡ true) ks
    each [] e = tt
    each (k ∷ ks) e = let parts = and_parts (test k) (list_all test ks) e in (parts.0, each ks parts.1)

-- whether a test is true of all lengths that can be drawn
abbrev pub is_true_of_lengths : (Quadratic → Bool) → Bool
is_true_of_lengths test = list_all (λ p. list_all (λ q. test (length_of p q)) (range_with_len 0 3)) (range_with_len 0 4)

-- it is true of each length that is drawn
pub true_of_lengths : (test : Quadratic → Bool) → is_true_of_lengths test ≡ true → (s : ℕ) → test (number_of s) ≡ true
true_of_lengths test is s =
    let p : s / 65536 % 4 < 4 = omega arith in
    let q : s / 1048576 % 3 < 3 = omega arith in
    all_true (λ q. test (length_of (s / 65536 % 4) q)) 3 (all_true (λ p. list_all (λ q. test (length_of p q)) (range_with_len 0 3)) 4 is (s / 65536 % 4) p) (s / 1048576 % 3) q

-- each rectangle of such lengths passes its tests
rectangles_pass : is_true_of_lengths (λ w. is_true_of_lengths (λ h. is_passing 2 (rectangle_vectors w h))) ≡ true
unfolding is_convex_after cross_after dot_after mul sign is_fitting_mul
rectangles_pass = refl

two_radicand : IsRadicand 2
two_radicand = record {
  least = omega arith;
  greatest = omega arith;
  squarefree = λ k least divides. let above : 2 * 2 ≤ k * k = mul-le-mul least least in let rest : 2 % (k * k) ≡ 2 = mod-eq_of_lt (omega arith) in omega arith;
}

-- the rectangle of two drawn lengths passes its tests
pub drawn_rectangle_passes : (s t : ℕ) → AllByRecursion (PassesIn false 2 (rectangle_vectors (number_of s) (number_of t))) (polygon_tests (rectangle_vectors (number_of s) (number_of t)))
drawn_rectangle_passes s t =
    polygon_passes two_radicand (rectangle_vectors (number_of s) (number_of t))
    (true_of_lengths (λ h. is_passing 2 (rectangle_vectors (number_of s) h))
    (true_of_lengths (λ w. is_true_of_lengths (λ h. is_passing 2 (rectangle_vectors w h))) rectangles_pass s) t)
