-- The shape of a staircase passes each test of building.
use Rattle.std.proofs.Common.{◌≡◌, ℕ, zero, suc, ◌+◌, ◌%◌, ◌<◌, ◌≤◌, false, List, [], ◌++◌, length, map, Contains, refl, sym, ap, ◌∙◌, subst, arith}
use Rattle.std.proofs.lemmas.List.FromFn.{length-map-range_with_len, get_or-map-range_with_len}
use Rattle.std.proofs.lemmas.Option.{slice_get_read}
use Rattle.std.specs.List.{AllByRecursion, slice_get, range_with_len, flat_map}
use Rattle.std.specs.Option.{IsSome, option_and_then}
use Rattle.fs_lists.specs.Members.{IsIn, IsDistinct}
use Rattle.fs_lists.proofs.All.{All-append, All-map, All-weaker}
use Rattle.fs_lists.proofs.Items.{some_of_inside}
use Rattle.fs_quadratic.specs.Ring.{Quadratic, neg}
use Rattle.fs_quadratic.specs.Ring as numbers
use Rattle.fs_plane.specs.declared.corners.Corner.{Corner}
use Rattle.fs_plane.specs.Vector.{PlaneVector}
use Rattle.fs_gluing.specs.declared.shapes.Glue.{Glue}
use Rattle.fs_gluing.specs.FirstFault.{AreOpposite, polygon_tests, line_tests, Test, of_scaling, of_polygon, of_line, side_glued, polygon_reached, Joins, Passes, PassesOf, tests_from, tests, tests_of}
use Rattle.fs_gluing.specs.Gluing.{sides_between}
use Rattle.fs_gluing.specs.Polygons.{HasSide, at_side, sides_from, all_sides}
use Rattle.fs_gluing.specs.Reached.{IsReached}
use Rattle.fs_gluing.specs.Scaling.{scale_tests}
use Rattle.fs_gluing.specs.Shape.{glued_sides, polygons_of}
use Rattle.fs_gluing.proofs.Base.Equality.{vector_neg-vector_neg}
use Rattle.fs_gluing.proofs.Gluing.GlueLines.{are_opposite}
use Rattle.fs_gluing.proofs.Sides.AllSides.{corner, in_all_sides, all_sides_distinct}
use Rattle.fs_workload.specs.Staircase.{width, height, partner, lines_of, rectangle_sides, staircase_shape}
use Rattle.fs_workload.proofs.RectangleTests.{drawn_rectangle_passes}
use Rattle.fs_workload.proofs.SideLines.{side_on_line, side_joins, side_lines_pass}
use Rattle.fs_workload.proofs.SidePartners.{AreNeighbours, next, previous, last, first, same_height, same_width, IsSide, partner_neighbours, partner_inside}
use Rattle.fs_workload.proofs.WholeScaling.{vectors_at, staircase_scaled, staircase_scaling_passes}

-- the neighbour of rectangle i is the next one, where i is of the form 2m + r and there is a next one
is_next : (r k i j : ℕ) → i % 2 ≡ r → suc i < k → AreNeighbours r k i j → j ≡ suc i
is_next r k i j p l (next q m e) = omega arith
is_next r k i j p l (previous q e) = omega arith
is_next r k i j p l (last q m e) = omega arith
is_next r k i j p l (first q z e) = omega arith

module _ (k seed : ℕ) where
  abbrev rectangles : List (List PlaneVector)
  rectangles = map (vectors_at seed) (range_with_len 0 k)

  abbrev lines : List Glue
  lines = lines_of k (rectangle_sides k)

  -- ---- the sides

  at_rectangle : (c : Corner) → c.polygon < k → at_side rectangles c ≡ slice_get (vectors_at seed c.polygon) c.side
  at_rectangle c l =
      let here : 0 + c.polygon ≡ c.polygon = omega arith in
      ap (option_and_then (λ polygon. slice_get polygon c.side))
      (slice_get_read rectangles k c.polygon (vectors_at seed c.polygon) (sym (length-map-range_with_len (vectors_at seed) 0 k)) l
      (sym (get_or-map-range_with_len (vectors_at seed) 0 k c.polygon c.polygon (vectors_at seed c.polygon) l here)))

  side_exists : (c : Corner) → IsSide k c → HasSide rectangles c
  side_exists c is = subst IsSome (sym (at_rectangle c is.there)) (some_of_inside (vectors_at seed c.polygon) c.side is.inside)

  opposite_by : (i j s : ℕ) → s < 4 → i < k → j < k → AreNeighbours ((s + 1) % 2) k i j → AreOpposite (at_side rectangles (corner i s)) (at_side rectangles (corner j ((s + 2) % 4)))
  opposite_by i j zero l m n beside =
      are_opposite _ _ (record { x = width seed i; y = numbers.zero }) (record { x = neg (width seed j); y = numbers.zero }) (at_rectangle (corner i 0) m) (at_rectangle (corner j 2) n)
      (ap (λ w. record { x = neg w; y = numbers.zero }) (same_width seed k i j beside))
  opposite_by i j (suc zero) l m n beside =
      are_opposite _ _ (record { x = numbers.zero; y = height seed i }) (record { x = numbers.zero; y = neg (height seed j) }) (at_rectangle (corner i 1) m) (at_rectangle (corner j 3) n)
      (ap (λ h. record { x = numbers.zero; y = neg h }) (same_height seed k i j beside))
  opposite_by i j (suc (suc zero)) l m n beside =
      are_opposite _ _ (record { x = neg (width seed i); y = numbers.zero }) (record { x = width seed j; y = numbers.zero }) (at_rectangle (corner i 2) m) (at_rectangle (corner j 0) n)
      (ap (λ w. record { x = w; y = numbers.zero }) (same_width seed k i j beside) ∙ sym (vector_neg-vector_neg (record { x = width seed i; y = numbers.zero })))
  opposite_by i j (suc (suc (suc zero))) l m n beside =
      are_opposite _ _ (record { x = numbers.zero; y = neg (height seed i) }) (record { x = numbers.zero; y = height seed j }) (at_rectangle (corner i 3) m) (at_rectangle (corner j 1) n)
      (ap (λ h. record { x = numbers.zero; y = h }) (same_height seed k i j beside) ∙ sym (vector_neg-vector_neg (record { x = numbers.zero; y = height seed i })))
  opposite_by i j (suc (suc (suc (suc s)))) l m n beside = absurd (omega arith)

  side_opposite : (c : Corner) → IsSide k c → AreOpposite (at_side rectangles c) (at_side rectangles (partner k c))
  side_opposite c is = opposite_by c.polygon (partner k c).polygon c.side is.inside is.there (partner_inside k c is).there (partner_neighbours k c)

  sides_same : (i n : ℕ) → sides_from i (map (vectors_at seed) (range_with_len i n)) ≡ flat_map (λ h. sides_between h 0 4) (range_with_len i n)
  sides_same i zero = refl
  sides_same i (suc n) = λ t. sides_between i 0 4 ++ sides_same (i + 1) n t

  sides_are : (i n : ℕ) → i + n ≤ k → AllByRecursion (IsSide k) (flat_map (λ h. sides_between h 0 4) (range_with_len i n))
  sides_are i zero l = tt
  sides_are i (suc n) l =
      let side : (j : ℕ) → j < 4 → IsSide k (corner i j) = λ j m. record { there = omega arith; inside = m } in
      All-append (IsSide k) (sides_between i 0 4) (flat_map (λ h. sides_between h 0 4) (range_with_len (i + 1) n))
      (side 0 (omega arith), (side 1 (omega arith), (side 2 (omega arith), (side 3 (omega arith), tt)))) (sides_are (i + 1) n (omega arith))

  all_are_sides : AllByRecursion (IsSide k) (rectangle_sides k)
  all_are_sides = sides_are 0 k (omega arith)

  side_listed : (c : Corner) → IsSide k c → IsIn c (rectangle_sides k)
  side_listed c is = subst (IsIn c) (sides_same 0 k) (in_all_sides rectangles c (side_exists c is))

  sides_distinct : IsDistinct (rectangle_sides k)
  sides_distinct = subst IsDistinct (sides_same 0 k) (all_sides_distinct rectangles)

  -- ---- the tests

  abbrev P : Test → Type 0
  P = Passes false 2 rectangles lines

  abbrev Pass : List (List PlaneVector) → Type 0
  Pass polygons = AllByRecursion (Passes false 2 polygons lines) (tests polygons lines)

  polygons_pass : (i n : ℕ) → AllByRecursion P (tests_from i (map (vectors_at seed) (range_with_len i n)))
  polygons_pass i zero = tt
  polygons_pass i (suc n) =
      All-append P (map (of_polygon i (vectors_at seed i)) (polygon_tests (vectors_at seed i))) (tests_from (i + 1) (map (vectors_at seed) (range_with_len (i + 1) n)))
      (All-map (of_polygon i (vectors_at seed i)) P (polygon_tests (vectors_at seed i)) (drawn_rectangle_passes _ _)) (polygons_pass (i + 1) n)

  sides_on_lines : AllByRecursion (λ c. Contains (glued_sides lines) c) (all_sides rectangles)
  sides_on_lines =
      subst (λ cs. AllByRecursion (λ c. Contains (glued_sides lines) c) cs) (sym (sides_same 0 k))
      (All-weaker (rectangle_sides k) (λ c is. side_on_line k (rectangle_sides k) side_listed c is) all_are_sides)

  next_joined : (i : ℕ) → suc i < k → Joins lines i (suc i)
  next_joined i l =
      let c = corner i (i % 2 + 1) in
      let is : IsSide k c = record { there = omega arith; inside = omega arith } in
      let same : i % 2 ≡ (i % 2 + 1 + 1) % 2 = omega arith in
      subst (Joins lines i) (is_next ((i % 2 + 1 + 1) % 2) k i (partner k c).polygon same l (partner_neighbours k c)) (side_joins k (rectangle_sides k) side_listed c is)

  rectangle_reached : (i : ℕ) → i < k → IsReached (Joins lines) i
  rectangle_reached zero l held start closed = start
  rectangle_reached (suc i) l held start closed = closed i (suc i) (next_joined i l) (rectangle_reached i (omega arith) held start closed)

  rectangles_reached : (i n : ℕ) → i + n ≤ k → AllByRecursion (λ i. IsReached (Joins lines) i) (range_with_len i n)
  rectangles_reached i zero l = tt
  rectangles_reached i (suc n) l = (rectangle_reached i (omega arith), rectangles_reached (i + 1) n (omega arith))

  rectangles_pass : Pass rectangles
  rectangles_pass =
      All-append P (tests_from 0 rectangles) _ (polygons_pass 0 k)
      (All-append P (map of_line (line_tests [] lines)) _ (All-map of_line P (line_tests [] lines) (side_lines_pass k rectangles side_exists side_opposite (rectangle_sides k) sides_distinct all_are_sides))
      (All-append P (map side_glued (all_sides rectangles)) _ (All-map side_glued P (all_sides rectangles) sides_on_lines)
      (All-map polygon_reached P (range_with_len 0 (length rectangles)) (rectangles_reached 0 (length rectangles) (let count = length-map-range_with_len (vectors_at seed) 0 k in omega (arith, count))))))

-- the shape of a staircase passes all tests of building
pub staircase_passes : (k seed : ℕ) → 1 ≤ k → k ≤ 200 → AllByRecursion (PassesOf 2 (staircase_shape k seed)) (tests_of (staircase_shape k seed))
staircase_passes k seed some few =
    let shape = staircase_shape k seed in
    All-append (PassesOf 2 shape) (map of_scaling (scale_tests shape.polygons)) (tests (polygons_of shape) shape.glues)
    (All-map of_scaling (PassesOf 2 shape) (scale_tests shape.polygons) (staircase_scaling_passes seed k)) (subst (Pass k seed) (sym (staircase_scaled seed k)) (rectangles_pass k seed))
