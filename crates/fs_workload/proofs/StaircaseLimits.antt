-- A staircase is within the limits of a surface.
use Rattle.std.proofs.Common.{◌≡◌, ℕ, zero, suc, ◌+◌, ◌*◌, ◌≤◌, length, map, sum_by, refl, ap, ◌∙◌, arith}
use Rattle.std.proofs.lemmas.List.FromFn.{length-map-range_with_len, sum_by-map-range_with_len_more}
use Rattle.std.specs.List.{range_with_len}
use Rattle.fs_gluing.specs.declared.shapes.Shape.{Shape}
use Rattle.fs_gluing.specs.Shape.{IsWithinLimits}
use Rattle.fs_workload.specs.Staircase.{rectangle_at}

sides_count : (seed n : ℕ) → sum_by length (map (rectangle_at seed) (range_with_len 0 n)) ≡ 4 * n
sides_count seed zero = refl
sides_count seed (suc n) =
    ap (λ (m : ℕ). sum_by length (map (rectangle_at seed) (range_with_len 0 m))) one ∙ sum_by-map-range_with_len_more length (rectangle_at seed) 0 n n (omega arith) ∙ ap (λ (m : ℕ). m + 4) (sides_count seed n) ∙ four
  where
    one : suc n ≡ n + 1
    one = omega arith

    four : 4 * n + 4 ≡ 4 * suc n
    four = omega arith

module _ (k seed : ℕ) (some : 1 ≤ k) (few : k ≤ 200) where
  -- the shape of these polygons and lines
  pub shape_within : (shape : Shape) → shape.polygons ≡ map (rectangle_at seed) (range_with_len 0 k) → IsWithinLimits shape
  shape_within shape is = let count : length shape.polygons ≡ k = ap length is ∙ length-map-range_with_len (rectangle_at seed) 0 k in
      let sides : sum_by length shape.polygons ≡ 4 * k = ap (sum_by length) is ∙ sides_count seed k in
      record { some_polygon = omega (arith, count, some); polygons = omega (arith, count, few); sides = omega (arith, sides, few) }
