-- The sides of a copy, scaled, are images of the table's sides.
use Rattle.std.proofs.Common.{◌≡◌, ℕ, ℤ, pos, ◌/◌, ◌<◌, Bool, true, false, if◌then◌else◌, List, [], ◌∷◌, map, reverse, refl, sym, ap, ◌∙◌}
use Rattle.std.proofs.lemmas.Simd.{map-map}
use Rattle.std.specs.Int.{◌∣◌}
use Rattle.std.specs.List.{AllByRecursion}
use Rattle.fs_lists.proofs.All.{All-of_map}
use Rattle.fs_ring.proofs.Integers.{integer_ring}
use Rattle.fs_ring.proofs.Solver.{identity, negative, ◌⊗◌, ◌≐◌}
use Rattle.fs_quadratic.specs.Ring.{Quadratic, neg, mul}
use Rattle.fs_quadratic.proofs.Laws.{quadratic_eq, quadratic_ring}
use Rattle.fs_quadratic.proofs.SquareRoot.{radicand_no_square}
use Rattle.fs_fraction.specs.Fraction.{Fraction, scale}
use Rattle.fs_fraction.proofs.Values.{whole}
use Rattle.fs_plane.specs.Vector.{PlaneVector, vector_neg, dot, cross}
use Rattle.fs_gluing.specs.declared.shapes.Point.{Point}
use Rattle.fs_gluing.specs.Scaling.{scaled_vector, IsMultipleOf}
use Rattle.fs_unfold.specs.declared.matrices.Matrix.{Matrix}
use Rattle.fs_unfold.specs.Copies.{is_turned, opposite, copy}
use Rattle.fs_unfold.specs.Matrices.{image}
use Rattle.fs_unfold.specs.Tables.{IsTable}
use Rattle.fs_unfold.proofs.Frames.{HasFrame, IsSide, image_x, image_y, image_canonical, frame_turned}
use Rattle.fs_unfold.proofs.ReversedLists.{All-of_members, All-of_reverse, map-reverse, map_alike}
use Rattle.fs_unfold.proofs.Ratios.{IsRatio, ratio_of_value, ratio_cross}
use Rattle.fs_unfold.proofs.TableTests.{has_value, den_of, scaled_table, table_side}
use Rattle.fs_unfold.proofs.Images.{IsImage, AreImages, copied}

-- ---- scaled vectors

scale_neg : (k : ℕ) (x : Quadratic) → scale k (neg x) ≡ neg (scale k x)
scale_neg k x = let by = λ (z : ℤ). identity integer_ring (pos k ∷ z ∷ []) (λ k z. k ⊗ negative z ≐ negative (k ⊗ z)) refl in quadratic_eq (by x.p) (by x.q)

-- an opposite vector, scaled
pub scaled_opposite : (den : ℕ) (p : Point) → scaled_vector den (opposite p) ≡ vector_neg (scaled_vector den p)
scaled_opposite den p = λ i. record { x = scale_neg (den / p.x.den) p.x.num i; y = scale_neg (den / p.y.den) p.y.num i }

-- ---- the sides of a copy

module _ (d : ℕ) (table : List Point) (is : IsTable d table) (m : Matrix) (f : PlaneVector) (k : Quadratic) (t : Bool) (h : HasFrame d m f k t) (den : ℕ) where
  -- the images, scaled, in the table's order
  abbrev scaled_images : List Point → List PlaneVector
  scaled_images points = map (λ p. scaled_vector den (image d m p)) points

  -- the copy by whether the orientation is turned
  abbrev by_turn : Bool → List Point
  by_turn turned = if turned then reverse (map (λ p. opposite (image d m p)) table) else map (image d m) table

  copy_scaled : (turned : Bool) → map (scaled_vector den) (by_turn turned) ≡ copied turned (scaled_images table)
  copy_scaled false = map-map (scaled_vector den) (image d m) table
  copy_scaled true =
      map-reverse (scaled_vector den) (map (λ p. opposite (image d m p)) table)
      ∙ ap reverse (map-map (scaled_vector den) (λ p. opposite (image d m p)) table
      ∙ map_alike (λ p. scaled_vector den (opposite (image d m p))) (λ p. vector_neg (scaled_vector den (image d m p))) (λ p. scaled_opposite den (image d m p)) table
      ∙ sym (map-map vector_neg (λ p. scaled_vector den (image d m p)) table))

  images_multiple : (turned : Bool) → AllByRecursion (IsMultipleOf den) (by_turn turned) → AllByRecursion (λ p. IsMultipleOf den (image d m p)) table
  images_multiple false a = All-of_map (image d m) (IsMultipleOf den) table a
  images_multiple true a =
      All-of_map (λ p. opposite (image d m p)) (IsMultipleOf den) table (All-of_reverse (IsMultipleOf den) (map (λ p. opposite (image d m p)) table) a)

  abbrev T : ℕ
  T = den_of table

  -- one fraction as a number over k times the table's denominator, and over the other denominator
  crosswise : (x : Fraction) (n : Quadratic) → 0 < x.den → x.den ∣ den → IsRatio d x n (mul d k (whole T)) → mul d (mul d k (whole T)) (scale (den / x.den) x.num) ≡ mul d (whole den) n
  crosswise x n up multiple ratio =
      let s = scale (den / x.den) x.num in
      (quadratic_ring d).mul_comm (mul d k (whole T)) s
      ∙ ratio_cross (radicand_no_square is.radicand) x s (whole den) n (mul d k (whole T)) up (ratio_of_value d x s den (has_value x den multiple)) ratio
      ∙ (quadratic_ring d).mul_comm n (whole den)

  one_image : (p : Point) → IsSide T p (scaled_vector T p) → IsMultipleOf den (image d m p) → IsImage d f t (mul d k (whole T)) (whole den) (scaled_vector T p) (scaled_vector den (image d m p))
  one_image p side multiple =
      let no_square = radicand_no_square is.radicand in
      let v = scaled_vector T p in
      let c = image_canonical no_square m f k t h T p v side in (
        crosswise (image d m p).x (dot d f v) c.0.positive multiple.0 (image_x no_square m f k t h T p v side),
        crosswise (image d m p).y (if t then neg (cross d f v) else cross d f v) c.1.positive multiple.1 (image_y no_square m f k t h T p v side),
      )

  each_image : (points : List Point) → AllByRecursion (λ p. IsSide T p (scaled_vector T p)) points → AllByRecursion (λ p. IsMultipleOf den (image d m p)) points
      → AreImages d f t (mul d k (whole T)) (whole den) (map (scaled_vector T) points) (scaled_images points)
  each_image [] sides multiples = tt
  each_image (p ∷ points) sides multiples = (one_image p sides.0 multiples.0, each_image points sides.1 multiples.1)

-- a copy, scaled by a multiple of its denominators, has images of the table's sides
pub copy_images : (d : ℕ) (table : List Point) → IsTable d table → (m : Matrix) (f : PlaneVector) (k : Quadratic) (t : Bool) → HasFrame d m f k t → (den : ℕ) → 0 < den
    → AllByRecursion (IsMultipleOf den) (copy d table m)
    → (qs : List PlaneVector) × (map (scaled_vector den) (copy d table m) ≡ copied t qs) × AreImages d f t (mul d k (whole (den_of table))) (whole den) (scaled_table table) qs
copy_images d table is m f k t h den up multiples =
    let turned : is_turned d m ≡ t = frame_turned (radicand_no_square is.radicand) m f k t h in
    let qs = map (λ p. scaled_vector den (image d m p)) table in (
      qs,
      copy_scaled d table is m f k t h den (is_turned d m) ∙ ap (λ b. copied b qs) turned,
      each_image d table is m f k t h den table (All-of_members (λ p. IsSide (den_of table) p (scaled_vector (den_of table) p)) table (λ p i. table_side d table is p i))
          (images_multiple d table is m f k t h den (is_turned d m) multiples),
    )
