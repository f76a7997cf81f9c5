-- What the end of an unfolding means: a shape is the unfolding of the table, within the limits, and a group that is too large has too many products.
use Rattle.std.proofs.Common.{◌≡◌, ℕ, ◌*◌, ◌≤◌, false, Result, Ok, Err, List, [], ◌∷◌, length, map, sum_by, sym, ap, ◌∙◌, subst, arith}
use Rattle.std.proofs.lemmas.List.{length-map}
use Rattle.std.proofs.lemmas.List.Sums.{sum_by-cons}
use Rattle.std.specs.List.{AllByRecursion}
use Rattle.fs_quadratic.specs.Radicand.{IsRadicand}
use Rattle.fs_quadratic.proofs.SquareRoot.{radicand_no_square}
use Rattle.fs_lists.proofs.Results.{ok_equal, err_equal, ok_not_err}
use Rattle.fs_gluing.specs.declared.faults.BuildStop.{BuildStop}
use Rattle.fs_gluing.specs.declared.faults.BuildStop.TheVariants as stops
use Rattle.fs_gluing.specs.declared.faults.Fault.TheVariants as faults
use Rattle.fs_gluing.specs.declared.shapes.Point.{Point}
use Rattle.fs_gluing.specs.declared.shapes.Shape.{Shape}
use Rattle.fs_gluing.specs.FirstFault.{Test, of_scaling, of_polygon, of_line, side_glued, polygon_reached, three_sides, x_fits, y_fits, polygon_closes, corner_fits, corner_convex, turning_number_one, sides_exist, glued_once, sides_opposite, stop_of}
use Rattle.fs_gluing.specs.Polygons.{all_sides}
use Rattle.fs_gluing.specs.Scaling.{common_fits, part_fits}
use Rattle.fs_gluing.specs.Shape.{IsWithinLimits}
use Rattle.fs_unfold.specs.declared.matrices.Matrix.{Matrix}
use Rattle.fs_unfold.specs.declared.matrices.Mirror.{Mirror}
use Rattle.fs_unfold.specs.Copies.{copy, IsPair, AreLines}
use Rattle.fs_unfold.specs.Products.{mirrors, AreProducts}
use Rattle.fs_unfold.specs.Tables.{HasLowest, IsTable}
use Rattle.fs_unfold.specs.Unfolding.{table_stop, IsUnfolding, HasTooMany, EndsUnfolding, table_fails, mirror_overflows, product_overflows, too_large, copy_overflows, unfolded}
use Rattle.fs_unfold.proofs.ComputedMatrices.{mirrors_are}
use Rattle.fs_unfold.proofs.ImagePolygons.{image_polygon}
use Rattle.fs_unfold.proofs.ListedFrames.{IsFramed, listed_framed}
use Rattle.fs_unfold.proofs.NoFault.{no_fault}
use Rattle.fs_unfold.proofs.Partners.{copy_length}
use Rattle.fs_unfold.proofs.ProductLists.{products_least, listed_once, listed_some, listed_few}
use Rattle.fs_unfold.proofs.ReversedLists.{All-of_members}
use Rattle.fs_unfold.proofs.TableTests.{HasDens}
use Rattle.fs_unfold.proofs.TooMany.{too_many}
use Rattle.fs_unfold.proofs.UnfoldingAreas.{copy_dens, unfolding_areas, copies_are_polygons}

-- ---- limits

-- the sides of copies of at most 42 sides each
sides_of_copies : (d : ℕ) (table : List Point) (ms : List Matrix) → length table ≤ 42 → sum_by length (map (copy d table) ms) ≤ 42 * length ms
sides_of_copies d table [] few = (let l : 0 ≤ 42 * 0 = omega arith in l)
sides_of_copies d table (m ∷ ms) few = let rest = sides_of_copies d table ms few in let here = copy_length d table m in let more = sum_by-cons length (copy d table m) (map (copy d table) ms) in omega (arith, rest, here, few, more)

copies_within : (d : ℕ) (table : List Point) (rs : List Mirror) (list : List Matrix) (shape : Shape) → length table ≤ 42 → AreProducts d rs list → shape.polygons ≡ map (copy d table) list → IsWithinLimits shape
copies_within d table rs list shape few whole copies =
    let some = listed_some list (length list) 0 whole in
    let most = listed_few list (length list) 0 whole in
    let sides = sides_of_copies d table list few in
    let as_many : length shape.polygons ≡ length list = ap (λ ps. length ps) copies ∙ length-map list (copy d table) in
    let same : sum_by length shape.polygons ≡ sum_by length (map (copy d table) list) = ap (sum_by (λ p. length p)) copies in
    record { some_polygon = omega (arith, some, as_many); polygons = omega (arith, most, as_many); sides = omega (arith, sides, same, most) }

-- a shape is within the limits
pub unfolding_within : (d : ℕ) (table : List Point) (result : Result Shape BuildStop) (shape : Shape) → length table ≤ 42 → EndsUnfolding d table result → result ≡ Ok shape → IsWithinLimits shape
unfolding_within d table _ shape few (table_fails test fails) e = absurd (ok_not_err _ _ (sym e))
unfolding_within d table _ shape few (mirror_overflows before after p rs stop passes is are overflows) e = absurd (ok_not_err _ _ (sym e))
unfolding_within d table _ shape few (product_overflows rs list g i stop passes are next) e = absurd (ok_not_err _ _ (sym e))
unfolding_within d table _ shape few (too_large rs list g i n passes are next new full) e = absurd (ok_not_err _ _ (sym e))
unfolding_within d table _ shape few (copy_overflows rs earlier later m before after p stop passes are whole images is ps overflows) e = absurd (ok_not_err _ _ (sym e))
unfolding_within d table _ shape few (unfolded rs list made passes are whole images copies lines strict) e = subst IsWithinLimits (ok_equal _ _ e) (copies_within d table rs list made few whole copies)

-- it allows no straight corner
pub unfolding_strict : (d : ℕ) (table : List Point) (result : Result Shape BuildStop) (shape : Shape) → EndsUnfolding d table result → result ≡ Ok shape → shape.straight ≡ false
unfolding_strict d table _ shape (table_fails test fails) e = absurd (ok_not_err _ _ (sym e))
unfolding_strict d table _ shape (mirror_overflows before after p rs stop passes is are overflows) e = absurd (ok_not_err _ _ (sym e))
unfolding_strict d table _ shape (product_overflows rs list g i stop passes are next) e = absurd (ok_not_err _ _ (sym e))
unfolding_strict d table _ shape (too_large rs list g i n passes are next new full) e = absurd (ok_not_err _ _ (sym e))
unfolding_strict d table _ shape (copy_overflows rs earlier later m before after p stop passes are whole images is ps overflows) e = absurd (ok_not_err _ _ (sym e))
unfolding_strict d table _ shape (unfolded rs list made passes are whole images copies lines strict) e = subst (λ (s : Shape). s.straight ≡ false) (ok_equal _ _ e) strict

-- ---- meaning

module _ (d : ℕ) (table : List Point) (radicand : IsRadicand d) (lowest : AllByRecursion HasLowest table) (few : length table ≤ 42) where
  -- the shape of the copies is the unfolding
  shape_means : (rs : List Mirror) (list : List Matrix) (shape : Shape) → IsTable d table → rs ≡ mirrors d table → AreProducts d rs list → shape.polygons ≡ map (copy d table) list
      → AreLines (IsPair d (length table) rs list) (all_sides shape.polygons) shape.glues → shape.straight ≡ false → IsUnfolding d table shape
  shape_means rs list shape is same whole copies lines strict =
      let are = subst (λ qs. AreProducts d qs list) same whole in
      let glued = subst (λ qs. AreLines (IsPair d (length table) qs list) (all_sides shape.polygons) shape.glues) same lines in
      let polygons = copies_are_polygons d (λ f turned a b. image_polygon (radicand_no_square radicand) f turned a b) table is list are shape copies in
      record {
        products = list;
        least = products_least list are;
        once = listed_once list (length list) 0 are;
        copies = copies;
        lines = glued;
        strict = strict;
        no_fault = no_fault d table is list are shape copies glued strict polygons;
        areas = unfolding_areas d table is list are shape copies;
      }

  -- a shape at the end is the unfolding
  pub unfolding_means : (result : Result Shape BuildStop) (shape : Shape) → EndsUnfolding d table result → result ≡ Ok shape → IsUnfolding d table shape
  unfolding_means _ shape (table_fails test fails) e = absurd (ok_not_err _ _ (sym e))
  unfolding_means _ shape (mirror_overflows before after p rs stop passes is are overflows) e = absurd (ok_not_err _ _ (sym e))
  unfolding_means _ shape (product_overflows rs list g i stop passes are next) e = absurd (ok_not_err _ _ (sym e))
  unfolding_means _ shape (too_large rs list g i n passes are next new full) e = absurd (ok_not_err _ _ (sym e))
  unfolding_means _ shape (copy_overflows rs earlier later m before after p stop passes are whole images is ps overflows) e = absurd (ok_not_err _ _ (sym e))
  unfolding_means _ shape (unfolded rs list made passes are whole images copies lines strict) e =
      subst (IsUnfolding d table) (ok_equal _ _ e)
      (shape_means rs list made (record { radicand = radicand; passes = passes; lowest = lowest; few = few }) (mirrors_are d table rs are) whole copies lines strict)

  -- its denominators are above 0
  copies_dens : IsTable d table → (ms : List Matrix) → AllByRecursion (IsFramed d) ms → AllByRecursion (AllByRecursion HasDens) (map (copy d table) ms)
  copies_dens is [] framed = tt
  copies_dens is (m ∷ ms) framed = (copy_dens d table is m framed.0, copies_dens is ms framed.1)

  pub unfolding_dens : (result : Result Shape BuildStop) (shape : Shape) → EndsUnfolding d table result → result ≡ Ok shape → AllByRecursion (AllByRecursion HasDens) shape.polygons
  unfolding_dens _ shape (table_fails test fails) e = absurd (ok_not_err _ _ (sym e))
  unfolding_dens _ shape (mirror_overflows before after p rs stop passes is are overflows) e = absurd (ok_not_err _ _ (sym e))
  unfolding_dens _ shape (product_overflows rs list g i stop passes are next) e = absurd (ok_not_err _ _ (sym e))
  unfolding_dens _ shape (too_large rs list g i n passes are next new full) e = absurd (ok_not_err _ _ (sym e))
  unfolding_dens _ shape (copy_overflows rs earlier later m before after p stop passes are whole images is ps overflows) e = absurd (ok_not_err _ _ (sym e))
  unfolding_dens _ shape (unfolded rs list made passes are whole images copies lines strict) e =
      let is : IsTable d table = record { radicand = radicand; passes = passes; lowest = lowest; few = few } in
      let products = subst (λ qs. AreProducts d qs list) (mirrors_are d table rs are) whole in
      subst (λ (s : Shape). AllByRecursion (AllByRecursion HasDens) s.polygons) (ok_equal _ _ e)
      (subst (AllByRecursion (AllByRecursion HasDens)) (sym copies)
      (copies_dens is list (All-of_members (IsFramed d) list (λ m m_in. listed_framed d table is list (length list) 0 products m m_in))))

-- ---- too many products

-- no test gives this fault
own_fault : (test : Test) → table_stop (stop_of test) ≡ stops.Fault faults.GroupTooLarge → ⊥
own_fault (of_scaling (common_fits i j p m n)) e = cc
own_fault (of_scaling (part_fits i j p k z)) e = cc
own_fault (of_polygon i polygon three_sides) e = cc
own_fault (of_polygon i polygon (x_fits j)) e = cc
own_fault (of_polygon i polygon (y_fits j)) e = cc
own_fault (of_polygon i polygon polygon_closes) e = cc
own_fault (of_polygon i polygon (corner_fits j corner p)) e = cc
own_fault (of_polygon i polygon (corner_convex j corner)) e = cc
own_fault (of_polygon i polygon turning_number_one) e = cc
own_fault (of_line (sides_exist g)) e = cc
own_fault (of_line (glued_once earlier g)) e = cc
own_fault (of_line (sides_opposite g)) e = cc
own_fault (side_glued c) e = cc
own_fault (polygon_reached i) e = cc

-- where the group is too large there are too many products
pub too_large_means : (d : ℕ) (table : List Point) (result : Result Shape BuildStop) → EndsUnfolding d table result → result ≡ Err (stops.Fault faults.GroupTooLarge) → HasTooMany d table
too_large_means d table _ (table_fails test fails) e = absurd (own_fault test (err_equal _ _ e))
too_large_means d table _ (mirror_overflows before after p rs stop passes is are overflows) e = absurd (let f = err_equal _ _ e in cc)
too_large_means d table _ (product_overflows rs list g i stop passes are next) e = absurd (let f = err_equal _ _ e in cc)
too_large_means d table _ (too_large rs list g i n passes are next new full) e = too_many d table rs list g i n are next new full
too_large_means d table _ (copy_overflows rs earlier later m before after p stop passes are whole images is ps overflows) e = absurd (let f = err_equal _ _ e in cc)
too_large_means d table _ (unfolded rs list made passes are whole images copies lines strict) e = absurd (ok_not_err _ _ e)
