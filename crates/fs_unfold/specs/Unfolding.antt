-- The unfolding of a table: what it means, and how its computation ends.
use Rattle.std.specs.Prelude.{◌≡◌, ◌↔◌, ℕ, ◌*◌, false, Result, Ok, Err, Some, List, [], ◌∷◌, ◌++◌, length, map}
use Rattle.std.specs.List.{AllByRecursion, slice_get}
use Rattle.fs_lists.specs.First.{IsFirstWithout}
use Rattle.fs_lists.specs.Members.{IsIn, IsDistinct}
use Rattle.fs_quadratic.specs.Ring.{Quadratic, total}
use Rattle.fs_quadratic.specs.declared.steps.Place.{Place}
use Rattle.fs_fraction.specs.Fraction.{scale}
use Rattle.fs_plane.specs.declared.sites.Site.{Site}
use Rattle.fs_plane.specs.declared.sites.Site.TheVariants as sites
use Rattle.fs_plane.specs.Vector.{PlaneVector}
use Rattle.fs_gluing.specs.declared.faults.BuildStop.{BuildStop}
use Rattle.fs_gluing.specs.declared.faults.BuildStop.TheVariants as stops
use Rattle.fs_gluing.specs.declared.faults.Fault.{Fault}
use Rattle.fs_gluing.specs.declared.faults.Fault.TheVariants as faults
use Rattle.fs_gluing.specs.declared.shapes.Point.{Point}
use Rattle.fs_gluing.specs.declared.shapes.Shape.{Shape}
use Rattle.fs_gluing.specs.Area.{twice_triangle, all_triangles}
use Rattle.fs_gluing.specs.FirstFault.{Test, of_scaling, tests_from, PassesOf, stop_of, tests_of}
use Rattle.fs_gluing.specs.Polygons.{all_sides}
use Rattle.fs_gluing.specs.Scaling.{scale_tests, common_den}
use Rattle.fs_gluing.specs.Shape.{polygons_of}
use Rattle.fs_unfold.specs.declared.matrices.Matrix.{Matrix}
use Rattle.fs_unfold.specs.declared.matrices.Mirror.{Mirror}
use Rattle.fs_unfold.specs.Matrices.{checked_mirror, checked_times, checked_image}
use Rattle.fs_unfold.specs.Products.{most_products, mirrors, IsProduct, AreListed, AreProducts}
use Rattle.fs_unfold.specs.Copies.{copy, IsPair, AreLines}

-- ---- the table alone

-- the shape whose only polygon is the table
abbrev pub alone : List Point → Shape
alone table = record { polygons = table ∷ []; glues = []; straight = false }

-- the tests of a table: those of its scaling, and those of polygon 0
abbrev pub table_tests : List Point → List Test
table_tests table = map of_scaling (scale_tests (table ∷ [])) ++ tests_from 0 (polygons_of (alone table))

-- the table passes them
abbrev pub PassesAlone : ℕ → List Point → Type 0
PassesAlone d table = AllByRecursion (PassesOf d (alone table)) (table_tests table)

-- the sites of building polygon 0 are those of a table
abbrev pub table_site : Site → Site
table_site (sites.Scale i j p) = sites.TableScale j p
table_site (sites.Close i j p) = sites.TableClose j p
table_site (sites.Corner i j p) = sites.TableCorner j p
table_site site = site

abbrev pub table_stop : BuildStop → BuildStop
table_stop (stops.Overflow site) = stops.Overflow (table_site site)
table_stop (stops.Fault fault) = stops.Fault fault
table_stop stops.NoMemory = stops.NoMemory

-- ---- what an unfolding means

-- no test of a shape that could give a fault fails
abbrev pub HasNoFault : ℕ → Shape → Type 0
HasNoFault d shape = (test : Test) (fault : Fault) → IsIn test (tests_of shape) → stop_of test ≡ stops.Fault fault → PassesOf d shape test

-- twice the area of polygons, which have these vectors
abbrev pub twice_area_of : ℕ → List (List PlaneVector) → Quadratic
twice_area_of d polygons = total (map (twice_triangle d) (all_triangles 0 polygons))

-- n times the area of the table is that of the shape, each scaled by its own denominator
abbrev pub HasAreas : ℕ → List Point → ℕ → Shape → Type 0
HasAreas d table n shape =
    let before = common_den (table ∷ []) in let after = common_den shape.polygons in
    scale (before * before) (twice_area_of d (polygons_of shape)) ≡ scale (n * (after * after)) (twice_area_of d (polygons_of (alone table)))

-- the shape has a copy of the table for each product of its reflections, glued side by side; it has no fault, and as many times the area of the table
pub record IsUnfolding (d : ℕ) (table : List Point) (shape : Shape) : Type 0 where
  pub products : List Matrix
  pub least : (m : Matrix) → IsIn m products ↔ IsProduct d (mirrors d table) m
  pub once : IsDistinct products
  pub copies : shape.polygons ≡ map (copy d table) products
  pub lines : AreLines (IsPair d (length table) (mirrors d table) products) (all_sides shape.polygons) shape.glues
  pub strict : shape.straight ≡ false
  pub no_fault : HasNoFault d shape
  pub areas : HasAreas d table (length products) shape

-- there are more products than may be
pub record HasTooMany (d : ℕ) (table : List Point) : Type 0 where
  pub products : List Matrix
  pub each : AllByRecursion (IsProduct d (mirrors d table)) products
  pub once : IsDistinct products
  pub many : length products ≡ 25

-- ---- how its computation ends

-- these are the reflections in the sides, computed without overflow
abbrev pub AreMirrors : ℕ → List Point → List Mirror → Type 0
AreMirrors d [] [] = Unit {0}
AreMirrors d [] (r ∷ rs) = ⊥
AreMirrors d (p ∷ ps) [] = ⊥
AreMirrors d (p ∷ ps) (r ∷ rs) = (checked_mirror d p ≡ Ok r) × AreMirrors d ps rs

-- the images of these sides are computed without overflow
abbrev pub HaveImages : ℕ → List Point → Matrix → Type 0
HaveImages d table m = AllByRecursion (λ p. (q : Point) × (checked_image d m p ≡ Ok q)) table

-- the next product, where reflection i is to be multiplied to product g
pub record IsNextProduct (d : ℕ) (rs : List Mirror) (list : List Matrix) (g i : ℕ) (result : Result Matrix Place) : Type 0 where
  pub listed : AreListed d rs list g i
  pub product : Matrix
  pub mirror : Mirror
  pub of_product : slice_get list g ≡ Some product
  pub of_side : slice_get rs i ≡ Some mirror
  pub is : result ≡ checked_times d product mirror

-- how the unfolding of a table ends
pub data EndsUnfolding (d : ℕ) (table : List Point) : Result Shape BuildStop → Type 0 where
  -- the table fails a test
  table_fails : (test : Test) → IsFirstWithout (PassesOf d (alone table)) (table_tests table) test → EndsUnfolding d table (Err (table_stop (stop_of test)))
  -- a reflection overflows
  mirror_overflows : (before after : List Point) (p : Point) (rs : List Mirror) (stop : Place) → PassesAlone d table → table ≡ before ++ p ∷ after → AreMirrors d before rs
      → checked_mirror d p ≡ Err stop → EndsUnfolding d table (Err (stops.Overflow (sites.Reflect (length before) stop.0)))
  -- a product overflows
  product_overflows : (rs : List Mirror) (list : List Matrix) (g i : ℕ) (stop : Place) → PassesAlone d table → AreMirrors d table rs → IsNextProduct d rs list g i (Err stop)
      → EndsUnfolding d table (Err (stops.Overflow (sites.Product g i stop.0)))
  -- a product is to be added to a full list
  too_large : (rs : List Mirror) (list : List Matrix) (g i : ℕ) (n : Matrix) → PassesAlone d table → AreMirrors d table rs → IsNextProduct d rs list g i (Ok n) → ¬ IsIn n list
      → length list ≡ most_products → EndsUnfolding d table (Err (stops.Fault faults.GroupTooLarge))
  -- a side of a copy overflows
  copy_overflows : (rs : List Mirror) (earlier later : List Matrix) (m : Matrix) (before after : List Point) (p : Point) (stop : Place) → PassesAlone d table → AreMirrors d table rs
      → AreProducts d rs (earlier ++ m ∷ later) → AllByRecursion (HaveImages d table) earlier → table ≡ before ++ p ∷ after → HaveImages d before m → checked_image d m p ≡ Err stop
      → EndsUnfolding d table (Err (stops.Overflow (sites.Copy (length earlier) (length before) stop.0)))
  -- all copies are made, and glued
  unfolded : (rs : List Mirror) (list : List Matrix) (shape : Shape) → PassesAlone d table → AreMirrors d table rs → AreProducts d rs list → AllByRecursion (HaveImages d table) list
      → shape.polygons ≡ map (copy d table) list → AreLines (IsPair d (length table) rs list) (all_sides shape.polygons) shape.glues → shape.straight ≡ false
      → EndsUnfolding d table (Ok shape)

-- what holds of the end holds of what a call returns; where memory runs out it returns neither
abbrev pub ReturnsUnfolding : (Result Shape BuildStop → Type 0) → Result Shape BuildStop → Type 0
ReturnsUnfolding P (Ok shape) = P (Ok shape)
ReturnsUnfolding P (Err stops.NoMemory) = Unit {0}
ReturnsUnfolding P (Err (stops.Fault fault)) = P (Err (stops.Fault fault))
ReturnsUnfolding P (Err (stops.Overflow site)) = P (Err (stops.Overflow site))
