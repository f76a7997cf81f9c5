-- How the unfolding of a table ends, by where it stopped, and what follows of what is returned.
use Rattle.std.proofs.Common.{◌≡◌, ℕ, ◌≤◌, false, Result, Ok, Err, List, length, map, refl, sym, ap, ◌∙◌, subst}
use Rattle.std.proofs.lemmas.List.{length-map}
use Rattle.std.specs.List.{AllByRecursion}
use Rattle.std.specs.Result.{IfOk, OnOk}
use Rattle.fs_quadratic.specs.Radicand.{IsRadicand}
use Rattle.fs_gluing.specs.declared.faults.BuildStop.{BuildStop}
use Rattle.fs_gluing.specs.declared.faults.BuildStop.TheVariants as stops
use Rattle.fs_gluing.specs.declared.faults.Fault.TheVariants as faults
use Rattle.fs_gluing.specs.declared.shapes.Point.{Point}
use Rattle.fs_gluing.specs.declared.shapes.Shape.{Shape}
use Rattle.fs_gluing.specs.Polygons.{all_sides}
use Rattle.fs_gluing.specs.Shape.{IsWithinLimits}
use Rattle.fs_unfold.specs.declared.matrices.Mirror.{Mirror}
use Rattle.fs_unfold.specs.declared.products.TableCopy.{TableCopy}
use Rattle.fs_unfold.specs.Copies.{copy, IsPair, AreLines}
use Rattle.fs_unfold.specs.InPlace.{HaveTable, StopsAtMirror, StopsAtTable, OrNoMemory, rows_of, IsUnderWay, StopsAtProduct, overflows, full, AreWhole, HaveLines, sides_of_copies, StopsAtCopy}
use Rattle.fs_unfold.specs.Products.{AreListed, AreProducts}
use Rattle.fs_unfold.specs.Tables.{HasLowest, IsTable}
use Rattle.fs_unfold.specs.Unfolding.{IsUnfolding, HasTooMany, AreMirrors, HaveImages, EndsUnfolding, table_fails, mirror_overflows, product_overflows, too_large, copy_overflows, unfolded, ReturnsUnfolding}
use Rattle.fs_unfold.proofs.LinesInTurn.{all_sides_of}
use Rattle.fs_unfold.proofs.UnfoldingMeans.{unfolding_means, unfolding_within, too_large_means}
use Rattle.fs_unfold.proofs.UnfoldingUnique.{mirrors_length, unfolding_unique}

module _ (d : ℕ) (table : List Point) where
  abbrev Ends : Result Shape BuildStop → Type 0
  Ends = EndsUnfolding d table

  -- a stop that is out of memory or an end is returned as such
  returned : (P : BuildStop → Type 0) → ((stop : BuildStop) → P stop → Ends (Err stop)) → (stop : BuildStop) → OrNoMemory P stop → ReturnsUnfolding Ends (Err stop)
  returned P ends stops.NoMemory h = tt
  returned P ends (stops.Fault fault) h = ends (stops.Fault fault) h
  returned P ends (stops.Overflow site) h = ends (stops.Overflow site) h

  -- the table fails
  pub ends_at_table : (stop : BuildStop) → OrNoMemory (StopsAtTable d table) stop → ReturnsUnfolding Ends (Err stop)
  ends_at_table stop h = returned (StopsAtTable d table) (λ s at. subst (λ x. Ends (Err x)) (sym at.at) (table_fails at.test at.first)) stop h

  -- a reflection overflows
  pub ends_at_mirror : IsTable d table → (stop : BuildStop) → OrNoMemory (StopsAtMirror d table) stop → ReturnsUnfolding Ends (Err stop)
  ends_at_mirror is stop h =
      returned (StopsAtMirror d table)
      (λ s at. subst (λ x. Ends (Err x)) (sym at.at) (mirror_overflows at.before at.after at.point at.done at.place is.passes at.is at.mirrors at.overflows)) stop h

  module _ (is : IsTable d table) (rs : List Mirror) (are : AreMirrors d table rs) where
    -- the reflections are those of a table
    have_table : HaveTable d rs
    have_table = record { table = table; is = is; mirrors = are }

    at_product : (stop : BuildStop) → StopsAtProduct d rs stop → Ends (Err stop)
    at_product _ (overflows list g i stop next) = product_overflows rs list g i stop is.passes are next
    at_product _ (full list g i n next new many) = too_large rs list g i n is.passes are next new many

    -- a product overflows, or is too many
    pub ends_at_product : (stop : BuildStop) → OrNoMemory (StopsAtProduct d rs) stop → ReturnsUnfolding Ends (Err stop)
    ends_at_product stop h = returned (StopsAtProduct d rs) at_product stop h

    module _ (list : List TableCopy) (neighbours : List ℕ) (way : IsUnderWay d rs (length list) 0 list neighbours) where
      -- they are all products
      all_products : AreProducts d rs (rows_of list)
      all_products = subst (λ n. AreListed d rs (rows_of list) n 0) (sym (length-map list (λ (c : TableCopy). c.rows))) way.listed

      -- with what was noted
      pub are_whole : AreWhole (length table) list neighbours
      are_whole = (d, rs, mirrors_length d table rs are, have_table, way)

      -- a side of a copy overflows
      pub ends_at_copy : (stop : BuildStop) → OrNoMemory (StopsAtCopy d table (rows_of list)) stop → ReturnsUnfolding Ends (Err stop)
      ends_at_copy stop h =
          returned (StopsAtCopy d table (rows_of list))
          (λ s at. subst (λ x. Ends (Err x)) (sym at.side.at)
          (copy_overflows rs at.earlier at.later at.matrix at.side.before at.side.after at.side.point at.side.place is.passes are (subst (AreProducts d rs) at.is all_products) at.images at.side.is
          at.side.images at.side.overflows)) stop h

      -- the shape of the copies
      pub ends_with_shape : (shape : Shape) → shape.polygons ≡ map (copy d table) (rows_of list) → AllByRecursion (HaveImages d table) (rows_of list)
          → HaveLines (length table) list neighbours (sides_of_copies (length table) 0 (length list)) shape.glues → shape.straight ≡ false → ReturnsUnfolding Ends (Ok shape)
      ends_with_shape shape copies images lines strict =
          unfolded rs (rows_of list) shape is.passes are all_products images copies
          (subst (λ sides. AreLines (IsPair d (length table) rs (rows_of list)) sides shape.glues) (sym (ap (λ ps. all_sides ps) copies ∙ all_sides_of d table list))
          (lines d rs (mirrors_length d table rs are) have_table way)) strict

  -- ---- what is returned

  -- there is no other end
  pub only_end : (result given : Result Shape BuildStop) → ReturnsUnfolding Ends result → Ends given → ReturnsUnfolding (λ r. r ≡ given) result
  only_end (Ok shape) given ends other = unfolding_unique d table _ _ ends other
  only_end (Err stops.NoMemory) given ends other = tt
  only_end (Err (stops.Fault fault)) given ends other = unfolding_unique d table _ _ ends other
  only_end (Err (stops.Overflow site)) given ends other = unfolding_unique d table _ _ ends other

  -- a shape that is returned is the unfolding, within the limits
  pub returned_means : IsRadicand d → length table ≤ 42 → (result : Result Shape BuildStop) → OnOk result (AllByRecursion HasLowest table) → ReturnsUnfolding Ends result → IfOk result (IsUnfolding d table)
  returned_means radicand few (Ok shape) lowest ends = unfolding_means d table radicand lowest few (Ok shape) shape ends refl
  returned_means radicand few (Err stop) lowest ends = tt

  pub returned_within : length table ≤ 42 → (result : Result Shape BuildStop) → ReturnsUnfolding Ends result → IfOk result IsWithinLimits
  returned_within few (Ok shape) ends = unfolding_within d table (Ok shape) shape few ends refl
  returned_within few (Err stop) ends = tt

  -- and a group that is too large has too many products
  pub returned_too_many : (result : Result Shape BuildStop) → ReturnsUnfolding Ends result → result ≡ Err (stops.Fault faults.GroupTooLarge) → HasTooMany d table
  returned_too_many result ends e = too_large_means d table _ (subst (ReturnsUnfolding Ends) e ends) refl
