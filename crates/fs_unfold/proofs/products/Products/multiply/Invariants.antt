-- The product is multiplied by the reflections before this one, and is still there.
use Rattle.std.proofs.Common.{◌≡◌, Some}
use Rattle.std.specs.List.{slice_get}
use Rattle.fs_unfold.specs.InPlace.{IsUnderWay}
use Rattle.fs_unfold.proofs.products.Products.multiply.Given as goal

abbrev pub invariant-loop-i : goal.invariant-loop-i
invariant-loop-i l = IsUnderWay l.field.d l.mirrors l.g l.i l.self.list l.self.neighbours × (slice_get l.self.list l.g ≡ Some l.product)
