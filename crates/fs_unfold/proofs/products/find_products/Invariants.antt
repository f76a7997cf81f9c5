-- The products before product g are multiplied; there are at most 24.
use Rattle.std.proofs.Common.{◌-◌, ◌≤◌, length}
use Rattle.fs_unfold.specs.InPlace.{IsUnderWay}
use Rattle.fs_unfold.proofs.products.find_products.Given as goal

abbrev pub invariant-loop-g : goal.invariant-loop-g
invariant-loop-g l = IsUnderWay l.field.d l.mirrors l.g 0 l.found.list l.found.neighbours × (l.g ≤ length l.found.list)

abbrev pub decreases-loop-g : goal.decreases-loop-g
decreases-loop-g l = 24 - l.g
