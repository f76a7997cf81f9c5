-- The sides before this one are copied.
use Rattle.std.proofs.Common.{◌≡◌, take}
use Rattle.std.specs.List.{AllByRecursion}
use Rattle.fs_unfold.specs.Tables.{HasLowest}
use Rattle.fs_unfold.proofs.unfolding.copy_sides.Given as goal

abbrev pub invariant-loop-side : goal.invariant-loop-side
invariant-loop-side l = (l.sides ≡ take l.side-index l.table) × AllByRecursion HasLowest (take l.side-index l.table)
