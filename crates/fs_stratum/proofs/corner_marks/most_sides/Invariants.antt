-- The polygons before i have at most so many sides.
use Rattle.std.proofs.Common.{◌≡◌, ◌<◌, ◌≤◌, ℕ, Some, List, length}
use Rattle.std.specs.List.{slice_get}
use Rattle.fs_gluing.specs.declared.surfaces.Side.{Side}
use Rattle.fs_stratum.proofs.corner_marks.most_sides.Given as goal

abbrev pub invariant-loop-i : goal.invariant-loop-i
invariant-loop-i l = (k : ℕ) (polygon : List Side) → k < l.i → slice_get l.surface.polygons k ≡ Some polygon → length polygon ≤ l.most
