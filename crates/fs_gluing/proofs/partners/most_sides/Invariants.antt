-- No polygon so far has more sides.
use Rattle.std.proofs.Common.{◌≡◌, ℕ, ◌<◌, ◌≤◌, List, length, Some}
use Rattle.std.specs.List.{slice_get}
use Rattle.fs_plane.specs.Vector.{PlaneVector}
use Rattle.fs_gluing.specs.Limits.{most_sides}
use Rattle.fs_gluing.proofs.partners.most_sides.Given as goal

abbrev pub invariant-loop-polygon : goal.invariant-loop-polygon
invariant-loop-polygon l =
    ((i : ℕ) (polygon : List PlaneVector) → i < l.polygon-index → slice_get l.polygons i ≡ Some polygon → length polygon ≤ l.most) × (l.most ≤ most_sides)
