-- The count so far is that of the vertices before index i, and the vertices have a genus.
use Rattle.std.proofs.Common.{◌≡◌, ℕ, ◌+◌, ◌<◌, ◌^◌, length, take, sum_by}
use Rattle.fs_gluing.specs.Surface.{GluedPolygons}
use Rattle.fs_stratum.specs.declared.cones.Cone.{Cone}
use Rattle.fs_stratum.specs.VertexList.{HasGenus}
use Rattle.fs_stratum.proofs.cones.genus.Given as goal

abbrev pub invariant-loop-cone : goal.invariant-loop-cone
invariant-loop-cone l =
    (l.twice + l.cone-index ≡ 2 + sum_by (λ (cone : Cone). cone.k) (take l.cone-index l.cones)) × ((s : GluedPolygons) × (sum_by length s.polygons < 2 ^ 32) × ((g : ℕ) × HasGenus s l.cones g))
