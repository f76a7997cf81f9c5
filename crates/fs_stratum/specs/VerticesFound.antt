-- The vertices that have a corner before a given one. Only proofs and inner calls of this crate cite it; the contract of `flat` doesn't rest on it.
use Rattle.std.specs.Prelude.{◌≡◌, ◌↔◌, Bool, IsTrue, List, map, Contains}
use Rattle.std.specs.List.{AllByRecursion}
use Rattle.std.specs.declared.cmp.Ordering.TheVariants.{Less}
use Rattle.fs_plane.specs.declared.corners.Corner.{Corner}
use Rattle.fs_gluing.specs.Gluing.{corner_cmp}
use Rattle.fs_gluing.specs.Polygons.{HasSide}
use Rattle.fs_gluing.specs.Surface.{GluedPolygons}
use Rattle.fs_gluing.specs.Vertices.{AreOneVertex}
use Rattle.fs_stratum.specs.declared.cones.Cone.{Cone}
use Rattle.fs_stratum.specs.VertexList.{IsVertex, AreAscending}
use Rattle.fs_stratum.specs.CornerMarks.{is_marked, Covers}

-- the cones are the vertices with a corner before c, and exactly the corners of these vertices are marked
pub record AreFoundBefore (s : GluedPolygons) (c : Corner) (marks : List (List Bool)) (cones : List Cone) : Type 0 where
  pub covers : Covers s.polygons marks
  pub each : AllByRecursion (IsVertex s) cones
  pub ascending : AreAscending (map (λ cone. cone.first) cones)
  pub earlier : AllByRecursion (λ cone. corner_cmp cone.first c ≡ Less) cones
  pub marked : (e : Corner) → IsTrue (is_marked marks e) ↔ ((cone : Cone) × Contains cones cone × AreOneVertex s.polygons cone.first e)
  pub passed : (e : Corner) → HasSide s.polygons e → corner_cmp e c ≡ Less → IsTrue (is_marked marks e)
