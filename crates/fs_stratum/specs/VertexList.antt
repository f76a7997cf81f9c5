-- The list of the vertices of a surface with their cone numbers, and the genus.
use Rattle.std.specs.Prelude.{◌≡◌, ℕ, ◌+◌, ◌*◌, ◌≤◌, List, [], ◌∷◌, map, sum_by, length, Contains}
use Rattle.std.specs.List.{AllByRecursion}
use Rattle.std.specs.declared.cmp.Ordering.TheVariants.{Less}
use Rattle.fs_plane.specs.declared.corners.Corner.{Corner}
use Rattle.fs_gluing.specs.Gluing.{corner_cmp}
use Rattle.fs_gluing.specs.Polygons.{HasSide}
use Rattle.fs_gluing.specs.Surface.{GluedPolygons}
use Rattle.fs_gluing.specs.Vertices.{AreOneVertex, IsConeNumber}
use Rattle.fs_stratum.specs.declared.cones.Cone.{Cone}

-- each corner comes before the next
abbrev pub AreAscending : List Corner → Type 0
AreAscending [] = Unit {0}
AreAscending (c ∷ []) = Unit {0}
AreAscending (c ∷ (e ∷ corners)) = (corner_cmp c e ≡ Less) × AreAscending (e ∷ corners)

-- the cone has the least corner of a vertex, and that vertex's cone number
pub record IsVertex (s : GluedPolygons) (cone : Cone) : Type 0 where
  pub there : HasSide s.polygons cone.first
  pub least : (e : Corner) → AreOneVertex s.polygons cone.first e → ¬ (corner_cmp e cone.first ≡ Less)
  pub number : IsConeNumber s cone.first cone.k

-- the cones are all vertices, each once, in the order of their least corners
pub record AreVertices (s : GluedPolygons) (cones : List Cone) : Type 0 where
  pub each : AllByRecursion (IsVertex s) cones
  pub ascending : AreAscending (map (λ cone. cone.first) cones)
  pub all : (c : Corner) → HasSide s.polygons c → (cone : Cone) × Contains cones cone × AreOneVertex s.polygons cone.first c

-- g is the genus: V - E + F = 2 - 2g for V vertices, F polygons and half as many edges as sides
abbrev pub IsGenus : GluedPolygons → ℕ → ℕ → Type 0
IsGenus s vertices g = 2 * vertices + 2 * length s.polygons + 4 * g ≡ sum_by length s.polygons + 4

-- every k is at least 1, the sum of all k - 1 is 2g - 2, and g is the genus
pub record HasGenus (s : GluedPolygons) (cones : List Cone) (g : ℕ) : Type 0 where
  pub positive : AllByRecursion (λ cone. 1 ≤ cone.k) cones
  pub sum : sum_by (λ cone. cone.k) cones + 2 ≡ length cones + 2 * g
  pub genus : IsGenus s (length cones) g
