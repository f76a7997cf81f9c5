-- The area of polygons, as a sum of triangles, and where its computation overflows.
use Rattle.std.specs.Prelude.{ℕ, ◌+◌, List, [], ◌∷◌, ◌++◌, Result, Ok, Err, map, drop}
use Rattle.fs_ring.specs.Vector as plane
use Rattle.fs_quadratic.specs.Ring.{Quadratic, quadratic, total}
use Rattle.fs_quadratic.specs.declared.steps.Place.{Place}
use Rattle.fs_plane.specs.declared.sites.Site.{Site}
use Rattle.fs_plane.specs.declared.sites.Site.TheVariants as sites
use Rattle.fs_plane.specs.Vector.{vector_zero, PlaneVector}
use Rattle.fs_quadratic.specs.Checked.{◌>>=◌, checked_sum}
use Rattle.fs_plane.specs.Formulas.{cross_after}
use Rattle.fs_gluing.specs.Positions.{positions_from}
use Rattle.fs_gluing.specs.Surface.{GluedPolygons, side_vectors}

-- a triangle of a polygon: corner 0, which is at (0,0), the corner with this number, and the next one, by the positions of these two
pub record Triangle : Type 0 where
  pub polygon : ℕ
  pub corner : ℕ
  pub one : PlaneVector
  pub two : PlaneVector

-- the triangles of polygon i at the corners with these positions, the first of which has the number j
abbrev pub triangles_from : ℕ → ℕ → List PlaneVector → List Triangle
triangles_from i j [] = []
triangles_from i j (one ∷ []) = []
triangles_from i j (one ∷ (two ∷ positions)) = record { polygon = i; corner = j; one = one; two = two } ∷ triangles_from i (j + 1) (two ∷ positions)

-- the triangles into which its diagonals from corner 0 cut polygon i
abbrev pub triangles_of : ℕ → List PlaneVector → List Triangle
triangles_of i polygon = triangles_from i 1 (drop 1 (positions_from vector_zero polygon))

-- the triangles of the polygons, the first of which has the number i
abbrev pub all_triangles : ℕ → List (List PlaneVector) → List Triangle
all_triangles i [] = []
all_triangles i (polygon ∷ polygons) = triangles_of i polygon ++ all_triangles (i + 1) polygons

-- the triangles of a surface, in order
abbrev pub triangles : GluedPolygons → List Triangle
triangles s = all_triangles 0 (map side_vectors s.polygons)

-- ---- the area

-- twice the area of a triangle: above 0 where its corners are counterclockwise
abbrev pub twice_triangle : ℕ → Triangle → Quadratic
twice_triangle d t = plane.twice_area (quadratic d) vector_zero t.one t.two

-- twice the area of the surface, times the square of its denominator
abbrev pub twice_area : GluedPolygons → Quadratic
twice_area s = total (map (twice_triangle s.d) (triangles s))

-- ---- how it is computed

-- a sum plus a triangle: places 1 to 3 are those of the cross product, place 4 is that of the sum
abbrev pub add_triangle : ℕ → Quadratic → Triangle → Result Quadratic Place
add_triangle d sum t = cross_after 0 d t.one t.two >>= (λ part. checked_sum 4 sum part)

-- what comes next after a sum, or the site at the triangle
abbrev pub continued : Triangle → Result Quadratic Place → (Quadratic → Result Quadratic Site) → Result Quadratic Site
continued t (Ok sum) next = next sum
continued t (Err stop) next = Err (sites.Area t.polygon t.corner stop.0)

-- a sum plus the triangles, one after another, up to the first that overflows
abbrev pub sum_after : ℕ → Quadratic → List Triangle → Result Quadratic Site
sum_after d sum [] = Ok sum
sum_after d sum (t ∷ triangles) = continued t (add_triangle d sum t) (λ next. sum_after d next triangles)
