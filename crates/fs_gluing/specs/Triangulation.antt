-- Triangulations by their half-edges, which are numbered: side k of face f is half-edge 3·f + k.
use Rattle.std.specs.Prelude.{◌≡◌, ℕ, ◌+◌, ◌-◌, ◌*◌, ◌%◌, ◌<◌, ◌≤◌, cond, eqb, ltb, List, length, slice_index_or}
use Rattle.std.specs.List.{flat_map}
use Rattle.fs_quadratic.specs.Ring.{Quadratic, quadratic, IsPositive}
use Rattle.fs_plane.specs.Vector.{PlaneVector, vector_zero}
use Rattle.fs_paths.specs.SideGluing.{SideGluing}
use Rattle.fs_triangles.specs.Triangles.{AreTriangles, IsConnectedFrom}
use Rattle.fs_cuts.specs.Equality.{AreCutAndPasteEqual}
use Rattle.fs_gluing.specs.declared.triangulations.Triangles.{Triangles}
use Rattle.fs_gluing.specs.Limits.{most_faces}
use Rattle.fs_gluing.specs.Surface.{GluedPolygons}
use Rattle.fs_gluing.specs.SurfaceSides.{polygon_sides, is_ahead}

-- the vector of each half-edge, and its twin, by their numbers
pub record Triangulation : Type 0 where
  pub vectors : List PlaneVector
  pub twins : List ℕ

-- that of triangles, of which each face is the list of the vectors of its half-edges
abbrev pub triangulation_of : Triangles → Triangulation
triangulation_of triangles = record { vectors = flat_map (λ face. face) triangles.faces; twins = triangles.twins }

-- the next half-edge of the face, counterclockwise, and the one before
abbrev pub next_in_face : ℕ → ℕ
next_in_face h = cond (eqb (h % 3) 2) (h - 2) (h + 1)

abbrev pub prev_in_face : ℕ → ℕ
prev_in_face h = cond (eqb (h % 3) 0) (h + 2) (h - 1)

-- the vector of half-edge h, or (0,0) where there is none
abbrev pub edge_vector : Triangulation → ℕ → PlaneVector
edge_vector t h = slice_index_or t.vectors h vector_zero

-- the twin of half-edge h, or 0 where there is none
abbrev pub edge_twin : Triangulation → ℕ → ℕ
edge_twin t h = slice_index_or t.twins h 0

-- the faces as glued polygons: the half-edges are their sides
abbrev pub face_sides : Triangulation → SideGluing ℕ Quadratic
face_sides t = record {
  has = λ h. ltb h (length t.vectors);
  next = next_in_face;
  prev = prev_in_face;
  twin = edge_twin t;
  vector = edge_vector t;
}

-- it has 1 to 1,022 faces, each a counterclockwise triangle; the two half-edges of each edge are twins; and the faces are connected
pub record IsTriangulation (d : ℕ) (t : Triangulation) : Type 0 where
  pub faces : ℕ
  pub some_face : 0 < faces
  pub few_faces : faces ≤ most_faces
  pub vectors : length t.vectors ≡ 3 * faces
  pub twins : length t.twins ≡ 3 * faces
  pub triangles : AreTriangles (quadratic d) (IsPositive d) (face_sides t)
  pub connected : IsConnectedFrom (face_sides t) 0

-- half-edge e names an edge: it is the lesser of its two half-edges
pub record IsEdge (t : Triangulation) (e : ℕ) : Type 0 where
  pub there : e < length t.vectors
  pub lesser : e < edge_twin t e

-- its faces are equal to the polygons of the surface, up to cutting and pasting
abbrev pub IsCutFrom : GluedPolygons → Triangulation → Type 0
IsCutFrom s t = AreCutAndPasteEqual (quadratic s.d) (IsPositive s.d) (is_ahead s.d) (polygon_sides s.polygons) (face_sides t)
