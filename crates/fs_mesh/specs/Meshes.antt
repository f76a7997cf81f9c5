-- Meshes: a surface, and triangles that are equal to it up to cutting and pasting.
use Rattle.std.specs.Prelude.{ℕ, Result, List}
use Rattle.fs_paths.specs.SideGluing.{InSectorOf}
use Rattle.fs_carried.specs.Carried.{IsCarriedTo, CarriesHomes, AreEqualWithHomes}
use Rattle.fs_quadratic.specs.Ring.{Quadratic, quadratic, IsPositive}
use Rattle.fs_quadratic.specs.declared.steps.Place.{Place}
use Rattle.fs_plane.specs.declared.corners.Corner.{Corner}
use Rattle.fs_plane.specs.Formulas.{circle_after}
use Rattle.fs_plane.specs.Vector.{PlaneVector, circle}
use Rattle.fs_gluing.specs.Homes.{home_of, HasHomes}
use Rattle.fs_gluing.specs.Surface.{GluedPolygons, IsSurface}
use Rattle.fs_gluing.specs.SurfaceSides.{polygon_sides, is_ahead}
use Rattle.fs_gluing.specs.Triangulation.{Triangulation, face_sides, IsTriangulation, IsCutFrom, edge_vector, edge_twin, next_in_face, prev_in_face}

-- a surface, a triangulation, and the homes of its half-edges, which are corners of the surface, as contracts see a `Mesh`
pub record MeshValue : Type 0 where
  pub surface : GluedPolygons
  pub triangles : Triangulation
  pub homes : List Corner

-- its faces are equal to the polygons of the surface, up to cutting and pasting, by a list of steps that carries each half-edge, with its vector, from its home
abbrev pub IsCutWithHomes : GluedPolygons → Triangulation → List Corner → Type 0
IsCutWithHomes s t homes = AreEqualWithHomes (quadratic s.d) (IsPositive s.d) (is_ahead s.d) (polygon_sides s.polygons) (face_sides t) (home_of homes)

-- the triangulation is one of the surface: some list of cuts, of cuts undone, and of renumberings leads from its polygons to the faces; each half-edge has its home, and the list carries it from there, with its vector
pub record IsMesh (m : MeshValue) : Type 0 where
  pub surface : IsSurface m.surface
  pub triangulation : IsTriangulation m.surface.d m.triangles
  pub cut : ∥ IsCutWithHomes m.surface m.triangles m.homes ∥₁
  pub homes : HasHomes m.surface m.triangles m.homes

-- if v is in the sector of the corner at the start of half-edge h, each list of steps that carries all half-edges from their homes carries v from the corner c of the surface to there
abbrev pub IsCarriedFrom : MeshValue → Corner → PlaneVector → ℕ → Type 0
IsCarriedFrom m c v h = (equal : IsCutFrom m.surface m.triangles)
    → CarriesHomes (quadratic m.surface.d) (IsPositive m.surface.d) (is_ahead m.surface.d) equal (home_of m.homes)
    → InSectorOf (quadratic m.surface.d) (IsPositive m.surface.d) (face_sides m.triangles) h v
    → IsCarriedTo (quadratic m.surface.d) (IsPositive m.surface.d) (is_ahead m.surface.d) equal c v h

-- the hinge of half-edge h is the two triangles at its edge. From the end of h, counterclockwise, the first of its four sides is the half-edge after h
abbrev pub hinge_after : Triangulation → ℕ → PlaneVector
hinge_after t h = edge_vector t (next_in_face h)

-- then the one before h
abbrev pub hinge_before : Triangulation → ℕ → PlaneVector
hinge_before t h = edge_vector t (prev_in_face h)

-- then the one after the twin of h
abbrev pub hinge_after_twin : Triangulation → ℕ → PlaneVector
hinge_after_twin t h = edge_vector t (next_in_face (edge_twin t h))

-- then the one before the twin of h
abbrev pub hinge_before_twin : Triangulation → ℕ → PlaneVector
hinge_before_twin t h = edge_vector t (prev_in_face (edge_twin t h))

-- the circle value of the edge of half-edge h
abbrev pub edge_circle : ℕ → Triangulation → ℕ → Quadratic
edge_circle d t h = circle d (hinge_after t h) (hinge_before t h) (hinge_after_twin t h) (hinge_before_twin t h)

-- by its formula: the places depend on which of its two half-edges names the edge
abbrev pub edge_circle_after : ℕ → Triangulation → ℕ → Result Quadratic Place
edge_circle_after d t h = circle_after 0 d (hinge_after t h) (hinge_before t h) (hinge_after_twin t h) (hinge_before_twin t h)

-- the edge of half-edge h is illegal: its circle value is above 0
abbrev pub IsIllegal : ℕ → Triangulation → ℕ → Type 0
IsIllegal d t h = IsPositive d (edge_circle d t h)
