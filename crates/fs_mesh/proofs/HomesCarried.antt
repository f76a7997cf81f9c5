-- What is in the sector of a half-edge is carried to its start from the first corner that holds it, from the half-edge's home on.
use Rattle.std.proofs.Common.{ℕ, ◌<◌, length, Result, Ok, Err, IfOk}
use Rattle.fs_quadratic.specs.Ring.{quadratic, IsPositive}
use Rattle.fs_quadratic.specs.declared.steps.Place.{Place}
use Rattle.fs_quadratic.proofs.Laws.{field_order}
use Rattle.fs_plane.specs.declared.corners.Corner.{Corner}
use Rattle.fs_plane.specs.Vector.{PlaneVector}
use Rattle.fs_paths.specs.SideGluing.{IsSide}
use Rattle.fs_cuts.proofs.Steps.{IsDirectionAt}
use Rattle.fs_carried.proofs.FirstCornersCarried.{home_by_turning}
use Rattle.fs_gluing.specs.Homes.{home_of, IsFirstCorner}
use Rattle.fs_gluing.specs.SurfaceSides.{polygon_sides}
use Rattle.fs_gluing.specs.Triangulation.{face_sides, edge_vector}
use Rattle.fs_gluing.proofs.Sides.GluedSurface.{glued_polygons}
use Rattle.fs_gluing.proofs.Sides.HalfPlaneTests.{decides_half_planes}
use Rattle.fs_mesh.specs.Meshes.{MeshValue, IsMesh, IsCarriedFrom}
use Rattle.fs_mesh.proofs.HalfEdgeNumbers.{side_of_number, number_of_side}

module _ (m : MeshValue) (mesh : IsMesh m) where
  -- the vector of a half-edge is a direction at its home
  pub home_direction : (h : ℕ) → IsSide (face_sides m.triangles) h
      → IsDirectionAt (quadratic m.surface.d) (IsPositive m.surface.d) (polygon_sides m.surface.polygons) (home_of m.homes h) (edge_vector m.triangles h)
  home_direction h side = let below = number_of_side m.triangles h side in record { corner = mesh.homes.corner h below; sector = mesh.homes.holds h below }

  module _ (h : ℕ) (below : h < length m.triangles.vectors) (v : PlaneVector) where
    carried_from_first : (c : Corner) → IsFirstCorner m.surface (home_of m.homes h) v c → IsCarriedFrom m c v h
    carried_from_first c first equal carried holds =
        let side = side_of_number m.triangles h below in
        home_by_turning (field_order mesh.surface.radicand) (decides_half_planes mesh.surface.radicand) (glued_polygons m.surface mesh.surface.surface) equal
        (home_of m.homes h) c h v (home_direction h side) (carried h side) (record { corner = side; sector = holds }) first

    -- if the first corner is found, it is carried from there
    pub carried_from_found : (r : Result Corner Place) → IfOk r (λ c. IsFirstCorner m.surface (home_of m.homes h) v c) → IfOk r (λ c. IsCarriedFrom m c v h)
    carried_from_found (Ok c) first = carried_from_first c first
    carried_from_found (Err stop) first = tt
