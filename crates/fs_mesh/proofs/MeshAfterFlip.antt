-- The mesh after a flip: its triangulation, and the cuts that lead to it.
use Rattle.std.proofs.Common.{◌≡◌, ◌≢◌, ℕ, ◌<◌, length, eqb, Ok, sym, ap, ◌∙◌, subst, subst₂, inl, inr}
use mathlib.Core.Logic.{∥∥₁_map}
use Rattle.fs_ring.specs.OrderedRing.{IsOrderedRing}
use Rattle.fs_quadratic.specs.Ring.{quadratic, IsPositive}
use Rattle.fs_quadratic.proofs.Laws.{field_order}
use Rattle.fs_quadratic.specs.Radicand.{IsRadicand}
use Rattle.fs_plane.specs.declared.corners.Corner.{Corner}
use Rattle.fs_plane.specs.Vector.{PlaneVector, vector_add, vector_neg}
use Rattle.fs_plane.proofs.FormulaLaws.{sum_value}
use Rattle.fs_paths.specs.SideGluing.{IsSide, AreGluedPolygons}
use Rattle.fs_convex.specs.Turning.{DecidesHalfPlanes}
use Rattle.fs_cuts.specs.EdgeRemoval.{without_edge}
use Rattle.fs_triangles.specs.Triangles.{AreTriangles}
use Rattle.fs_triangles.specs.Flips.{moved, IsConvexHinge}
use Rattle.fs_triangles.proofs.HingeNames as hinge_names
use Rattle.fs_triangles.proofs.FlippedTriangles.{convex_of_circle, flipped_triangles}
use Rattle.fs_triangles.proofs.FlippedConnections.{connected_after_flip}
use Rattle.fs_carried.proofs.FlipsCarried as flips_carried
use Rattle.fs_gluing.specs.SurfaceSides.{is_ahead}
use Rattle.fs_gluing.specs.Homes.{home_of, IsInCorner, IsFirstCorner}
use Rattle.fs_gluing.specs.Polygons.{HasSide}
use Rattle.fs_gluing.specs.Triangulation.{Triangulation, IsTriangulation, face_sides, edge_vector, edge_twin, prev_in_face}
use Rattle.fs_gluing.proofs.Sides.GluedSurface.{glued_polygons}
use Rattle.fs_gluing.proofs.Sides.HalfPlaneTests.{decides_half_planes}
use Rattle.fs_mesh.specs.Meshes.{MeshValue, IsMesh, IsCutWithHomes, IsIllegal, hinge_after, hinge_before_twin}
use Rattle.fs_mesh.specs.FlippedMeshes.{IsFlipOf, ArePastedAndCut, IsMeshFlipped}
use Rattle.fs_mesh.proofs.HalfEdgeNumbers.{eqb_tells_names, side_of_number, number_of_side}
use Rattle.fs_mesh.proofs.FacePositions.{glued_faces}
use Rattle.fs_mesh.proofs.HomesCarried.{home_direction}
use Rattle.fs_mesh.proofs.NewEdges.{IsNewEdge, is_new_edge}

module _ {d : ℕ} (radicand : IsRadicand d) {t : Triangulation} (is_triangulation : IsTriangulation d t) (h : ℕ) (there : h < length t.vectors) (illegal : IsIllegal d t h)
    {after : Triangulation} (flip : IsFlipOf d t h after) where
  abbrev L : IsOrderedRing (quadratic d) (IsPositive d)
  L = field_order radicand

  abbrev test : DecidesHalfPlanes (quadratic d) (IsPositive d) (is_ahead d)
  test = decides_half_planes radicand

  abbrev triangles : AreTriangles (quadratic d) (IsPositive d) (face_sides t)
  triangles = is_triangulation.triangles

  h_side : IsSide (face_sides t) h
  h_side = side_of_number t h there

  convex : IsConvexHinge (quadratic d) (IsPositive d) (face_sides t) h
  convex = convex_of_circle L triangles h h_side illegal

  triangles_after : AreTriangles (quadratic d) (IsPositive d) (face_sides after)
  triangles_after = flipped_triangles L eqb_tells_names triangles h h_side flip.flip convex

  -- the faces after the flip of an illegal edge are a triangulation
  pub triangulation_after : IsTriangulation d after
  triangulation_after = record {
    faces = is_triangulation.faces;
    some_face = is_triangulation.some_face;
    few_faces = is_triangulation.few_faces;
    vectors = flip.vectors ∙ is_triangulation.vectors;
    twins = flip.twins ∙ is_triangulation.twins;
    triangles = triangles_after;
    connected = connected_after_flip L eqb_tells_names triangles h h_side flip.flip is_triangulation.connected;
  }

  glued : AreGluedPolygons (quadratic d) (IsPositive d) (is_ahead d) (face_sides t)
  glued = glued_faces t d radicand triangles

  glued_after : AreGluedPolygons (quadratic d) (IsPositive d) (is_ahead d) (face_sides after)
  glued_after = glued_faces after d radicand triangles_after

  -- one cut undone and one cut lead to them
  pub pasted_and_cut : ArePastedAndCut d t h after
  pasted_and_cut = record {
    between = without_edge eqb (face_sides t) h;
    glued = flips_carried.between L test eqb_tells_names triangles glued h h_side convex flip.flip glued_after;
    cut_before = flips_carried.cut_before L test eqb_tells_names triangles glued h h_side convex flip.flip glued_after;
    cut_after = flips_carried.cut_after L test eqb_tells_names triangles glued h h_side convex flip.flip glued_after;
  }

module _ (m : MeshValue) (mesh : IsMesh m) (h : ℕ) (there : h < length m.triangles.vectors) {after : MeshValue} (flip : IsMeshFlipped m h after) where
  is_new : IsNewEdge m h flip.edge
  is_new = is_new_edge m mesh h there (Ok flip.edge) flip.found

  -- it leads along the sum
  new_vector : flip.edge.vector ≡ vector_add (hinge_before_twin m.triangles h) (hinge_after m.triangles h)
  new_vector = sum_value 0 (hinge_before_twin m.triangles h) (hinge_after m.triangles h) flip.edge.vector is_new.vector

  -- the home of half-edge y after the flip
  abbrev IsHomeAt : ℕ → Type 0
  IsHomeAt y = HasSide m.surface.polygons (home_of after.homes y) × IsInCorner m.surface (home_of after.homes y) (edge_vector after.triangles y)

  is_home : (y : ℕ) {c : Corner} {v : PlaneVector} → home_of after.homes y ≡ c → edge_vector after.triangles y ≡ v → HasSide m.surface.polygons c → IsInCorner m.surface c v → IsHomeAt y
  is_home y {c} at leads has holds = (
    subst (HasSide m.surface.polygons) (sym at) has,
    subst (λ x. IsInCorner m.surface x (edge_vector after.triangles y)) (sym at) (subst (IsInCorner m.surface c) (sym leads) holds),
  )

  home_after : (y : ℕ) → y < length after.triangles.vectors → IsHomeAt y
  home_after y below = elim (hinge_names.edge_or_moved L eqb_tells_names triangles h (side_of_number m.triangles h there) y (side_of_number m.triangles y (subst (λ n. y < n) flip.triangles.vectors below))) [
    | inl e ↦ subst IsHomeAt (sym e) (is_home h flip.home (flip.triangles.flip.edge ∙ sym new_vector) is_new.home_there is_new.first.home.holds)
    | inr (inl e) ↦
        subst IsHomeAt (sym e) (is_home (edge_twin m.triangles h) flip.twin_home (flip.triangles.flip.edge_back ∙ ap vector_neg (sym new_vector)) is_new.twin_home_there is_new.first.twin_home.holds)
    | inr (inr k) ↦
        let named = number_of_side m.triangles k.name k.side in
        subst IsHomeAt (sym k.is)
        (is_home (moved eqb (face_sides m.triangles) h k.name) (flip.kept k.name (subst (λ n. k.name < n) (sym mesh.homes.as_many) named) k.not_edge k.not_twin)
        (flip.triangles.flip.vector k.name k.side k.not_edge k.not_twin) (mesh.homes.corner k.name named) (mesh.homes.holds k.name named))
  ]
    where
      L : IsOrderedRing (quadratic m.surface.d) (IsPositive m.surface.d)
      L = field_order mesh.surface.radicand

      triangles : AreTriangles (quadratic m.surface.d) (IsPositive m.surface.d) (face_sides m.triangles)
      triangles = mesh.triangulation.triangles

  -- ---- the cuts that lead to it, and where they carry the half-edges from

  abbrev FirstCorner : Corner → PlaneVector → Corner → Type 0
  FirstCorner c v e = IsFirstCorner m.surface c v e

  -- the homes of the new edge are the first corners that hold its vectors
  first_home : FirstCorner (home_of m.homes (prev_in_face (edge_twin m.triangles h))) (edge_vector after.triangles h) (home_of after.homes h)
  first_home =
      subst₂ (FirstCorner (home_of m.homes (prev_in_face (edge_twin m.triangles h)))) (new_vector ∙ sym flip.triangles.flip.edge) (sym flip.home) is_new.first.home

  first_twin_home : FirstCorner (home_of m.homes (prev_in_face h)) (edge_vector after.triangles (edge_twin m.triangles h)) (home_of after.homes (edge_twin m.triangles h))
  first_twin_home =
      subst₂ (FirstCorner (home_of m.homes (prev_in_face h))) (ap vector_neg new_vector ∙ sym flip.triangles.flip.edge_back) (sym flip.twin_home) is_new.first.twin_home

  kept_home : (x : ℕ) → IsSide (face_sides m.triangles) x → x ≢ h → x ≢ edge_twin m.triangles h → home_of after.homes (moved eqb (face_sides m.triangles) h x) ≡ home_of m.homes x
  kept_home x s = flip.kept x (subst (λ n. x < n) (sym mesh.homes.as_many) (number_of_side m.triangles x s))

  -- a list of steps that carries the half-edges from their homes, and then the flip, is such a list
  cut_after_flip : IsIllegal m.surface.d m.triangles h → IsCutWithHomes m.surface m.triangles m.homes → IsCutWithHomes m.surface after.triangles after.homes
  cut_after_flip illegal k =
      let triangles = mesh.triangulation.triangles in
      let radicand = mesh.surface.radicand in
      let h_side = side_of_number m.triangles h there in
      let convex = convex_of_circle (field_order radicand) triangles h h_side illegal in
      let triangles_after = (triangulation_after radicand mesh.triangulation h there illegal flip.triangles).triangles in
      flips_carried.equal_with_homes_after (field_order radicand) (decides_half_planes radicand) eqb_tells_names triangles (glued_faces m.triangles m.surface.d radicand triangles) h h_side convex
      flip.triangles.flip (glued_faces after.triangles m.surface.d radicand triangles_after) (glued_polygons m.surface mesh.surface.surface) (home_direction m mesh) k
      (home_of after.homes) kept_home first_home first_twin_home

  -- a mesh is one after the flip of an illegal edge
  pub mesh_after : IsIllegal m.surface.d m.triangles h → IsMesh after
  mesh_after illegal = subst (λ s. IsMesh (record { surface = s; triangles = after.triangles; homes = after.homes })) (sym flip.surface) (record {
    surface = mesh.surface;
    triangulation = triangulation_after mesh.surface.radicand mesh.triangulation h there illegal flip.triangles;
    cut = ∥∥₁_map mesh.cut (cut_after_flip illegal);
    homes = record {
      as_many = flip.homes ∙ mesh.homes.as_many ∙ sym flip.triangles.vectors;
      corner = λ y below. (home_after y below).0;
      holds = λ y below. (home_after y below).1;
    };
  })
