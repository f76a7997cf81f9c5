-- A flip is a function: a mesh with an edge flipped is one mesh, and there is one where what the flip computes fits.
use Rattle.std.proofs.Common.{◌≡◌, ℕ, ◌<◌, Ok, length, refl, sym, ap, ◌∙◌, subst, inl, inr}
use Rattle.std.proofs.lemmas.List.{ext_get_or}
use Rattle.fs_lists.proofs.Results.{ok_equal}
use Rattle.fs_ring.specs.OrderedRing.{IsOrderedRing}
use Rattle.fs_quadratic.specs.Ring.{quadratic, IsPositive}
use Rattle.fs_quadratic.specs.Radicand.{IsRadicand}
use Rattle.fs_quadratic.proofs.Laws.{field_order}
use Rattle.fs_paths.specs.SideGluing.{IsSide}
use Rattle.fs_plane.specs.Vector.{vector_zero}
use Rattle.fs_triangles.specs.Triangles.{AreTriangles}
use Rattle.fs_triangles.proofs.HingeNames as hinge_names
use Rattle.fs_gluing.specs.Triangulation.{Triangulation, IsTriangulation, face_sides, edge_vector, edge_twin}
use Rattle.fs_gluing.specs.Homes.{home_of}
use Rattle.fs_mesh.specs.Arena.{hinge_of, vectors_written, twins_written, homes_written}
use Rattle.fs_mesh.specs.Meshes.{MeshValue, IsMesh}
use Rattle.fs_mesh.specs.FlippedMeshes.{IsFlipOf, IsMeshFlipped, NewEdge, FindsNewEdge}
use Rattle.fs_mesh.proofs.FlippedArenas.{flip_of_lists}
use Rattle.fs_mesh.proofs.HalfEdgeNumbers.{eqb_tells_names, side_of_number, number_of_side}
use Rattle.fs_mesh.proofs.NewEdges.{found_edge_unique}

module _ {d : ℕ} (radicand : IsRadicand d) {t : Triangulation} (is_triangulation : IsTriangulation d t) (h : ℕ) (there : h < length t.vectors) where
  abbrev L : IsOrderedRing (quadratic d) (IsPositive d)
  L = field_order radicand

  abbrev triangles : AreTriangles (quadratic d) (IsPositive d) (face_sides t)
  triangles = is_triangulation.triangles

  h_side : IsSide (face_sides t) h
  h_side = side_of_number t h there

  module _ {u v : Triangulation} (f : IsFlipOf d t h u) (g : IsFlipOf d t h v) where
    same_vector : (y : ℕ) → IsSide (face_sides t) y → edge_vector u y ≡ edge_vector v y
    same_vector y s = elim (hinge_names.edge_or_moved L eqb_tells_names triangles h h_side y s) [
      | inl e ↦ ap (edge_vector u) e ∙ f.flip.edge ∙ sym g.flip.edge ∙ ap (edge_vector v) (sym e)
      | inr (inl e) ↦ ap (edge_vector u) e ∙ f.flip.edge_back ∙ sym g.flip.edge_back ∙ ap (edge_vector v) (sym e)
      | inr (inr m) ↦
          ap (edge_vector u) m.is
          ∙ f.flip.vector m.name m.side m.not_edge m.not_twin
          ∙ sym (g.flip.vector m.name m.side m.not_edge m.not_twin)
          ∙ ap (edge_vector v) (sym m.is)
    ]

    same_twin : (y : ℕ) → IsSide (face_sides t) y → edge_twin u y ≡ edge_twin v y
    same_twin y s = elim (hinge_names.edge_or_moved L eqb_tells_names triangles h h_side y s) [
      | inl e ↦ ap (edge_twin u) e ∙ f.flip.twin_edge ∙ sym g.flip.twin_edge ∙ ap (edge_twin v) (sym e)
      | inr (inl e) ↦ ap (edge_twin u) e ∙ f.flip.twin_back ∙ sym g.flip.twin_back ∙ ap (edge_twin v) (sym e)
      | inr (inr m) ↦
          ap (edge_twin u) m.is
          ∙ f.flip.twin m.name m.side m.not_edge m.not_twin
          ∙ sym (g.flip.twin m.name m.side m.not_edge m.not_twin)
          ∙ ap (edge_twin v) (sym m.is)
    ]

    as_many : length t.twins ≡ length t.vectors
    as_many = is_triangulation.twins ∙ sym is_triangulation.vectors

    same_vectors : u.vectors ≡ v.vectors
    same_vectors =
        ext_get_or vector_zero u.vectors v.vectors (f.vectors ∙ sym g.vectors)
        (λ y below. same_vector y (side_of_number t y (subst (λ n. y < n) f.vectors below)))

    same_twins : u.twins ≡ v.twins
    same_twins =
        ext_get_or 0 u.twins v.twins (f.twins ∙ sym g.twins)
        (λ y below. same_twin y (side_of_number t y (subst (λ n. y < n) (f.twins ∙ as_many) below)))

    -- two flips of one edge lead to one triangulation
    flip_unique : u ≡ v
    flip_unique = λ i. record { vectors = same_vectors i; twins = same_twins i }

module _ (m : MeshValue) (mesh : IsMesh m) (h : ℕ) (there : h < length m.triangles.vectors) where
  abbrev order : IsOrderedRing (quadratic m.surface.d) (IsPositive m.surface.d)
  order = field_order mesh.surface.radicand

  -- ---- one mesh

  module _ {u v : MeshValue} (f : IsMeshFlipped m h u) (g : IsMeshFlipped m h v) where
    same_edge : f.edge ≡ g.edge
    same_edge = ok_equal f.edge g.edge (found_edge_unique m h (Ok f.edge) (Ok g.edge) f.found g.found)

    same_home : (y : ℕ) → y < length m.triangles.vectors → home_of u.homes y ≡ home_of v.homes y
    same_home y below = elim (hinge_names.edge_or_moved order eqb_tells_names mesh.triangulation.triangles h (side_of_number m.triangles h there) y (side_of_number m.triangles y below)) [
      | inl e ↦ ap (home_of u.homes) e ∙ f.home ∙ ap (λ (new : NewEdge). new.home) same_edge ∙ sym g.home ∙ ap (home_of v.homes) (sym e)
      | inr (inl e) ↦ ap (home_of u.homes) e ∙ f.twin_home ∙ ap (λ (new : NewEdge). new.twin_home) same_edge ∙ sym g.twin_home ∙ ap (home_of v.homes) (sym e)
      | inr (inr k) ↦
          let named = subst (λ n. k.name < n) (sym mesh.homes.as_many) (number_of_side m.triangles k.name k.side) in
          ap (home_of u.homes) k.is ∙ f.kept k.name named k.not_edge k.not_twin ∙ sym (g.kept k.name named k.not_edge k.not_twin) ∙ ap (home_of v.homes) (sym k.is)
    ]

    same_homes : u.homes ≡ v.homes
    same_homes =
        ext_get_or (record { polygon = 0; side = 0 }) u.homes v.homes (f.homes ∙ sym g.homes)
        (λ y below. same_home y (subst (λ n. y < n) (f.homes ∙ mesh.homes.as_many) below))

    -- two flips of one edge lead to one mesh
    pub mesh_unique : u ≡ v
    mesh_unique = λ i. record {
      surface = (f.surface ∙ sym g.surface) i;
      triangles = flip_unique mesh.surface.radicand mesh.triangulation h there f.triangles g.triangles i;
      homes = same_homes i;
    }

  -- ---- some mesh

  -- the mesh with the edge flipped, where this was found
  abbrev pub flipped_mesh : NewEdge → MeshValue
  flipped_mesh new = record {
    surface = m.surface;
    triangles = record { vectors = vectors_written m.triangles.vectors (hinge_of m.triangles h) new.vector; twins = twins_written m.triangles.twins (hinge_of m.triangles h) };
    homes = homes_written m.homes (hinge_of m.triangles h) new.home new.twin_home;
  }

  pub is_flipped_mesh : (new : NewEdge) → FindsNewEdge m h (Ok new) → IsMeshFlipped m h (flipped_mesh new)
  is_flipped_mesh new found = flip_of_lists m mesh h there new found (flipped_mesh new).triangles (flipped_mesh new).homes refl refl refl
