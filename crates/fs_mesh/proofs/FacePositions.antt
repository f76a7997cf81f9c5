-- The faces of a triangulation are glued polygons: each corner has a position in its face.
use Rattle.std.proofs.Common.{◌≡◌, ◌≢◌, ◌⊎◌, ℕ, ◌+◌, ◌-◌, ◌%◌, cond, eqb, sym, ap, ◌∙◌, inl, inr, arith}
use Rattle.std.proofs.lemmas.Bool.Decides.{eqb_tells}
use Rattle.fs_ring.proofs.Plane as plane
use Rattle.fs_quadratic.specs.Radicand.{IsRadicand}
use Rattle.fs_quadratic.specs.Ring.{quadratic, IsPositive}
use Rattle.fs_quadratic.proofs.Laws.{quadratic_ring, field_order}
use Rattle.fs_plane.specs.Vector.{PlaneVector, vector_zero, vector_add}
use Rattle.fs_paths.specs.SideGluing.{IsSide, AreGluedPolygons}
use Rattle.fs_triangles.specs.Triangles.{AreTriangles}
use Rattle.fs_triangles.proofs.Names.{chosen, not_chosen}
use Rattle.fs_triangles.proofs.TriangleSides.{closed_next, glued_triangles}
use Rattle.fs_gluing.specs.SurfaceSides.{is_ahead}
use Rattle.fs_gluing.specs.Triangulation.{Triangulation, face_sides, edge_vector, next_in_face}
use Rattle.fs_gluing.proofs.Sides.HalfPlaneTests.{decides_half_planes}
use Rattle.fs_mesh.proofs.HalfEdgeNumbers.{eqb_tells_names}

-- ---- which side of its face a half-edge is

-- the last side of a face is followed by the first, each other one by the number after it
next_of_last : (h : ℕ) → h % 3 ≡ 2 → next_in_face h ≡ h - 2
next_of_last h last = chosen eqb_tells_names (h - 2) (h + 1) last

next_of_other : (h : ℕ) → h % 3 ≢ 2 → next_in_face h ≡ h + 1
next_of_other h other = not_chosen eqb_tells_names (h - 2) (h + 1) other

remainder_cases : (h : ℕ) → (h % 3 ≡ 0) ⊎ ((h % 3 ≡ 1) ⊎ (h % 3 ≡ 2))
remainder_cases h = elim (eqb_tells (h % 3) 0) [
  | inl same ↦ inl same.1
  | inr n0 ↦ elim (eqb_tells (h % 3) 1) [
    | inl same ↦ inr (inl same.1)
    | inr n1 ↦ let not_first = n0.1 in let not_second = n1.1 in inr (inr (omega arith))
  ]
]

module _ (t : Triangulation) where
  -- the position of the corner at the start of half-edge h, where the first corner of its face is at (0,0)
  abbrev corner : ℕ → PlaneVector
  corner h = cond (eqb (h % 3) 0) vector_zero (cond (eqb (h % 3) 1) (edge_vector t (h - 1)) (vector_add (edge_vector t (h - 2)) (edge_vector t (h - 1))))

  corner_of_first : (h : ℕ) → h % 3 ≡ 0 → corner h ≡ vector_zero
  corner_of_first h first = chosen eqb_tells_names _ _ first

  corner_of_second : (h : ℕ) → h % 3 ≡ 1 → corner h ≡ edge_vector t (h - 1)
  corner_of_second h second = let not_first : h % 3 ≢ 0 = λ e. absurd (omega arith) in not_chosen eqb_tells_names _ _ not_first ∙ chosen eqb_tells_names _ _ second

  corner_of_third : (h : ℕ) → h % 3 ≡ 2 → corner h ≡ vector_add (edge_vector t (h - 2)) (edge_vector t (h - 1))
  corner_of_third h third =
      let not_first : h % 3 ≢ 0 = λ e. absurd (omega arith) in
      let not_second : h % 3 ≢ 1 = λ e. absurd (omega arith) in
      not_chosen eqb_tells_names _ _ not_first ∙ not_chosen eqb_tells_names _ _ not_second

  module _ (d : ℕ) (radicand : IsRadicand d) (triangles : AreTriangles (quadratic d) (IsPositive d) (face_sides t)) where
    corner_next : (h : ℕ) → IsSide (face_sides t) h → corner (next_in_face h) ≡ vector_add (corner h) (edge_vector t h)
    corner_next h s = elim (remainder_cases h) [
      | inl first ↦
          let not_last : h % 3 ≢ 2 = λ e. absurd (omega arith) in
          let next_second : (h + 1) % 3 ≡ 1 = omega arith in
          let back : (h + 1) - 1 ≡ h = omega arith in
          ap corner (next_of_other h not_last)
          ∙ corner_of_second (h + 1) next_second
          ∙ ap (edge_vector t) back
          ∙ sym (ap (λ p. vector_add p (edge_vector t h)) (corner_of_first h first) ∙ plane.add_vector_comm (quadratic_ring d) vector_zero (edge_vector t h) ∙ plane.add_vector_zero (quadratic_ring d) (edge_vector t h))
      | inr (inl second) ↦
          let not_last : h % 3 ≢ 2 = λ e. absurd (omega arith) in
          let next_third : (h + 1) % 3 ≡ 2 = omega arith in
          let back : (h + 1) - 1 ≡ h = omega arith in
          let back_two : (h + 1) - 2 ≡ h - 1 = omega arith in
          ap corner (next_of_other h not_last)
          ∙ corner_of_third (h + 1) next_third
          ∙ (λ i. vector_add (edge_vector t (back_two i)) (edge_vector t (back i)))
          ∙ sym (ap (λ p. vector_add p (edge_vector t h)) (corner_of_second h second))
      | inr (inr third) ↦
          let next_first : (h - 2) % 3 ≡ 0 = omega arith in
          let not_last : (h - 2) % 3 ≢ 2 = λ e. absurd (omega arith) in
          let forth : (h - 2) + 1 ≡ h - 1 = omega arith in
          let once = next_of_last h third in
          let twice = ap next_in_face once ∙ next_of_other (h - 2) not_last ∙ forth in
          ap corner once
          ∙ corner_of_first (h - 2) next_first
          ∙ sym (closed_next (field_order radicand) {u = edge_vector t h} {v = edge_vector t (next_in_face h)} {w = edge_vector t (next_in_face (next_in_face h))} (triangles.closed h s))
          ∙ (λ i. vector_add (vector_add (edge_vector t (once i)) (edge_vector t (twice i))) (edge_vector t h))
          ∙ ap (λ p. vector_add p (edge_vector t h)) (sym (corner_of_third h third))
    ]

    -- the faces are glued polygons
    pub glued_faces : AreGluedPolygons (quadratic d) (IsPositive d) (is_ahead d) (face_sides t)
    glued_faces = glued_triangles (field_order radicand) triangles (decides_half_planes radicand) corner corner_next
