-- Triangles are connected after a flip where they were before. A library for crates to come.
use Rattle.std.proofs.Common.{Bool, IsTrue, sym, ap, ◌∙◌, subst, inl, inr}
use Rattle.fs_ring.specs.Operations.{Operations}
use Rattle.fs_ring.specs.OrderedRing.{IsOrderedRing}
use Rattle.fs_paths.specs.SideGluing.{SideGluing, IsSide}
use Rattle.fs_cuts.specs.EdgeRemoval.{TellsNames}
use Rattle.fs_triangles.specs.Triangles.{AreTriangles, IsConnectedFrom}
use Rattle.fs_triangles.specs.Flips.{moved, IsFlip}
use Rattle.fs_triangles.proofs.Names.{same_or_not}
use Rattle.fs_triangles.proofs.TriangleSides as triangle_sides
use Rattle.fs_triangles.proofs.HingeNames as hinge_names
use Rattle.fs_triangles.proofs.HingeNames.{edge, after_edge, before_edge, twin_edge, after_twin, before_twin, outside}
use Rattle.fs_triangles.proofs.FlippedTriangles as flipped_triangles

module _ {A : Type 0} {R : Operations A} {IsPositive : A → Type 0} (L : IsOrderedRing R IsPositive) {X : Type 0} {same : X → X → Bool} (tells : TellsNames same)
    {G : SideGluing X A} (t : AreTriangles R IsPositive G) (h : X) (h_side : IsSide G h) {H : SideGluing X A} (f : IsFlip R same G H h) where
  abbrev e : X
  e = G.twin h

  abbrev m : X → X
  m = moved same G h

  e_side : IsSide G e
  e_side = t.twin_side h h_side

  -- a set of names that has with a half-edge the next one and its twin, after the flip
  module _ (held : X → Bool) (closed : (y : X) → IsSide H y → IsTrue (held y) → IsTrue (held (H.next y)) × IsTrue (held (H.twin y))) where
    abbrev Held : X → Type 0
    Held x = IsTrue (held x)

    held_next : (y : X) → IsSide G y → Held y → Held (G.next y)
    held_next y s k = subst Held (f.next y) (closed y (flipped_triangles.side_after L tells t h h_side f s) k).0

    held_prev : (y : X) → IsSide G y → Held y → Held (G.prev y)
    held_prev y s k = subst Held (sym (t.prev y s)) (held_next (G.next y) (t.next_side y s) (held_next y s k))

    held_twin : (y : X) → IsSide G y → Held y → Held (H.twin y)
    held_twin y s k = (closed y (flipped_triangles.side_after L tells t h h_side f s) k).1

    held_of_next : (y : X) → IsSide G y → Held (G.next y) → Held y
    held_of_next y s k = subst Held (triangle_sides.prev_next L t y s) (held_prev (G.next y) (t.next_side y s) k)

    held_of_prev : (y : X) → IsSide G y → Held (G.prev y) → Held y
    held_of_prev y s k = subst Held (triangle_sides.next_prev L t y s) (held_next (G.prev y) (triangle_sides.prev_side L t y s) k)

    edge_to_twin : Held h → Held e
    edge_to_twin k = subst Held f.twin_edge (held_twin h h_side k)

    twin_to_edge : Held e → Held h
    twin_to_edge k = subst Held f.twin_back (held_twin e e_side k)

    -- with one half-edge of the hinge it has all
    held_moved : (x : X) → IsSide G x → Held x → Held (m x)
    held_moved x s k = elim (hinge_names.spot L tells t h h_side x) [
      | edge i ↦ subst Held (sym (ap m i ∙ hinge_names.moved_edge L tells t h h_side)) (subst Held i k)
      | twin_edge i ↦ subst Held (sym (ap m i ∙ hinge_names.moved_twin L tells t h h_side)) (subst Held i k)
      | after_edge i ↦
          subst Held (sym (ap m i ∙ hinge_names.moved_next L tells t h h_side)) (held_prev e e_side (edge_to_twin (held_of_next h h_side (subst Held i k))))
      | before_edge i ↦ subst Held (sym (ap m i ∙ hinge_names.moved_prev L tells t h h_side)) (held_next h h_side (held_of_prev h h_side (subst Held i k)))
      | after_twin i ↦
          subst Held (sym (ap m i ∙ hinge_names.moved_next_of_twin L tells t h h_side)) (held_prev h h_side (twin_to_edge (held_of_next e e_side (subst Held i k))))
      | before_twin i ↦ subst Held (sym (ap m i ∙ hinge_names.moved_prev_of_twin L tells t h h_side)) (held_next e e_side (held_of_prev e e_side (subst Held i k)))
      | outside o ↦ subst Held (sym (hinge_names.moved_outside L tells t h h_side o)) k
    ]

    held_of_moved : (x : X) → IsSide G x → Held (m x) → Held x
    held_of_moved x s k =
        let once = hinge_names.moved_side L tells t h h_side x s in
        let twice = hinge_names.moved_side L tells t h h_side (m x) once in
        subst Held (hinge_names.moved_four L tells t h h_side x)
        (held_moved (m (m (m x))) (hinge_names.moved_side L tells t h h_side (m (m x)) twice) (held_moved (m (m x)) twice (held_moved (m x) once k)))

    -- it has with a half-edge its twin before the flip
    held_twin_before : (x : X) → IsSide G x → Held x → Held (G.twin x)
    held_twin_before x s k = elim (same_or_not tells x h) [
      | inl i ↦ subst Held (sym (ap G.twin i)) (edge_to_twin (subst Held i k))
      | inr n ↦ elim (same_or_not tells x e) [
        | inl i ↦ subst Held (sym (ap G.twin i ∙ t.twin_twin h h_side)) (twin_to_edge (subst Held i k))
        | inr o ↦
            held_of_moved (G.twin x) (t.twin_side x s)
            (subst Held (f.twin x s n o) (held_twin (m x) (hinge_names.moved_side L tells t h h_side x s) (held_moved x s k)))
      ]
    ]

  -- after a flip triangles are connected from where they were before
  pub connected_after_flip : {x : X} → IsConnectedFrom G x → IsConnectedFrom H x
  connected_after_flip connected held first closed y s =
      connected held first (λ z r k. (held_next held closed z r k, held_twin_before held closed z r k)) y (flipped_triangles.side_of L tells t h h_side f s)
