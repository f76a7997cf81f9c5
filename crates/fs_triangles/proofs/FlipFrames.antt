-- What a flip leaves as it is: half-edges outside the hinge, and the hinges of edges that are outside it. A library for crates to come.
use Rattle.std.proofs.Common.{◌≡◌, Bool, sym, ap, ◌∙◌}
use Rattle.fs_ring.specs.Operations.{Operations}
use Rattle.fs_ring.specs.OrderedRing.{IsOrderedRing}
use Rattle.fs_paths.specs.SideGluing.{SideGluing, IsSide}
use Rattle.fs_cuts.specs.EdgeRemoval.{TellsNames}
use Rattle.fs_triangles.specs.Triangles.{AreTriangles}
use Rattle.fs_triangles.specs.Flips.{moved, IsFlip}
use Rattle.fs_triangles.proofs.TriangleSides as triangle_sides
use Rattle.fs_triangles.proofs.HingeNames as hinge_names
use Rattle.fs_triangles.proofs.HingeNames.{IsOutsideHinge}
use Rattle.fs_triangles.proofs.FlippedTriangles as flipped_triangles

-- two gluings have the same vectors at the hinge of x
pub record HaveSameHinge {A X : Type 0} (G H : SideGluing X A) (x : X) : Type 0 where
  pub twin : H.twin x ≡ G.twin x
  pub vector : H.vector x ≡ G.vector x
  pub after : H.vector (H.next x) ≡ G.vector (G.next x)
  pub before : H.vector (H.prev x) ≡ G.vector (G.prev x)
  pub after_twin : H.vector (H.next (H.twin x)) ≡ G.vector (G.next (G.twin x))
  pub before_twin : H.vector (H.prev (H.twin x)) ≡ G.vector (G.prev (G.twin x))

module _ {A : Type 0} {R : Operations A} {IsPositive : A → Type 0} (L : IsOrderedRing R IsPositive) {X : Type 0} {same : X → X → Bool} (tells : TellsNames same)
    {G : SideGluing X A} (t : AreTriangles R IsPositive G) (h : X) (h_side : IsSide G h) {H : SideGluing X A} (f : IsFlip R same G H h) where
  -- the twin of a half-edge outside the hinge is moved
  pub twin_outside : {x : X} → IsSide G x → IsOutsideHinge G h x → H.twin x ≡ moved same G h (G.twin x)
  twin_outside {x} s o = ap H.twin (sym (hinge_names.moved_outside L tells t h h_side o)) ∙ f.twin x s o.not_edge o.not_twin

  vector_after : {x : X} → IsSide G x → IsOutsideHinge G h x → H.vector (H.next x) ≡ G.vector (G.next x)
  vector_after {x} s o =
      ap H.vector (f.next x)
      ∙ flipped_triangles.vector_outside L tells t h h_side f (t.next_side x s) (hinge_names.outside_next L tells t h h_side x s o)

  vector_before : {x : X} → IsSide G x → IsOutsideHinge G h x → H.vector (H.prev x) ≡ G.vector (G.prev x)
  vector_before {x} s o =
      ap H.vector (f.prev x)
      ∙ flipped_triangles.vector_outside L tells t h h_side f (triangle_sides.prev_side L t x s) (hinge_names.outside_prev L tells t h h_side x s o)

  -- an edge outside the hinge keeps its own hinge
  pub same_hinge : {x : X} → IsSide G x → IsOutsideHinge G h x → IsOutsideHinge G h (G.twin x) → HaveSameHinge G H x
  same_hinge {x} s o k = record {
    twin = twin;
    vector = flipped_triangles.vector_outside L tells t h h_side f s o;
    after = vector_after s o;
    before = vector_before s o;
    after_twin = ap (λ y. H.vector (H.next y)) twin ∙ vector_after (t.twin_side x s) k;
    before_twin = ap (λ y. H.vector (H.prev y)) twin ∙ vector_before (t.twin_side x s) k;
  }
    where
      twin : H.twin x ≡ G.twin x
      twin = twin_outside s o ∙ hinge_names.moved_outside L tells t h h_side k
