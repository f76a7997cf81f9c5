-- Flips: an edge of a triangulation takes the other diagonal of its hinge, the two triangles at the edge.
use Rattle.std.specs.Prelude.{◌≡◌, ◌≢◌, Bool, cond}
use Rattle.fs_ring.specs.Operations.{Operations}
use Rattle.fs_ring.specs.Vector.{add_vector, neg_vector, cross}
use Rattle.fs_paths.specs.SideGluing.{SideGluing, IsSide}

-- the names of the other four half-edges of the hinge at h move on by one, round the hinge: the test tells which names are the same
abbrev pub moved : {A X : Type 0} → (X → X → Bool) → SideGluing X A → X → X → X
moved same G h x =
    cond (same x (G.prev h)) (G.next h) (cond (same x (G.next (G.twin h))) (G.prev h)
    (cond (same x (G.prev (G.twin h))) (G.next (G.twin h)) (cond (same x (G.next h)) (G.prev (G.twin h)) x)))

-- H is G with the edge of h flipped: h and its twin lead across the hinge the other way, from the end of the half-edge after h to the end of the one after its twin turned round; each other half-edge x has the name moved x
pub record IsFlip {A : Type 0} (R : Operations A) {X : Type 0} (same : X → X → Bool) (G H : SideGluing X A) (h : X) : Type 0 where
  pub has : (x : X) → H.has x ≡ G.has x
  pub next : (x : X) → H.next x ≡ G.next x
  pub prev : (x : X) → H.prev x ≡ G.prev x
  pub edge : H.vector h ≡ add_vector R (G.vector (G.prev (G.twin h))) (G.vector (G.next h))
  pub edge_back : H.vector (G.twin h) ≡ neg_vector R (add_vector R (G.vector (G.prev (G.twin h))) (G.vector (G.next h)))
  pub twin_edge : H.twin h ≡ G.twin h
  pub twin_back : H.twin (G.twin h) ≡ h
  pub vector : (x : X) → IsSide G x → x ≢ h → x ≢ G.twin h → H.vector (moved same G h x) ≡ G.vector x
  pub twin : (x : X) → IsSide G x → x ≢ h → x ≢ G.twin h → H.twin (moved same G h x) ≡ moved same G h (G.twin x)

-- the hinge at h is strictly convex: it turns left at both ends of the edge
pub record IsConvexHinge {A : Type 0} (R : Operations A) (IsPositive : A → Type 0) {X : Type 0} (G : SideGluing X A) (h : X) : Type 0 where
  pub at_start : IsPositive (cross R (G.vector (G.prev h)) (G.vector (G.next (G.twin h))))
  pub at_end : IsPositive (cross R (G.vector (G.prev (G.twin h))) (G.vector (G.next h)))
