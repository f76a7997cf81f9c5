-- Glued polygons without one edge: which sides they have, and which follow each other. A library for crates to come.
use Rattle.std.proofs.Common.{◌≡◌, ◌≢◌, ◌⊎◌, ℕ, Bool, suc, ◌-◌, ◌<◌, [], ◌∷◌, refl, sym, ap, ◌∙◌, subst, inl, inr}
use Rattle.fs_cycles.specs.Cycles.{LeadsTo}
use Rattle.fs_cycles.proofs.Iterates.{leads_trans, first_below}
use Rattle.fs_ring.specs.Operations.{Operations}
use Rattle.fs_ring.specs.OrderedRing.{IsOrderedRing}
use Rattle.fs_ring.specs.Vector.{Vector, zero_vector, add_vector, sub_vector, neg_vector}
use Rattle.fs_ring.proofs.HalfPlanes as half_planes
use Rattle.fs_ring.proofs.Solver.{expressions as E}
use Rattle.fs_ring.proofs.PlaneSolver.{vector_identity, ◌≐ᵥ◌}
use Rattle.fs_convex.specs.Turning.{DecidesHalfPlanes}
use Rattle.fs_convex.proofs.Corners as corners
use Rattle.fs_paths.specs.SideGluing.{SideGluing, IsSide, AreGluedPolygons, nth_side}
use Rattle.fs_paths.specs.Development.{IsPutAt}
use Rattle.fs_paths.proofs.Developments as developments
use Rattle.fs_paths.proofs.PutPolygons as put_polygons
use Rattle.fs_cuts.specs.EdgeRemoval.{IsWithoutEdge}

module _ {A : Type 0} {R : Operations A} {IsPositive : A → Type 0} (L : IsOrderedRing R IsPositive)
    {is_ahead : Vector A → Vector A → Bool} (test : DecidesHalfPlanes R IsPositive is_ahead)
    {X : Type 0} {G : SideGluing X A} (g : AreGluedPolygons R IsPositive is_ahead G) where
  -- the next side is another
  pub next_differs : (x : X) → IsSide G x → G.next x ≢ x
  next_differs x s same =
      half_planes.half_plane-ne-zero L (g.convex x s)
      (ap G.vector same
      ∙ vector_identity L.ring [] (g.position x ∷ G.vector x ∷ []) (λ p v. v ≐ᵥ sub_vector E (add_vector E p v) p) refl
      ∙ ap (λ w. sub_vector R w (g.position x)) (sym (g.position_next x s) ∙ ap g.position same)
      ∙ vector_identity L.ring [] (g.position x ∷ []) (λ p. sub_vector E p p ≐ᵥ zero_vector E) refl)

  -- no side comes again within one round
  pub not_again : (x : X) → IsSide G x → (k : ℕ) → 0 < k → k < g.sides x → nth_side G x k ≢ x
  not_again x s k l m same =
      corners.positions_differ L test (developments.put_polygon L test g x (zero_vector R) s) 0 k l m
      (developments.put_position_unique L test g s (developments.put_refl x (zero_vector R)) (record { number = k; side = same; corner = refl }))

  -- along the boundary one leads back
  pub leads_back : {x y : X} → IsSide G x → LeadsTo G.next x y → LeadsTo G.next y x
  leads_back {x} {y} s k =
      let there : IsPutAt R G x (zero_vector R) (nth_side G x k.0) _ = developments.put_number x (zero_vector R) k.0 in
      let back = developments.put_back L test g s there in
      (back.number, ap (λ w. nth_side G w back.number) (sym k.1) ∙ back.side)

module _ {A : Type 0} {R : Operations A} {IsPositive : A → Type 0} (L : IsOrderedRing R IsPositive)
    {is_ahead : Vector A → Vector A → Bool} (test : DecidesHalfPlanes R IsPositive is_ahead)
    {X : Type 0} {G K : SideGluing X A} (g : AreGluedPolygons R IsPositive is_ahead G) {d e : X} (r : IsWithoutEdge G K d e) where
  pub e_side : IsSide G e
  e_side = subst (IsSide G) r.twin_d (g.twin_side d r.d_side)

  pub twin_e : G.twin e ≡ d
  twin_e = ap G.twin (sym r.twin_d) ∙ g.twin_twin d r.d_side

  -- the two sides of the edge are opposite
  pub vector_e : G.vector e ≡ neg_vector R (G.vector d)
  vector_e = ap G.vector (sym r.twin_d) ∙ g.twin_opposite d r.d_side

  -- what is shown of d holds of e
  pub mirrored : IsWithoutEdge G K e d
  mirrored = record {
    d_side = e_side;
    twin_d = twin_e;
    apart = λ k f. let back = leads_back L test g e_side (k, f) in r.apart back.0 back.1;
    side_before = r.side_before;
    not_d = r.not_e;
    not_e = r.not_d;
    sides = λ x s. elim (r.sides x s) [ inl f ↦ inr (inl f) | inr (inl f) ↦ inl f | inr (inr k) ↦ inr (inr k) ];
    vector = r.vector;
    twin = r.twin;
    next_before_d = r.next_before_e;
    next_before_e = r.next_before_d;
    next_kept = λ x s m n. r.next_kept x s n m;
    prev_next = r.prev_next;
  }

  edge_differs : d ≢ e
  edge_differs = r.apart 0

  -- the sides before and after d are left
  pub after_d_side : IsSide K (G.next d)
  after_d_side = elim (r.sides (G.next d) (g.next_side d r.d_side)) [
    | inl f ↦ absurd (next_differs L test g d r.d_side f)
    | inr (inl f) ↦ absurd (r.apart 1 f)
    | inr (inr k) ↦ k
  ]

  pub before_d_side : IsSide K (G.prev d)
  before_d_side = elim (r.sides (G.prev d) (g.prev_side d r.d_side)) [
    | inl f ↦ absurd (next_differs L test g d r.d_side (ap G.next (sym f) ∙ g.next_prev d r.d_side))
    | inr (inl f) ↦ absurd (mirrored.apart 1 (ap G.next (sym f) ∙ g.next_prev d r.d_side))
    | inr (inr k) ↦ k
  ]

  -- the next side is that across the edge, or as before
  pub next_cases : (x : X) → IsSide K x → (x ≡ G.prev d) ⊎ ((x ≡ G.prev e) ⊎ (IsSide K (G.next x) × (K.next x ≡ G.next x)))
  next_cases x s = elim (r.sides (G.next x) (g.next_side x there)) [
    | inl f ↦ inl (sym (g.prev_next x there) ∙ ap G.prev f)
    | inr (inl f) ↦ inr (inl (sym (g.prev_next x there) ∙ ap G.prev f))
    | inr (inr k) ↦
        inr (inr (
          k,
          r.next_kept x s (λ f. r.not_d (G.next x) k (ap G.next f ∙ g.next_prev d r.d_side)) (λ f. r.not_e (G.next x) k (ap G.next f ∙ g.next_prev e e_side)),
        ))
  ]
    where
      there : IsSide G x
      there = r.side_before x s

  -- a side whose next one before is left has that next one still
  pub next_same : (x : X) → IsSide K x → IsSide K (G.next x) → K.next x ≡ G.next x
  next_same x s k =
      r.next_kept x s (λ f. r.not_d (G.next x) k (ap G.next f ∙ g.next_prev d r.d_side)) (λ f. r.not_e (G.next x) k (ap G.next f ∙ g.next_prev e e_side))

  -- it can be decided whether a side is one of the polygon of e
  pub leads_to_e : (x : X) → IsSide G x → LeadsTo G.next x e ⊎ ¬ LeadsTo G.next x e
  leads_to_e x s = elim (first_below (λ k. nth_side G x k ≡ e) decide (g.sides x)) [
    | inl f ↦ inl (f.0, f.2)
    | inr none ↦
        inr (λ k.
        let below = developments.put_below L test g s (developments.put_number x (zero_vector R) k.0) in
        none below.0 below.1 (below.2 ∙ k.1))
  ]
    where
      decide : (k : ℕ) → (nth_side G x k ≡ e) ⊎ (nth_side G x k ≢ e)
      decide k = elim (r.sides (nth_side G x k) (developments.nth_side_is_side L test g x s k)) [
        | inl f ↦ inr (λ m. edge_differs (sym f ∙ m))
        | inr (inl f) ↦ inl f
        | inr (inr m) ↦ inr (r.not_e (nth_side G x k) m)
      ]

  -- the side before d isn't one of the polygon of e
  pub before_d_apart : ¬ LeadsTo G.next (G.prev d) e
  before_d_apart k =
      let there : LeadsTo G.next d (G.prev d) = (g.sides d - 1, put_polygons.last_side L test g d r.d_side) in
      let round = leads_trans G.next d (G.prev d) e there k in
      r.apart round.0 round.1

  -- nor is the side after d
  pub after_d_apart : ¬ LeadsTo G.next (G.next d) e
  after_d_apart k = r.apart (suc k.0) k.1
