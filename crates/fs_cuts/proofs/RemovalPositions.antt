-- Positions of the corners of glued polygons without one edge: one of the two polygons at it is shifted to the other. A library for crates to come.
use Rattle.std.proofs.Common.{◌≡◌, ◌⊎◌, Bool, true, false, IsTrue, zero, suc, [], ◌∷◌, refl, sym, ap, ◌∙◌, inl, inr}
use Rattle.fs_cycles.specs.Cycles.{LeadsTo}
use Rattle.fs_ring.specs.Operations.{Operations}
use Rattle.fs_ring.specs.OrderedRing.{IsOrderedRing}
use Rattle.fs_ring.specs.Vector.{Vector, zero_vector, add_vector, sub_vector, neg_vector}
use Rattle.fs_ring.proofs.Solver.{expressions as E}
use Rattle.fs_ring.proofs.PlaneSolver.{vector_identity, ◌≐ᵥ◌}
use Rattle.fs_convex.specs.Turning.{DecidesHalfPlanes}
use Rattle.fs_paths.specs.SideGluing.{SideGluing, IsSide, AreGluedPolygons}
use Rattle.fs_cuts.specs.EdgeRemoval.{IsWithoutEdge}
use Rattle.fs_cuts.proofs.EdgeRemoval as removal

-- a test passes or not
pub true_or_not : (b : Bool) → IsTrue b ⊎ ¬ IsTrue b
true_or_not true = inl refl
true_or_not false = inr (λ h. cc)

module _ {A : Type 0} {R : Operations A} {IsPositive : A → Type 0} (L : IsOrderedRing R IsPositive)
    {is_ahead : Vector A → Vector A → Bool} (test : DecidesHalfPlanes R IsPositive is_ahead)
    {X : Type 0} {G K : SideGluing X A} (g : AreGluedPolygons R IsPositive is_ahead G) {d e : X} (r : IsWithoutEdge G K d e) where
  -- how far the polygon of e is shifted
  abbrev shift : Vector A
  shift = sub_vector R (add_vector R (g.position d) (G.vector d)) (g.position e)

  abbrev offset_of : {x : X} → LeadsTo G.next x e ⊎ ¬ LeadsTo G.next x e → Vector A
  offset_of (inl h) = shift
  offset_of (inr h) = zero_vector R

  abbrev offset_where : (x : X) → IsSide K x ⊎ ¬ IsSide K x → Vector A
  offset_where x (inl s) = offset_of (removal.leads_to_e L test g r x (r.side_before x s))
  offset_where x (inr s) = zero_vector R

  abbrev offset : X → Vector A
  offset x = offset_where x (true_or_not (K.has x))

  -- the position of a corner, where the polygon of e is shifted to that of d
  abbrev pub joined_position : X → Vector A
  joined_position x = add_vector R (g.position x) (offset x)

  offset_in : (x : X) → IsSide K x → LeadsTo G.next x e → offset x ≡ shift
  offset_in x s l = go (true_or_not (K.has x))
    where
      inner : (c : LeadsTo G.next x e ⊎ ¬ LeadsTo G.next x e) → offset_of c ≡ shift
      inner (inl h) = refl
      inner (inr h) = absurd (h l)

      go : (c : IsSide K x ⊎ ¬ IsSide K x) → offset_where x c ≡ shift
      go (inl t) = inner (removal.leads_to_e L test g r x (r.side_before x t))
      go (inr t) = absurd (t s)

  offset_out : (x : X) → IsSide K x → ¬ LeadsTo G.next x e → offset x ≡ zero_vector R
  offset_out x s l = go (true_or_not (K.has x))
    where
      inner : (c : LeadsTo G.next x e ⊎ ¬ LeadsTo G.next x e) → offset_of c ≡ zero_vector R
      inner (inl h) = absurd (l h)
      inner (inr h) = refl

      go : (c : IsSide K x ⊎ ¬ IsSide K x) → offset_where x c ≡ zero_vector R
      go (inl t) = inner (removal.leads_to_e L test g r x (r.side_before x t))
      go (inr t) = refl

  other : IsWithoutEdge G K e d
  other = removal.mirrored L test g r

  -- where the side after stays the same
  position_kept : (x : X) → IsSide K x → IsSide K (G.next x) → joined_position (G.next x) ≡ add_vector R (joined_position x) (G.vector x)
  position_kept x s k = go (removal.leads_to_e L test g r x there)
    where
      there : IsSide G x
      there = r.side_before x s

      moved : (t : Vector A) → offset x ≡ t → offset (G.next x) ≡ t → joined_position (G.next x) ≡ add_vector R (joined_position x) (G.vector x)
      moved t f j =
          (λ i. add_vector R (g.position_next x there i) (j i))
          ∙ vector_identity L.ring [] (g.position x ∷ G.vector x ∷ t ∷ []) (λ p v t. add_vector E (add_vector E p v) t ≐ᵥ add_vector E (add_vector E p t) v) refl
          ∙ ap (λ w. add_vector R (add_vector R (g.position x) w) (G.vector x)) (sym f)

      on : LeadsTo G.next x e → LeadsTo G.next (G.next x) e
      on (zero, f) = absurd (r.not_e x s f)
      on (suc m, f) = (m, f)

      go : LeadsTo G.next x e ⊎ ¬ LeadsTo G.next x e → joined_position (G.next x) ≡ add_vector R (joined_position x) (G.vector x)
      go (inl l) = moved shift (offset_in x s l) (offset_in (G.next x) k (on l))
      go (inr l) = moved (zero_vector R) (offset_out x s l) (offset_out (G.next x) k (λ m. l (suc m.0, m.1)))

  -- from the polygon of d to that of e
  position_across_d : joined_position (G.next e) ≡ add_vector R (joined_position (G.prev d)) (G.vector (G.prev d))
  position_across_d =
      let before = g.prev_side d r.d_side in
      let to_d : g.position d ≡ add_vector R (g.position (G.prev d)) (G.vector (G.prev d)) = ap g.position (sym (g.next_prev d r.d_side)) ∙ g.position_next (G.prev d) before in
      let back : LeadsTo G.next (G.next e) e = removal.leads_back L test g (removal.e_side L test g r) (1, refl) in
      (λ i. add_vector R (g.position_next e (removal.e_side L test g r) i) (offset_in (G.next e) (removal.after_d_side L test g other) back i))
      ∙ ap (λ w. add_vector R (add_vector R (g.position e) w) shift) (removal.vector_e L test g r)
      ∙ vector_identity L.ring [] (g.position e ∷ g.position d ∷ G.vector d ∷ [])
      (λ e d v. add_vector E (add_vector E e (neg_vector E v)) (sub_vector E (add_vector E d v) e) ≐ᵥ d) refl
      ∙ to_d
      ∙ vector_identity L.ring [] (g.position (G.prev d) ∷ G.vector (G.prev d) ∷ []) (λ p v. add_vector E p v ≐ᵥ add_vector E (add_vector E p (zero_vector E)) v) refl
      ∙ ap (λ w. add_vector R (add_vector R (g.position (G.prev d)) w) (G.vector (G.prev d)))
      (sym (offset_out (G.prev d) (removal.before_d_side L test g r) (removal.before_d_apart L test g r)))

  -- and back
  position_across_e : joined_position (G.next d) ≡ add_vector R (joined_position (G.prev e)) (G.vector (G.prev e))
  position_across_e =
      let e_side = removal.e_side L test g r in
      let before = g.prev_side e e_side in
      let to_e : g.position e ≡ add_vector R (g.position (G.prev e)) (G.vector (G.prev e)) = ap g.position (sym (g.next_prev e e_side)) ∙ g.position_next (G.prev e) before in
      (λ i. add_vector R (g.position_next d r.d_side i) (offset_out (G.next d) (removal.after_d_side L test g r) (removal.after_d_apart L test g r) i))
      ∙ vector_identity L.ring [] (g.position e ∷ g.position d ∷ G.vector d ∷ [])
      (λ e d v. add_vector E (add_vector E d v) (zero_vector E) ≐ᵥ add_vector E e (sub_vector E (add_vector E d v) e)) refl
      ∙ ap (λ w. add_vector R w shift) to_e
      ∙ vector_identity L.ring [] (g.position (G.prev e) ∷ G.vector (G.prev e) ∷ shift ∷ []) (λ p v t. add_vector E (add_vector E p v) t ≐ᵥ add_vector E (add_vector E p t) v) refl
      ∙ ap (λ w. add_vector R (add_vector R (g.position (G.prev e)) w) (G.vector (G.prev e)))
      (sym (offset_in (G.prev e) (removal.before_d_side L test g other) (1, g.next_prev e e_side)))

  -- each side leads from its corner to the next
  pub joined_position_next : (x : X) → IsSide K x → joined_position (K.next x) ≡ add_vector R (joined_position x) (K.vector x)
  joined_position_next x s = with_vector (go (removal.next_cases L test g r x s))
    where
      with_vector : joined_position (K.next x) ≡ add_vector R (joined_position x) (G.vector x) → joined_position (K.next x) ≡ add_vector R (joined_position x) (K.vector x)
      with_vector f = f ∙ ap (add_vector R (joined_position x)) (sym (r.vector x s))

      go : (x ≡ G.prev d) ⊎ ((x ≡ G.prev e) ⊎ (IsSide K (G.next x) × (K.next x ≡ G.next x))) → joined_position (K.next x) ≡ add_vector R (joined_position x) (G.vector x)
      go (inl f) = ap (λ w. joined_position (K.next w)) f ∙ ap joined_position r.next_before_d ∙ position_across_d ∙ ap (λ w. add_vector R (joined_position w) (G.vector w)) (sym f)
      go (inr (inl f)) = ap (λ w. joined_position (K.next w)) f ∙ ap joined_position r.next_before_e ∙ position_across_e ∙ ap (λ w. add_vector R (joined_position w) (G.vector w)) (sym f)
      go (inr (inr k)) = ap joined_position k.1 ∙ position_kept x s k.0
