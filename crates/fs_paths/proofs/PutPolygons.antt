-- Where the corners of a put polygon are, seen from one of its sides. A library for crates to come.
use Rattle.std.proofs.Common.{◌≡◌, ◌⊎◌, ℕ, Bool, suc, ◌-◌, ◌<◌, ◌≤◌, sym, ap, ◌∙◌, subst, inl, inr, arith}
use Rattle.fs_cycles.proofs.Iterates.{iterate_after}
use Rattle.fs_ring.specs.Operations.{Operations}
use Rattle.fs_ring.specs.OrderedRing.{IsOrderedRing, IsNonNegative}
use Rattle.fs_ring.specs.Vector.{Vector, add_vector, sub_vector, cross}
use Rattle.fs_convex.specs.Turning.{DecidesHalfPlanes}
use Rattle.fs_convex.specs.Polygon.{position, IsOffSide}
use Rattle.fs_convex.proofs.Corners as corners
use Rattle.fs_paths.specs.SideGluing.{SideGluing, IsSide, nth_side, sides_from, AreGluedPolygons}
use Rattle.fs_paths.specs.Development.{IsPutAt}
use Rattle.fs_paths.proofs.Developments as developments

module _ {A : Type 0} {R : Operations A} {IsPositive : A → Type 0} (L : IsOrderedRing R IsPositive)
    {is_ahead : Vector A → Vector A → Bool} (test : DecidesHalfPlanes R IsPositive is_ahead)
    {X : Type 0} {G : SideGluing X A} (g : AreGluedPolygons R IsPositive is_ahead G) where
  abbrev Put : X → Vector A → X → Vector A → Type 0
  Put b B x Q = IsPutAt R G b B x Q

  -- two sides of a put polygon: it is put by the one, and the other is one of its sides
  pub put_from : {b x y : X} {B P Q : Vector A} → IsSide G b → Put b B x Q → Put b B y P → Put x Q y P
  put_from h j k = developments.put_trans (developments.put_back L test g h j) k

  -- no corner of a put polygon is right of a side
  pub put_not_right : {b x y : X} {B P Q : Vector A} → IsSide G b → Put b B x Q → Put b B y P → IsNonNegative R IsPositive (cross R (G.vector x) (sub_vector R P Q))
  put_not_right {b} {x} {y} {B} {P} {Q} h j k =
      let hx = developments.put_is_side L test g h j in
      let t = put_from h j k in
      subst (λ w. IsNonNegative R IsPositive (cross R (G.vector x) (sub_vector R w Q))) t.corner (corners.corner_not_right L test (developments.put_polygon L test g x Q hx) 0 t.number)

  -- a corner of a put polygon is the start or the end of a side, or off the side
  pub put_off_side : {b x y : X} {B P Q : Vector A} → IsSide G b → Put b B x Q → Put b B y P
      → ((y ≡ x) × (P ≡ Q)) ⊎ (((y ≡ G.next x) × (P ≡ add_vector R Q (G.vector x))) ⊎ IsOffSide R IsPositive (G.vector x) Q (add_vector R Q (G.vector x)) P)
  put_off_side {b} {x} {y} {B} {P} {Q} h j k = go (three below.0)
    where
      hx : IsSide G x
      hx = developments.put_is_side L test g h j

      below : (k : ℕ) × (k < g.sides x) × (nth_side G x k ≡ y) × (position R Q (sides_from G x) k ≡ P)
      below = developments.put_below L test g hx (put_from h j k)

      three : (k : ℕ) → (k ≡ 0) ⊎ ((k ≡ 1) ⊎ (2 ≤ k))
      three k = grind arith

      go : (below.0 ≡ 0) ⊎ ((below.0 ≡ 1) ⊎ (2 ≤ below.0))
          → ((y ≡ x) × (P ≡ Q)) ⊎ (((y ≡ G.next x) × (P ≡ add_vector R Q (G.vector x))) ⊎ IsOffSide R IsPositive (G.vector x) Q (add_vector R Q (G.vector x)) P)
      go (inl z) = inl (sym below.2 ∙ ap (λ (i : ℕ). nth_side G x i) z, sym below.3 ∙ ap (λ (i : ℕ). position R Q (sides_from G x) i) z)
      go (inr (inl z)) = inr (inl (sym below.2 ∙ ap (λ (i : ℕ). nth_side G x i) z, sym below.3 ∙ ap (λ (i : ℕ). position R Q (sides_from G x) i) z))
      go (inr (inr l)) =
          inr (inr (subst (λ w. IsOffSide R IsPositive (G.vector x) Q (add_vector R Q (G.vector x)) w) below.3
          (corners.corner_off_side L test (developments.put_polygon L test g x Q hx) below.0 l below.1)))

  -- two corners of a put polygon at one position are one corner
  pub put_corner_unique : {b x y : X} {B Q : Vector A} → IsSide G b → Put b B x Q → Put b B y Q → x ≡ y
  put_corner_unique {b} {x} {y} {B} {Q} h j k = go (two below.0)
    where
      hx : IsSide G x
      hx = developments.put_is_side L test g h j

      below : (k : ℕ) × (k < g.sides x) × (nth_side G x k ≡ y) × (position R Q (sides_from G x) k ≡ Q)
      below = developments.put_below L test g hx (put_from h j k)

      two : (k : ℕ) → (k ≡ 0) ⊎ (0 < k)
      two k = grind arith

      go : (below.0 ≡ 0) ⊎ (0 < below.0) → x ≡ y
      go (inl z) = sym (ap (λ (i : ℕ). nth_side G x i) z) ∙ below.2
      go (inr l) = absurd (corners.positions_differ L test (developments.put_polygon L test g x Q hx) 0 below.0 l below.1 (sym below.3))

  -- the last side of the polygon of b is the one before b
  pub last_side : (b : X) → IsSide G b → nth_side G b (g.sides b - 1) ≡ G.prev b
  last_side b h =
      let some = developments.some_side L test g b h in
      let to_n : suc (g.sides b - 1) ≡ g.sides b = omega arith in
      sym (g.prev_next (nth_side G b (g.sides b - 1)) (developments.nth_side_is_side L test g b h (g.sides b - 1)))
      ∙ ap G.prev (sym (iterate_after G.next (g.sides b - 1) b) ∙ ap (λ (i : ℕ). nth_side G b i) to_n ∙ g.returns b h)
