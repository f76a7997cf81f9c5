-- Polygons laid out in the plane: which side begins where, once one corner of the polygon has its position. A library for crates to come.
use Rattle.std.proofs.Common.{◌≡◌, ℕ, Bool, zero, suc, ◌+◌, ◌%◌, ◌<◌, [], ◌∷◌, refl, sym, ap, ◌∙◌, subst, arith, add-zero, add-suc, mod-lt, zero-lt-suc}
use Rattle.fs_cycles.specs.Cycles.{iterate}
use Rattle.fs_cycles.proofs.Iterates.{iterate-add, iterate_after, iterate-mod, leads_back}
use Rattle.fs_ring.specs.Operations.{Operations}
use Rattle.fs_ring.specs.CommutativeRing.{IsCommutativeRing}
use Rattle.fs_ring.specs.OrderedRing.{IsOrderedRing}
use Rattle.fs_ring.specs.Vector.{Vector, add_vector, sub_vector}
use Rattle.fs_ring.specs.Direction.{InHalfPlane}
use Rattle.fs_ring.proofs.Plane as plane
use Rattle.fs_ring.proofs.Solver.{expressions as E}
use Rattle.fs_ring.proofs.PlaneSolver.{vector_identity, ◌≐ᵥ◌}
use Rattle.fs_convex.specs.Turning.{DecidesHalfPlanes}
use Rattle.fs_convex.specs.Polygon.{position, IsConvexPolygon}
use Rattle.fs_convex.proofs.Boundary as boundary
use Rattle.fs_paths.specs.SideGluing.{SideGluing, IsSide, nth_side, sides_from, AreGluedPolygons}
use Rattle.fs_paths.specs.Development.{IsPutAt}

module _ {A : Type 0} (R : Operations A) where
  -- the positions after corner k are those from corner k on
  pub position-add : (p : Vector A) (s : ℕ → Vector A) (k l : ℕ) → position R p s (k + l) ≡ position R (position R p s k) (λ j. s (k + j)) l
  position-add p s k zero = ap (position R p s) (add-zero k)
  position-add p s k (suc l) = ap (position R p s) (add-suc k l) ∙ (λ i. add_vector R (position-add p s k l i) (s (k + l)))

module _ {A : Type 0} {R : Operations A} (L : IsCommutativeRing R) where
  position-shift : (t p : Vector A) (s : ℕ → Vector A) (k : ℕ) → position R (add_vector R t p) s k ≡ add_vector R t (position R p s k)
  position-shift t p s zero = refl
  position-shift t p s (suc k) = ap (λ w. add_vector R w (s k)) (position-shift t p s k) ∙ plane.add_vector_assoc L t (position R p s k) (s k)

-- a map that returns after n steps, of which there are some, leads to what it leads to within fewer steps
iterate_below : {X : Type 0} (f : X → X) (x : X) (n : ℕ) → 0 < n → iterate f n x ≡ x → (k : ℕ) → (m : ℕ) × (m < n) × (iterate f m x ≡ iterate f k x)
iterate_below f x zero l e k = absurd (omega arith)
iterate_below f x (suc n) l e k = (k % suc n, mod-lt k (zero-lt-suc n), sym (iterate-mod f n x e k))

-- and leads back from there
iterate_back : {X : Type 0} (f : X → X) (x y : X) (n : ℕ) → 0 < n → iterate f n x ≡ x → (k : ℕ) → iterate f k x ≡ y → (m : ℕ) × (iterate f m y ≡ x)
iterate_back f x y zero l e k h = absurd (omega arith)
iterate_back f x y (suc n) l e k h = leads_back f n x y e (k, h)

module _ {A : Type 0} {R : Operations A} {X : Type 0} {G : SideGluing X A} where
  -- ---- put polygons, one side after the other

  -- side k begins at position k
  pub put_number : (b : X) (B : Vector A) (k : ℕ) → IsPutAt R G b B (nth_side G b k) (position R B (sides_from G b) k)
  put_number b B k = record { number = k; side = refl; corner = refl }

  -- the side by which the polygon is put begins where it is put
  pub put_refl : (b : X) (B : Vector A) → IsPutAt R G b B b B
  put_refl b B = record { number = 0; side = refl; corner = refl }

  -- a polygon put by one of its sides, where that side begins in the put polygon, is that put polygon
  pub put_trans : {b x y : X} {B Q P : Vector A} → IsPutAt R G b B x Q → IsPutAt R G x Q y P → IsPutAt R G b B y P
  put_trans {b} {x} {y} {B} {Q} {P} h k = record {
    number = h.number + k.number;
    side = iterate-add G.next h.number k.number b ∙ ap (iterate G.next k.number) h.side ∙ k.side;
    corner = position-add R B (sides_from G b) h.number k.number
        ∙ (λ i. position R (h.corner i) (λ j. G.vector (iterate-add G.next h.number j b i)) k.number)
        ∙ (λ i. position R Q (sides_from G (h.side i)) k.number)
        ∙ k.corner;
  }

  -- the next side begins where the side ends
  pub put_next : {b x : X} {B Q : Vector A} → IsPutAt R G b B x Q → IsPutAt R G b B (G.next x) (add_vector R Q (G.vector x))
  put_next {b} {x} {B} {Q} h = record {
    number = suc h.number;
    side = iterate_after G.next h.number b ∙ ap G.next h.side;
    corner = λ i. add_vector R (h.corner i) (G.vector (h.side i));
  }

  module _ (L : IsCommutativeRing R) where
    -- a put polygon can be shifted
    pub put_shift : {b x : X} {B Q : Vector A} (t : Vector A) → IsPutAt R G b B x Q → IsPutAt R G b (add_vector R t B) x (add_vector R t Q)
    put_shift {b} {x} {B} {Q} t h = record {
      number = h.number;
      side = h.side;
      corner = position-shift L t B (sides_from G b) h.number ∙ ap (add_vector R t) h.corner;
    }

module _ {A : Type 0} {R : Operations A} {IsPositive : A → Type 0} (L : IsOrderedRing R IsPositive)
    {is_ahead : Vector A → Vector A → Bool} (test : DecidesHalfPlanes R IsPositive is_ahead)
    {X : Type 0} {G : SideGluing X A} (g : AreGluedPolygons R IsPositive is_ahead G) where
  abbrev Put : X → Vector A → X → Vector A → Type 0
  Put b B x Q = IsPutAt R G b B x Q

  -- ---- which sides, and where

  -- each side of the polygon of a side is a side
  pub nth_side_is_side : (b : X) → IsSide G b → (k : ℕ) → IsSide G (nth_side G b k)
  nth_side_is_side b h zero = h
  nth_side_is_side b h (suc k) = nth_side_is_side (G.next b) (g.next_side b h) k

  -- so is each side of its put polygon
  pub put_is_side : {b x : X} {B Q : Vector A} → IsSide G b → Put b B x Q → IsSide G x
  put_is_side {b} h k = subst (IsSide G) k.side (nth_side_is_side b h k.number)

  position_of_number : (b : X) (B : Vector A) → IsSide G b → (k : ℕ) → position R B (sides_from G b) k ≡ add_vector R B (sub_vector R (g.position (nth_side G b k)) (g.position b))
  position_of_number b B h zero = vector_identity L.ring [] (B ∷ g.position b ∷ []) (λ b p. b ≐ᵥ add_vector E b (sub_vector E p p)) refl
  position_of_number b B h (suc k) =
      let x = nth_side G b k in
      let next : g.position (nth_side G b (suc k)) ≡ add_vector R (g.position x) (G.vector x) = ap g.position (iterate_after G.next k b) ∙ g.position_next x (nth_side_is_side b h k) in
      ap (λ w. add_vector R w (G.vector x)) (position_of_number b B h k)
      ∙ vector_identity L.ring [] (B ∷ g.position x ∷ g.position b ∷ G.vector x ∷ [])
      (λ b p q v. add_vector E (add_vector E b (sub_vector E p q)) v ≐ᵥ add_vector E b (sub_vector E (add_vector E p v) q)) refl
      ∙ ap (λ w. add_vector R B (sub_vector R w (g.position b))) (sym next)

  -- where a side of a put polygon begins
  pub put_position : {b x : X} {B Q : Vector A} → IsSide G b → Put b B x Q → Q ≡ add_vector R B (sub_vector R (g.position x) (g.position b))
  put_position {b} {x} {B} {Q} h k =
      sym k.corner ∙ position_of_number b B h k.number ∙ (λ i. add_vector R B (sub_vector R (g.position (k.side i)) (g.position b)))

  -- two positions of one side of a put polygon are the same
  pub put_position_unique : {b x : X} {B P Q : Vector A} → IsSide G b → Put b B x P → Put b B x Q → P ≡ Q
  put_position_unique h j k = put_position h j ∙ sym (put_position h k)

  -- ---- a put polygon is a convex polygon

  -- the sides from any side on, and their positions, are a convex polygon
  pub put_polygon : (b : X) (B : Vector A) → IsSide G b → IsConvexPolygon R IsPositive is_ahead (g.sides b) (sides_from G b) (position R B (sides_from G b))
  put_polygon b B h = record {
    convex = λ k. subst (λ x. InHalfPlane R IsPositive (G.vector (nth_side G b k)) (G.vector x)) (sym (iterate_after G.next k b)) (g.convex (nth_side G b k) (nth_side_is_side b h k));
    repeats = λ k. ap G.vector (iterate-add G.next (g.sides b) k b ∙ ap (iterate G.next k) (g.returns b h));
    sides = λ k. refl;
    closed = put_position_unique h (record { number = g.sides b; side = g.returns b h; corner = refl }) (put_refl b B);
    turning_number = g.turning_number b h;
  }

  -- a polygon has sides
  pub some_side : (b : X) → IsSide G b → 0 < g.sides b
  some_side b h = boundary.some_side L test (put_polygon b (g.position b) h)

  -- each side of a put polygon comes within the first ones, as many as it has
  pub put_below : {b x : X} {B Q : Vector A} → IsSide G b → Put b B x Q
      → (k : ℕ) × (k < g.sides b) × (nth_side G b k ≡ x) × (position R B (sides_from G b) k ≡ Q)
  put_below {b} {x} {B} {Q} h k =
      let below = iterate_below G.next b (g.sides b) (some_side b h) (g.returns b h) k.number in
      let same : nth_side G b below.0 ≡ x = below.2 ∙ k.side in
      (below.0, below.1, same, put_position_unique h (record { number = below.0; side = same; corner = refl }) k)

  -- a put polygon can be put by any other of its sides
  pub put_back : {b x : X} {B Q : Vector A} → IsSide G b → Put b B x Q → Put x Q b B
  put_back {b} {x} {B} {Q} h k =
      let back = iterate_back G.next b x (g.sides b) (some_side b h) (g.returns b h) k.number k.side in
      let there : Put x Q b (position R Q (sides_from G x) back.0) = record { number = back.0; side = back.1; corner = refl } in
      record { number = back.0; side = back.1; corner = put_position_unique h (put_trans k there) (put_refl b B) }
