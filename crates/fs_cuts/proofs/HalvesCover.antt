-- Each side of a polygon that is cut is a side of one of the two halves, at the same position. A library for crates to come.
use Rattle.std.proofs.Common.{◌≡◌, ◌⊎◌, ◌≢◌, ℕ, Bool, zero, suc, sym, ap, ◌∙◌, subst, inl, inr}
use Rattle.fs_cycles.proofs.Iterates.{iterate_after}
use Rattle.fs_ring.specs.Operations.{Operations}
use Rattle.fs_ring.specs.OrderedRing.{IsOrderedRing}
use Rattle.fs_ring.specs.Vector.{Vector, add_vector}
use Rattle.fs_convex.specs.Turning.{DecidesHalfPlanes}
use Rattle.fs_convex.specs.Polygon.{position}
use Rattle.fs_paths.specs.SideGluing.{SideGluing, IsSide, AreGluedPolygons, nth_side, sides_from}
use Rattle.fs_paths.specs.Development.{IsPutAt}
use Rattle.fs_paths.proofs.Developments as developments
use Rattle.fs_paths.proofs.PutPolygons as put_polygons
use Rattle.fs_cuts.specs.Cuts.{IsCut}
use Rattle.fs_cuts.specs.Halves.{LiesIn, by_kept, by_d, by_e, IsInHalves, here, across_d, across_e}
use Rattle.fs_cuts.proofs.Cuts as cuts

module _ {A : Type 0} {R : Operations A} {X Y : Type 0} {G : SideGluing X A} {H : SideGluing Y A} {kept : X → Y} {p q : X} {d e : Y} where
  -- also where the two sides of the cut are exchanged
  in_halves_mirrored : {y : Y} {P : Vector A} {x : X} {Q : Vector A} → IsInHalves R G H kept p q d e y P x Q → IsInHalves R G H kept q p e d y P x Q
  in_halves_mirrored (here k) = here k
  in_halves_mirrored (across_d D j k) = across_e D j k
  in_halves_mirrored (across_e E j k) = across_d E j k

module _ {A : Type 0} {R : Operations A} {IsPositive : A → Type 0} (L : IsOrderedRing R IsPositive)
    {is_ahead : Vector A → Vector A → Bool} (test : DecidesHalfPlanes R IsPositive is_ahead)
    {X Y : Type 0} {G : SideGluing X A} {H : SideGluing Y A} (g : AreGluedPolygons R IsPositive is_ahead G) (h : AreGluedPolygons R IsPositive is_ahead H)
    {kept : X → Y} {p q : X} {d e : Y} (cut : IsCut R G H kept p q d e) where
  abbrev InHalves : Y → Vector A → X → Vector A → Type 0
  InHalves y P x Q = IsInHalves R G H kept p q d e y P x Q

  -- the side after a kept side that isn't before the cut
  kept_next : {z : Y} {S Q : Vector A} (x : X) → IsSide G x → H.next (kept x) ≡ kept (G.next x) → IsPutAt R H z S (kept x) Q
      → IsPutAt R H z S (kept (G.next x)) (add_vector R Q (G.vector x))
  kept_next {z} {S} {Q} x s f k =
      subst (λ w. IsPutAt R H z S w (add_vector R Q (G.vector x))) f (subst (λ w. IsPutAt R H z S (H.next (kept x)) (add_vector R Q w)) (cut.vector x s) (developments.put_next k))

  put_d : {z : Y} {S Q : Vector A} → IsPutAt R H z S (kept p) Q → IsPutAt R H z S d (add_vector R Q (G.vector p))
  put_d {z} {S} {Q} k =
      subst (λ w. IsPutAt R H z S w (add_vector R Q (G.vector p))) cut.next_p
      (subst (λ w. IsPutAt R H z S (H.next (kept p)) (add_vector R Q w)) (cut.vector p cut.p_side) (developments.put_next k))

  put_after_e : {z : Y} {S Q : Vector A} → IsPutAt R H z S e Q → IsPutAt R H z S (kept (G.next p)) (add_vector R Q (H.vector e))
  put_after_e {z} {S} {Q} k = subst (λ w. IsPutAt R H z S w (add_vector R Q (H.vector e))) cut.next_e (developments.put_next k)

  -- after p, in this half, the polygon goes on across d
  next_of_p : {y : Y} {P Q : Vector A} → IsPutAt R H y P (kept p) Q → InHalves y P (G.next p) (add_vector R Q (G.vector p))
  next_of_p {y} {P} {Q} k =
      let D = add_vector R Q (G.vector p) in
      let E = add_vector R D (H.vector d) in
      across_d D (put_d k)
      (subst (λ w. IsPutAt R H e E (kept (G.next p)) w) (cuts.across_and_back L test g h cut D) (put_after_e (developments.put_refl e E)))

  -- after p, in the half across e, the polygon goes on here
  next_of_p_across_e : {y : Y} {P E Q : Vector A} → IsPutAt R H y P e E → IsPutAt R H d (add_vector R E (H.vector e)) (kept p) Q → InHalves y P (G.next p) (add_vector R Q (G.vector p))
  next_of_p_across_e {y} {P} {E} {Q} j k =
      let same = developments.put_position_unique L test h cut.d_side (developments.put_refl d (add_vector R E (H.vector e))) (put_d k) in
      here (subst (λ w. IsPutAt R H y P (kept (G.next p)) w) same (put_after_e j))

  -- p isn't in the half across d: that is this half
  no_p_across_d : {D Q : Vector A} → IsPutAt R H e D (kept p) Q → ⊥
  no_p_across_d k = let round = put_d k in (cuts.mirrored L test g h cut).apart round.number round.side

module _ {A : Type 0} {R : Operations A} {IsPositive : A → Type 0} (L : IsOrderedRing R IsPositive)
    {is_ahead : Vector A → Vector A → Bool} (test : DecidesHalfPlanes R IsPositive is_ahead)
    {X Y : Type 0} {G : SideGluing X A} {H : SideGluing Y A} (g : AreGluedPolygons R IsPositive is_ahead G) (h : AreGluedPolygons R IsPositive is_ahead H)
    {kept : X → Y} {p q : X} {d e : Y} (cut : IsCut R G H kept p q d e) (y : Y) (P : Vector A) where
  abbrev InHalf : X → Vector A → Type 0
  InHalf x Q = IsInHalves R G H kept p q d e y P x Q

  other_cut : IsCut R G H kept q p e d
  other_cut = cuts.mirrored L test g h cut

  -- where a side is in one of the halves, so is the next
  in_halves_next : (x : X) {Q : Vector A} → IsSide G x → InHalf x Q → InHalf (G.next x) (add_vector R Q (G.vector x))
  in_halves_next x {Q} s k = go (cuts.next_cases L test g h cut x s) k
    where
      after_p : InHalf p Q → InHalf (G.next p) (add_vector R Q (G.vector p))
      after_p (here j) = next_of_p L test g h cut j
      after_p (across_d D i j) = absurd (no_p_across_d L test g h cut j)
      after_p (across_e E i j) = next_of_p_across_e L test g h cut i j

      after_q : InHalf q Q → InHalf (G.next q) (add_vector R Q (G.vector q))
      after_q (here j) = in_halves_mirrored (next_of_p L test g h other_cut j)
      after_q (across_e E i j) = absurd (no_p_across_d L test g h other_cut j)
      after_q (across_d D i j) = in_halves_mirrored (next_of_p_across_e L test g h other_cut i j)

      after_other : H.next (kept x) ≡ kept (G.next x) → InHalf x Q → InHalf (G.next x) (add_vector R Q (G.vector x))
      after_other f (here j) = here (kept_next L test g h cut x s f j)
      after_other f (across_d D i j) = across_d D i (kept_next L test g h cut x s f j)
      after_other f (across_e E i j) = across_e E i (kept_next L test g h cut x s f j)

      go : (x ≡ p) ⊎ ((x ≡ q) ⊎ ((x ≢ p) × (x ≢ q) × (H.next (kept x) ≡ kept (G.next x)))) → InHalf x Q → InHalf (G.next x) (add_vector R Q (G.vector x))
      go (inl f) j = subst (λ w. InHalf (G.next w) (add_vector R Q (G.vector w))) (sym f) (after_p (subst (λ w. InHalf w Q) f j))
      go (inr (inl f)) j = subst (λ w. InHalf (G.next w) (add_vector R Q (G.vector w))) (sym f) (after_q (subst (λ w. InHalf w Q) f j))
      go (inr (inr r)) j = after_other r.2 j

  in_halves_number : (x : X) {Q : Vector A} → IsSide G x → InHalf x Q → (k : ℕ) → InHalf (nth_side G x k) (position R Q (sides_from G x) k)
  in_halves_number x s j zero = j
  in_halves_number x {Q} s j (suc k) =
      subst (λ w. InHalf w (position R Q (sides_from G x) (suc k))) (sym (iterate_after G.next k x))
      (in_halves_next (nth_side G x k) (developments.nth_side_is_side L test g x s k) (in_halves_number x s j k))

  in_halves_put : {x z : X} {Q S : Vector A} → IsSide G x → InHalf x Q → IsPutAt R G x Q z S → InHalf z S
  in_halves_put {x} {z} {Q} {S} s j k = subst (λ w. InHalf w S) k.side (subst (λ w. InHalf (nth_side G x k.number) w) k.corner (in_halves_number x s j k.number))

  -- each side of a polygon is in a half that lies in it, or in the other half, across the cut
  pub in_halves : {b x : X} {B Q : Vector A} → IsSide G b → LiesIn R G H kept p q d e b B y P → IsPutAt R G b B x Q → InHalf x Q
  in_halves {b} {x} {B} {Q} hb (by_kept z s f j) k =
      in_halves_put s (here (subst (λ w. IsPutAt R H y P w P) f (developments.put_refl y P))) (put_polygons.put_from L test g hb j k)
  in_halves {b} {x} {B} {Q} hb (by_d f i j) k =
      in_halves_put (g.next_side q cut.q_side)
      (here (subst (λ w. IsPutAt R H y P w (add_vector R P (H.vector d))) (ap H.next f ∙ cut.next_d)
      (subst (λ w. IsPutAt R H y P (H.next y) (add_vector R P (H.vector w))) f (developments.put_next (developments.put_refl y P)))))
      (put_polygons.put_from L test g hb j k)
  in_halves {b} {x} {B} {Q} hb (by_e f i j) k =
      in_halves_put (g.next_side p cut.p_side)
      (here (subst (λ w. IsPutAt R H y P w (add_vector R P (H.vector e))) (ap H.next f ∙ cut.next_e)
      (subst (λ w. IsPutAt R H y P (H.next y) (add_vector R P (H.vector w))) f (developments.put_next (developments.put_refl y P)))))
      (put_polygons.put_from L test g hb j k)
