-- A half of a polygon that is cut lies in the polygon, and across the cut, or across a side, lies the next. A library for crates to come.
use Rattle.std.proofs.Common.{◌≡◌, ◌≢◌, ◌⊎◌, ℕ, Bool, zero, suc, refl, sym, ap, ◌∙◌, subst, inl, inr}
use Rattle.fs_cycles.proofs.Iterates.{iterate_after}
use Rattle.fs_ring.specs.Operations.{Operations}
use Rattle.fs_ring.specs.OrderedRing.{IsOrderedRing}
use Rattle.fs_ring.specs.Vector.{Vector, add_vector}
use Rattle.fs_ring.proofs.Plane as plane
use Rattle.fs_convex.specs.Turning.{DecidesHalfPlanes}
use Rattle.fs_convex.specs.Polygon.{position}
use Rattle.fs_paths.specs.SideGluing.{SideGluing, IsSide, AreGluedPolygons, nth_side, sides_from}
use Rattle.fs_paths.specs.Development.{IsPutAt}
use Rattle.fs_paths.proofs.Developments as developments
use Rattle.fs_cuts.specs.Cuts.{IsCut}
use Rattle.fs_cuts.specs.Halves.{LiesIn, by_kept, by_d, by_e}
use Rattle.fs_cuts.proofs.Cuts as cuts

module _ {A : Type 0} {R : Operations A} {X Y : Type 0} {G : SideGluing X A} {H : SideGluing Y A} {kept : X → Y} {p q : X} {d e : Y} where
  -- each corner of a half that lies in a polygon is a corner of the polygon
  pub corner_of_lies : {b : X} {B : Vector A} {y : Y} {P : Vector A} → LiesIn R G H kept p q d e b B y P → (x : X) × IsPutAt R G b B x P
  corner_of_lies (by_kept x k f j) = (x, j)
  corner_of_lies (by_d f j k) = (G.next p, j)
  corner_of_lies (by_e f j k) = (G.next q, j)

  -- the half also lies in the polygon where the two sides of the cut are exchanged
  pub lies_mirrored : {b : X} {B : Vector A} {y : Y} {P : Vector A} → LiesIn R G H kept p q d e b B y P → LiesIn R G H kept q p e d b B y P
  lies_mirrored (by_kept x k f j) = by_kept x k f j
  lies_mirrored (by_d f j k) = by_e f j k
  lies_mirrored (by_e f j k) = by_d f j k

  -- the half is put by another name or position that is the same
  pub lies_of : {b : X} {B : Vector A} {y z : Y} {P Q : Vector A} → y ≡ z → P ≡ Q → LiesIn R G H kept p q d e b B y P → LiesIn R G H kept p q d e b B z Q
  lies_of {b} {B} {y} {z} {P} {Q} f j k = subst (λ w. LiesIn R G H kept p q d e b B w Q) f (subst (λ w. LiesIn R G H kept p q d e b B y w) j k)

  -- the half of a kept side lies in the side's polygon
  pub lies_at_side : (x : X) → IsSide G x → (B : Vector A) → LiesIn R G H kept p q d e x B (kept x) B
  lies_at_side x k B = by_kept x k refl (developments.put_refl x B)

module _ {A : Type 0} {R : Operations A} {IsPositive : A → Type 0} (L : IsOrderedRing R IsPositive)
    {is_ahead : Vector A → Vector A → Bool} (test : DecidesHalfPlanes R IsPositive is_ahead)
    {X Y : Type 0} {G : SideGluing X A} {H : SideGluing Y A} (g : AreGluedPolygons R IsPositive is_ahead G) (h : AreGluedPolygons R IsPositive is_ahead H)
    {kept : X → Y} {p q : X} {d e : Y} (cut : IsCut R G H kept p q d e) where
  abbrev Lies : X → Vector A → Y → Vector A → Type 0
  Lies b B y P = LiesIn R G H kept p q d e b B y P

  -- the corner at the end of the cut is where d leads, wherever the polygon is put
  put_span : {b : X} {B P : Vector A} → IsPutAt R G b B (G.next p) P → IsPutAt R G b B (G.next q) (add_vector R P (H.vector d))
  put_span {b} {B} {P} k =
      developments.put_trans k
      (subst (λ w. IsPutAt R G (G.next p) w (G.next q) (add_vector R P (H.vector d))) (plane.add_vector_zero L.ring P) (developments.put_shift L.ring P cut.span))

  -- after side p of the polygon comes d
  lies_after_p : {b : X} {B P : Vector A} → IsPutAt R G b B p P → Lies b B (H.next (kept p)) (add_vector R P (H.vector (kept p)))
  lies_after_p {b} {B} {P} k =
      let there = subst (λ w. IsPutAt R G b B (G.next p) (add_vector R P w)) (sym (cut.vector p cut.p_side)) (developments.put_next k) in
      by_d cut.next_p there (put_span there)

module _ {A : Type 0} {R : Operations A} {IsPositive : A → Type 0} (L : IsOrderedRing R IsPositive)
    {is_ahead : Vector A → Vector A → Bool} (test : DecidesHalfPlanes R IsPositive is_ahead)
    {X Y : Type 0} {G : SideGluing X A} {H : SideGluing Y A} (g : AreGluedPolygons R IsPositive is_ahead G) (h : AreGluedPolygons R IsPositive is_ahead H)
    {kept : X → Y} {p q : X} {d e : Y} (cut : IsCut R G H kept p q d e) where
  abbrev LiesHere : X → Vector A → Y → Vector A → Type 0
  LiesHere b B y P = LiesIn R G H kept p q d e b B y P

  other_cut : IsCut R G H kept q p e d
  other_cut = cuts.mirrored L test g h cut

  -- where a half lies in a polygon, it does so put by its next side
  pub lies_next : {b : X} {B : Vector A} {y : Y} {P : Vector A} → LiesHere b B y P → LiesHere b B (H.next y) (add_vector R P (H.vector y))
  lies_next {b} {B} {y} {P} (by_d f j k) = by_kept (G.next q) (g.next_side q cut.q_side) (ap H.next f ∙ cut.next_d) (subst (λ w. IsPutAt R G b B (G.next q) (add_vector R P (H.vector w))) (sym f) k)
  lies_next {b} {B} {y} {P} (by_e f j k) = by_kept (G.next p) (g.next_side p cut.p_side) (ap H.next f ∙ cut.next_e) (subst (λ w. IsPutAt R G b B (G.next p) (add_vector R P (H.vector w))) (sym f) k)
  lies_next {b} {B} {y} {P} (by_kept x s f k) = subst (λ w. LiesHere b B (H.next w) (add_vector R P (H.vector w))) (sym f) (go (cuts.next_cases L test g h cut x s))
    where
      go : (x ≡ p) ⊎ ((x ≡ q) ⊎ ((x ≢ p) × (x ≢ q) × (H.next (kept x) ≡ kept (G.next x)))) → LiesHere b B (H.next (kept x)) (add_vector R P (H.vector (kept x)))
      go (inl same) =
          subst (λ w. LiesHere b B (H.next (kept w)) (add_vector R P (H.vector (kept w)))) (sym same) (lies_after_p L test g h cut (subst (λ w. IsPutAt R G b B w P) same k))
      go (inr (inl same)) =
          subst (λ w. LiesHere b B (H.next (kept w)) (add_vector R P (H.vector (kept w)))) (sym same)
          (lies_mirrored (lies_after_p L test g h other_cut (subst (λ w. IsPutAt R G b B w P) same k)))
      go (inr (inr r)) =
          by_kept (G.next x) (g.next_side x s) r.2 (subst (λ w. IsPutAt R G b B (G.next x) (add_vector R P w)) (sym (cut.vector x s)) (developments.put_next k))

  lies_number : {b : X} {B : Vector A} {y : Y} {P : Vector A} → LiesHere b B y P → (k : ℕ) → LiesHere b B (nth_side H y k) (position R P (sides_from H y) k)
  lies_number l zero = l
  lies_number {y = y} l (suc k) = lies_of (sym (iterate_after H.next k y)) refl (lies_next (lies_number l k))

  -- where a half lies in a polygon, it does so put by any of its sides
  pub lies_put : {b : X} {B : Vector A} {y z : Y} {P Q : Vector A} → LiesHere b B y P → IsPutAt R H y P z Q → LiesHere b B z Q
  lies_put l k = lies_of k.side k.corner (lies_number l k.number)

  -- across d lies the other half, in the same polygon
  pub lies_across_d : {b : X} {B D : Vector A} → LiesHere b B d D → LiesHere b B e (add_vector R D (H.vector d))
  lies_across_d {b} {B} {D} (by_kept x s f k) = absurd (cut.kept_not_d x s (sym f))
  lies_across_d {b} {B} {D} (by_e f j k) = absurd (cuts.cut_sides_differ L test g h cut f)
  lies_across_d {b} {B} {D} (by_d f j k) = by_e refl k (subst (λ w. IsPutAt R G b B (G.next p) w) (sym (cuts.across_and_back L test g h cut D)) j)

  -- across a kept side lies the half of its twin, in the polygon of the twin
  pub lies_across_side : (x : X) → IsSide G x → (B : Vector A) → LiesHere (G.twin x) B (H.twin (kept x)) B
  lies_across_side x s B = lies_of (sym (cut.twin x s)) refl (lies_at_side (G.twin x) (g.twin_side x s) B)
