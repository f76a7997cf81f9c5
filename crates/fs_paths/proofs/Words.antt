-- The words of straight paths: how they are continued, and that of two words of one path one continues the other. A library for crates to come.
use Rattle.std.proofs.Common.{◌≡◌, ◌⊎◌, Bool, List, [], ◌∷◌, ◌++◌, refl, sym, ap, ◌∙◌, subst, inl, inr}
use Rattle.fs_ring.specs.Operations.{Operations}
use Rattle.fs_ring.specs.OrderedRing.{IsOrderedRing}
use Rattle.fs_ring.specs.Vector.{Vector, zero_vector, add_vector, sub_vector, cross, dot}
use Rattle.fs_ring.specs.Direction.{inside}
use Rattle.fs_ring.proofs.Plane as plane
use Rattle.fs_ring.proofs.Directions as directions
use Rattle.fs_ring.proofs.Solver.{expressions as E, ◌≐◌}
use Rattle.fs_convex.specs.Turning.{DecidesHalfPlanes}
use Rattle.fs_paths.specs.SideGluing.{SideGluing, IsSide, AreGluedPolygons, InSectorOf, StrictlyInSectorOf}
use Rattle.fs_paths.specs.Development.{IsPutAt, InPutPolygon}
use Rattle.fs_paths.specs.StraightPaths.{Crosses, Path, Reaches}
use Rattle.fs_paths.specs.Passages.{ComesInto, by_side, at_corner}
use Rattle.fs_paths.proofs.Developments as developments
use Rattle.fs_paths.proofs.Passages as passages

-- ---- words that are continued

module _ {A : Type 0} (R : Operations A) (IsPositive : A → Type 0) {X : Type 0} (G : SideGluing X A) (v : Vector A) where
  abbrev PathTo : X → Vector A → List X → X → Vector A → Type 0
  PathTo b B word f F = Path R IsPositive G v b B word f F

  -- a path from a polygon is one from the same polygon, put at the same position
  pub path_from : (word : List X) (f : X) (F : Vector A) {b c : X} {B C : Vector A} → b ≡ c → B ≡ C → Path R IsPositive G v b B word f F → Path R IsPositive G v c C word f F
  path_from word f F {b} {c} {B} {C} e d h = subst (λ w. PathTo c w word f F) d (subst (λ x. PathTo x B word f F) e h)

  -- a path goes on from where it has come
  pub path-append : (word more : List X) (b m f : X) (B M F : Vector A) → Path R IsPositive G v b B word m M → Path R IsPositive G v m M more f F
      → Path R IsPositive G v b B (word ++ more) f F
  path-append [] more b m f B M F h k = path_from more f F h.0 h.1 k
  path-append (x ∷ word) more b m f B M F h k = (h.0, h.1, h.2, path-append word more (G.twin x) m f (add_vector R h.0 (G.vector x)) M F h.3 k)

  -- a path across the sides of two words comes to a polygon after the first
  pub path-split : (word more : List X) (b f : X) (B F : Vector A) → Path R IsPositive G v b B (word ++ more) f F
      → (m : X) × (M : Vector A) × Path R IsPositive G v b B word m M × Path R IsPositive G v m M more f F
  path-split [] more b f B F h = (b, B, (refl, refl), h)
  path-split (x ∷ word) more b f B F h =
      let rest = path-split word more (G.twin x) f (add_vector R h.0 (G.vector x)) F h.3 in
      (rest.0, rest.1, (h.0, h.1, h.2, rest.2), rest.3)

  -- a path that reaches a polygon from a corner is one from the corner's polygon, put with the corner at (0, 0)
  pub path_of_reaches : (c : X) (word : List X) (f : X) (F : Vector A) → Reaches R IsPositive G v c word f F → Path R IsPositive G v c (zero_vector R) word f F
  path_of_reaches c [] f F h = (h.1, h.2)
  path_of_reaches c (x ∷ word) f F h = h.1

  -- and the other way round, where v is strictly inside the sector
  pub reaches_of_path : (c : X) (word : List X) (f : X) (F : Vector A) → StrictlyInSectorOf R IsPositive G c v → Path R IsPositive G v c (zero_vector R) word f F
      → Reaches R IsPositive G v c word f F
  reaches_of_path c [] f F s h = (inside s.left_of_start s.right_of_end, h.0, h.1)
  reaches_of_path c (x ∷ word) f F s h = (s, h)

  -- a vector along which a path leads from a corner is in its sector
  pub sector_of_reaches : (c : X) (word : List X) (f : X) (F : Vector A) → Reaches R IsPositive G v c word f F → InSectorOf R IsPositive G c v
  sector_of_reaches c [] f F h = h.0
  sector_of_reaches c (x ∷ word) f F h = inside h.0.left_of_start h.0.right_of_end

  -- and strictly inside it, where the path crosses a side
  pub strict_of_reaches : (c : X) (word : List X) (x f : X) (F : Vector A) → Reaches R IsPositive G v c (word ++ x ∷ []) f F → StrictlyInSectorOf R IsPositive G c v
  strict_of_reaches c [] x f F h = h.0
  strict_of_reaches c (y ∷ word) x f F h = h.0

  -- a path that crosses one side more than the word
  pub reaches_one_more : (c : X) (word : List X) {b x : X} {B Q : Vector A} → StrictlyInSectorOf R IsPositive G c v → Reaches R IsPositive G v c word b B
      → IsPutAt R G b B x Q → Crosses R IsPositive v Q (add_vector R Q (G.vector x)) → Reaches R IsPositive G v c (word ++ x ∷ []) (G.twin x) (add_vector R Q (G.vector x))
  reaches_one_more c word {b} {x} {B} {Q} s h k cr =
      let f = G.twin x in
      let F = add_vector R Q (G.vector x) in
      reaches_of_path c (word ++ x ∷ []) f F s (path-append word (x ∷ []) c b f (zero_vector R) B F (path_of_reaches c word b B h) (Q, k, cr, (refl, refl)))

  -- its last side is one of the polygon to which the word leads
  pub reaches_last : (c : X) (word : List X) (x f : X) (F : Vector A) → Reaches R IsPositive G v c (word ++ x ∷ []) f F
      → (b : X) × (B : Vector A) × (Q : Vector A) × Reaches R IsPositive G v c word b B × IsPutAt R G b B x Q × Crosses R IsPositive v Q (add_vector R Q (G.vector x))
      × (f ≡ G.twin x) × (F ≡ add_vector R Q (G.vector x))
  reaches_last c word x f F h =
      let parts = path-split word (x ∷ []) c f (zero_vector R) F (path_of_reaches c (word ++ x ∷ []) f F h) in
      let step = parts.3 in
      (parts.0, parts.1, step.0, reaches_of_path c word parts.0 parts.1 (strict_of_reaches c word x f F h) parts.2, step.1, step.2, step.3.0, step.3.1)

module _ {A : Type 0} {R : Operations A} {IsPositive : A → Type 0} (L : IsOrderedRing R IsPositive)
    {is_ahead : Vector A → Vector A → Bool} (test : DecidesHalfPlanes R IsPositive is_ahead)
    {X : Type 0} {G : SideGluing X A} (g : AreGluedPolygons R IsPositive is_ahead G) where
  abbrev Put : X → Vector A → X → Vector A → Type 0
  Put b B x Q = IsPutAt R G b B x Q

  -- two paths with one word lead to one polygon, put at one position
  pub path_unique : (v : Vector A) (word : List X) (b e f : X) (B M F : Vector A) → IsSide G b → Path R IsPositive G v b B word e M → Path R IsPositive G v b B word f F
      → (e ≡ f) × (M ≡ F)
  path_unique v [] b e f B M F h k j = (k.0 ∙ sym j.0, k.1 ∙ sym j.1)
  path_unique v (x ∷ word) b e f B M F h k j =
      let same = developments.put_position_unique L test g h k.1 j.1 in
      let next = path_from R IsPositive G v word f F refl (sym (ap (λ w. add_vector R w (G.vector x)) same)) j.3 in
      path_unique v word (G.twin x) e f (add_vector R k.0 (G.vector x)) M F (g.twin_side x (developments.put_is_side L test g h k.1)) k.3 next

  -- the path comes into the polygon that it reaches
  pub path_comes_into : {v : Vector A} (word : List X) (b f : X) (B F : Vector A) → IsSide G b → ComesInto R IsPositive G v b B → Path R IsPositive G v b B word f F
      → IsSide G f × ComesInto R IsPositive G v f F
  path_comes_into {v} [] b f B F h c k =
      (subst (IsSide G) (sym k.0) h, subst (λ x. ComesInto R IsPositive G v x F) (sym k.0) (subst (λ w. ComesInto R IsPositive G v b w) (sym k.1) c))
  path_comes_into (x ∷ word) b f B F h c k =
      path_comes_into word (G.twin x) f (add_vector R k.0 (G.vector x)) F (g.twin_side x (developments.put_is_side L test g h k.1)) (passages.comes_into_next L test g h c k.1 k.2) k.3

  -- a path that crosses a side of a polygon meets none of its corners
  pub not_crossed_and_met : {v : Vector A} {f x y : X} {F P Q : Vector A} → IsSide G f → ComesInto R IsPositive G v f F → Put f F x Q
      → Crosses R IsPositive v Q (add_vector R Q (G.vector x)) → Put f F y P → cross R v P ≡ R.zero → IsPositive (dot R v P) → ⊥
  not_crossed_and_met {v} {f} {x} {y} {F} {P} {Q} h c k cr j z p = elim (passages.leaves L test g h c) [
    | by_side w O l ↦ l.no_corner y P j z p
    | at_corner w O l ↦ l.no_side x Q k cr.right cr.left
  ]

  -- where v is a corner of the polygon, the path crosses no side of it
  pub not_crossed_at_end : {v : Vector A} {f x y : X} {F Q : Vector A} → IsSide G f → ComesInto R IsPositive G v f F → Put f F x Q
      → Crosses R IsPositive v Q (add_vector R Q (G.vector x)) → Put f F y v → ⊥
  not_crossed_at_end {v} h c k cr j =
      not_crossed_and_met h c k cr j (plane.cross_self L.ring v) (directions.norm_positive L v (directions.cross_positive-ne-zero_right L cr.right))

  -- nor where v is in the polygon
  pub not_crossed_inside : {v : Vector A} {f x : X} {F Q : Vector A} → Put f F x Q → Crosses R IsPositive v Q (add_vector R Q (G.vector x)) → InPutPolygon R G IsPositive f F v → ⊥
  not_crossed_inside {v} {f} {x} {F} {Q} k cr i =
      i x Q k (directions.positive_by_plane L [] (v ∷ Q ∷ G.vector x ∷ [])
      (λ v q u. E.neg (cross E u (sub_vector E v q)) ≐ cross E (sub_vector E v q) (sub_vector E (add_vector E q u) q)) refl cr.beyond)

  -- a path crosses at most one side of a polygon
  pub crossed_side_unique : {v : Vector A} {b x y : X} {B P Q : Vector A} → IsSide G b → ComesInto R IsPositive G v b B
      → Put b B x Q → Crosses R IsPositive v Q (add_vector R Q (G.vector x)) → Put b B y P → Crosses R IsPositive v P (add_vector R P (G.vector y)) → (x ≡ y) × (Q ≡ P)
  crossed_side_unique {v} {b} {x} {y} {B} {P} {Q} h c k cr j cs = elim (passages.leaves L test g h c) [
    | at_corner w O l ↦ absurd (l.no_side x Q k cr.right cr.left)
    | by_side w O l ↦
        let first = l.only x Q k cr.right cr.left in
        let second = l.only y P j cs.right cs.left in
        (first.0 ∙ sym second.0, first.1 ∙ sym second.1)
  ]

  -- of two words of one path, one continues the other
  pub paths_continue : {v : Vector A} (word other : List X) (b e f : X) (B M F : Vector A) → IsSide G b → ComesInto R IsPositive G v b B
      → Path R IsPositive G v b B word e M → Path R IsPositive G v b B other f F
      → ((more : List X) × (other ≡ word ++ more) × Path R IsPositive G v e M more f F) ⊎ ((more : List X) × (word ≡ other ++ more) × Path R IsPositive G v f F more e M)
  paths_continue {v} [] other b e f B M F h c k j = inl (other, refl, path_from R IsPositive G v other f F (sym k.0) (sym k.1) j)
  paths_continue {v} (x ∷ word) [] b e f B M F h c k j = inr (x ∷ word, refl, path_from R IsPositive G v (x ∷ word) e M (sym j.0) (sym j.1) k)
  paths_continue {v} (x ∷ word) (y ∷ other) b e f B M F h c k j =
      let same = crossed_side_unique h c k.1 k.2 j.1 j.2 in
      let next = path_from R IsPositive G v other f F (ap G.twin (sym same.0)) (sym (λ i. add_vector R (same.1 i) (G.vector (same.0 i)))) j.3 in
      elim (paths_continue word other (G.twin x) e f (add_vector R k.0 (G.vector x)) M F (g.twin_side x (developments.put_is_side L test g h k.1))
      (passages.comes_into_next L test g h c k.1 k.2) k.3 next) [
        | inl r ↦ inl (r.0, (λ i. sym same.0 i ∷ r.1 i), r.2)
        | inr r ↦ inr (r.0, (λ i. same.0 i ∷ r.1 i), r.2)
      ]
