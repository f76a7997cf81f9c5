-- Glued polygons with other names are the same: their sectors, their put polygons, their paths and segments. A library for crates to come.
use Rattle.std.proofs.Common.{◌≡◌, ℕ, Bool, zero, suc, List, [], ◌∷◌, map, sym, ap, ◌∙◌, subst}
use Rattle.fs_cycles.proofs.Iterates.{iterate_after}
use Rattle.fs_ring.specs.Operations.{Operations}
use Rattle.fs_ring.specs.OrderedRing.{IsOrderedRing}
use Rattle.fs_ring.specs.Vector.{Vector, zero_vector, add_vector, neg_vector, cross}
use Rattle.fs_ring.specs.Direction.{InSector}
use Rattle.fs_convex.specs.Turning.{DecidesHalfPlanes}
use Rattle.fs_convex.specs.Polygon.{position}
use Rattle.fs_paths.specs.SideGluing.{SideGluing, IsSide, AreGluedPolygons, nth_side, sides_from, InSectorOf, StrictlyInSectorOf}
use Rattle.fs_paths.specs.Development.{IsPutAt}
use Rattle.fs_paths.specs.StraightPaths.{Crosses, Path, Reaches, IsMetBefore}
use Rattle.fs_paths.specs.Segments.{IsSegment}
use Rattle.fs_paths.proofs.Developments as developments
use Rattle.fs_cuts.specs.Renumberings.{IsRenumbering}

module _ {A : Type 0} {R : Operations A} {IsPositive : A → Type 0} {is_ahead : Vector A → Vector A → Bool} {X Y : Type 0}
    {G : SideGluing X A} {H : SideGluing Y A} (g : AreGluedPolygons R IsPositive is_ahead G) (h : AreGluedPolygons R IsPositive is_ahead H)
    {new : X → Y} {old : Y → X} (r : IsRenumbering G H new old) where
  -- the old names are new names of the new ones
  pub renumbering_back : IsRenumbering H G old new
  renumbering_back = record {
    new_side = r.old_side;
    old_side = r.new_side;
    old_new = r.new_old;
    new_old = r.old_new;
    vector = λ y k. sym (r.vector (old y) (r.old_side y k)) ∙ ap H.vector (r.new_old y k);
    next = λ y k.
        let x = old y in
        let s = r.old_side y k in
        sym (r.old_new (G.next x) (g.next_side x s)) ∙ ap old (sym (r.next x s) ∙ ap H.next (r.new_old y k));
    twin = λ y k.
        let x = old y in
        let s = r.old_side y k in
        sym (r.old_new (G.twin x) (g.twin_side x s)) ∙ ap old (sym (r.twin x s) ∙ ap H.twin (r.new_old y k));
  }

  -- different sides have different names
  pub new_one_to_one : {x y : X} → IsSide G x → IsSide G y → new x ≡ new y → x ≡ y
  new_one_to_one {x} {y} j k same = sym (r.old_new x j) ∙ ap old same ∙ r.old_new y k

  -- the side before has its new name
  pub prev_new : (x : X) → IsSide G x → H.prev (new x) ≡ new (G.prev x)
  prev_new x k =
      let before = g.prev_side x k in
      ap H.prev (sym (r.next (G.prev x) before ∙ ap new (g.next_prev x k))) ∙ h.prev_next (new (G.prev x)) (r.new_side (G.prev x) before)

  vector_before : (x : X) → IsSide G x → H.vector (H.prev (new x)) ≡ G.vector (G.prev x)
  vector_before x k = ap H.vector (prev_new x k) ∙ r.vector (G.prev x) (g.prev_side x k)

  -- the sectors are the same
  pub sector_new : (x : X) → IsSide G x → {v : Vector A} → InSectorOf R IsPositive H (new x) v ≡ InSectorOf R IsPositive G x v
  sector_new x k {v} = λ i. InSector R IsPositive (r.vector x k i) (neg_vector R (vector_before x k i)) v

  -- also strictly
  pub strictly_new : (x : X) → IsSide G x → {v : Vector A} → StrictlyInSectorOf R IsPositive G x v → StrictlyInSectorOf R IsPositive H (new x) v
  strictly_new x k {v} s = record {
    left_of_start = subst (λ w. IsPositive (cross R w v)) (sym (r.vector x k)) s.left_of_start;
    right_of_end = subst (λ w. IsPositive (cross R v (neg_vector R w))) (sym (vector_before x k)) s.right_of_end;
  }

module _ {A : Type 0} {R : Operations A} {IsPositive : A → Type 0} (L : IsOrderedRing R IsPositive)
    {is_ahead : Vector A → Vector A → Bool} (test : DecidesHalfPlanes R IsPositive is_ahead) {X Y : Type 0}
    {G : SideGluing X A} {H : SideGluing Y A} (g : AreGluedPolygons R IsPositive is_ahead G) {new : X → Y} {old : Y → X} (r : IsRenumbering G H new old) where
  put_number : (b : X) (B : Vector A) → IsSide G b → (k : ℕ) → IsPutAt R H (new b) B (new (nth_side G b k)) (position R B (sides_from G b) k)
  put_number b B s zero = developments.put_refl (new b) B
  put_number b B s (suc k) =
      let x = nth_side G b k in
      let there = developments.nth_side_is_side L test g b s k in
      let P = position R B (sides_from G b) k in
      subst (λ w. IsPutAt R H (new b) B w (add_vector R P (G.vector x))) (r.next x there ∙ ap new (sym (iterate_after G.next k b)))
      (subst (λ w. IsPutAt R H (new b) B (H.next (new x)) (add_vector R P w)) (r.vector x there) (developments.put_next (put_number b B s k)))

  -- the sides of a put polygon begin where they began
  pub put_new : {b x : X} {B Q : Vector A} → IsSide G b → IsPutAt R G b B x Q → IsPutAt R H (new b) B (new x) Q
  put_new {b} {x} {B} {Q} s k =
      subst (λ w. IsPutAt R H (new b) B (new w) Q) k.side (subst (λ w. IsPutAt R H (new b) B (new (nth_side G b k.number)) w) k.corner (put_number b B s k.number))

  -- a path comes to a side
  pub path_side : (v : Vector A) (word : List X) (b f : X) (B F : Vector A) → IsSide G b → Path R IsPositive G v b B word f F → IsSide G f
  path_side v [] b f B F s k = subst (IsSide G) (sym k.0) s
  path_side v (x ∷ word) b f B F s k = path_side v word (G.twin x) f (add_vector R k.0 (G.vector x)) F (g.twin_side x (developments.put_is_side L test g s k.1)) k.3

  -- a path is one by the new names of the sides of its word
  pub path_new : (v : Vector A) (word : List X) (b f : X) (B F : Vector A) → IsSide G b → Path R IsPositive G v b B word f F
      → Path R IsPositive H v (new b) B (map new word) (new f) F
  path_new v [] b f B F s k = (ap new k.0, k.1)
  path_new v (x ∷ word) b f B F s k =
      let there = developments.put_is_side L test g s k.1 in
      let same = r.vector x there in
      let Q = k.0 in
      let rest = path_new v word (G.twin x) f (add_vector R Q (G.vector x)) F (g.twin_side x there) k.3 in (
        Q,
        put_new s k.1,
        subst (λ w. Crosses R IsPositive v Q (add_vector R Q w)) (sym same) k.2,
        subst (λ w. Path R IsPositive H v w (add_vector R Q (H.vector (new x))) (map new word) (new f) F) (sym (r.twin x there))
            (subst (λ w. Path R IsPositive H v (new (G.twin x)) (add_vector R Q w) (map new word) (new f) F) (sym same) rest),
      )

-- ---- segments

module _ {A : Type 0} {R : Operations A} {IsPositive : A → Type 0} (L : IsOrderedRing R IsPositive)
    {is_ahead : Vector A → Vector A → Bool} (test : DecidesHalfPlanes R IsPositive is_ahead) {X Y : Type 0}
    {G : SideGluing X A} {H : SideGluing Y A} (g : AreGluedPolygons R IsPositive is_ahead G) (h : AreGluedPolygons R IsPositive is_ahead H)
    {new : X → Y} {old : Y → X} (r : IsRenumbering G H new old) (v : Vector A) where
  -- the polygon that a path reaches is the same
  pub reaches_new : (c : X) (word : List X) (f : X) (F : Vector A) → IsSide G c → Reaches R IsPositive G v c word f F
      → Reaches R IsPositive H v (new c) (map new word) (new f) F
  reaches_new c [] f F s k = (subst (λ T. T) (sym (sector_new g h r c s)) k.0, ap new k.1, k.2)
  reaches_new c (x ∷ word) f F s k = (strictly_new g h r c s k.0, path_new L test g r v (x ∷ word) c f (zero_vector R) F s k.1)

  reached_side : (c : X) (word : List X) (f : X) (F : Vector A) → IsSide G c → Reaches R IsPositive G v c word f F → IsSide G f
  reached_side c [] f F s k = subst (IsSide G) (sym k.1) s
  reached_side c (x ∷ word) f F s k = path_side L test g r v (x ∷ word) c f (zero_vector R) F s k.1

  met_before_old : {f : X} {F Q : Vector A} → IsSide G f → IsMetBefore R IsPositive H v (new f) F Q → IsMetBefore R IsPositive G v f F Q
  met_before_old {f} {F} {Q} s m = record {
    corner = old m.corner;
    there = subst (λ w. IsPutAt R G w F (old m.corner) Q) (r.old_new f s) (put_new L test h (renumbering_back g h r) (r.new_side f s) m.there);
    on_line = m.on_line;
    ahead = m.ahead;
    before = m.before;
  }

  -- a segment is one by the new names
  pub segment_new : {c y : X} {word : List X} → IsSide G c → IsSegment R IsPositive G c word v y → IsSegment R IsPositive H (new c) (map new word) v (new y)
  segment_new {c} {y} {word} s m =
      let side = reached_side c word m.last m.put s m.reached in record {
        last = new m.last;
        put = m.put;
        reached = reaches_new c word m.last m.put s m.reached;
        end = put_new L test g r side m.end;
        none_before = λ Q k. m.none_before Q (met_before_old side k);
      }
