-- A path that crosses a side of a polygon crosses it after a cut, too, and the cut before it where that is between. A library for crates to come.
use Rattle.std.proofs.Common.{Bool, refl, sym, subst}
use Rattle.fs_ring.specs.Operations.{Operations}
use Rattle.fs_ring.specs.OrderedRing.{IsOrderedRing}
use Rattle.fs_ring.specs.Vector.{Vector, add_vector, cross}
use Rattle.fs_ring.proofs.Turns as turns
use Rattle.fs_convex.specs.Turning.{DecidesHalfPlanes}
use Rattle.fs_paths.specs.SideGluing.{SideGluing, IsSide, AreGluedPolygons}
use Rattle.fs_paths.specs.Development.{IsPutAt}
use Rattle.fs_paths.specs.StraightPaths.{Crosses}
use Rattle.fs_paths.specs.Passages.{ComesInto, LeavesBySide, LeavesAtCorner, by_side, at_corner}
use Rattle.fs_paths.proofs.Developments as developments
use Rattle.fs_paths.proofs.Passages as passages
use Rattle.fs_cuts.specs.Cuts.{IsCut}
use Rattle.fs_cuts.specs.Halves.{LiesIn, by_kept, by_d, by_e, ComesToSide, at_once, after_d, after_e}
use Rattle.fs_cuts.proofs.Cuts as cuts
use Rattle.fs_cuts.proofs.Halves as halves

module _ {A : Type 0} {R : Operations A} {IsPositive : A → Type 0} {X Y : Type 0} {G : SideGluing X A} {H : SideGluing Y A} {kept : X → Y} {d e : Y} {v : Vector A} where
  -- also where the two sides of the cut are exchanged
  pub comes_mirrored : {y : Y} {P : Vector A} {x : X} {Q : Vector A} → ComesToSide R IsPositive G H kept d e v y P x Q → ComesToSide R IsPositive G H kept e d v y P x Q
  comes_mirrored (at_once k) = at_once k
  comes_mirrored (after_d D i j k) = after_e D i j k
  comes_mirrored (after_e E i j k) = after_d E i j k

module _ {A : Type 0} {R : Operations A} {IsPositive : A → Type 0} (L : IsOrderedRing R IsPositive)
    {is_ahead : Vector A → Vector A → Bool} (test : DecidesHalfPlanes R IsPositive is_ahead)
    {X Y : Type 0} {G : SideGluing X A} {H : SideGluing Y A} (g : AreGluedPolygons R IsPositive is_ahead G) (h : AreGluedPolygons R IsPositive is_ahead H)
    {kept : X → Y} {p q : X} {d e : Y} (cut : IsCut R G H kept p q d e) (v : Vector A) (b : X) (B : Vector A) (b_side : IsSide G b) where
  abbrev Lies : Y → Vector A → Type 0
  Lies y P = LiesIn R G H kept p q d e b B y P

  -- the line leaves the half by a side that is kept, by d, or by e
  pub data LeavesHalf (y : Y) (P : Vector A) : Type 0 where
    by_kept_side : (x : X) (Q : Vector A) → IsSide G x → IsPutAt R G b B x Q → LeavesBySide R IsPositive H v y P (kept x) Q → LeavesHalf y P
    across_d : (D : Vector A) → Lies d D → LeavesBySide R IsPositive H v y P d D → LeavesHalf y P
    across_e : (E : Vector A) → Lies e E → LeavesBySide R IsPositive H v y P e E → LeavesHalf y P
    at_its_corner : (z : Y) (Q : Vector A) → Lies z Q → LeavesAtCorner R IsPositive H v y P z Q → LeavesHalf y P

  -- where the path comes into a half that lies in the polygon, the line leaves that half
  pub leaves_half : {y : Y} {P : Vector A} → IsSide H y → ComesInto R IsPositive H v y P → Lies y P → LeavesHalf y P
  leaves_half {y} {P} s c l = elim (passages.leaves L test h s c) [
    | at_corner z Q k ↦ at_its_corner z Q (halves.lies_put L test g h cut l k.corner) k
    | by_side z Q k ↦ side z Q k (halves.lies_put L test g h cut l k.side)
  ]
    where
      side : (z : Y) (Q : Vector A) → LeavesBySide R IsPositive H v y P z Q → Lies z Q → LeavesHalf y P
      side z Q k (by_kept x t f j) = by_kept_side x Q t j (subst (λ w. LeavesBySide R IsPositive H v y P w Q) f k)
      side z Q k (by_d f i j) = across_d Q (halves.lies_of f refl (by_d f i j)) (subst (λ w. LeavesBySide R IsPositive H v y P w Q) f k)
      side z Q k (by_e f i j) = across_e Q (halves.lies_of f refl (by_e f i j)) (subst (λ w. LeavesBySide R IsPositive H v y P w Q) f k)

  -- the path crosses the side x at Q of the polygon
  module _ (comes : ComesInto R IsPositive G v b B) {x : X} {Q : Vector A} (put : IsPutAt R G b B x Q) (crosses : Crosses R IsPositive v Q (add_vector R Q (G.vector x))) where
    leaves_by_x : LeavesBySide R IsPositive G v b B x Q
    leaves_by_x = passages.leaves_by_side L test g b_side comes put crosses.right crosses.left

    -- the line leaves a half at no corner
    no_corner : {y z : Y} {P O : Vector A} → Lies z O → LeavesAtCorner R IsPositive H v y P z O → ⊥
    no_corner {z = z} {O = O} l k = let c = halves.corner_of_lies l in leaves_by_x.no_corner c.0 O c.1 k.on_line k.ahead

    -- and by no kept side but x
    only_x : {y : Y} {P O : Vector A} (z : X) → IsSide G z → IsPutAt R G b B z O → LeavesBySide R IsPositive H v y P (kept z) O → IsPutAt R H y P (kept x) Q
    only_x {y} {P} {O} z s j k =
        let same = leaves_by_x.only z O j k.right (subst (λ w. IsPositive (cross R v (add_vector R O w))) (cut.vector z s) k.left) in
        subst (λ w. IsPutAt R H y P (kept w) Q) same.0 (subst (λ w. IsPutAt R H y P (kept z) w) same.1 k.side)

    -- where the line leaves by d, the path crosses d and then x
    crosses_then_x : {y : Y} {P D : Vector A} → IsSide H y → ComesInto R IsPositive H v y P → Lies d D → LeavesBySide R IsPositive H v y P d D → ComesToSide R IsPositive G H kept d e v y P x Q
    crosses_then_x {y} {P} {D} s c (by_kept w t f i) k = absurd (cut.kept_not_d w t (sym f))
    crosses_then_x {y} {P} {D} s c (by_e f i j) k = absurd (cuts.cut_sides_differ L test g h cut f)
    crosses_then_x {y} {P} {D} s c (by_d f i j) k =
        after_d D k.side over (go (leaves_half cut.e_side next (halves.lies_across_d L test g h cut (by_d refl i j))))
      where
        E : Vector A
        E = add_vector R D (H.vector d)

        over : Crosses R IsPositive v D (add_vector R D (H.vector d))
        over = passages.crosses_chord L test g b_side put crosses i j k.right k.left

        next : ComesInto R IsPositive H v e (add_vector R D (H.vector d))
        next = subst (λ w. ComesInto R IsPositive H v w (add_vector R D (H.vector d))) cut.twin_d (passages.comes_into_next L test h s c k.side over)

        go : LeavesHalf e (add_vector R D (H.vector d)) → IsPutAt R H e (add_vector R D (H.vector d)) (kept x) Q
        go (at_its_corner z O l m) = absurd (no_corner l m)
        go (by_kept_side z O t n m) = only_x z t n m
        go (across_d O l m) = absurd ((cuts.mirrored L test g h cut).apart m.side.number m.side.side)
        go (across_e O l m) =
            let same = developments.put_position_unique L test h cut.e_side (developments.put_refl e (add_vector R D (H.vector d))) m.side in
            absurd (turns.not_both_crosses L over.left (subst (λ w. IsPositive (cross R w v)) (sym same) m.right))

module _ {A : Type 0} {R : Operations A} {IsPositive : A → Type 0} (L : IsOrderedRing R IsPositive)
    {is_ahead : Vector A → Vector A → Bool} (test : DecidesHalfPlanes R IsPositive is_ahead)
    {X Y : Type 0} {G : SideGluing X A} {H : SideGluing Y A} (g : AreGluedPolygons R IsPositive is_ahead G) (h : AreGluedPolygons R IsPositive is_ahead H)
    {kept : X → Y} {p q : X} {d e : Y} (cut : IsCut R G H kept p q d e) {v : Vector A} where
  -- a path that crosses a side of a polygon comes to that side from a half that lies in the polygon
  pub comes_to_side : {b x : X} {y : Y} {B P Q : Vector A} → IsSide G b → IsSide H y → ComesInto R IsPositive G v b B → ComesInto R IsPositive H v y P
      → LiesIn R G H kept p q d e b B y P → IsPutAt R G b B x Q → Crosses R IsPositive v Q (add_vector R Q (G.vector x)) → ComesToSide R IsPositive G H kept d e v y P x Q
  comes_to_side {b} {x} {y} {B} {P} {Q} s t c i l put crosses = go (leaves_half L test g h cut v b B s t i l)
    where
      go : LeavesHalf L test g h cut v b B s y P → ComesToSide R IsPositive G H kept d e v y P x Q
      go (at_its_corner z O m k) = absurd (no_corner L test g h cut v b B s c put crosses m k)
      go (by_kept_side z O r n k) = at_once (only_x L test g h cut v b B s c put crosses z r n k)
      go (across_d O m k) = crosses_then_x L test g h cut v b B s c put crosses t i m k
      go (across_e O m k) = comes_mirrored (crosses_then_x L test g h (cuts.mirrored L test g h cut) v b B s c put crosses t i (halves.lies_mirrored m) k)
