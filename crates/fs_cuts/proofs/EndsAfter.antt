-- A path that ends at a corner of a polygon ends at a corner after a cut, too: of the half to which it comes, or of the other, across the cut. A library for crates to come.
use Rattle.std.proofs.Common.{◌≡◌, ◌⊎◌, Bool, [], ◌∷◌, refl, sym, ap, ◌∙◌, subst, inl, inr}
use Rattle.fs_ring.specs.Operations.{Operations}
use Rattle.fs_ring.specs.OrderedRing.{IsOrderedRing}
use Rattle.fs_ring.specs.Vector.{Vector, add_vector, sub_vector, neg_vector, cross, dot}
use Rattle.fs_ring.proofs.Signs as signs
use Rattle.fs_ring.proofs.Plane as plane
use Rattle.fs_ring.proofs.Directions as directions
use Rattle.fs_ring.proofs.Solver.{expressions as E, numeral, ◌⊕◌, ◌⊗◌, ◌≐◌, ◌from◌}
use Rattle.fs_ring.proofs.PlaneSolver.{plane_derived}
use Rattle.fs_convex.specs.Turning.{DecidesHalfPlanes}
use Rattle.fs_convex.specs.Polygon.{IsOffSide, left_of_side, beyond_end, before_start}
use Rattle.fs_paths.specs.SideGluing.{SideGluing, IsSide, AreGluedPolygons}
use Rattle.fs_paths.specs.Development.{IsPutAt}
use Rattle.fs_paths.specs.StraightPaths.{Crosses}
use Rattle.fs_paths.specs.Passages.{ComesInto, LeavesBySide, by_side, at_corner}
use Rattle.fs_paths.proofs.Developments as developments
use Rattle.fs_paths.proofs.PutPolygons as put_polygons
use Rattle.fs_paths.proofs.Passages as passages
use Rattle.fs_cuts.specs.Cuts.{IsCut}
use Rattle.fs_cuts.specs.Halves.{LiesIn, IsInHalves, here, across_d, across_e}
use Rattle.fs_cuts.proofs.Cuts as cuts
use Rattle.fs_cuts.proofs.Halves as halves
use Rattle.fs_cuts.proofs.HalvesCover as cover
use Rattle.fs_cuts.proofs.Crossings as crossings

module _ {A : Type 0} {R : Operations A} {IsPositive : A → Type 0} (L : IsOrderedRing R IsPositive) where
  -- a chord from a point D right of the line to one left of it, by u: where v is off the chord, seen from the other side, it is beyond the chord
  pub beyond_chord : {v D u : Vector A} → IsPositive (cross R D v) → IsPositive (cross R v (add_vector R D u))
      → IsOffSide R IsPositive (neg_vector R u) (add_vector R D u) (add_vector R (add_vector R D u) (neg_vector R u)) v
      → IsPositive (cross R (sub_vector R v D) (sub_vector R (add_vector R D u) D))
  beyond_chord {v} {D} {u} right left (left_of_side s) =
      directions.positive_by_plane L [] (v ∷ D ∷ u ∷ [])
      (λ v d u. cross E (sub_vector E v d) (sub_vector E (add_vector E d u) d) ≐ cross E (neg_vector E u) (sub_vector E v (add_vector E d u))) refl s
  beyond_chord {v} {D} {u} right left (beyond_end z s) =
      absurd (signs.positive-ne-zero L
      (signs.add_positive_non_negative L (L.mul_positive (L.add_positive left right) s)
      (signs.mul_non_negative L (signs.non_negative_of_positive L right) (directions.norm_non_negative L u)))
      (plane_derived L.ring [] (v ∷ D ∷ u ∷ [])
      (λ v d u. (cross E v (add_vector E d u) ⊕ cross E d v) ⊗ dot E (neg_vector E u) (sub_vector E v (add_vector E (add_vector E d u) (neg_vector E u))) ⊕ cross E d v ⊗ dot E u u ≐ numeral 0
      from (E.neg (dot E u v), cross E (neg_vector E u) (sub_vector E v (add_vector E d u)) ≐ numeral 0) ∷ []) refl (z, tt)))
  beyond_chord {v} {D} {u} right left (before_start z s) =
      absurd (signs.positive-ne-zero L
      (signs.add_positive_non_negative L (L.mul_positive (L.add_positive left right) s)
      (signs.mul_non_negative L (signs.non_negative_of_positive L left) (directions.norm_non_negative L u)))
      (plane_derived L.ring [] (v ∷ D ∷ u ∷ [])
      (λ v d u. (cross E v (add_vector E d u) ⊕ cross E d v) ⊗ dot E (neg_vector E u) (sub_vector E (add_vector E d u) v) ⊕ cross E v (add_vector E d u) ⊗ dot E u u ≐ numeral 0
      from (dot E u v, cross E (neg_vector E u) (sub_vector E v (add_vector E d u)) ≐ numeral 0) ∷ []) refl (z, tt)))

module _ {A : Type 0} {R : Operations A} {IsPositive : A → Type 0} (L : IsOrderedRing R IsPositive)
    {is_ahead : Vector A → Vector A → Bool} (test : DecidesHalfPlanes R IsPositive is_ahead)
    {X Y : Type 0} {G : SideGluing X A} {H : SideGluing Y A} (g : AreGluedPolygons R IsPositive is_ahead G) (h : AreGluedPolygons R IsPositive is_ahead H)
    {kept : X → Y} {p q : X} {d e : Y} (cut : IsCut R G H kept p q d e) (v : Vector A) (b : X) (B : Vector A) (b_side : IsSide G b)
    (comes : ComesInto R IsPositive G v b B) {x : X} (put : IsPutAt R G b B x v) where
  abbrev Lies : Y → Vector A → Type 0
  Lies y P = LiesIn R G H kept p q d e b B y P

  v_on_line : cross R v v ≡ R.zero
  v_on_line = plane.cross_self L.ring v

  v_ahead : IsPositive (dot R v v)
  v_ahead = directions.norm_positive L v (passages.comes_into-ne-zero L test g comes)

  -- v is a corner of the half of y, or of the next polygon, across a side that the path crosses
  abbrev pub EndsAfter : Y → Vector A → Type 0
  EndsAfter y P =
      ((w : Y) × IsPutAt R H y P w v)
      ⊎ ((s : Y) × (D : Vector A) × IsPutAt R H y P s D × Crosses R IsPositive v D (add_vector R D (H.vector s)) × (w : Y) × IsPutAt R H (H.twin s) (add_vector R D (H.vector s)) w v)

  -- a corner of the polygon that is on the line ahead is v
  corner_is_v : {z : Y} {Q : Vector A} → Lies z Q → cross R v Q ≡ R.zero → IsPositive (dot R v Q) → Q ≡ v
  corner_is_v {z} {Q} l on ahead = elim (passages.leaves L test g b_side comes) [
    | by_side w O k ↦ absurd (k.no_corner x v put v_on_line v_ahead)
    | at_corner w O k ↦ let c = halves.corner_of_lies l in k.only c.0 Q c.1 on ahead ∙ sym (k.only x v put v_on_line v_ahead)
  ]

  -- no side of the polygon goes from right to left across the line
  none_across : {z : X} {Q : Vector A} → IsPutAt R G b B z Q → IsPositive (cross R Q v) → IsPositive (cross R v (add_vector R Q (G.vector z))) → ⊥
  none_across {z} {Q} j right left = elim (passages.leaves L test g b_side comes) [
    | by_side w O k ↦ k.no_corner x v put v_on_line v_ahead
    | at_corner w O k ↦ k.no_side z Q j right left
  ]

  -- where the line leaves the half by d, the path crosses d and ends in the other half
  ends_across_d : {y : Y} {P D : Vector A} → IsSide H y → Lies y P → LeavesBySide R IsPositive H v y P d D → EndsAfter y P
  ends_across_d {y} {P} {D} t l k = go (cover.in_halves L test g h cut y P b_side l put)
    where
      E : Vector A
      E = add_vector R D (H.vector d)

      off : IsPutAt R H e (add_vector R D (H.vector d)) (kept x) v
          → IsOffSide R IsPositive (neg_vector R (H.vector d)) (add_vector R D (H.vector d)) (add_vector R (add_vector R D (H.vector d)) (neg_vector R (H.vector d))) v
      off i = elim (put_polygons.put_off_side L test h cut.e_side (developments.put_refl e (add_vector R D (H.vector d))) i) [
        | inl f ↦ absurd (cut.kept_not_e x (developments.put_is_side L test g b_side put) f.0)
        | inr (inl f) ↦ absurd (signs.positive-ne-zero L k.right (ap (λ w. cross R w v) (sym (f.1 ∙ cuts.across_and_back L test g h cut D)) ∙ v_on_line))
        | inr (inr f) ↦ subst (λ u. IsOffSide R IsPositive u (add_vector R D (H.vector d)) (add_vector R (add_vector R D (H.vector d)) u) v) (cuts.vector_e L test g h cut) f
      ]

      go : IsInHalves R G H kept p q d e y P x v → EndsAfter y P
      go (here i) = absurd (k.no_corner (kept x) v i v_on_line v_ahead)
      go (across_e F i j) = let round = put_polygons.put_from L test h t k.side i in absurd (cut.apart round.number round.side)
      go (across_d F i j) =
          let same = developments.put_position_unique L test h t i k.side in
          let there : IsPutAt R H e (add_vector R D (H.vector d)) (kept x) v = subst (λ w. IsPutAt R H e (add_vector R w (H.vector d)) (kept x) v) same j in
          inr (
            d,
            D,
            k.side,
            record { right = k.right; left = k.left; beyond = beyond_chord L k.right k.left (off there) },
            kept x,
            subst (λ w. IsPutAt R H w (add_vector R D (H.vector d)) (kept x) v) (sym cut.twin_d) there,
          )

module _ {A : Type 0} {R : Operations A} {IsPositive : A → Type 0} (L : IsOrderedRing R IsPositive)
    {is_ahead : Vector A → Vector A → Bool} (test : DecidesHalfPlanes R IsPositive is_ahead)
    {X Y : Type 0} {G : SideGluing X A} {H : SideGluing Y A} (g : AreGluedPolygons R IsPositive is_ahead G) (h : AreGluedPolygons R IsPositive is_ahead H)
    {kept : X → Y} {p q : X} {d e : Y} (cut : IsCut R G H kept p q d e) (v : Vector A) (b : X) (B : Vector A) (b_side : IsSide G b)
    (comes : ComesInto R IsPositive G v b B) {x : X} (put : IsPutAt R G b B x v) where
  -- where v is a corner of the polygon, it is one of the half into which the path comes, or of the next polygon
  pub ends_after : {y : Y} {P : Vector A} → IsSide H y → ComesInto R IsPositive H v y P → LiesIn R G H kept p q d e b B y P → EndsAfter L test g h cut v b B b_side comes put y P
  ends_after {y} {P} t i l = go (crossings.leaves_half L test g h cut v b B b_side t i l)
    where
      go : crossings.LeavesHalf L test g h cut v b B b_side y P → EndsAfter L test g h cut v b B b_side comes put y P
      go (crossings.at_its_corner z Q m k) =
          let same = corner_is_v L test g h cut v b B b_side comes put m k.on_line k.ahead in inl (z, subst (λ w. IsPutAt R H y P z w) same k.corner)
      go (crossings.by_kept_side z Q r n k) =
          absurd (none_across L test g h cut v b B b_side comes put n k.right (subst (λ w. IsPositive (cross R v (add_vector R Q w))) (cut.vector z r) k.left))
      go (crossings.across_d D m k) = ends_across_d L test g h cut v b B b_side comes put t l k
      go (crossings.across_e D m k) = ends_across_d L test g h (cuts.mirrored L test g h cut) v b B b_side comes put t (halves.lies_mirrored l) k
