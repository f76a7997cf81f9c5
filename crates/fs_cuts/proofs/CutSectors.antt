-- How a cut divides the sectors of the corners at its two ends, and leaves those of all other corners. A library for crates to come.
use Rattle.std.proofs.Common.{◌≡◌, ◌⊎◌, Bool, sym, ap, ◌∙◌, subst, inl, inr}
use Rattle.fs_ring.specs.Operations.{Operations}
use Rattle.fs_ring.specs.OrderedRing.{IsOrderedRing}
use Rattle.fs_ring.specs.Vector.{Vector, neg_vector, cross}
use Rattle.fs_ring.specs.Direction.{InHalfPlane, InSector}
use Rattle.fs_ring.proofs.Turns as turns
use Rattle.fs_convex.specs.Turning.{DecidesHalfPlanes}
use Rattle.fs_paths.specs.SideGluing.{SideGluing, IsSide, AreGluedPolygons, InSectorOf, StrictlyInSectorOf}
use Rattle.fs_cuts.specs.Cuts.{IsCut}
use Rattle.fs_cuts.proofs.Cuts as cuts
use Rattle.fs_cuts.proofs.CornerSectors as corner_sectors

module _ {A : Type 0} {R : Operations A} {IsPositive : A → Type 0} (L : IsOrderedRing R IsPositive)
    {is_ahead : Vector A → Vector A → Bool} (test : DecidesHalfPlanes R IsPositive is_ahead)
    {X Y : Type 0} {G : SideGluing X A} {H : SideGluing Y A} (g : AreGluedPolygons R IsPositive is_ahead G) (h : AreGluedPolygons R IsPositive is_ahead H)
    {kept : X → Y} {p q : X} {d e : Y} (cut : IsCut R G H kept p q d e) where
  abbrev HalfPlane : Vector A → Vector A → Type 0
  HalfPlane w v = InHalfPlane R IsPositive w v

  -- ---- the corner at which side e of the cut begins

  abbrev corner : X
  corner = G.next q

  corner_side : IsSide G corner
  corner_side = g.next_side q cut.q_side

  kept_corner_side : IsSide H (kept corner)
  kept_corner_side = cut.kept_side corner corner_side

  turn : HalfPlane (G.vector q) (G.vector corner)
  turn = g.convex q cut.q_side

  -- the side after d has the vector of the side that begins at the corner
  vector_after_d : H.vector (H.next d) ≡ G.vector corner
  vector_after_d = ap H.vector cut.next_d ∙ cut.vector corner corner_side

  turn_from_d : HalfPlane (neg_vector R (H.vector e)) (G.vector corner)
  turn_from_d = subst (λ w. HalfPlane w (G.vector corner)) (cuts.vector_d L test g h cut) (subst (HalfPlane (H.vector d)) vector_after_d (h.convex d cut.d_side))

  turn_to_e : HalfPlane (G.vector q) (H.vector e)
  turn_to_e =
      subst (λ w. HalfPlane w (H.vector e)) (cut.vector q cut.q_side)
      (subst (λ y. HalfPlane (H.vector (kept q)) (H.vector y)) cut.next_q (h.convex (kept q) (cut.kept_side q cut.q_side)))

  vector_before_corner : G.vector (G.prev corner) ≡ G.vector q
  vector_before_corner = ap G.vector (g.prev_next q cut.q_side)

  vector_before_kept_corner : H.vector (H.prev (kept corner)) ≡ neg_vector R (H.vector e)
  vector_before_kept_corner = ap H.vector (cuts.before_next_q L test g h cut) ∙ cuts.vector_d L test g h cut

  vector_before_e : H.vector (H.prev e) ≡ G.vector q
  vector_before_e = ap H.vector (cuts.before_d L test g h (cuts.mirrored L test g h cut)) ∙ cut.vector q cut.q_side

  first_part : {v : Vector A} → InSectorOf R IsPositive H (kept corner) v → HalfPlane (G.vector corner) v × HalfPlane (neg_vector R (H.vector e)) v
  first_part {v} s =
      let both = corner_sectors.half_planes_of_corner L h kept_corner_side s in
      (subst (λ w. HalfPlane w v) (cut.vector corner corner_side) both.0, subst (λ w. HalfPlane w v) vector_before_kept_corner both.1)

  second_part : {v : Vector A} → InSectorOf R IsPositive H e v → HalfPlane (H.vector e) v × HalfPlane (G.vector q) v
  second_part {v} s =
      let both = corner_sectors.half_planes_of_corner L h cut.e_side s in
      (both.0, subst (λ w. HalfPlane w v) vector_before_e both.1)

  whole : {v : Vector A} → InSectorOf R IsPositive G corner v → HalfPlane (G.vector corner) v × HalfPlane (G.vector q) v
  whole {v} s =
      let both = corner_sectors.half_planes_of_corner L g corner_side s in
      (both.0, subst (λ w. HalfPlane w v) vector_before_corner both.1)

  whole_of_half_planes : {v : Vector A} → HalfPlane (G.vector corner) v → HalfPlane (G.vector q) v → InSectorOf R IsPositive G corner v
  whole_of_half_planes {v} j k = corner_sectors.corner_of_half_planes L g corner_side j (subst (λ w. HalfPlane w v) (sym vector_before_corner) k)

  -- what is in the sector of the kept corner is in that of the corner
  pub sector_of_kept : {v : Vector A} → InSectorOf R IsPositive H (kept (G.next q)) v → InSectorOf R IsPositive G (G.next q) v
  sector_of_kept {v} s =
      let both = first_part s in
      whole_of_half_planes both.0 (turns.half_planes_of_sector L turn (turns.sector_of_first_part L turn turn_from_d turn_to_e both.0 both.1)).1

  -- so is what is in the sector of e
  pub sector_of_e : {v : Vector A} → InSectorOf R IsPositive H e v → InSectorOf R IsPositive G (G.next q) v
  sector_of_e {v} s =
      let both = second_part s in
      whole_of_half_planes (turns.half_planes_of_sector L turn (turns.sector_of_second_part L turn turn_from_d turn_to_e both.0 both.1)).0 both.1

  -- and what is in the sector of the corner is in one of the two
  pub sector_cases : {v : Vector A} → InSectorOf R IsPositive G (G.next q) v → InSectorOf R IsPositive H (kept (G.next q)) v ⊎ InSectorOf R IsPositive H e v
  sector_cases {v} s =
      let both = whole s in
      elim (turns.sector_parts L turn turn_from_d turn_to_e (turns.sector_of_half_planes L turn both.0 both.1)) [
        | inl r ↦ inl (corner_sectors.corner_of_half_planes L h kept_corner_side (subst (λ w. HalfPlane w v) (sym (cut.vector corner corner_side)) r.0)
            (subst (λ w. HalfPlane w v) (sym vector_before_kept_corner) r.1))
        | inr r ↦ inr (corner_sectors.corner_of_half_planes L h cut.e_side r.0 (subst (λ w. HalfPlane w v) (sym vector_before_e) r.1))
      ]

  -- and not in both
  pub sectors_apart : {v : Vector A} → InSectorOf R IsPositive H (kept (G.next q)) v → InSectorOf R IsPositive H e v → ⊥
  sectors_apart {v} s t = turns.sector_parts_apart L turn turn_from_d turn_to_e (first_part s).1 (second_part t).0

  -- what is strictly inside the sector of the kept corner is strictly inside that of the corner
  pub strictly_in_kept : {v : Vector A} → StrictlyInSectorOf R IsPositive H (kept (G.next q)) v → StrictlyInSectorOf R IsPositive G (G.next q) v
  strictly_in_kept {v} s =
      let left : IsPositive (cross R (G.vector corner) v) = subst (λ w. IsPositive (cross R w v)) (cut.vector corner corner_side) s.left_of_start in
      let right : IsPositive (cross R v (H.vector e)) =
      turns.right_of_opposite L (subst (λ w. IsPositive (cross R w v)) vector_before_kept_corner (corner_sectors.left_of_prev L h s)) in
      let second : IsPositive (cross R (G.vector q) v) = turns.strict_of_first_part L turn turn_from_d turn_to_e left right in
      corner_sectors.strictly_of_lefts L g left (subst (λ w. IsPositive (cross R w v)) (sym vector_before_corner) second)

  -- so is what is strictly inside the sector of e
  pub strictly_in_e : {v : Vector A} → StrictlyInSectorOf R IsPositive H e v → StrictlyInSectorOf R IsPositive G (G.next q) v
  strictly_in_e {v} s =
      let second : IsPositive (cross R (G.vector q) v) = subst (λ w. IsPositive (cross R w v)) vector_before_e (corner_sectors.left_of_prev L h s) in
      corner_sectors.strictly_of_lefts L g (turns.strict_of_second_part L turn turn_from_d turn_to_e s.left_of_start second)
      (subst (λ w. IsPositive (cross R w v)) (sym vector_before_corner) second)

  -- ---- a corner that isn't at an end of the cut

  module _ (x : X) (k : IsSide G x) (before : H.prev (kept x) ≡ kept (G.prev x)) where
    vector_before : H.vector (H.prev (kept x)) ≡ G.vector (G.prev x)
    vector_before = ap H.vector before ∙ cut.vector (G.prev x) (g.prev_side x k)

    -- its sector is the same after the cut
    pub sector_same : {v : Vector A} → InSectorOf R IsPositive H (kept x) v ≡ InSectorOf R IsPositive G x v
    sector_same {v} = λ i. InSector R IsPositive (cut.vector x k i) (neg_vector R (vector_before i)) v

    -- also strictly
    pub strictly_same : {v : Vector A} → StrictlyInSectorOf R IsPositive H (kept x) v → StrictlyInSectorOf R IsPositive G x v
    strictly_same {v} s = record {
      left_of_start = subst (λ w. IsPositive (cross R w v)) (cut.vector x k) s.left_of_start;
      right_of_end = subst (λ w. IsPositive (cross R v (neg_vector R w))) vector_before s.right_of_end;
    }
