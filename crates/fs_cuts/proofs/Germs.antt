-- Each direction at a corner is at exactly one corner after a cut, and the other way round. A library for crates to come.
use Rattle.std.proofs.Common.{◌≡◌, ◌⊎◌, Bool, refl, sym, ap, ◌∙◌, subst, inl, inr}
use Rattle.fs_ring.specs.Operations.{Operations}
use Rattle.fs_ring.specs.OrderedRing.{IsOrderedRing}
use Rattle.fs_ring.specs.Vector.{Vector}
use Rattle.fs_convex.specs.Turning.{DecidesHalfPlanes}
use Rattle.fs_paths.specs.SideGluing.{SideGluing, IsSide, AreGluedPolygons, InSectorOf, StrictlyInSectorOf}
use Rattle.fs_cuts.specs.Cuts.{IsCut, IsCornerAt, at_kept, at_e, at_d, IsGerm}
use Rattle.fs_cuts.proofs.Cuts as cuts
use Rattle.fs_cuts.proofs.CutSectors as cut_sectors

module _ {A : Type 0} {R : Operations A} {IsPositive : A → Type 0} (L : IsOrderedRing R IsPositive)
    {is_ahead : Vector A → Vector A → Bool} (test : DecidesHalfPlanes R IsPositive is_ahead)
    {X Y : Type 0} {G : SideGluing X A} {H : SideGluing Y A} (g : AreGluedPolygons R IsPositive is_ahead G) (h : AreGluedPolygons R IsPositive is_ahead H)
    {kept : X → Y} {p q : X} {d e : Y} (cut : IsCut R G H kept p q d e) where
  other_cut : IsCut R G H kept q p e d
  other_cut = cuts.mirrored L test g h cut

  abbrev In : X → Vector A → Type 0
  In x v = InSectorOf R IsPositive G x v

  abbrev InAfter : Y → Vector A → Type 0
  InAfter y v = InSectorOf R IsPositive H y v

  abbrev Germ : X → Vector A → Y → Type 0
  Germ c v y = IsGerm R IsPositive G H kept p q d e c v y

  -- ---- from before the cut

  -- a direction at a corner is at some corner after the cut
  pub germ_after : (c : X) (v : Vector A) → IsSide G c → In c v → (y : Y) × Germ c v y
  germ_after c v k s = elim (cuts.prev_cases L test g h cut c k) [
    | inl f ↦ elim (cut_sectors.sector_cases L test g h other_cut (subst (λ x. In x v) f s)) [
      | inl t ↦ (kept c, germ (cut.kept_side c k) (subst (λ x. InAfter (kept x) v) (sym f) t) (at_kept refl))
      | inr t ↦ (d, germ cut.d_side t (at_d f refl))
    ]
    | inr (inl f) ↦ elim (cut_sectors.sector_cases L test g h cut (subst (λ x. In x v) f s)) [
      | inl t ↦ (kept c, germ (cut.kept_side c k) (subst (λ x. InAfter (kept x) v) (sym f) t) (at_kept refl))
      | inr t ↦ (e, germ cut.e_side t (at_e f refl))
    ]
    | inr (inr f) ↦ (kept c, germ (cut.kept_side c k) (subst (λ T. T) (sym (cut_sectors.sector_same L test g h cut c k f)) s) (at_kept refl))
  ]
    where
      germ : {y : Y} → IsSide H y → InAfter y v → IsCornerAt R IsPositive G H kept p q d e c y → Germ c v y
      germ j t there = record { start_side = k; start = s; end_side = j; end = t; corner = there }

  -- and at no other
  pub germ_after_unique : {c : X} {v : Vector A} {y z : Y} → Germ c v y → Germ c v z → y ≡ z
  germ_after_unique {c} {v} {y} {z} m n = go m.corner n.corner
    where
      not_kept_and_e : {y z : Y} → y ≡ kept c → InAfter y v → c ≡ G.next q → z ≡ e → InAfter z v → ⊥
      not_kept_and_e f s a b t =
          cut_sectors.sectors_apart L test g h cut (subst (λ w. InAfter w v) (f ∙ ap kept a) s) (subst (λ w. InAfter w v) b t)

      not_kept_and_d : {y z : Y} → y ≡ kept c → InAfter y v → c ≡ G.next p → z ≡ d → InAfter z v → ⊥
      not_kept_and_d f s a b t =
          cut_sectors.sectors_apart L test g h other_cut (subst (λ w. InAfter w v) (f ∙ ap kept a) s) (subst (λ w. InAfter w v) b t)

      go : IsCornerAt R IsPositive G H kept p q d e c y → IsCornerAt R IsPositive G H kept p q d e c z → y ≡ z
      go (at_kept a) (at_kept b) = a ∙ sym b
      go (at_kept a) (at_e b f) = absurd (not_kept_and_e a m.end b f n.end)
      go (at_kept a) (at_d b f) = absurd (not_kept_and_d a m.end b f n.end)
      go (at_e a f) (at_kept b) = absurd (not_kept_and_e b n.end a f m.end)
      go (at_e a f) (at_e b j) = f ∙ sym j
      go (at_e a f) (at_d b j) = absurd (cuts.ends_differ L test g h cut (sym b ∙ a))
      go (at_d a f) (at_kept b) = absurd (not_kept_and_d b n.end a f m.end)
      go (at_d a f) (at_e b j) = absurd (cuts.ends_differ L test g h cut (sym a ∙ b))
      go (at_d a f) (at_d b j) = f ∙ sym j

  -- ---- from after the cut

  -- a direction at a kept corner was at the corner before the cut
  sector_before : (x : X) (v : Vector A) → IsSide G x → InAfter (kept x) v → In x v
  sector_before x v k s = elim (cuts.prev_cases L test g h cut x k) [
    | inl f ↦ subst (λ w. In w v) (sym f) (cut_sectors.sector_of_kept L test g h other_cut (subst (λ w. InAfter (kept w) v) f s))
    | inr (inl f) ↦ subst (λ w. In w v) (sym f) (cut_sectors.sector_of_kept L test g h cut (subst (λ w. InAfter (kept w) v) f s))
    | inr (inr f) ↦ subst (λ T. T) (cut_sectors.sector_same L test g h cut x k f) s
  ]

  -- a direction at a corner after the cut was at some corner before it
  pub germ_before : (y : Y) (v : Vector A) → IsSide H y → InAfter y v → (c : X) × Germ c v y
  germ_before y v k s = elim (cut.sides y k) [
    | inl f ↦
        let c = G.next p in
        (c, germ (g.next_side p cut.p_side) (cut_sectors.sector_of_e L test g h other_cut (subst (λ w. InAfter w v) f s)) (at_d refl f))
    | inr (inl f) ↦
        let c = G.next q in
        (c, germ (g.next_side q cut.q_side) (cut_sectors.sector_of_e L test g h cut (subst (λ w. InAfter w v) f s)) (at_e refl f))
    | inr (inr r) ↦ (r.0, germ r.1 (sector_before r.0 v r.1 (subst (λ w. InAfter w v) r.2 s)) (at_kept r.2))
  ]
    where
      germ : {c : X} → IsSide G c → In c v → IsCornerAt R IsPositive G H kept p q d e c y → Germ c v y
      germ j t there = record { start_side = j; start = t; end_side = k; end = s; corner = there }

  -- and at no other
  pub germ_before_unique : {b c : X} {v : Vector A} {y : Y} → Germ b v y → Germ c v y → b ≡ c
  germ_before_unique {b} {c} {v} {y} m n = go m.corner n.corner
    where
      go : IsCornerAt R IsPositive G H kept p q d e b y → IsCornerAt R IsPositive G H kept p q d e c y → b ≡ c
      go (at_kept a) (at_kept f) = cut.one_to_one b c m.start_side n.start_side (sym a ∙ f)
      go (at_kept a) (at_e f j) = absurd (cut.kept_not_e b m.start_side (sym a ∙ j))
      go (at_kept a) (at_d f j) = absurd (cut.kept_not_d b m.start_side (sym a ∙ j))
      go (at_e a f) (at_kept j) = absurd (cut.kept_not_e c n.start_side (sym j ∙ f))
      go (at_e a f) (at_e j i) = a ∙ sym j
      go (at_e a f) (at_d j i) = absurd (cuts.cut_sides_differ L test g h cut (sym i ∙ f))
      go (at_d a f) (at_kept j) = absurd (cut.kept_not_d c n.start_side (sym j ∙ f))
      go (at_d a f) (at_e j i) = absurd (cuts.cut_sides_differ L test g h cut (sym f ∙ i))
      go (at_d a f) (at_d j i) = a ∙ sym j

  -- what is strictly inside the sector after the cut was so before it
  pub strictly_before : {c : X} {v : Vector A} {y : Y} → Germ c v y → StrictlyInSectorOf R IsPositive H y v → StrictlyInSectorOf R IsPositive G c v
  strictly_before {c} {v} {y} m s = go m.corner
    where
      go : IsCornerAt R IsPositive G H kept p q d e c y → StrictlyInSectorOf R IsPositive G c v
      go (at_e a f) =
          subst (λ w. StrictlyInSectorOf R IsPositive G w v) (sym a) (cut_sectors.strictly_in_e L test g h cut (subst (λ w. StrictlyInSectorOf R IsPositive H w v) f s))
      go (at_d a f) =
          subst (λ w. StrictlyInSectorOf R IsPositive G w v) (sym a) (cut_sectors.strictly_in_e L test g h other_cut (subst (λ w. StrictlyInSectorOf R IsPositive H w v) f s))
      go (at_kept a) = by_prev (subst (λ w. StrictlyInSectorOf R IsPositive H w v) a s) (cuts.prev_cases L test g h cut c m.start_side)
        where
          by_prev : StrictlyInSectorOf R IsPositive H (kept c) v → (c ≡ G.next p) ⊎ ((c ≡ G.next q) ⊎ (H.prev (kept c) ≡ kept (G.prev c))) → StrictlyInSectorOf R IsPositive G c v
          by_prev t (inl f) =
              subst (λ w. StrictlyInSectorOf R IsPositive G w v) (sym f)
              (cut_sectors.strictly_in_kept L test g h other_cut (subst (λ w. StrictlyInSectorOf R IsPositive H (kept w) v) f t))
          by_prev t (inr (inl f)) =
              subst (λ w. StrictlyInSectorOf R IsPositive G w v) (sym f)
              (cut_sectors.strictly_in_kept L test g h cut (subst (λ w. StrictlyInSectorOf R IsPositive H (kept w) v) f t))
          by_prev t (inr (inr f)) = cut_sectors.strictly_same L test g h cut c m.start_side f t
