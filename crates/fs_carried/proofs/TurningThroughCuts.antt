-- Turning round a vertex comes to a direction before a cut where it does so after the cut. A library for crates to come.
use Rattle.std.proofs.Common.{◌≡◌, ◌⊎◌, ℕ, Bool, zero, suc, sym, ap, ◌∙◌, subst, subst₂, inl, inr}
use Rattle.fs_ring.specs.Operations.{Operations}
use Rattle.fs_ring.specs.OrderedRing.{IsOrderedRing}
use Rattle.fs_ring.specs.Vector.{Vector}
use Rattle.fs_ring.specs.Direction.{InHalfPlane}
use Rattle.fs_ring.proofs.Turns as turns
use Rattle.fs_convex.specs.Turning.{DecidesHalfPlanes}
use Rattle.fs_paths.specs.SideGluing.{SideGluing, IsSide, AreGluedPolygons, InSectorOf}
use Rattle.fs_paths.specs.NextCorners.{next_corner, IsFirstCorner}
use Rattle.fs_paths.proofs.CornerRounds.{next_corner_there}
use Rattle.fs_cuts.specs.Cuts.{IsCut, IsCornerAt, at_kept, at_e, at_d, IsGerm}
use Rattle.fs_cuts.proofs.Cuts as cuts
use Rattle.fs_cuts.proofs.CornerSectors as corner_sectors
use Rattle.fs_cuts.proofs.CutSectors as cut_sectors
use Rattle.fs_carried.proofs.FirstCorners.{IsFirstAfter, first_after_corners, first_here, first_later, side_in_sector, ahead_of_next}

-- ---- the corners after a cut that are at one corner before it

module _ {A : Type 0} (R : Operations A) (IsPositive : A → Type 0) {X Y : Type 0} (G : SideGluing X A) (H : SideGluing Y A) (kept : X → Y) where
  -- y is the last such corner at c: the next one is at the corner after c, and what turns on from u within the sector of c stays in that of y
  pub record IsLastPart (c : X) (u : Vector A) (y : Y) : Type 0 where
    pub leads : next_corner H y ≡ kept (next_corner G c)
    pub within : (v : Vector A) → InSectorOf R IsPositive H y v → InSectorOf R IsPositive G c v
    pub stays : (v : Vector A) → InHalfPlane R IsPositive u v → InSectorOf R IsPositive G c v → InSectorOf R IsPositive H y v

  -- y and z are the two such corners at c, in this order
  pub record AreTwoParts (c : X) (y z : Y) : Type 0 where
    pub within : (v : Vector A) → InSectorOf R IsPositive H y v → InSectorOf R IsPositive G c v
    pub cases : (v : Vector A) → InSectorOf R IsPositive G c v → InSectorOf R IsPositive H y v ⊎ InSectorOf R IsPositive H z v
    pub apart : (v : Vector A) → InSectorOf R IsPositive H y v → InSectorOf R IsPositive H z v → ⊥
    pub last : (u : Vector A) → InSectorOf R IsPositive H z u → IsLastPart c u z

module _ {A : Type 0} {R : Operations A} {IsPositive : A → Type 0} (L : IsOrderedRing R IsPositive)
    {is_ahead : Vector A → Vector A → Bool} (test : DecidesHalfPlanes R IsPositive is_ahead)
    {X Y : Type 0} {G : SideGluing X A} {H : SideGluing Y A} (g : AreGluedPolygons R IsPositive is_ahead G) (h : AreGluedPolygons R IsPositive is_ahead H)
    {kept : X → Y} {p q : X} {d e : Y} (cut : IsCut R G H kept p q d e) where
  abbrev corner : X
  corner = G.next q

  corner_side : IsSide G corner
  corner_side = g.next_side q cut.q_side

  before_e : H.prev e ≡ kept q
  before_e = cuts.before_d L test g h (cuts.mirrored L test g h cut)

  turn_to_e : next_corner H (kept corner) ≡ e
  turn_to_e = ap H.twin (cuts.before_next_q L test g h cut) ∙ cut.twin_d

  turn_from_e : next_corner H e ≡ kept (next_corner G corner)
  turn_from_e = ap H.twin before_e ∙ cut.twin q cut.q_side ∙ ap (λ x. kept (G.twin x)) (sym (g.prev_next q cut.q_side))

  vector_before_e : H.vector (H.prev e) ≡ G.vector (G.prev corner)
  vector_before_e = ap H.vector before_e ∙ cut.vector q cut.q_side ∙ ap G.vector (sym (g.prev_next q cut.q_side))

  -- e is the last at the corner where it begins
  last_at_e : (u : Vector A) → InSectorOf R IsPositive H e u → IsLastPart R IsPositive G H kept corner u e
  last_at_e u a = record { leads = turn_from_e; within = λ v s. cut_sectors.sector_of_e L test g h cut s; stays = stays }
    where
      stays : (v : Vector A) → InHalfPlane R IsPositive u v → InSectorOf R IsPositive G corner v → InSectorOf R IsPositive H e v
      stays v t s =
          let from = corner_sectors.half_planes_of_corner L h cut.e_side a in
          let to = subst (λ w. InHalfPlane R IsPositive w v) (sym vector_before_e) (corner_sectors.half_planes_of_corner L g corner_side s).1 in
          corner_sectors.corner_of_half_planes L h cut.e_side (turns.turn_trans L (corner_sectors.turns_at L h e cut.e_side) from.1 to from.0 t) to

  -- before it comes the one that has the corner's name
  parts_at_corner : AreTwoParts R IsPositive G H kept corner (kept corner) (next_corner H (kept corner))
  parts_at_corner = subst (AreTwoParts R IsPositive G H kept corner (kept corner)) (sym turn_to_e) (record {
    within = λ v s. cut_sectors.sector_of_kept L test g h cut s;
    cases = λ v s. cut_sectors.sector_cases L test g h cut s;
    apart = λ v s t. cut_sectors.sectors_apart L test g h cut s t;
    last = last_at_e;
  })

  -- a corner that isn't at an end of the cut has one
  only_at_other : (x : X) (u : Vector A) → IsSide G x → H.prev (kept x) ≡ kept (G.prev x) → IsLastPart R IsPositive G H kept x u (kept x)
  only_at_other x u k before = record {
    leads = ap H.twin before ∙ cut.twin (G.prev x) (g.prev_side x k);
    within = λ v s. subst (λ T. T) (cut_sectors.sector_same L test g h cut x k before) s;
    stays = λ v t s. subst (λ T. T) (sym (cut_sectors.sector_same L test g h cut x k before)) s;
  }

module _ {A : Type 0} {R : Operations A} {IsPositive : A → Type 0} (L : IsOrderedRing R IsPositive)
    {is_ahead : Vector A → Vector A → Bool} (test : DecidesHalfPlanes R IsPositive is_ahead)
    {X Y : Type 0} {G : SideGluing X A} {H : SideGluing Y A} (g : AreGluedPolygons R IsPositive is_ahead G) (h : AreGluedPolygons R IsPositive is_ahead H)
    {kept : X → Y} {p q : X} {d e : Y} (cut : IsCut R G H kept p q d e) where
  other_cut : IsCut R G H kept q p e d
  other_cut = cuts.mirrored L test g h cut

  abbrev Germ : X → Vector A → Y → Type 0
  Germ c v y = IsGerm R IsPositive G H kept p q d e c v y

  abbrev CornerAt : X → Y → Type 0
  CornerAt c y = IsCornerAt R IsPositive G H kept p q d e c y

  abbrev LastPart : X → Vector A → Y → Type 0
  LastPart c u y = IsLastPart R IsPositive G H kept c u y

  abbrev TwoParts : X → Y → Type 0
  TwoParts c y = AreTwoParts R IsPositive G H kept c y (next_corner H y)

  -- a corner after the cut is the last at its place, or the first of two
  parts : {c : X} {u : Vector A} {y : Y} → Germ c u y → LastPart c u y ⊎ (CornerAt c (next_corner H y) × TwoParts c y)
  parts {c} {u} {y} m = go m.corner
    where
      go : CornerAt c y → LastPart c u y ⊎ (CornerAt c (next_corner H y) × TwoParts c y)
      go (at_e a f) = inl (subst₂ (λ x w. LastPart x u w) (sym a) (sym f) (last_at_e L test g h cut u (subst (λ w. InSectorOf R IsPositive H w u) f m.end)))
      go (at_d a f) = inl (subst₂ (λ x w. LastPart x u w) (sym a) (sym f) (last_at_e L test g h other_cut u (subst (λ w. InSectorOf R IsPositive H w u) f m.end)))
      go (at_kept a) = elim (cuts.prev_cases L test g h cut c m.start_side) [
        | inl f ↦
            let same = a ∙ ap kept f in
            inr (at_d f (ap (next_corner H) same ∙ turn_to_e L test g h other_cut), subst₂ TwoParts (sym f) (sym same) (parts_at_corner L test g h other_cut))
        | inr (inl f) ↦
            let same = a ∙ ap kept f in
            inr (at_e f (ap (next_corner H) same ∙ turn_to_e L test g h cut), subst₂ TwoParts (sym f) (sym same) (parts_at_corner L test g h cut))
        | inr (inr f) ↦ inl (subst (LastPart c u) (sym a) (only_at_other L test g h cut c u m.start_side f))
      ]

  -- ---- the germs on the way

  -- the side after the last corner at c is at the next corner
  germ_next : {c : X} {u : Vector A} {y : Y} → Germ c u y → LastPart c u y → Germ (next_corner G c) (H.vector (next_corner H y)) (next_corner H y)
  germ_next {c} {u} {y} m last =
      let x = next_corner G c in
      let there = next_corner_there g c m.start_side in record {
        start_side = there;
        start = subst (InSectorOf R IsPositive G x) (sym (ap H.vector last.leads ∙ cut.vector x there)) (side_in_sector L g there);
        end_side = next_corner_there h y m.end_side;
        end = side_in_sector L h (next_corner_there h y m.end_side);
        corner = at_kept last.leads;
      }

  -- the side after the first of two corners is at c as well
  germ_other : {c : X} {u : Vector A} {y : Y} → Germ c u y → CornerAt c (next_corner H y) → TwoParts c y → Germ c (H.vector (next_corner H y)) (next_corner H y)
  germ_other {c} {u} {y} m there two =
      let z = next_corner H y in
      let s = side_in_sector L h (next_corner_there h y m.end_side) in
      record { start_side = m.start_side; start = (two.last (H.vector z) s).within (H.vector z) s; end_side = next_corner_there h y m.end_side; end = s; corner = there }

  module _ (v : Vector A) where
    -- ---- from after the cut

    before_number : (n : ℕ) (c : X) (u : Vector A) (y z : Y) → Germ c u y → InHalfPlane R IsPositive u v → IsFirstAfter R IsPositive H n y v z
        → (b : X) × IsFirstCorner R IsPositive G c v b × Germ b v z
    before_number zero c u y z m t (same, s) =
        let there : InSectorOf R IsPositive G c v = elim (parts m) [ inl last ↦ last.within v s | inr (i, two) ↦ two.within v s ] in
        (c, first_here there, subst (Germ c v) (sym same) (record { start_side = m.start_side; start = there; end_side = m.end_side; end = s; corner = m.corner }))
    before_number (suc n) c u y z m t (out, rest) =
        let ahead = ahead_of_next L h m.end_side m.end t out in
        elim (parts m) [
          | inl last ↦
              let r = before_number n (next_corner G c) (H.vector (next_corner H y)) (next_corner H y) z (germ_next m last) ahead rest in
              (r.0, first_later (λ s. out (last.stays v t s)) r.1, r.2)
          | inr (i, two) ↦ before_number n c (H.vector (next_corner H y)) (next_corner H y) z (germ_other m i two) ahead rest
        ]

    -- ---- from before the cut

    -- the first corner from a corner w on, at the one after c, is the first from y on
    abbrev Onward : X → Y → Type 0
    Onward c y = (w : Y) × Germ (next_corner G c) (H.vector w) w × InHalfPlane R IsPositive (H.vector w) v × ((z : Y) → IsFirstCorner R IsPositive H w v z → IsFirstCorner R IsPositive H y v z)

    onward_from_last : {c : X} {u : Vector A} {y : Y} → Germ c u y → InHalfPlane R IsPositive u v → LastPart c u y → ¬ InSectorOf R IsPositive G c v → Onward c y
    onward_from_last {c} {u} {y} m t last out =
        let not_in : ¬ InSectorOf R IsPositive H y v = λ s. out (last.within v s) in
        (next_corner H y, germ_next m last, ahead_of_next L h m.end_side m.end t not_in, λ z f. first_later not_in f)

    onward_from : {c : X} {u : Vector A} {y : Y} → Germ c u y → InHalfPlane R IsPositive u v → ¬ InSectorOf R IsPositive G c v → Onward c y
    onward_from {c} {u} {y} m t out = elim (parts m) [
      | inl last ↦ onward_from_last m t last out
      | inr (i, two) ↦
          let not_in : ¬ InSectorOf R IsPositive H y v = λ s. out (two.within v s) in
          let o = germ_other m i two in
          let r = onward_from_last o (ahead_of_next L h m.end_side m.end t not_in) (two.last (H.vector (next_corner H y)) o.end) out in
          (r.0, r.1, r.2, λ z f. first_later not_in (r.3 z f))
    ]

    after_number : (n : ℕ) (c b : X) (u : Vector A) (y : Y) → Germ c u y → InHalfPlane R IsPositive u v → IsFirstAfter R IsPositive G n c v b
        → (z : Y) × IsFirstCorner R IsPositive H y v z × Germ b v z
    after_number zero c b u y m t (same, s) = elim (parts m) [
      | inl last ↦ let a = last.stays v t s in (y, first_here a, germ m.end_side a m.corner)
      | inr (i, two) ↦ elim (two.cases v s) [
        | inl a ↦ (y, first_here a, germ m.end_side a m.corner)
        | inr a ↦ (next_corner H y, first_later (λ j. two.apart v j a) (first_here a), germ (next_corner_there h y m.end_side) a i)
      ]
    ]
      where
        germ : {w : Y} → IsSide H w → InSectorOf R IsPositive H w v → CornerAt c w → Germ b v w
        germ {w} k a i = subst (λ x. Germ x v w) (sym same) (record { start_side = m.start_side; start = s; end_side = k; end = a; corner = i })
    after_number (suc n) c b u y m t (out, rest) =
        let o = onward_from m t out in
        let r = after_number n (next_corner G c) b (H.vector o.0) o.0 o.1 o.2 rest in
        (r.0, o.3 r.0 r.1, r.2)

  -- turning on from a direction u by less than half a turn to v: the first corner that holds v after the cut is at the first one before it
  pub first_before : {c : X} {y z : Y} {u v : Vector A} → Germ c u y → InHalfPlane R IsPositive u v → IsFirstCorner R IsPositive H y v z
      → (b : X) × IsFirstCorner R IsPositive G c v b × Germ b v z
  first_before {c} {y} {z} {u} {v} m t f = before_number v f.corners c u y z m t (first_after_corners R IsPositive H f)

  -- and the first corner that holds v before the cut is at the first one after it
  pub first_after : {c b : X} {y : Y} {u v : Vector A} → Germ c u y → InHalfPlane R IsPositive u v → IsFirstCorner R IsPositive G c v b
      → (z : Y) × IsFirstCorner R IsPositive H y v z × Germ b v z
  first_after {c} {b} {y} {u} {v} m t f = after_number v f.corners c b u y m t (first_after_corners R IsPositive G f)
