-- Through a list of cuts, undone cuts and renumberings, the first corner round a vertex whose sector holds a vector is carried to the first one. A library for crates to come.
use Rattle.std.proofs.Common.{◌≡◌, ℕ, Bool, zero, suc, refl, sym, ap, ◌∙◌, subst, inl, inr}
use Rattle.std.proofs.lemmas.Bool.{cases_order}
use Rattle.fs_ring.specs.Operations.{Operations}
use Rattle.fs_ring.specs.OrderedRing.{IsOrderedRing}
use Rattle.fs_ring.specs.Vector.{Vector}
use Rattle.fs_ring.specs.Direction.{InHalfPlane}
use Rattle.fs_ring.proofs.HalfPlanes as half_planes
use Rattle.fs_convex.specs.Turning.{DecidesHalfPlanes}
use Rattle.fs_paths.specs.SideGluing.{SideGluing, IsSide, AreGluedPolygons, InSectorOf}
use Rattle.fs_paths.specs.NextCorners.{next_corner, nth_corner, IsFirstCorner}
use Rattle.fs_paths.proofs.CornerRounds.{next_corner_there, nth_corner_there}
use Rattle.fs_cuts.specs.Renumberings.{IsRenumbering}
use Rattle.fs_cuts.specs.CutAndPaste.{Step, cut, paste, renumbering, IsCarriedByStep, CutAndPaste, no_step, step, IsCarried}
use Rattle.fs_cuts.specs.Equality.{AreCutAndPasteEqual}
use Rattle.fs_cuts.proofs.Renumberings as renumberings
use Rattle.fs_cuts.proofs.Steps as steps
use Rattle.fs_cuts.proofs.Steps.{IsDirectionAt}
use Rattle.fs_carried.specs.Carried.{IsCarriedTo}
use Rattle.fs_carried.proofs.EqualSegments.{direction_new}
use Rattle.fs_carried.proofs.FirstCorners.{first_here}
use Rattle.fs_carried.proofs.TurningThroughCuts as turning

module _ {A : Type 0} {R : Operations A} {IsPositive : A → Type 0} {X : Type 0} {G : SideGluing X A} where
  -- the first corner that holds a vector is one
  pub first_corner_unique : {c b e : X} {v : Vector A} → IsFirstCorner R IsPositive G c v b → IsFirstCorner R IsPositive G c v e → b ≡ e
  first_corner_unique {c} {b} {e} {v} f o = elim (cases_order f.corners o.corners) [
    | inl same ↦ f.is ∙ ap (nth_corner G c) same ∙ sym o.is
    | inr (inl less) ↦ absurd (o.first f.corners less (subst (λ w. InSectorOf R IsPositive G w v) f.is f.holds))
    | inr (inr more) ↦ absurd (f.first o.corners more (subst (λ w. InSectorOf R IsPositive G w v) o.is o.holds))
  ]

-- ---- by other names

module _ {A : Type 0} {R : Operations A} {IsPositive : A → Type 0} {is_ahead : Vector A → Vector A → Bool} {X Y : Type 0}
    {G : SideGluing X A} {H : SideGluing Y A} (g : AreGluedPolygons R IsPositive is_ahead G) (h : AreGluedPolygons R IsPositive is_ahead H)
    {new : X → Y} {old : Y → X} (r : IsRenumbering G H new old) where
  nth_corner_new : (n : ℕ) (c : X) → IsSide G c → nth_corner H (new c) n ≡ new (nth_corner G c n)
  nth_corner_new zero c s = refl
  nth_corner_new (suc n) c s =
      ap (λ y. nth_corner H y n) (ap H.twin (renumberings.prev_new g h r c s) ∙ r.twin (G.prev c) (g.prev_side c s))
      ∙ nth_corner_new n (next_corner G c) (next_corner_there g c s)

  -- the first corner that holds a vector has its new name
  pub first_new : {c : X} {v : Vector A} {y z : Y} → IsSide G c → y ≡ new c → IsFirstCorner R IsPositive H y v z
      → (b : X) × IsFirstCorner R IsPositive G c v b × (z ≡ new b)
  first_new {c} {v} {y} {z} s same f = (
    nth_corner G c f.corners,
    record {
      corners = f.corners;
      is = refl;
      holds = subst (λ T. T) (sector f.corners) (subst (λ w. InSectorOf R IsPositive H w v) f.is f.holds);
      first = λ n l a. f.first n l (subst (λ T. T) (sym (sector n)) a);
    },
    f.is ∙ at f.corners,
  )
    where
      at : (n : ℕ) → nth_corner H y n ≡ new (nth_corner G c n)
      at n = ap (λ w. nth_corner H w n) same ∙ nth_corner_new n c s

      sector : (n : ℕ) → InSectorOf R IsPositive H (nth_corner H y n) v ≡ InSectorOf R IsPositive G (nth_corner G c n) v
      sector n = ap (λ w. InSectorOf R IsPositive H w v) (at n) ∙ renumberings.sector_new g h r (nth_corner G c n) (nth_corner_there g n c s)

-- ---- through steps

module _ {A : Type 0} {R : Operations A} {IsPositive : A → Type 0} (L : IsOrderedRing R IsPositive)
    {is_ahead : Vector A → Vector A → Bool} (test : DecidesHalfPlanes R IsPositive is_ahead) where
  -- turning on from a direction u by less than half a turn to v: the first corner that holds v, after a step, is carried from the first one before it
  pub first_carried_by_step : {X : Type 0} {G H : SideGluing X A} (g : AreGluedPolygons R IsPositive is_ahead G) (h : AreGluedPolygons R IsPositive is_ahead H)
      (s : Step R IsPositive is_ahead G H) (c : X) (u v : Vector A) (y z : X)
      → IsDirectionAt R IsPositive G c u → IsCarriedByStep R IsPositive is_ahead s c u y → InHalfPlane R IsPositive u v → IsFirstCorner R IsPositive H y v z
      → (b : X) × IsFirstCorner R IsPositive G c v b × IsCarriedByStep R IsPositive is_ahead s b v z
  first_carried_by_step g h (cut kept p q d e k) c u v y z a m t f = turning.first_before L test g h k m t f
  first_carried_by_step g h (paste kept p q d e k) c u v y z a m t f = turning.first_after L test h g k m t f
  first_carried_by_step g h (renumbering new old k) c u v y z a m t f = first_new g h k a.corner m f

  -- the same through the steps of a list
  pub first_carried : {X : Type 0} {G H : SideGluing X A} (l : CutAndPaste R IsPositive is_ahead G H) → AreGluedPolygons R IsPositive is_ahead G → (c : X) (u v : Vector A) (y z : X)
      → IsDirectionAt R IsPositive G c u → IsCarried R IsPositive is_ahead l c u y → InHalfPlane R IsPositive u v → IsFirstCorner R IsPositive H y v z
      → (b : X) × IsFirstCorner R IsPositive G c v b × IsCarried R IsPositive is_ahead l b v z
  first_carried (no_step G H same) g c u v y z a m t f =
      (z, subst (λ K. IsFirstCorner R IsPositive K c v z) (sym same) (subst (λ w. IsFirstCorner R IsPositive H w v z) m f), refl)
  first_carried (step G K H k s rest) g c u v y z a m t f =
      let o = first_carried rest k m.0 u v y z (steps.direction_after L test g k s c u m.0 a m.1) m.2 t f in
      let r = first_carried_by_step g k s c u v m.0 o.0 a m.1 t o.1 in
      (r.0, r.1, (o.0, r.2, o.2))

  module _ {X Y : Type 0} {G : SideGluing X A} {H : SideGluing Y A} (g : AreGluedPolygons R IsPositive is_ahead G) (e : AreCutAndPasteEqual R IsPositive is_ahead G H) where
    -- the same between polygons that are equal up to cutting and pasting
    pub first_corner_carried : (c : X) (u v : Vector A) (y z : Y)
        → IsDirectionAt R IsPositive G c u → IsCarriedTo R IsPositive is_ahead e c u y → InHalfPlane R IsPositive u v → IsFirstCorner R IsPositive H y v z
        → (b : X) × IsFirstCorner R IsPositive G c v b × IsCarriedTo R IsPositive is_ahead e b v z
    first_corner_carried c u v y z a m t f =
        let o = first_carried e.steps e.glued (e.new c) u v y z (direction_new L test g e.glued e.renumbering a) m t f in
        let r = first_new g e.glued e.renumbering a.corner refl o.1 in
        (r.0, r.1, subst (λ w. IsCarried R IsPositive is_ahead e.steps w v z) r.2 o.2)

    -- a side is carried from the corner c, its home, and v is in the sector of the side: the first corner after its home that holds v is carried to the side
    pub home_by_turning : (c b : X) (y : Y) (v : Vector A) → IsDirectionAt R IsPositive G c (H.vector y) → IsCarriedTo R IsPositive is_ahead e c (H.vector y) y
        → IsDirectionAt R IsPositive H y v → IsFirstCorner R IsPositive G c v b → IsCarriedTo R IsPositive is_ahead e b v y
    home_by_turning c b y v a m there f =
        let r = first_corner_carried c (H.vector y) v y y a m (half_planes.sector_half_plane L there.sector) (first_here there.sector) in
        subst (λ w. IsCarriedTo R IsPositive is_ahead e w v y) (first_corner_unique r.1 f) r.2
