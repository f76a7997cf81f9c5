-- Cuts, cuts undone, and renumberings, each and in lists: a direction at a corner is carried to exactly one corner, and from exactly one. A library for crates to come.
use Rattle.std.proofs.Common.{◌≡◌, Bool, refl, sym, ◌∙◌, subst}
use Rattle.fs_ring.specs.Operations.{Operations}
use Rattle.fs_ring.specs.OrderedRing.{IsOrderedRing}
use Rattle.fs_ring.specs.Vector.{Vector}
use Rattle.fs_convex.specs.Turning.{DecidesHalfPlanes}
use Rattle.fs_paths.specs.SideGluing.{SideGluing, IsSide, AreGluedPolygons, InSectorOf}
use Rattle.fs_cuts.specs.CutAndPaste.{Step, cut, paste, renumbering, IsCarriedByStep, CutAndPaste, no_step, step, IsCarried}
use Rattle.fs_cuts.proofs.Germs as germs
use Rattle.fs_cuts.proofs.Renumberings as renumberings

module _ {A : Type 0} (R : Operations A) (IsPositive : A → Type 0) {X : Type 0} where
  -- the corner c is one of G, and v is in its sector
  pub record IsDirectionAt (G : SideGluing X A) (c : X) (v : Vector A) : Type 0 where
    pub corner : IsSide G c
    pub sector : InSectorOf R IsPositive G c v

module _ {A : Type 0} {R : Operations A} {IsPositive : A → Type 0} (L : IsOrderedRing R IsPositive)
    {is_ahead : Vector A → Vector A → Bool} (test : DecidesHalfPlanes R IsPositive is_ahead) {X : Type 0} where
  abbrev Direction : SideGluing X A → X → Vector A → Type 0
  Direction G c v = IsDirectionAt R IsPositive G c v

  abbrev Glued : SideGluing X A → Type 0
  Glued G = AreGluedPolygons R IsPositive is_ahead G

  -- ---- one step

  module _ {G H : SideGluing X A} (g : Glued G) (h : Glued H) where
    -- a direction is carried to some corner
    pub carried_by_step : (s : Step R IsPositive is_ahead G H) (c : X) (v : Vector A) → Direction G c v
        → (y : X) × IsCarriedByStep R IsPositive is_ahead s c v y × Direction H y v
    carried_by_step (cut kept p q d e k) c v a =
        let r = germs.germ_after L test g h k c v a.corner a.sector in
        (r.0, r.1, record { corner = r.1.end_side; sector = r.1.end })
    carried_by_step (paste kept p q d e k) c v a =
        let r = germs.germ_before L test h g k c v a.corner a.sector in
        (r.0, r.1, record { corner = r.1.start_side; sector = r.1.start })
    carried_by_step (renumbering new old k) c v a =
        (new c, refl, record { corner = k.new_side c a.corner; sector = subst (λ T. T) (sym (renumberings.sector_new g h k c a.corner)) a.sector })

    -- and to no other
    pub carried_by_step_unique : (s : Step R IsPositive is_ahead G H) (c : X) (v : Vector A) (y z : X)
        → IsCarriedByStep R IsPositive is_ahead s c v y → IsCarriedByStep R IsPositive is_ahead s c v z → y ≡ z
    carried_by_step_unique (cut kept p q d e k) c v y z m n = germs.germ_after_unique L test g h k m n
    carried_by_step_unique (paste kept p q d e k) c v y z m n = germs.germ_before_unique L test h g k m n
    carried_by_step_unique (renumbering new old k) c v y z m n = m ∙ sym n

    -- each direction after the step is carried from some corner
    pub carried_from_before : (s : Step R IsPositive is_ahead G H) (y : X) (v : Vector A) → Direction H y v
        → (c : X) × IsCarriedByStep R IsPositive is_ahead s c v y × Direction G c v
    carried_from_before (cut kept p q d e k) y v a =
        let r = germs.germ_before L test g h k y v a.corner a.sector in
        (r.0, r.1, record { corner = r.1.start_side; sector = r.1.start })
    carried_from_before (paste kept p q d e k) y v a =
        let r = germs.germ_after L test h g k y v a.corner a.sector in
        (r.0, r.1, record { corner = r.1.end_side; sector = r.1.end })
    carried_from_before (renumbering new old k) y v a =
        let back = renumberings.renumbering_back g h k in (
          old y,
          sym (k.new_old y a.corner),
          record { corner = k.old_side y a.corner; sector = subst (λ T. T) (sym (renumberings.sector_new h g back y a.corner)) a.sector },
        )

    -- and from no other
    pub carried_from_before_unique : (s : Step R IsPositive is_ahead G H) (b c : X) (v : Vector A) (y : X) → Direction G b v → Direction G c v
        → IsCarriedByStep R IsPositive is_ahead s b v y → IsCarriedByStep R IsPositive is_ahead s c v y → b ≡ c
    carried_from_before_unique (cut kept p q d e k) b c v y i j m n = germs.germ_before_unique L test g h k m n
    carried_from_before_unique (paste kept p q d e k) b c v y i j m n = germs.germ_after_unique L test h g k m n
    carried_from_before_unique (renumbering new old k) b c v y i j m n = renumberings.new_one_to_one g h k i.corner j.corner (sym m ∙ n)

    -- a direction stays one
    pub direction_after : (s : Step R IsPositive is_ahead G H) (c : X) (v : Vector A) (y : X) → Direction G c v → IsCarriedByStep R IsPositive is_ahead s c v y → Direction H y v
    direction_after s c v y a m =
        let r = carried_by_step s c v a in
        subst (λ w. Direction H w v) (carried_by_step_unique s c v r.0 y r.1 m) r.2

  -- ---- a list of steps

  -- a direction is carried to some corner
  pub carried : {G H : SideGluing X A} (l : CutAndPaste R IsPositive is_ahead G H) → Glued G → (c : X) (v : Vector A) → Direction G c v
      → (y : X) × IsCarried R IsPositive is_ahead l c v y × Direction H y v
  carried (no_step G H same) g c v a = (c, refl, subst (λ K. Direction K c v) same a)
  carried (step G K H k s rest) g c v a =
      let r = carried_by_step g k s c v a in
      let o = carried rest k r.0 v r.2 in
      (o.0, (r.0, r.1, o.1), o.2)

  -- and to no other
  pub carried_unique : {G H : SideGluing X A} (l : CutAndPaste R IsPositive is_ahead G H) → Glued G → (c : X) (v : Vector A) (y z : X)
      → IsCarried R IsPositive is_ahead l c v y → IsCarried R IsPositive is_ahead l c v z → y ≡ z
  carried_unique (no_step G H same) g c v y z m n = m ∙ sym n
  carried_unique (step G K H k s rest) g c v y z m n =
      carried_unique rest k m.0 v y z m.2 (subst (λ w. IsCarried R IsPositive is_ahead rest w v z) (carried_by_step_unique g k s c v n.0 m.0 n.1 m.1) n.2)

  -- each direction after the steps is carried from some corner
  pub carried_from : {G H : SideGluing X A} (l : CutAndPaste R IsPositive is_ahead G H) → Glued G → (y : X) (v : Vector A) → Direction H y v
      → (c : X) × IsCarried R IsPositive is_ahead l c v y × Direction G c v
  carried_from (no_step G H same) g y v a = (y, refl, subst (λ K. Direction K y v) (sym same) a)
  carried_from (step G K H k s rest) g y v a =
      let o = carried_from rest k y v a in
      let r = carried_from_before g k s o.0 v o.2 in
      (r.0, (o.0, r.1, o.1), r.2)

  -- and from no other
  pub carried_from_unique : {G H : SideGluing X A} (l : CutAndPaste R IsPositive is_ahead G H) → Glued G → (b c : X) (v : Vector A) (y : X) → Direction G b v → Direction G c v
      → IsCarried R IsPositive is_ahead l b v y → IsCarried R IsPositive is_ahead l c v y → b ≡ c
  carried_from_unique (no_step G H same) g b c v y i j m n = sym m ∙ n
  carried_from_unique (step G K H k s rest) g b c v y i j m n =
      let first = direction_after g k s b v m.0 i m.1 in
      let second = direction_after g k s c v n.0 j n.1 in
      let same = carried_from_unique rest k m.0 n.0 v y first second m.2 n.2 in
      carried_from_before_unique g k s b c v n.0 i j (subst (λ w. IsCarriedByStep R IsPositive is_ahead s b v w) same m.1) n.1
