-- Between glued polygons that are equal up to cutting and pasting, each direction is carried to exactly one corner, and from exactly one, and leads to a corner exactly where that one does. A library for crates to come.
use Rattle.std.proofs.Common.{◌≡◌, Bool, map, sym, subst}
use Rattle.fs_ring.specs.Operations.{Operations}
use Rattle.fs_ring.specs.OrderedRing.{IsOrderedRing}
use Rattle.fs_ring.specs.Vector.{Vector}
use Rattle.fs_convex.specs.Turning.{DecidesHalfPlanes}
use Rattle.fs_paths.specs.SideGluing.{SideGluing, AreGluedPolygons}
use Rattle.fs_cuts.specs.Renumberings.{IsRenumbering}
use Rattle.fs_cuts.specs.CutAndPaste.{IsCarried}
use Rattle.fs_cuts.specs.Equality.{AreCutAndPasteEqual}
use Rattle.fs_cuts.proofs.Renumberings as renumberings
use Rattle.fs_cuts.proofs.SegmentsAfter.{LeadsToCorner}
use Rattle.fs_cuts.proofs.SegmentsCarried as segments_carried
use Rattle.fs_cuts.proofs.Steps as steps
use Rattle.fs_cuts.proofs.Steps.{IsDirectionAt}
use Rattle.fs_carried.specs.Carried.{IsCarriedTo}

-- ---- by other names

module _ {A : Type 0} {R : Operations A} {IsPositive : A → Type 0} (L : IsOrderedRing R IsPositive)
    {is_ahead : Vector A → Vector A → Bool} (test : DecidesHalfPlanes R IsPositive is_ahead) {X Y : Type 0}
    {G : SideGluing X A} {H : SideGluing Y A} (g : AreGluedPolygons R IsPositive is_ahead G) (h : AreGluedPolygons R IsPositive is_ahead H)
    {new : X → Y} {old : Y → X} (r : IsRenumbering G H new old) {c : X} {v : Vector A} (a : IsDirectionAt R IsPositive G c v) where
  -- a direction at a corner is one by the corner's new name
  pub direction_new : IsDirectionAt R IsPositive H (new c) v
  direction_new = record { corner = r.new_side c a.corner; sector = subst (λ T. T) (sym (renumberings.sector_new g h r c a.corner)) a.sector }

  -- and leads to a corner by the new names where it did so
  pub leads_new : LeadsToCorner R IsPositive G c v → LeadsToCorner R IsPositive H (new c) v
  leads_new (word, x, s) = (map new word, new x, renumberings.segment_new L test g h r v a.corner s)

-- ---- by other names, and a list of steps

module _ {A : Type 0} {R : Operations A} {IsPositive : A → Type 0} (L : IsOrderedRing R IsPositive)
    {is_ahead : Vector A → Vector A → Bool} (test : DecidesHalfPlanes R IsPositive is_ahead) {X Y : Type 0}
    {G : SideGluing X A} {H : SideGluing Y A} (g : AreGluedPolygons R IsPositive is_ahead G) (e : AreCutAndPasteEqual R IsPositive is_ahead G H) where
  abbrev CarriedTo : X → Vector A → Y → Type 0
  CarriedTo c v y = IsCarriedTo R IsPositive is_ahead e c v y

  back : IsRenumbering e.named G e.old e.new
  back = renumberings.renumbering_back g e.glued e.renumbering

  named : {c : X} {v : Vector A} → IsDirectionAt R IsPositive G c v → IsDirectionAt R IsPositive e.named (e.new c) v
  named a = direction_new L test g e.glued e.renumbering a

  -- a direction is carried to some corner
  pub carried_to : (c : X) (v : Vector A) → IsDirectionAt R IsPositive G c v → (y : Y) × CarriedTo c v y × IsDirectionAt R IsPositive H y v
  carried_to c v a = steps.carried L test e.steps e.glued (e.new c) v (named a)

  -- and to no other
  pub carried_to_unique : (c : X) (v : Vector A) (y z : Y) → CarriedTo c v y → CarriedTo c v z → y ≡ z
  carried_to_unique c v y z m n = steps.carried_unique L test e.steps e.glued (e.new c) v y z m n

  -- each direction is carried from some corner
  pub carried_to_from : (y : Y) (v : Vector A) → IsDirectionAt R IsPositive H y v → (c : X) × CarriedTo c v y × IsDirectionAt R IsPositive G c v
  carried_to_from y v a =
      let r = steps.carried_from L test e.steps e.glued y v a in (
        e.old r.0,
        subst (λ w. IsCarried R IsPositive is_ahead e.steps w v y) (sym (e.renumbering.new_old r.0 r.2.corner)) r.1,
        direction_new L test e.glued g back r.2,
      )

  -- and from no other
  pub carried_to_from_unique : (b c : X) (v : Vector A) (y : Y) → IsDirectionAt R IsPositive G b v → IsDirectionAt R IsPositive G c v
      → CarriedTo b v y → CarriedTo c v y → b ≡ c
  carried_to_from_unique b c v y i j m n =
      renumberings.new_one_to_one g e.glued e.renumbering i.corner j.corner
      (steps.carried_from_unique L test e.steps e.glued (e.new b) (e.new c) v y (named i) (named j) m n)

  -- a direction stays one
  pub direction_to : (c : X) (v : Vector A) (y : Y) → IsDirectionAt R IsPositive G c v → CarriedTo c v y → IsDirectionAt R IsPositive H y v
  direction_to c v y a m =
      let r = carried_to c v a in
      subst (λ w. IsDirectionAt R IsPositive H w v) (carried_to_unique c v r.0 y r.1 m) r.2

  -- a direction that leads to a corner does so where it is carried
  pub leads_to : (c : X) (v : Vector A) (y : Y) → IsDirectionAt R IsPositive G c v → CarriedTo c v y → LeadsToCorner R IsPositive G c v → LeadsToCorner R IsPositive H y v
  leads_to c v y a m l = segments_carried.leads_after L test e.steps e.glued (e.new c) v y (named a) m (leads_new L test g e.glued e.renumbering a l)

  -- and the other way round
  pub leads_from : (c : X) (v : Vector A) (y : Y) → IsDirectionAt R IsPositive G c v → CarriedTo c v y → LeadsToCorner R IsPositive H y v → LeadsToCorner R IsPositive G c v
  leads_from c v y a m l =
      subst (λ w. LeadsToCorner R IsPositive G w v) (e.renumbering.old_new c a.corner)
      (leads_new L test e.glued g back (named a) (segments_carried.leads_before L test e.steps e.glued (e.new c) v y (named a) m l))
