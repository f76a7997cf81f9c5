-- Through a list of cuts, undone cuts and renumberings, a direction leads to a corner exactly where the one to which it is carried does. A library for crates to come.
use Rattle.std.proofs.Common.{Bool, map, sym, ap, ◌∙◌, subst}
use Rattle.fs_ring.specs.Operations.{Operations}
use Rattle.fs_ring.specs.OrderedRing.{IsOrderedRing}
use Rattle.fs_ring.specs.Vector.{Vector}
use Rattle.fs_convex.specs.Turning.{DecidesHalfPlanes}
use Rattle.fs_paths.specs.SideGluing.{SideGluing, IsSide, AreGluedPolygons}
use Rattle.fs_paths.specs.Segments.{IsSegment}
use Rattle.fs_cuts.specs.CutAndPaste.{Step, cut, paste, renumbering, IsCarriedByStep, CutAndPaste, no_step, step, IsCarried}
use Rattle.fs_cuts.proofs.Renumberings as renumberings
use Rattle.fs_cuts.proofs.SegmentsAfter as segments_after
use Rattle.fs_cuts.proofs.SegmentsAfter.{LeadsToCorner}
use Rattle.fs_cuts.proofs.Steps as steps
use Rattle.fs_cuts.proofs.Steps.{IsDirectionAt}

module _ {A : Type 0} {R : Operations A} {IsPositive : A → Type 0} (L : IsOrderedRing R IsPositive)
    {is_ahead : Vector A → Vector A → Bool} (test : DecidesHalfPlanes R IsPositive is_ahead) {X : Type 0} where
  abbrev Glued : SideGluing X A → Type 0
  Glued G = AreGluedPolygons R IsPositive is_ahead G

  abbrev Leads : SideGluing X A → X → Vector A → Type 0
  Leads G c v = LeadsToCorner R IsPositive G c v

  -- a direction that leads to a corner does so after a step
  pub leads_after_step : {G H : SideGluing X A} (g : Glued G) (h : Glued H) (s : Step R IsPositive is_ahead G H) (c : X) (v : Vector A) (y : X) → IsDirectionAt R IsPositive G c v
      → IsCarriedByStep R IsPositive is_ahead s c v y → Leads G c v → Leads H y v
  leads_after_step g h (cut kept p q d e k) c v y a m l = segments_after.segment_after L test g h k m l
  leads_after_step g h (paste kept p q d e k) c v y a m l = segments_after.segment_before L test h g k m l
  leads_after_step {G} {H} g h (renumbering new old k) c v y a m (word, x, s) =
      (map new word, new x, subst (λ w. IsSegment R IsPositive H w (map new word) v (new x)) (sym m) (renumberings.segment_new L test g h k v a.corner s))

  -- and the other way round
  pub leads_before_step : {G H : SideGluing X A} (g : Glued G) (h : Glued H) (s : Step R IsPositive is_ahead G H) (c : X) (v : Vector A) (y : X) → IsDirectionAt R IsPositive G c v
      → IsCarriedByStep R IsPositive is_ahead s c v y → Leads H y v → Leads G c v
  leads_before_step g h (cut kept p q d e k) c v y a m l = segments_after.segment_before L test g h k m l
  leads_before_step g h (paste kept p q d e k) c v y a m l = segments_after.segment_after L test h g k m l
  leads_before_step {G} {H} g h (renumbering new old k) c v y a m (word, x, s) =
      let there : IsSide H y = subst (IsSide H) (sym m) (k.new_side c a.corner) in (
        map old word,
        old x,
        subst (λ w. IsSegment R IsPositive G w (map old word) v (old x)) (ap old m ∙ k.old_new c a.corner)
            (renumberings.segment_new L test h g (renumberings.renumbering_back g h k) v there s),
      )

  -- a direction that leads to a corner does so after the steps of a list
  pub leads_after : {G H : SideGluing X A} (l : CutAndPaste R IsPositive is_ahead G H) → Glued G → (c : X) (v : Vector A) (y : X) → IsDirectionAt R IsPositive G c v
      → IsCarried R IsPositive is_ahead l c v y → Leads G c v → Leads H y v
  leads_after (no_step G H same) g c v y a m l = subst (λ w. Leads H w v) (sym m) (subst (λ K. Leads K c v) same l)
  leads_after (step G K H k s rest) g c v y a m l =
      leads_after rest k m.0 v y (steps.direction_after L test g k s c v m.0 a m.1) m.2 (leads_after_step g k s c v m.0 a m.1 l)

  -- and the other way round
  pub leads_before : {G H : SideGluing X A} (l : CutAndPaste R IsPositive is_ahead G H) → Glued G → (c : X) (v : Vector A) (y : X) → IsDirectionAt R IsPositive G c v
      → IsCarried R IsPositive is_ahead l c v y → Leads H y v → Leads G c v
  leads_before (no_step G H same) g c v y a m l = subst (λ K. Leads K c v) (sym same) (subst (λ w. Leads H w v) m l)
  leads_before (step G K H k s rest) g c v y a m l =
      leads_before_step g k s c v m.0 a m.1 (leads_before rest k m.0 v y (steps.direction_after L test g k s c v m.0 a m.1) m.2 l)
