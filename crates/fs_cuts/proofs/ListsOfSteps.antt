-- Lists of cuts, undone cuts and renumberings are put together and turned round, and what they carry is carried so. A library for crates to come.
use Rattle.std.proofs.Common.{◌≡◌, Bool, refl, sym, ap, ◌∙◌, subst}
use Rattle.fs_ring.specs.Operations.{Operations}
use Rattle.fs_ring.specs.OrderedRing.{IsOrderedRing}
use Rattle.fs_ring.specs.Vector.{Vector}
use Rattle.fs_convex.specs.Turning.{DecidesHalfPlanes}
use Rattle.fs_paths.specs.SideGluing.{SideGluing, AreGluedPolygons}
use Rattle.fs_cuts.specs.Cuts.{IsCut, IsGerm}
use Rattle.fs_cuts.specs.Renumberings.{IsRenumbering}
use Rattle.fs_cuts.specs.CutAndPaste.{Step, cut, paste, renumbering, IsCarriedByStep, CutAndPaste, no_step, step, IsCarried}
use Rattle.fs_cuts.proofs.Renumberings as renumberings
use Rattle.fs_cuts.proofs.Steps as steps
use Rattle.fs_cuts.proofs.Steps.{IsDirectionAt}

module _ {A : Type 0} {R : Operations A} {IsPositive : A → Type 0} {is_ahead : Vector A → Vector A → Bool} {X : Type 0} where
  -- ---- from the same polygons

  abbrev step_from : {F G H : SideGluing X A} → F ≡ G → Step R IsPositive is_ahead G H → Step R IsPositive is_ahead F H
  step_from {F} {G} {H} same (cut kept p q d e k) = cut kept p q d e (subst (λ W. IsCut R W H kept p q d e) (sym same) k)
  step_from {F} {G} {H} same (paste kept p q d e k) = paste kept p q d e (subst (λ W. IsCut R H W kept p q d e) (sym same) k)
  step_from {F} {G} {H} same (renumbering new old k) = renumbering new old (subst (λ W. IsRenumbering W H new old) (sym same) k)

  carried_by_step_from : {F G H : SideGluing X A} (same : F ≡ G) (s : Step R IsPositive is_ahead G H) (c : X) (v : Vector A) (y : X)
      → IsCarriedByStep R IsPositive is_ahead s c v y → IsCarriedByStep R IsPositive is_ahead (step_from same s) c v y
  carried_by_step_from {F} {G} {H} same (cut kept p q d e k) c v y m = subst (λ W. IsGerm R IsPositive W H kept p q d e c v y) (sym same) m
  carried_by_step_from {F} {G} {H} same (paste kept p q d e k) c v y m = subst (λ W. IsGerm R IsPositive H W kept p q d e y v c) (sym same) m
  carried_by_step_from {F} {G} {H} same (renumbering new old k) c v y m = m

  abbrev steps_from : {F G H : SideGluing X A} → F ≡ G → CutAndPaste R IsPositive is_ahead G H → CutAndPaste R IsPositive is_ahead F H
  steps_from {F} same (no_step G H equal) = no_step F H (same ∙ equal)
  steps_from {F} same (step G K H k s rest) = step F K H k (step_from same s) rest

  carried_from_same : {F G H : SideGluing X A} (same : F ≡ G) (l : CutAndPaste R IsPositive is_ahead G H) (c : X) (v : Vector A) (y : X)
      → IsCarried R IsPositive is_ahead l c v y → IsCarried R IsPositive is_ahead (steps_from same l) c v y
  carried_from_same same (no_step G H equal) c v y m = m
  carried_from_same same (step G K H k s rest) c v y m = (m.0, carried_by_step_from same s c v m.0 m.1, m.2)

  -- ---- two lists

  -- the steps of one list, and then those of another
  abbrev pub append : {G H K : SideGluing X A} → CutAndPaste R IsPositive is_ahead G H → CutAndPaste R IsPositive is_ahead H K → CutAndPaste R IsPositive is_ahead G K
  append (no_step G H same) l = steps_from same l
  append (step G M H k s rest) l = step G M _ k s (append rest l)

  -- carry from where the first begins to where the other ends
  pub carried-append : {G H K : SideGluing X A} (l : CutAndPaste R IsPositive is_ahead G H) (o : CutAndPaste R IsPositive is_ahead H K) (c : X) (v : Vector A) (m y : X)
      → IsCarried R IsPositive is_ahead l c v m → IsCarried R IsPositive is_ahead o m v y → IsCarried R IsPositive is_ahead (append l o) c v y
  carried-append (no_step G H same) o c v m y i j = carried_from_same same o c v y (subst (λ w. IsCarried R IsPositive is_ahead o w v y) i j)
  carried-append (step G M H k s rest) o c v m y i j = (i.0, i.1, carried-append rest o i.0 v m y i.2 j)

  -- ---- the other way round

  -- the step that undoes a step
  abbrev pub opposite_step : {G H : SideGluing X A} → AreGluedPolygons R IsPositive is_ahead G → AreGluedPolygons R IsPositive is_ahead H → Step R IsPositive is_ahead G H → Step R IsPositive is_ahead H G
  opposite_step g h (cut kept p q d e k) = paste kept p q d e k
  opposite_step g h (paste kept p q d e k) = cut kept p q d e k
  opposite_step g h (renumbering new old k) = renumbering old new (renumberings.renumbering_back g h k)

  -- the steps that undo a list of steps
  abbrev pub opposite_steps : {G H : SideGluing X A} → AreGluedPolygons R IsPositive is_ahead G → CutAndPaste R IsPositive is_ahead G H → CutAndPaste R IsPositive is_ahead H G
  opposite_steps g (no_step G H same) = no_step H G (sym same)
  opposite_steps g (step G K H k s rest) = append (opposite_steps k rest) (step K G G g (opposite_step g k s) (no_step G G refl))

module _ {A : Type 0} {R : Operations A} {IsPositive : A → Type 0} (L : IsOrderedRing R IsPositive)
    {is_ahead : Vector A → Vector A → Bool} (test : DecidesHalfPlanes R IsPositive is_ahead) {X : Type 0} where
  carried_back_by_step : {G H : SideGluing X A} (g : AreGluedPolygons R IsPositive is_ahead G) (h : AreGluedPolygons R IsPositive is_ahead H)
      (s : Step R IsPositive is_ahead G H) (c : X) (v : Vector A) (y : X) → IsDirectionAt R IsPositive G c v
      → IsCarriedByStep R IsPositive is_ahead s c v y → IsCarriedByStep R IsPositive is_ahead (opposite_step g h s) y v c
  carried_back_by_step g h (cut kept p q d e k) c v y a m = m
  carried_back_by_step g h (paste kept p q d e k) c v y a m = m
  carried_back_by_step g h (renumbering new old k) c v y a m = sym (ap old m ∙ k.old_new c a.corner)

  -- carry back
  pub carried_back : {G H : SideGluing X A} (g : AreGluedPolygons R IsPositive is_ahead G) (l : CutAndPaste R IsPositive is_ahead G H) (c : X) (v : Vector A) (y : X)
      → IsDirectionAt R IsPositive G c v → IsCarried R IsPositive is_ahead l c v y → IsCarried R IsPositive is_ahead (opposite_steps g l) y v c
  carried_back g (no_step G H same) c v y a m = sym m
  carried_back g (step G K H k s rest) c v y a m =
      carried-append (opposite_steps k rest) (step K G G g (opposite_step g k s) (no_step G G refl)) y v m.0 c
      (carried_back k rest m.0 v y (steps.direction_after L test g k s c v m.0 a m.1) m.2) (c, carried_back_by_step g k s c v m.0 a m.1, refl)
