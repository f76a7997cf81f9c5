-- Lists of cuts, of cuts undone, and of renumberings, from some glued polygons to others, and where they carry a direction at a corner. The contract of `flat` doesn't rest on this file.
use Rattle.std.specs.Prelude.{◌≡◌, Bool}
use Rattle.fs_ring.specs.Operations.{Operations}
use Rattle.fs_ring.specs.Vector.{Vector}
use Rattle.fs_paths.specs.SideGluing.{SideGluing, AreGluedPolygons}
use Rattle.fs_cuts.specs.Cuts.{IsCut, IsGerm}
use Rattle.fs_cuts.specs.Renumberings.{IsRenumbering}

module _ {A : Type 0} (R : Operations A) (IsPositive : A → Type 0) (is_ahead : Vector A → Vector A → Bool) {X : Type 0} where
  -- one step: G is cut into H, or H into G, or H is G with other names
  pub data Step (G H : SideGluing X A) : Type 0 where
    cut : (kept : X → X) → (p q d e : X) → IsCut R G H kept p q d e → Step G H
    paste : (kept : X → X) → (p q d e : X) → IsCut R H G kept p q d e → Step G H
    renumbering : (new old : X → X) → IsRenumbering G H new old → Step G H

  -- the direction v at the corner c is at the corner y after the step
  abbrev pub IsCarriedByStep : {G H : SideGluing X A} → Step G H → X → Vector A → X → Type 0
  IsCarriedByStep {G} {H} (cut kept p q d e h) c v y = IsGerm R IsPositive G H kept p q d e c v y
  IsCarriedByStep {G} {H} (paste kept p q d e h) c v y = IsGerm R IsPositive H G kept p q d e y v c
  IsCarriedByStep {G} {H} (renumbering new old h) c v y = y ≡ new c

  -- a list of steps from G to H, each to glued polygons
  pub data CutAndPaste : SideGluing X A → SideGluing X A → Type 0 where
    no_step : (G H : SideGluing X A) → G ≡ H → CutAndPaste G H
    step : (G K H : SideGluing X A) → AreGluedPolygons R IsPositive is_ahead K → Step G K → CutAndPaste K H → CutAndPaste G H

  -- the direction v at the corner c is at the corner y after the steps of the list
  abbrev pub IsCarried : {G H : SideGluing X A} → CutAndPaste G H → X → Vector A → X → Type 0
  IsCarried (no_step G H same) c v y = y ≡ c
  IsCarried (step G K H glued first rest) c v y = (m : X) × IsCarriedByStep first c v m × IsCarried rest m v y
