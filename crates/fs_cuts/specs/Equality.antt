-- Glued polygons that are equal up to cutting and pasting, whatever names their sides have.
use Rattle.std.specs.Prelude.{Bool}
use Rattle.fs_ring.specs.Operations.{Operations}
use Rattle.fs_ring.specs.Vector.{Vector}
use Rattle.fs_paths.specs.SideGluing.{SideGluing, AreGluedPolygons}
use Rattle.fs_cuts.specs.Renumberings.{IsRenumbering}
use Rattle.fs_cuts.specs.CutAndPaste.{CutAndPaste}

-- G with other names is glued polygons, and a list of cuts, of cuts undone, and of renumberings leads from it to H
pub record AreCutAndPasteEqual {A : Type 0} (R : Operations A) (IsPositive : A → Type 0) (is_ahead : Vector A → Vector A → Bool) {X Y : Type 0} (G : SideGluing X A) (H : SideGluing Y A) : Type 0 where
  pub named : SideGluing Y A
  pub new : X → Y
  pub old : Y → X
  pub renumbering : IsRenumbering G named new old
  pub glued : AreGluedPolygons R IsPositive is_ahead named
  pub steps : CutAndPaste R IsPositive is_ahead named H
