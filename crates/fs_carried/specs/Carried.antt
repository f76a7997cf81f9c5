-- Glued polygons that are cut and pasted into others, and the corners from which the sides of these are carried. The contract of `flat` doesn't rest on this file.
use Rattle.std.specs.Prelude.{Bool}
use Rattle.fs_ring.specs.Operations.{Operations}
use Rattle.fs_ring.specs.Vector.{Vector}
use Rattle.fs_paths.specs.SideGluing.{SideGluing, IsSide}
use Rattle.fs_cuts.specs.CutAndPaste.{IsCarried}
use Rattle.fs_cuts.specs.Equality.{AreCutAndPasteEqual}

module _ {A : Type 0} (R : Operations A) (IsPositive : A → Type 0) (is_ahead : Vector A → Vector A → Bool) {X Y : Type 0} {G : SideGluing X A} {H : SideGluing Y A} where
  -- the direction v at the corner c of G is at the corner y of H
  abbrev pub IsCarriedTo : AreCutAndPasteEqual R IsPositive is_ahead G H → X → Vector A → Y → Type 0
  IsCarriedTo equal c v y = IsCarried R IsPositive is_ahead equal.steps (equal.new c) v y

  -- each side of H is carried from its home: its vector, at this corner of G, is at the side's start
  abbrev pub CarriesHomes : AreCutAndPasteEqual R IsPositive is_ahead G H → (Y → X) → Type 0
  CarriesHomes equal home = (y : Y) → IsSide H y → IsCarriedTo equal (home y) (H.vector y) y

-- G and H are equal up to cutting and pasting, by a list of steps that carries the sides of H from these homes
pub record AreEqualWithHomes {A : Type 0} (R : Operations A) (IsPositive : A → Type 0) (is_ahead : Vector A → Vector A → Bool) {X Y : Type 0} (G : SideGluing X A) (H : SideGluing Y A) (home : Y → X) : Type 0 where
  pub equal : AreCutAndPasteEqual R IsPositive is_ahead G H
  pub carried : CarriesHomes R IsPositive is_ahead equal home
