-- The end of a straight path, as one value: which of the ways it ends in, and across which sides.
use Rattle.std.specs.Prelude.{ℕ, List, [], length, ◌≤◌}
use Rattle.fs_ring.specs.Operations.{Operations}
use Rattle.fs_ring.specs.Vector.{Vector}
use Rattle.fs_paths.specs.SideGluing.{SideGluing, InSectorOf}
use Rattle.fs_paths.specs.Segments.{IsSegment, MeetsCorner, EndsInside, IsLonger}

-- a path from a corner along a vector doesn't begin in the sector; ends at a corner after it crossed the sides of a word; meets a corner
-- before its end; ends inside a polygon or on its boundary, off its corners; or crosses more sides
pub data PathEnd (X : Type 0) : Type 0 where
  outside_sector : PathEnd X
  segment : List X → X → PathEnd X
  corner_before_end : List X → PathEnd X
  ends_inside : List X → PathEnd X
  longer : List X → PathEnd X

-- the word of the path before that end: the sides that it crosses
abbrev pub crossed_sides : {X : Type 0} → PathEnd X → List X
crossed_sides outside_sector = []
crossed_sides (segment word y) = word
crossed_sides (corner_before_end word) = word
crossed_sides (ends_inside word) = word
crossed_sides (longer word) = word

module _ {A : Type 0} (R : Operations A) (IsPositive : A → Type 0) {X : Type 0} (G : SideGluing X A) (c : X) (v : Vector A) (n : ℕ) where
  -- the path from the corner c along v ends so, within n crossings; or it is longer, and the word has the first n sides
  abbrev pub IsEnd : PathEnd X → Type 0
  IsEnd outside_sector = ¬ InSectorOf R IsPositive G c v
  IsEnd (segment word y) = (length word ≤ n) × IsSegment R IsPositive G c word v y
  IsEnd (corner_before_end word) = (length word ≤ n) × MeetsCorner R IsPositive G c word v
  IsEnd (ends_inside word) = (length word ≤ n) × EndsInside R IsPositive G c word v
  IsEnd (longer word) = IsLonger R IsPositive G c word v n
