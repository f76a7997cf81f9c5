-- How a straight path along a vector ends: at a corner, on a corner before its end, inside a polygon, or not within a number of crossings.
use Rattle.std.specs.Prelude.{◌≡◌, ℕ, List, [], ◌∷◌, ◌++◌, length}
use Rattle.fs_ring.specs.Operations.{Operations}
use Rattle.fs_ring.specs.Vector.{Vector}
use Rattle.fs_paths.specs.SideGluing.{SideGluing}
use Rattle.fs_paths.specs.Development.{IsPutAt, InPutPolygon}
use Rattle.fs_paths.specs.StraightPaths.{Reaches, IsMet, IsMetBefore}

module _ {A : Type 0} (R : Operations A) (IsPositive : A → Type 0) {X : Type 0} (G : SideGluing X A) (c : X) (word : List X) (v : Vector A) where
  -- v leads from the corner c across the sides of the word to the corner y, and meets no corner before
  pub record IsSegment (y : X) : Type 0 where
    pub last : X
    pub put : Vector A
    pub reached : Reaches R IsPositive G v c word last put
    pub end : IsPutAt R G last put y v
    pub none_before : (Q : Vector A) → ¬ IsMetBefore R IsPositive G v last put Q

  -- the path meets a corner before v, after it crossed the sides of the word
  pub record MeetsCorner : Type 0 where
    pub last : X
    pub put : Vector A
    pub reached : Reaches R IsPositive G v c word last put
    pub at : Vector A
    pub met : IsMetBefore R IsPositive G v last put at

  -- the path ends in a polygon or on its boundary, off its corners, after it crossed the sides of the word
  pub record EndsInside : Type 0 where
    pub last : X
    pub put : Vector A
    pub reached : Reaches R IsPositive G v c word last put
    pub inside : InPutPolygon R G IsPositive last put v
    pub none_met : (Q : Vector A) → ¬ IsMet R IsPositive G v last put Q

  -- the word has n sides, and the path crosses one more
  pub record IsLonger (n : ℕ) : Type 0 where
    pub crossings : length word ≡ n
    pub more : X
    pub last : X
    pub put : Vector A
    pub reached : Reaches R IsPositive G v c (word ++ more ∷ []) last put
