-- Directions of vectors over an ordered ring: which is left of which, half planes, sectors, and their counterclockwise order from (1, 0).
use Rattle.std.specs.Prelude.{◌≡◌}
use Rattle.fs_ring.specs.Operations.{Operations}
use Rattle.fs_ring.specs.Vector.{Vector, unit_vector, neg_vector, cross, dot}

module _ {A : Type 0} (R : Operations A) (IsPositive : A → Type 0) where
  -- b is a positive multiple of a, but for a positive factor: parallel, and the same way
  pub record IsAlong (a b : Vector A) : Type 0 where
    pub parallel : cross R a b ≡ R.zero
    pub same_way : IsPositive (dot R a b)

  -- b is left of a, right of it, or along it either way
  pub data Turn (a b : Vector A) : Type 0 where
    left : IsPositive (cross R a b) → Turn a b
    right : IsPositive (cross R b a) → Turn a b
    along : IsAlong a b → Turn a b
    opposite : cross R a b ≡ R.zero → IsPositive (R.neg (dot R a b)) → Turn a b

  -- v is in the half plane that begins at w, included, and ends counterclockwise at -w, excluded
  pub data InHalfPlane (w v : Vector A) : Type 0 where
    at_start : IsAlong w v → InHalfPlane w v
    inside : IsPositive (cross R w v) → InHalfPlane w v

  -- v is in the sector of less than half a turn that begins at a, included, and ends counterclockwise at c, excluded
  pub data InSector (a c v : Vector A) : Type 0 where
    at_start : IsAlong a v → InSector a c v
    inside : IsPositive (cross R a v) → IsPositive (cross R v c) → InSector a c v

  -- the half turn from (1, 0), and the one from (-1, 0)
  abbrev pub IsUpper : Vector A → Type 0
  IsUpper v = InHalfPlane (unit_vector R) v

  abbrev pub IsLower : Vector A → Type 0
  IsLower v = InHalfPlane (neg_vector R (unit_vector R)) v

  -- the direction of a is before that of b, counterclockwise from (1, 0)
  pub data IsBefore (a b : Vector A) : Type 0 where
    upper : IsUpper a → IsUpper b → IsPositive (cross R a b) → IsBefore a b
    across : IsUpper a → IsLower b → IsBefore a b
    lower : IsLower a → IsLower b → IsPositive (cross R a b) → IsBefore a b
