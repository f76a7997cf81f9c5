-- Convex polygons by the endless sequences of their sides and of the positions of their corners.
use Rattle.std.specs.Prelude.{◌≡◌, ℕ, zero, suc, ◌+◌, ◌<◌, ◌≤◌, Bool}
use Rattle.fs_ring.specs.Operations.{Operations}
use Rattle.fs_ring.specs.Vector.{Vector, unit_vector, add_vector, sub_vector, cross, dot}
use Rattle.fs_ring.specs.Direction.{IsAlong}
use Rattle.fs_convex.specs.Turning.{HasConvexCorners, rises}

module _ {A : Type 0} (R : Operations A) where
  -- the position of corner k, at which side k begins, where corner 0 is at p
  abbrev pub position : Vector A → (ℕ → Vector A) → ℕ → Vector A
  position p s zero = p
  position p s (suc k) = add_vector R (position p s k) (s k)

  -- q are positions of corners with the sides s between them
  abbrev pub HasSides : (ℕ → Vector A) → (ℕ → Vector A) → Type 0
  HasSides q s = (j : ℕ) → q (suc j) ≡ add_vector R (q j) (s j)

  module _ (IsPositive : A → Type 0) where
    -- a convex polygon with n sides s and corners at q: its sides come again after n, and its turning number is 1; corners may be straight
    pub record IsConvexPolygon (is_ahead : Vector A → Vector A → Bool) (n : ℕ) (s q : ℕ → Vector A) : Type 0 where
      pub convex : HasConvexCorners R IsPositive s
      pub repeats : (j : ℕ) → s (n + j) ≡ s j
      pub sides : HasSides q s
      pub closed : q n ≡ q 0
      pub turning_number : rises R is_ahead (unit_vector R) s n ≡ 1

    -- the point p isn't on the side u from a to b: it is left of the side, or on its line, beyond its end or before its start
    pub data IsOffSide (u a b p : Vector A) : Type 0 where
      left_of_side : IsPositive (cross R u (sub_vector R p a)) → IsOffSide u a b p
      beyond_end : cross R u (sub_vector R p a) ≡ R.zero → IsPositive (dot R u (sub_vector R p b)) → IsOffSide u a b p
      before_start : cross R u (sub_vector R p a) ≡ R.zero → IsPositive (dot R u (sub_vector R a p)) → IsOffSide u a b p

    -- corner k of n is left of side 0, or all sides before it are along side 0, or all after it
    pub data IsLeftOrOnLine (n : ℕ) (s q : ℕ → Vector A) (k : ℕ) : Type 0 where
      to_left : IsPositive (cross R (s 0) (sub_vector R (q k) (q 0))) → IsLeftOrOnLine n s q k
      sides_before : ((j : ℕ) → j < k → IsAlong R IsPositive (s 0) (s j)) → IsLeftOrOnLine n s q k
      sides_after : ((j : ℕ) → k ≤ j → j < n → IsAlong R IsPositive (s 0) (s j)) → IsLeftOrOnLine n s q k

    -- from corner 1 to corner m the corners come from the right of the line through (0, 0) along v to its left, by side i:
    -- those up to i are right of the line, the next one isn't, and those after it are left of the line
    pub record IsExit (v : Vector A) (q : ℕ → Vector A) (i m : ℕ) : Type 0 where
      pub not_first : 1 ≤ i
      pub before_last : i < m
      pub right_before : (j : ℕ) → 1 ≤ j → j ≤ i → IsPositive (cross R (q j) v)
      pub not_right : ¬ IsPositive (cross R (q (suc i)) v)
      pub left_after : (j : ℕ) → suc (suc i) ≤ j → j ≤ m → IsPositive (cross R v (q j))
