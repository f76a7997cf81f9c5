-- Closed convex polygons, by their side vectors in the order of the boundary.
use Rattle.std.specs.Prelude.{◌≡◌, ℕ, Bool, ◌&&◌, List, [], ◌∷◌, take, count_by}
use Rattle.fs_plane.specs.Vector.{vector_zero, vector_neg, vector_total, is_upper, PlaneVector}

-- the position of corner j, where corner 0 is at (0,0)
abbrev pub corner_position : List PlaneVector → ℕ → PlaneVector
corner_position polygon j = vector_total (take j polygon)

-- the side vectors sum to (0,0)
abbrev pub IsClosed : List PlaneVector → Type 0
IsClosed polygon = vector_total polygon ≡ vector_zero

-- a corner by the side that ends there and the side that begins there
pub record CornerSides : Type 0 where
  pub before : PlaneVector
  pub after : PlaneVector

-- the corners at which these sides begin, where the side before the first of them is given
abbrev pub corners_from : PlaneVector → List PlaneVector → List CornerSides
corners_from before [] = []
corners_from before (side ∷ sides) = record { before = before; after = side } ∷ corners_from side sides

-- the last side, or (0,0) where there is none
abbrev pub last_side : List PlaneVector → PlaneVector
last_side [] = vector_zero
last_side (side ∷ []) = side
last_side (side ∷ (next ∷ sides)) = last_side (next ∷ sides)

-- the corners of a polygon: the side that ends at corner 0 is the last one
abbrev pub corners_of : List PlaneVector → List CornerSides
corners_of polygon = corners_from (last_side polygon) polygon

-- the boundary passes from the lower half to the upper: the opposite of the side before points into the upper half, and so does the side after
abbrev pub is_rise : ℕ → CornerSides → Bool
is_rise d corner = is_upper d (vector_neg corner.before) && is_upper d corner.after

-- the turning number is 1: at exactly one corner the boundary passes from the lower half to the upper
abbrev pub HasTurningNumberOne : ℕ → List PlaneVector → Type 0
HasTurningNumberOne d polygon = count_by (is_rise d) (corners_of polygon) ≡ 1
