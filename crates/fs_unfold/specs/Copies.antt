-- The copies of a table under the products of its reflections, and how their sides are glued.
use Rattle.std.specs.Prelude.{◌≡◌, ℕ, ◌+◌, ◌-◌, ◌<◌, ◌≤◌, if◌then◌else◌, Bool, Some, List, [], ◌∷◌, map, reverse}
use Rattle.std.specs.List.{slice_get}
use Rattle.std.specs.Ordering.{is_lt}
use Rattle.fs_quadratic.specs.Ring.{sign}
use Rattle.fs_fraction.specs.Arithmetic.{negated, product}
use Rattle.fs_plane.specs.declared.corners.Corner.{Corner}
use Rattle.fs_gluing.specs.declared.shapes.Glue.{Glue}
use Rattle.fs_gluing.specs.declared.shapes.Point.{Point}
use Rattle.fs_unfold.specs.declared.matrices.Matrix.{Matrix}
use Rattle.fs_unfold.specs.declared.matrices.Mirror.{Mirror}
use Rattle.fs_unfold.specs.Matrices.{difference, image, times}

-- the matrix turns the orientation: its determinant is below 0
abbrev pub is_turned : ℕ → Matrix → Bool
is_turned d m = is_lt (sign d (difference (product d m.a m.e) (product d m.b m.c)).num)

-- the opposite vector
abbrev pub opposite : Point → Point
opposite p = record { x = negated p.x; y = negated p.y }

-- the copy of a table under a matrix: where the matrix turns the orientation, the sides are in the opposite order, and the vectors opposite
abbrev pub copy : ℕ → List Point → Matrix → List Point
copy d table m = if is_turned d m then reverse (map (λ p. opposite (image d m p)) table) else map (image d m) table

-- the number that side i of a table of n sides has in its copy under a matrix
abbrev pub side_number : ℕ → ℕ → Matrix → ℕ → ℕ
side_number d n m i = if is_turned d m then n - (i + 1) else i

-- the same side of the table in two copies, the second of which is under the product of the first and the reflection in that side
pub record IsPair (d n : ℕ) (rs : List Mirror) (list : List Matrix) (one two : Corner) : Type 0 where
  pub side : ℕ
  pub mirror : Mirror
  pub of_side : slice_get rs side ≡ Some mirror
  pub from : Matrix
  pub from_there : slice_get list one.polygon ≡ Some from
  pub to_there : slice_get list two.polygon ≡ Some (times d from mirror)
  pub number_one : one.side ≡ side_number d n from side
  pub number_two : two.side ≡ side_number d n (times d from mirror) side

-- the glue lines of these sides, in order: a side is on a line with the side with which it is a pair, where that is one of a later copy
pub data AreLines (IsPaired : Corner → Corner → Type 0) : List Corner → List Glue → Type 0 where
  no_side : AreLines IsPaired [] []
  earlier : (c e : Corner) (sides : List Corner) (lines : List Glue) → IsPaired c e → c.polygon < e.polygon → AreLines IsPaired sides lines
      → AreLines IsPaired (c ∷ sides) (record { line = 0; one = c; two = e } ∷ lines)
  later : (c e : Corner) (sides : List Corner) (lines : List Glue) → IsPaired c e → e.polygon ≤ c.polygon → AreLines IsPaired sides lines → AreLines IsPaired (c ∷ sides) lines
