-- Staircases: rectangles of lengths that are drawn from a seed, each glued to its neighbours or to itself.
use Rattle.std.specs.Prelude.{◌≡◌, ℕ, Bool, false, ◌+◌, ◌-◌, ◌*◌, ◌/◌, ◌%◌, ◌==◌, if◌then◌else◌, ltb, List, [], ◌∷◌, map, filter}
use Rattle.std.specs.List.{range_with_len, flat_map}
use Rattle.std.specs.Ordering.{is_lt}
use Rattle.fs_quadratic.specs.Ring.{Quadratic, zero, one, neg}
use Rattle.fs_plane.specs.Vector.{PlaneVector, east}
use Rattle.fs_plane.specs.declared.corners.Corner.{Corner}
use Rattle.fs_gluing.specs.Gluing.{corner_cmp, sides_between}
use Rattle.fs_gluing.specs.declared.shapes.Glue.{Glue}
use Rattle.fs_gluing.specs.declared.shapes.Point.{Point}
use Rattle.fs_gluing.specs.declared.shapes.Shape.{Shape}
use Rattle.fs_job.specs.declared.job.Command.{Command}
use Rattle.fs_job.specs.declared.job.Command.TheVariants as commands
use Rattle.fs_job.specs.declared.job.Form.TheVariants.{Polygons}
use Rattle.fs_job.specs.declared.job.Job.{Job}
use Rattle.fs_workload.specs.Draws.{draw}

-- ---- the rectangles

-- a vector with the denominators 1
abbrev pub whole_vector : Quadratic → Quadratic → Point
whole_vector x y = record { x = record { num = x; den = 1 }; y = record { num = y; den = 1 } }

-- the sides of a rectangle: below, to the right, above, to the left
abbrev pub rectangle : Quadratic → Quadratic → List Point
rectangle width height = whole_vector width zero ∷ whole_vector zero height ∷ whole_vector (neg width) zero ∷ whole_vector zero (neg height) ∷ []

-- the width of rectangle i: rectangles 1 and 2 have the same one, 3 and 4, and so on
abbrev pub width : ℕ → ℕ → Quadratic
width seed i = draw seed (2 * ((i + 1) / 2))

-- the height of rectangle i: rectangles 0 and 1 have the same one, 2 and 3, and so on
abbrev pub height : ℕ → ℕ → Quadratic
height seed i = draw seed (2 * (i / 2) + 1)

-- rectangle i
abbrev pub rectangle_at : ℕ → ℕ → List Point
rectangle_at seed i = rectangle (width seed i) (height seed i)

-- ---- the glue lines

-- whether a number is even
abbrev pub is_even : ℕ → Bool
is_even n = n % 2 == 0

-- the rectangle after rectangle i of k, where there is one, else i
abbrev pub next_or_same : ℕ → ℕ → ℕ
next_or_same k i = if ltb (i + 1) k then i + 1 else i

-- the rectangle to the right and to the left of rectangle i of k: 0 and 1 are side by side, 2 and 3, and so on
abbrev pub across : ℕ → ℕ → ℕ
across k i = if is_even i then next_or_same k i else i - 1

-- the rectangle above and below rectangle i of k: 1 and 2 are one above the other, 3 and 4, and so on; 0 - 1 is 0
abbrev pub above : ℕ → ℕ → ℕ
above k i = if is_even i then i - 1 else next_or_same k i

-- the side that a side is glued to: the opposite one of the rectangle there
abbrev pub partner : ℕ → Corner → Corner
partner k c = record { polygon = if is_even c.side then above k c.polygon else across k c.polygon; side = (c.side + 2) % 4 }

-- whether a side comes before the one that it is glued to
abbrev pub is_lesser : ℕ → Corner → Bool
is_lesser k c = is_lt (corner_cmp c (partner k c))

-- the line that glues a side
abbrev pub glue_line : ℕ → Corner → Glue
glue_line k c = record { line = 0; one = c; two = partner k c }

-- the lines of these sides, in order
abbrev pub lines_of : ℕ → List Corner → List Glue
lines_of k sides = map (glue_line k) (filter (is_lesser k) sides)

-- the sides of n rectangles
abbrev pub rectangle_sides : ℕ → List Corner
rectangle_sides n = flat_map (λ i. sides_between i 0 4) (range_with_len 0 n)

-- ---- the job

-- k rectangles with all glue lines
abbrev pub staircase_shape : ℕ → ℕ → Shape
staircase_shape k seed = record { polygons = map (rectangle_at seed) (range_with_len 0 k); glues = lines_of k (rectangle_sides k); straight = false }

-- (0, 1)
abbrev pub north : PlaneVector
north = record { x = zero; y = one }

-- the commands of a staircase
abbrev pub staircase_commands : List Command
staircase_commands = commands.Stratum ∷ commands.Delaunay ∷ commands.Saddles one ∷ commands.Flow east ∷ commands.Flow north ∷ []

-- the job is the staircase of k rectangles with this seed
pub record IsStaircase (k seed : ℕ) (job : Job) : Type 0 where
  pub field : job.field.d ≡ 2
  pub form : job.form ≡ Polygons (staircase_shape k seed)
  pub commands : job.commands ≡ staircase_commands
