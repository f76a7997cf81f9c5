-- The formulas of the plane as checked computations. Their places follow those of the steps before them.
use Rattle.std.specs.Prelude.{ℕ, ◌+◌, if◌then◌else◌, Bool, true, false, Result, Ok}
use Rattle.std.specs.Ordering.{is_gt, is_ge, is_le}
use Rattle.std.specs.declared.cmp.Ordering.{Ordering}
use Rattle.std.specs.declared.cmp.Ordering.TheVariants.{Less, Equal, Greater}
use Rattle.fs_quadratic.specs.Ring.{Quadratic, sign, compare}
use Rattle.fs_quadratic.specs.Width.{Fits, MulFits}
use Rattle.fs_quadratic.specs.declared.steps.Place.{Place}
use Rattle.fs_plane.specs.Vector.{PlaneVector, vector_neg, cross, dot}
use Rattle.fs_quadratic.specs.Checked.{◌>>=◌, checked_product, checked_sum, checked_difference}

-- a.x·b.y - a.y·b.x
unfoldable pub cross_after : ℕ → ℕ → PlaneVector → PlaneVector → Result Quadratic Place
cross_after before d a b = do
  left ← checked_product d (before + 1) a.x b.y
  right ← checked_product d (before + 2) a.y b.x
  checked_difference (before + 3) left right

-- a.x·b.x + a.y·b.y
unfoldable pub dot_after : ℕ → ℕ → PlaneVector → PlaneVector → Result Quadratic Place
dot_after before d a b = do
  left ← checked_product d (before + 1) a.x b.x
  right ← checked_product d (before + 2) a.y b.y
  checked_sum (before + 3) left right

-- a.x·a.x + a.y·a.y
unfoldable pub norm_after : ℕ → ℕ → PlaneVector → Result Quadratic Place
norm_after before d a = dot_after before d a a

-- a + b
unfoldable pub vector_sum_after : ℕ → PlaneVector → PlaneVector → Result PlaneVector Place
vector_sum_after before a b = do
  x ← checked_sum (before + 1) a.x b.x
  y ← checked_sum (before + 2) a.y b.y
  Ok (record { x = x; y = y })

-- a - b
unfoldable pub vector_difference_after : ℕ → PlaneVector → PlaneVector → Result PlaneVector Place
vector_difference_after before a b = do
  x ← checked_difference (before + 1) a.x b.x
  y ← checked_difference (before + 2) a.y b.y
  Ok (record { x = x; y = y })

-- (a×b)·(c·g), a half of the circle value
unfoldable pub circle_term_after : ℕ → ℕ → PlaneVector → PlaneVector → PlaneVector → PlaneVector → Result Quadratic Place
circle_term_after before d a b c g = do
  area ← cross_after before d a b
  angle ← dot_after (before + 3) d c g
  checked_product d (before + 7) area angle

-- (a×b)·(c·g) + (c×g)·(a·b)
unfoldable pub circle_after : ℕ → ℕ → PlaneVector → PlaneVector → PlaneVector → PlaneVector → Result Quadratic Place
circle_after before d a b c g = do
  left ← circle_term_after before d a b c g
  right ← circle_term_after (before + 7) d c g a b
  checked_sum (before + 15) left right

-- whether a number that is computed is above 0
abbrev pub is_above_zero : ℕ → Result Quadratic Place → Result Bool Place
is_above_zero d computed = computed >>= (λ x. Ok (is_gt (sign d x)))

-- by the sign of the cross product of a sector's start and a vector: to the right of the start it isn't in the sector; on the start's line the first test decides, to the left the second
abbrev pub by_turn : Ordering → (along ends : Result Bool Place) → Result Bool Place
by_turn Less along ends = Ok false
by_turn Equal along ends = along
by_turn Greater along ends = ends

-- whether v is in the sector of a corner
unfoldable pub in_sector_after : ℕ → ℕ → PlaneVector → PlaneVector → PlaneVector → Result Bool Place
in_sector_after before d outgoing incoming v = do
  turn ← cross_after before d outgoing v
  by_turn (sign d turn) (is_above_zero d (dot_after (before + 3) d outgoing v)) (is_above_zero d (cross_after (before + 6) d v (vector_neg incoming)))

-- by the sign of the cross product of the sides at a corner, and whether straight corners are allowed: left of the first side the corner is convex, right of it it isn't, and on its line the dot product decides, where that is asked
abbrev pub by_bend : Bool → Ordering → (along : Result Bool Place) → Result Bool Place
by_bend straight Greater along = Ok true
by_bend straight Less along = Ok false
by_bend true Equal along = along
by_bend false Equal along = Ok false

-- whether a polygon may have a corner with these sides
unfoldable pub is_convex_after : ℕ → Bool → ℕ → PlaneVector → PlaneVector → Result Bool Place
is_convex_after before straight d a b = do
  turn ← cross_after before d a b
  by_bend straight (sign d turn) (is_above_zero d (dot_after (before + 3) d a b))

-- x ≤ y
abbrev pub is_at_most : ℕ → Quadratic → Quadratic → Bool
is_at_most d x y = is_le (compare d x y)

-- whether the line of p and e comes within the squared distance `bound` of (0,0)
unfoldable pub line_comes_within_after : ℕ → ℕ → PlaneVector → PlaneVector → Quadratic → Result Bool Place
line_comes_within_after before d p e bound = do
  area ← cross_after before d p e
  square ← checked_product d (before + 4) area area
  length ← norm_after (before + 4) d e
  reach ← checked_product d (before + 8) bound length
  Ok (is_at_most d square reach)

-- whether a segment whose ends don't does: only where the nearest point of its line is between the ends
unfoldable pub inner_comes_within_after : ℕ → ℕ → PlaneVector → PlaneVector → Quadratic → Result Bool Place
inner_comes_within_after before d p q bound = do
  e ← vector_difference_after before q p
  leaving ← dot_after (before + 2) d p e
  if is_ge (sign d leaving) then Ok false else do
    arriving ← dot_after (before + 5) d q e
    if is_le (sign d arriving) then Ok false else line_comes_within_after (before + 8) d p e bound

-- whether the segment from p to q comes within the squared distance `bound` of (0,0)
unfoldable pub comes_within_after : ℕ → ℕ → PlaneVector → PlaneVector → Quadratic → Result Bool Place
comes_within_after before d p q bound = do
  start ← norm_after before d p
  if is_at_most d start bound then Ok true else do
    end ← norm_after (before + 3) d q
    if is_at_most d end bound then Ok true else inner_comes_within_after (before + 6) d p q bound

-- all numbers of the cross product are within the width
abbrev pub CrossFits : ℕ → PlaneVector → PlaneVector → Type 0
CrossFits d a b = MulFits d a.x b.y × MulFits d a.y b.x × Fits (cross d a b)

-- all numbers of the dot product are
abbrev pub DotFits : ℕ → PlaneVector → PlaneVector → Type 0
DotFits d a b = MulFits d a.x b.x × MulFits d a.y b.y × Fits (dot d a b)
