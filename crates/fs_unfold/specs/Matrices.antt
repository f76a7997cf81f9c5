-- Reflections in the sides of a table, products of them, and the images of vectors: as exact values, and as they are computed.
use Rattle.std.specs.Prelude.{ℕ, ◌+◌, Result, Ok}
use Rattle.fs_quadratic.specs.Checked.{◌>>=◌}
use Rattle.fs_quadratic.specs.Ring as ring
use Rattle.fs_quadratic.specs.declared.steps.Place.{Place}
use Rattle.fs_fraction.specs.Arithmetic.{negated, sum, product, reciprocal}
use Rattle.fs_fraction.specs.CheckedFractions.{checked_fraction_sum, checked_fraction_difference, checked_fraction_product, checked_reciprocal}
use Rattle.fs_fraction.specs.Fraction.{Fraction, one_fraction}
use Rattle.fs_gluing.specs.declared.shapes.Point.{Point}
use Rattle.fs_unfold.specs.declared.matrices.Matrix.{Matrix}
use Rattle.fs_unfold.specs.declared.matrices.Mirror.{Mirror}

-- 0
abbrev pub zero_fraction : Fraction
zero_fraction = record { num = ring.zero; den = 1 }

-- the identity
abbrev pub identity : Matrix
identity = record { a = one_fraction; b = zero_fraction; c = zero_fraction; e = one_fraction }

-- ---- exact values

-- x less y
abbrev pub difference : Fraction → Fraction → Fraction
difference x y = sum x (negated y)

-- the squared length of a vector
abbrev pub squared_length : ℕ → Point → Fraction
squared_length d p = sum (product d p.x p.x) (product d p.y p.y)

-- the reflection that keeps a vector: its matrix has the rows (u,w), (w,-u)
unfoldable pub mirror : ℕ → Point → Mirror
mirror d p = record {
  u = product d (difference (product d p.x p.x) (product d p.y p.y)) (reciprocal d (squared_length d p));
  w = product d (sum (product d p.x p.y) (product d p.x p.y)) (reciprocal d (squared_length d p));
}

-- a row (x,y) of a matrix times a reflection
abbrev pub row_first : ℕ → Fraction → Fraction → Mirror → Fraction
row_first d x y r = sum (product d x r.u) (product d y r.w)

abbrev pub row_second : ℕ → Fraction → Fraction → Mirror → Fraction
row_second d x y r = difference (product d x r.w) (product d y r.u)

-- a matrix times a reflection
unfoldable pub times : ℕ → Matrix → Mirror → Matrix
times d m r = record { a = row_first d m.a m.b r; b = row_second d m.a m.b r; c = row_first d m.c m.e r; e = row_second d m.c m.e r }

-- a matrix times a vector
unfoldable pub image : ℕ → Matrix → Point → Point
image d m p = record { x = sum (product d m.a p.x) (product d m.b p.y); y = sum (product d m.c p.x) (product d m.e p.y) }

-- ---- how they are computed

-- the reflection: places 1 to 3 are the products of the coordinates, 4 the squared length, 5 its inverse, 6 and 7 give u, 8 and 9 give w
unfoldable pub checked_mirror : ℕ → Point → Result Mirror Place
checked_mirror d p = do
  xx ← checked_fraction_product d 1 p.x p.x
  yy ← checked_fraction_product d 2 p.y p.y
  xy ← checked_fraction_product d 3 p.x p.y
  length ← checked_fraction_sum 4 xx yy
  inverse ← checked_reciprocal d 5 length
  less ← checked_fraction_difference 6 xx yy
  u ← checked_fraction_product d 7 less inverse
  twice ← checked_fraction_sum 8 xy xy
  w ← checked_fraction_product d 9 twice inverse
  Ok (record { u = u; w = w })

-- the sum of two products, from this place on
unfoldable pub checked_first : ℕ → ℕ → Fraction → Fraction → Fraction → Fraction → Result Fraction Place
checked_first d n x u y w = do
  one ← checked_fraction_product d (n + 1) x u
  two ← checked_fraction_product d (n + 2) y w
  checked_fraction_sum (n + 3) one two

-- their difference
unfoldable pub checked_second : ℕ → ℕ → Fraction → Fraction → Fraction → Fraction → Result Fraction Place
checked_second d n x u y w = do
  one ← checked_fraction_product d (n + 1) x u
  two ← checked_fraction_product d (n + 2) y w
  checked_fraction_difference (n + 3) one two

-- a matrix times a reflection: three places for each entry, row by row
unfoldable pub checked_times : ℕ → Matrix → Mirror → Result Matrix Place
checked_times d m r = do
  a ← checked_first d 0 m.a r.u m.b r.w
  b ← checked_second d 3 m.a r.w m.b r.u
  c ← checked_first d 6 m.c r.u m.e r.w
  e ← checked_second d 9 m.c r.w m.e r.u
  Ok (record { a = a; b = b; c = c; e = e })

-- a matrix times a vector: three places for each coordinate
unfoldable pub checked_image : ℕ → Matrix → Point → Result Point Place
checked_image d m p = do
  x ← checked_first d 0 m.a p.x m.b p.y
  y ← checked_first d 3 m.c p.x m.e p.y
  Ok (record { x = x; y = y })
