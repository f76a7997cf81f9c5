-- Numbers so small that sums and differences of two of them are within the width. The contracts of public calls don't rest on this file.
use Rattle.std.specs.Prelude.{◌≤◌, ◌^◌, unsigned_abs}
use Rattle.fs_quadratic.specs.Ring.{Quadratic}
use Rattle.fs_plane.specs.Vector.{PlaneVector}

-- both parts are at most 2^125 in size
abbrev pub HasRoom : Quadratic → Type 0
HasRoom x = (unsigned_abs x.p ≤ 2 ^ 125) × (unsigned_abs x.q ≤ 2 ^ 125)

-- so are those of both coordinates
abbrev pub VectorHasRoom : PlaneVector → Type 0
VectorHasRoom a = HasRoom a.x × HasRoom a.y
