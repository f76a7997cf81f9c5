-- The vectors that a job gives, times the denominator of a surface.
use Rattle.std.specs.Prelude.{◌≡◌, ℕ, pos, ◌+◌, ◌/◌, ◌*ℤ◌, Option, None, Some, Result, Ok, Err, unsigned_abs}
use Rattle.fs_quadratic.specs.Ring.{Quadratic}
use Rattle.fs_quadratic.specs.Checked.{step, ◌>>=◌}
use Rattle.fs_quadratic.specs.Width.{is_in_width}
use Rattle.fs_quadratic.specs.declared.steps.Place.{Place}
use Rattle.fs_plane.specs.declared.sites.Site.{Site}
use Rattle.fs_plane.specs.declared.sites.Site.TheVariants as sites
use Rattle.fs_plane.specs.Vector.{PlaneVector}
use Rattle.fs_gluing.specs.declared.shapes.Point.{Point}
use Rattle.fs_gluing.specs.Scaling.{IsMultipleOf, scaled_vector}
use Rattle.fs_gluing.specs.Surface.{GluedPolygons}

-- k times a number, part by part
unfoldable pub multiple_after : ℕ → ℕ → Quadratic → Result Quadratic Place
multiple_after before k x = do
  p ← step (before + 1) (is_in_width (pos k *ℤ x.p)) (pos k *ℤ x.p)
  q ← step (before + 2) (is_in_width (pos k *ℤ x.q)) (pos k *ℤ x.q)
  Ok (record { p = p; q = q })

-- a vector times den, which both its denominators divide
unfoldable pub scale_to : ℕ → Point → Result PlaneVector Place
scale_to den v = do
  x ← multiple_after 0 (den / v.x.den) v.x.num
  y ← multiple_after 2 (den / v.y.den) v.y.num
  Ok (record { x = x; y = y })

-- the vector times the denominator of the surface; none where one of its own denominators doesn't divide that; or the first site that overflows
abbrev pub GivesScaled : GluedPolygons → Point → Result (Option PlaneVector) Site → Type 0
GivesScaled s v (Ok None) = ¬ IsMultipleOf (unsigned_abs s.den) v
GivesScaled s v (Ok (Some w)) = IsMultipleOf (unsigned_abs s.den) v × (scale_to (unsigned_abs s.den) v ≡ Ok w) × (w ≡ scaled_vector (unsigned_abs s.den) v)
GivesScaled s v (Err site) = IsMultipleOf (unsigned_abs s.den) v × ((stop : Place) × (scale_to (unsigned_abs s.den) v ≡ Err stop) × (site ≡ sites.Grid stop.0))
