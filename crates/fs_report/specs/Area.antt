-- The unscaled area of a surface, and where its computation overflows.
use Rattle.std.specs.Prelude.{◌≡◌, ℕ, ◌*◌, Result, Ok, Err, IsOk, unsigned_abs}
use Rattle.fs_quadratic.specs.Ring.{Quadratic, zero, one}
use Rattle.fs_fraction.specs.Fraction.{Fraction, reduced}
use Rattle.fs_fraction.specs.Arithmetic.{product, ProductFits}
use Rattle.fs_plane.specs.declared.sites.Site.{Site}
use Rattle.fs_plane.specs.declared.sites.Site.TheVariants.{AreaScale}
use Rattle.fs_gluing.specs.Area.{triangles, sum_after, twice_area}
use Rattle.fs_gluing.specs.Surface.{GluedPolygons}

-- half of twice the area, over the square of the denominator
abbrev pub unscaled_area : Quadratic → ℕ → Fraction
unscaled_area twice den = reduced twice (2 * (den * den))

-- half of a number
abbrev pub half : Quadratic → Fraction
half twice = reduced twice 2

-- one over a number
abbrev pub one_over : ℕ → Fraction
one_over n = record { num = one; den = n }

-- that half over the denominator once
abbrev pub half_over : ℕ → Quadratic → ℕ → Fraction
half_over d twice den = product d (half twice) (one_over den)

-- the unscaled area: the half times 1/den, and that times 1/den, where the numbers of both products fit; else the site of the first that overflows
pub data IsUnscaled (d : ℕ) (twice : Quadratic) (den : ℕ) (result : Result Fraction Site) : Type 0 where
  over_once : ¬ ProductFits d (half twice) (one_over den) → result ≡ Err (AreaScale 1) → IsUnscaled d twice den result
  over_twice : ProductFits d (half twice) (one_over den) → ¬ ProductFits d (half_over d twice den) (one_over den) → result ≡ Err (AreaScale 2) → IsUnscaled d twice den result
  exact : ProductFits d (half twice) (one_over den) → ProductFits d (half_over d twice den) (one_over den) → result ≡ Ok (unscaled_area twice den) → IsUnscaled d twice den result

-- twice the area, triangle by triangle, up to the first that overflows
abbrev pub checked_twice_area : GluedPolygons → Result Quadratic Site
checked_twice_area s = sum_after s.d zero (triangles s)

-- the unscaled area of a surface, or the site where its computation overflows
pub data GivesArea (s : GluedPolygons) (result : Result Fraction Site) : Type 0 where
  at_triangle : (site : Site) → checked_twice_area s ≡ Err site → result ≡ Err site → GivesArea s result
  summed : IsOk (checked_twice_area s) → IsUnscaled s.d (twice_area s) (unsigned_abs s.den) result → GivesArea s result
