-- The unscaled squares and areas of parts, as they are computed.
use Rattle.std.specs.Prelude.{ℕ, ◌+◌, ◌*◌, Result, Ok, List, [], ◌∷◌}
use Rattle.fs_quadratic.specs.Checked.{◌>>=◌, checked_product, checked_sum}
use Rattle.fs_quadratic.specs.Ring as ring
use Rattle.fs_quadratic.specs.Ring.{Quadratic}
use Rattle.fs_quadratic.specs.declared.steps.Place.{Place}
use Rattle.fs_fraction.specs.CheckedFractions.{checked_fraction_product, checked_reciprocal}
use Rattle.fs_fraction.specs.Fraction.{Fraction}
use Rattle.fs_plane.specs.Formulas.{norm_after, dot_after}
use Rattle.fs_plane.specs.Vector.{PlaneVector}
use Rattle.fs_rauzy.specs.declared.parts.Letter.{Letter}

-- x over 1
abbrev pub whole : Quadratic → Fraction
whole x = record { num = x; den = 1 }

-- 1 over the denominator of the surface
abbrev pub one_over : ℕ → Fraction
one_over den = record { num = ring.one; den = den }

-- a fraction over the square of the denominator: two products, from this place on
abbrev pub checked_unscaled : ℕ → ℕ → ℕ → Fraction → Result Fraction Place
checked_unscaled d den n x = checked_fraction_product d n x (one_over den) >>= (λ once. checked_fraction_product d (n + 1) once (one_over den))

-- the inverse of the squared length of the direction: places 7 to 10
abbrev pub checked_inverse : ℕ → PlaneVector → Result Fraction Place
checked_inverse d v = norm_after 6 d v >>= (λ norm. checked_reciprocal d 10 (whole norm))

-- the squares of a part and its area
pub record PartMeasures : Type 0 where
  pub holonomy_square : Fraction
  pub height_square : Fraction
  pub area : Fraction

-- those of a cylinder, with this width and this return vector
unfoldable pub checked_cylinder : ℕ → ℕ → PlaneVector → Quadratic → PlaneVector → Result PartMeasures Place
checked_cylinder d den v width back = do
  norm ← norm_after 0 d back
  holonomy ← checked_unscaled d den 4 (whole norm)
  square ← checked_product d 6 width width
  inverse ← checked_inverse d v
  part ← checked_fraction_product d 11 (whole square) inverse
  height ← checked_unscaled d den 12 part
  along ← dot_after 13 d v back
  product ← checked_product d 17 width along
  share ← checked_fraction_product d 18 (whole product) inverse
  area ← checked_unscaled d den 19 share
  Ok (record { holonomy_square = holonomy; height_square = height; area = area })

-- the sum to which the areas of these letters, scaled by the squared length of the direction, are added, where the first of them is letter n
abbrev pub checked_areas : ℕ → PlaneVector → ℕ → Quadratic → List Letter → Result Quadratic Place
checked_areas d v n sum [] = Ok sum
checked_areas d v n sum (letter ∷ letters) =
    (dot_after (20 + 5 * n) d v letter.back >>= (λ along. checked_product d (24 + 5 * n) letter.length along >>= (λ area. checked_sum (25 + 5 * n) sum area >>= (λ next.
    checked_areas d v (n + 1) next letters))))

-- those of a part that isn't a cylinder: its squares are 0
unfoldable pub checked_looped : ℕ → ℕ → PlaneVector → List Letter → Result PartMeasures Place
checked_looped d den v letters = do
  inverse ← checked_inverse d v
  sum ← checked_areas d v 0 ring.zero letters
  share ← checked_fraction_product d 6018 (whole sum) inverse
  area ← checked_unscaled d den 6019 share
  Ok (record { holonomy_square = whole ring.zero; height_square = whole ring.zero; area = area })
