-- The exchange of a surface and a direction as it is computed, and the first site where this overflows.
use Rattle.std.specs.Prelude.{◌≡◌, if◌then◌else◌, Bool, true, Result, Ok, Err, IsOk, List, [], ◌∷◌}
use Rattle.std.specs.Ordering.{is_gt, is_lt}
use Rattle.fs_quadratic.specs.Checked.{◌>>=◌, checked_sum}
use Rattle.fs_quadratic.specs.Ring.{Quadratic, zero, sign}
use Rattle.fs_quadratic.specs.declared.steps.Place.{Place}
use Rattle.fs_plane.specs.declared.corners.Corner.{Corner}
use Rattle.fs_plane.specs.declared.sites.Site.{Site}
use Rattle.fs_plane.specs.declared.sites.Site.TheVariants as sites
use Rattle.fs_plane.specs.Formulas.{cross_after, vector_difference_after}
use Rattle.fs_plane.specs.Vector.{PlaneVector}
use Rattle.fs_gluing.specs.CrossingMap.{across}
use Rattle.fs_gluing.specs.Exchanges.{Component, IsExchange}
use Rattle.fs_gluing.specs.FirstCut.{position_in}
use Rattle.fs_gluing.specs.NextCorner.{corner_after}
use Rattle.fs_gluing.specs.Polygons.{all_sides}
use Rattle.fs_gluing.specs.Surface.{GluedPolygons}
use Rattle.fs_gluing.specs.SurfaceSides.{partner, vector_of}

-- the return vector of an outgoing side's letter, by its formula
abbrev pub checked_return : GluedPolygons → Corner → Result PlaneVector Place
checked_return s f =
    let end = corner_after s.polygons f in
    let other = partner s.polygons f in
    vector_difference_after 0 (position_in s end.polygon end.side) (position_in s other.polygon other.side)

module _ (s : GluedPolygons) (v : PlaneVector) where
  -- the sum of widths after side e: places 1 to 3 are those of its width, place 4 that of the sum, to which an incoming side is added
  unfoldable pub add_side : Quadratic → Corner → Result Quadratic Place
  add_side sum e = do
    width ← cross_after 0 s.d (vector_of s.polygons e) v
    if is_gt (sign s.d width) then checked_sum 4 sum width else Ok sum

  -- what comes next after a side's sum, or the site at the side
  abbrev pub measured : Corner → Result Quadratic Place → (Quadratic → Result Quadratic Site) → Result Quadratic Site
  measured e (Ok sum) next = next sum
  measured e (Err stop) next = Err (sites.Letter e.polygon e.side stop.0)

  -- a sum after the sides, one after another, or the first site
  abbrev pub sum_after : Quadratic → List Corner → Result Quadratic Site
  sum_after sum [] = Ok sum
  sum_after sum (e ∷ sides) = measured e (add_side sum e) (λ next. sum_after next sides)

  -- the sum of the widths of all incoming sides
  abbrev pub checked_total : Result Quadratic Site
  checked_total = sum_after zero (all_sides s.polygons)

  -- those of the outgoing sides among these, one after another, or the first site: whether all fit
  abbrev pub returned : Corner → Result PlaneVector Place → Result Bool Site → Result Bool Site
  returned f (Ok back) rest = rest
  returned f (Err stop) rest = Err (sites.Shift f.polygon f.side stop.0)

  abbrev pub checked_returns : List Corner → Result Bool Site
  checked_returns [] = Ok true
  checked_returns (f ∷ sides) = if is_lt (sign s.d (across s v f)) then returned f (checked_return s f) (checked_returns sides) else checked_returns sides

  -- the exchange, or the first site: all widths come before all return vectors
  pub data GivesExchange : Result Component Site → Type 0 where
    letter_overflows : (site : Site) → checked_total ≡ Err site → GivesExchange (Err site)
    shift_overflows : (site : Site) → IsOk checked_total → checked_returns (all_sides s.polygons) ≡ Err site → GivesExchange (Err site)
    exchanged : (c : Component) → IsOk checked_total → IsOk (checked_returns (all_sides s.polygons)) → IsExchange s v c → GivesExchange (Ok c)
