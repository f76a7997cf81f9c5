-- Where a path is in a polygon. The contract of `flat` doesn't rest on this file.
use Rattle.std.specs.Prelude.{◌≡◌, ℕ, ◌≤◌, Result, Ok, Err}
use Rattle.fs_quadratic.specs.Ring.{Quadratic, quadratic, IsPositive}
use Rattle.fs_quadratic.specs.declared.steps.Place.{Place}
use Rattle.fs_plane.specs.declared.corners.Corner.{Corner}
use Rattle.fs_plane.specs.declared.sites.Site.{Site}
use Rattle.fs_plane.specs.declared.sites.Site.TheVariants as sites
use Rattle.fs_plane.specs.Vector.{PlaneVector, cross}
use Rattle.fs_convex.specs.Polygon.{position}
use Rattle.fs_paths.specs.SideGluing.{SideGluing, IsSide, nth_side, sides_from}
use Rattle.fs_paths.specs.Passages.{ComesInto}
use Rattle.fs_develop.specs.declared.looking.Finding.TheVariants.{RightOfPath, Last}
use Rattle.fs_develop.specs.declared.spots.Spot.{Spot}
use Rattle.fs_develop.specs.declared.spots.LastSpot.{LastSpot}
use Rattle.fs_develop.specs.declared.entering.Entry.{Entry}
use Rattle.fs_develop.specs.Following.{first_entry, next_finding, past_corner}

module _ (d : ℕ) (G : SideGluing Corner Quadratic) (v : PlaneVector) where
  -- the spot is in the polygon of f, put with f at F, at its side with that number; the corners after the first up to it are right of the path
  pub record IsSpotIn (f : Corner) (F : PlaneVector) (at : Spot) : Type 0 where
    pub number : ℕ
    pub side : at.side ≡ nth_side G f number
    pub from : at.from ≡ position (quadratic d) F (sides_from G f) number
    pub right : (j : ℕ) → 1 ≤ j → j ≤ number → IsPositive d (cross d (position (quadratic d) F (sides_from G f) j) v)
    pub counted : at.corners ≤ number

  -- the spot is in a polygon into which the path comes
  pub record IsSpot (at : Spot) : Type 0 where
    pub first : Corner
    pub put : PlaneVector
    pub is_side : IsSide G first
    pub comes : ComesInto (quadratic d) (IsPositive d) G v first put
    pub in_polygon : IsSpotIn first put at

  -- corners to the right of the path are passed from one spot to the other
  pub data Passes : Spot → Spot → Type 0 where
    none : (at : Spot) → Passes at at
    one_more : (at to : Spot) → (corner : PlaneVector) → next_finding d G v at ≡ Ok (RightOfPath corner) → Passes (past_corner G at corner) to → Passes at to

  -- the path begins so at the corner c, or overflows there
  abbrev pub BeginsAs : Corner → Result Entry Site → Type 0
  BeginsAs c (Ok entry) = first_entry d G v c ≡ Ok entry
  BeginsAs c (Err site) = (stop : Place) × (first_entry d G v c ≡ Err stop) × (site ≡ sites.Enter stop.0)

  -- from one spot the path comes to the last corner of the polygon that it looks at, or to a site after so many crossings
  abbrev pub Departs : Spot → ℕ → Result LastSpot Site → Type 0
  Departs at n (Ok last) = Passes at last.spot × IsSpot last.spot × (next_finding d G v last.spot ≡ Ok (Last last.departure))
  Departs at n (Err site) = (to : Spot) × (stop : Place) × Passes at to × (next_finding d G v to ≡ Err stop) × (site ≡ sites.Walk n stop.0)
