-- The rows of an exchange as the code finds them. Only proofs and inner calls of this crate cite it; the contract of `find_exchange` doesn't rest on it.
use Rattle.std.specs.Prelude.{◌≡◌, ℕ, IsOk}
use Rattle.fs_plane.specs.declared.corners.Corner.{Corner}
use Rattle.fs_plane.specs.Formulas.{cross_after}
use Rattle.fs_plane.specs.Vector.{PlaneVector}
use Rattle.fs_gluing.specs.CrossingMap.{IsIncoming, IsOutgoing}
use Rattle.fs_gluing.specs.NextCorner.{corner_after, side_before}
use Rattle.fs_gluing.specs.Polygons.{HasSide}
use Rattle.fs_gluing.specs.Surface.{GluedPolygons}
use Rattle.fs_gluing.specs.SurfaceSides.{vector_of}
use Rattle.fs_iet.specs.declared.rows.Row.{Row}
use Rattle.fs_iet.specs.declared.rows.Row.TheVariants.{Top, Bottom}
use Rattle.fs_iet.specs.ExchangeSites.{checked_return}

module _ (s : GluedPolygons) where
  -- the next side to the right in a row
  abbrev pub to_right_in : Row → Corner → Corner
  to_right_in Top e = side_before s.polygons e
  to_right_in Bottom e = corner_after s.polygons e

  -- the next side to the left
  abbrev pub to_left_in : Row → Corner → Corner
  to_left_in Top e = corner_after s.polygons e
  to_left_in Bottom e = side_before s.polygons e

module _ (s : GluedPolygons) (v : PlaneVector) where
  -- the widths of all sides across the direction are within the width
  abbrev pub HaveWidths : Type 0
  HaveWidths = (e : Corner) → HasSide s.polygons e → IsOk (cross_after 0 s.d (vector_of s.polygons e) v)

  -- so are the return vectors of all outgoing sides
  abbrev pub HaveReturns : Type 0
  HaveReturns = (f : Corner) → IsOutgoing s v f → IsOk (checked_return s f)

  -- the sides of a row
  abbrev pub IsInRow : Row → Corner → Type 0
  IsInRow Top e = IsOutgoing s v e
  IsInRow Bottom e = IsIncoming s v e

  -- e is the leftmost side of polygon i in a row: the one to its left isn't in the row
  pub record IsLeftmost (row : Row) (i : ℕ) (e : Corner) : Type 0 where
    pub polygon : e.polygon ≡ i
    pub there : IsInRow row e
    pub first : ¬ IsInRow row (to_left_in s row e)
