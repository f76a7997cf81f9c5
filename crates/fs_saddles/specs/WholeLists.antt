-- The saddle list of a surface, by its polygons.
use Rattle.std.specs.Prelude.{◌≡◌, List}
use Rattle.std.specs.declared.cmp.Ordering.TheVariants as orderings
use Rattle.fs_lists.specs.Members.{IsIn}
use Rattle.fs_quadratic.specs.Ring.{Quadratic, quadratic, IsPositive}
use Rattle.fs_plane.specs.declared.corners.Corner.{Corner}
use Rattle.fs_plane.specs.declared.listing.Listed.{Listed}
use Rattle.fs_plane.specs.ListedOrder.{listed_cmp}
use Rattle.fs_plane.specs.Vector.{PlaneVector}
use Rattle.fs_paths.specs.Segments.{IsSegment}
use Rattle.fs_gluing.specs.Polygons.{HasSide}
use Rattle.fs_gluing.specs.Surface.{GluedPolygons}
use Rattle.fs_gluing.specs.SurfaceSides.{polygon_sides}
use Rattle.fs_fan.specs.Search.{IsShort, IsInOrder}
use Rattle.fs_saddles.specs.Saddles.{bound_of}

-- v leads from the corner c of a surface, in whose sector it is, to a corner across some sides, and meets none before
abbrev pub LeadsToVertex : GluedPolygons → Corner → PlaneVector → Type 0
LeadsToVertex s c v = (word : List Corner) × (end : Corner) × IsSegment (quadratic s.d) (IsPositive s.d) (polygon_sides s.polygons) c word v end

-- v is a saddle connection from the corner c, and its squared length is within the limit
pub record IsSaddle (s : GluedPolygons) (limit : Quadratic) (c : Corner) (v : PlaneVector) : Type 0 where
  pub corner : HasSide s.polygons c
  pub leads : ∥ LeadsToVertex s c v ∥₁
  pub short : IsShort s.d (bound_of s.d s.den limit) v

-- the saddle list of a surface for a limit of the squared lengths: its entries are exactly the saddle connections by their corners, and ascend strictly
pub record IsSaddleListOf (s : GluedPolygons) (limit : Quadratic) (list : List Listed) : Type 0 where
  pub ascending : IsInOrder (λ one other. listed_cmp one other ≡ orderings.Less) list
  pub field : (entry : Listed) → IsIn entry list → entry.field.d ≡ s.d
  pub only : (entry : Listed) → IsIn entry list → IsSaddle s limit entry.start entry.v
  pub all : (c : Corner) (v : PlaneVector) → IsSaddle s limit c v → (entry : Listed) × IsIn entry list × (entry.start ≡ c) × (entry.v ≡ v)
