-- No corner of a polygon bends right, whether straight corners are allowed or not.
use Rattle.std.proofs.Common.{ℕ, Bool, true, false, List}
use Rattle.std.specs.List.{AllByRecursion}
use Rattle.fs_lists.proofs.All.{All-weaker}
use Rattle.fs_ring.specs.Direction.{inside}
use Rattle.fs_plane.specs.Vector.{PlaneVector, IsAllowedCorner, BendsNoRight}
use Rattle.fs_gluing.specs.Convex.{corners_of}
use Rattle.fs_gluing.specs.Surface.{IsPolygon}

allowed_bends_no_right : (straight : Bool) {d : ℕ} {a b : PlaneVector} → IsAllowedCorner straight d a b → BendsNoRight d a b
allowed_bends_no_right true h = h
allowed_bends_no_right false h = inside h

-- each corner of a polygon is strictly convex or straight
pub bends_no_right : {straight : Bool} {d : ℕ} (polygon : List PlaneVector) → IsPolygon straight d polygon → AllByRecursion (λ corner. BendsNoRight d corner.before corner.after) (corners_of polygon)
bends_no_right {straight} polygon p = All-weaker (corners_of polygon) (λ corner h. allowed_bends_no_right straight h) p.convex
