-- Polygons laid out in the plane: one is put by the position of one of its corners.
use Rattle.std.specs.Prelude.{◌≡◌, ℕ}
use Rattle.fs_ring.specs.Operations.{Operations}
use Rattle.fs_ring.specs.Vector.{Vector, sub_vector, cross}
use Rattle.fs_ring.specs.OrderedRing.{IsNonNegative}
use Rattle.fs_convex.specs.Polygon.{position}
use Rattle.fs_paths.specs.SideGluing.{SideGluing, nth_side, sides_from}

module _ {A : Type 0} (R : Operations A) {X : Type 0} (G : SideGluing X A) where
  -- where the polygon of b is put with the corner b at B, its side x begins at Q
  pub record IsPutAt (b : X) (B : Vector A) (x : X) (Q : Vector A) : Type 0 where
    pub number : ℕ
    pub side : nth_side G b number ≡ x
    pub corner : position R B (sides_from G b) number ≡ Q

  -- the point p is in that polygon or on its boundary: right of no side
  abbrev pub InPutPolygon : (IsPositive : A → Type 0) → X → Vector A → Vector A → Type 0
  InPutPolygon IsPositive b B p = (x : X) (Q : Vector A) → IsPutAt b B x Q → IsNonNegative R IsPositive (cross R (G.vector x) (sub_vector R p Q))
