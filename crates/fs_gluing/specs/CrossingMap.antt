-- The flow of a direction over a surface, read at the crossings of sides: the measures of corners across the flow, and where the flow leads from a crossing to the next.
use Rattle.std.specs.Prelude.{◌≡◌, ℕ, zero, suc, if◌then◌else◌, List, [], ◌∷◌, length, map, slice_index_or}
use Rattle.std.specs.List.{range_with_len}
use Rattle.std.specs.Ordering.{is_gt, is_lt}
use Rattle.fs_ring.specs.OrderedRing.{IsAtMost}
use Rattle.fs_ring.specs.Vector.{add_vector, sub_vector}
use Rattle.fs_quadratic.specs.Ring as ring
use Rattle.fs_quadratic.specs.Ring.{Quadratic, quadratic, IsPositive, IsLess, add, sub, neg, total, sign, compare}
use Rattle.fs_plane.specs.declared.corners.Corner.{Corner}
use Rattle.fs_plane.specs.Vector.{PlaneVector, vector_zero, cross}
use Rattle.fs_gluing.specs.declared.surfaces.Side.{Side}
use Rattle.fs_gluing.specs.FirstCut.{position_in}
use Rattle.fs_gluing.specs.NextCorner.{corner_after, side_before}
use Rattle.fs_gluing.specs.Polygons.{HasSide}
use Rattle.fs_gluing.specs.Positions.{positions_from}
use Rattle.fs_gluing.specs.Surface.{GluedPolygons, side_vectors}
use Rattle.fs_gluing.specs.SurfaceSides.{partner, vector_of}

-- ---- sums and least numbers

-- the number where it is above 0, else 0
abbrev pub positive_part : ℕ → Quadratic → Quadratic
positive_part d x = if is_gt (sign d x) then x else ring.zero

-- the least of x and the numbers of a list
abbrev pub least_from : ℕ → Quadratic → List Quadratic → Quadratic
least_from d x [] = x
least_from d x (y ∷ ys) = least_from d (if is_lt (compare d y x) then y else x) ys

-- the least number of a list, or 0 where there is none
abbrev pub least : ℕ → List Quadratic → Quadratic
least d [] = ring.zero
least d (x ∷ xs) = least_from d x xs

module _ (s : GluedPolygons) (v : PlaneVector) where
  -- ---- sides

  -- the width of a side across the flow: above 0 where the flow enters the polygon by it, and below 0 where it leaves
  abbrev pub across : Corner → Quadratic
  across e = cross s.d (vector_of s.polygons e) v

  -- the flow enters the polygon by the side
  pub record IsIncoming (e : Corner) : Type 0 where
    pub side : HasSide s.polygons e
    pub enters : IsPositive s.d (across e)

  -- it leaves the polygon by the side
  pub record IsOutgoing (e : Corner) : Type 0 where
    pub side : HasSide s.polygons e
    pub leaves : IsPositive s.d (neg (across e))

  -- the size of that width
  abbrev pub side_width : Corner → Quadratic
  side_width e = if is_gt (sign s.d (across e)) then across e else neg (across e)

  -- ---- measures

  -- polygon i, or none
  abbrev polygon_of : ℕ → List Side
  polygon_of i = slice_index_or s.polygons i []

  -- the width of polygon i across the flow: the sum of the widths of its incoming sides
  abbrev pub width : ℕ → Quadratic
  width i = total (map (λ side. positive_part s.d (cross s.d side v)) (side_vectors (polygon_of i)))

  -- the sum of the widths of the polygons before polygon i: where its block of positions begins
  abbrev pub block_start : ℕ → Quadratic
  block_start i = total (map width (range_with_len 0 i))

  -- how far to the right of the flow's direction a corner is, in its polygon
  abbrev pub to_right : Corner → Quadratic
  to_right c = cross s.d (position_in s c.polygon c.side) v

  -- the least of this over the corners of polygon i: that of its leftmost corner
  abbrev pub leftmost : ℕ → Quadratic
  leftmost i = least s.d (map (λ p. cross s.d p v) (positions_from vector_zero (side_vectors (polygon_of i))))

  -- the measure of a corner: the beginning of its polygon's block, and how far it is to the right of the leftmost corner
  abbrev pub measure : Corner → Quadratic
  measure c = add (block_start c.polygon) (sub (to_right c) (leftmost c.polygon))

  -- the left end of an outgoing side is the corner where it ends, that of an incoming one the corner where it begins
  abbrev pub outgoing_left : Corner → Quadratic
  outgoing_left f = measure (corner_after s.polygons f)

  abbrev pub incoming_left : Corner → Quadratic
  incoming_left e = measure e

  -- a position: from 0 on, and below the sum of the widths of all polygons
  pub record IsPosition (y : Quadratic) : Type 0 where
    pub from_zero : IsAtMost (quadratic s.d) (IsPositive s.d) ring.zero y
    pub below_total : IsLess s.d y (block_start (length s.polygons))

  -- ---- crossings

  -- the vector by which the polygon of an outgoing side is put beyond the side: from the left end of its partner to its own, each in its polygon
  abbrev pub gluing_vector : Corner → PlaneVector
  gluing_vector f =
      let end = corner_after s.polygons f in
      let other = partner s.polygons f in
      sub_vector (quadratic s.d) (position_in s end.polygon end.side) (position_in s other.polygon other.side)

  -- from the position y the flow leaves a polygon by the side f, and is at the position z in the next one, which is put by the vector h
  pub record Crosses (y z : Quadratic) (h : PlaneVector) (f : Corner) : Type 0 where
    pub outgoing : IsOutgoing f
    pub from_left : IsAtMost (quadratic s.d) (IsPositive s.d) (outgoing_left f) y
    pub before_right : IsLess s.d y (add (outgoing_left f) (side_width f))
    pub beyond : z ≡ add (sub y (outgoing_left f)) (incoming_left (partner s.polygons f))
    pub put : h ≡ gluing_vector f

  -- n crossings lead from the position y to the position z, and their vectors sum to h
  abbrev pub Orbit : ℕ → Quadratic → Quadratic → PlaneVector → Type 0
  Orbit zero y z h = (z ≡ y) × (h ≡ vector_zero)
  Orbit (suc n) y z h =
      (between : Quadratic) × (first rest : PlaneVector) × (f : Corner) × Crosses y between first f × Orbit n between z rest × (h ≡ add_vector (quadratic s.d) first rest)

  -- y is the left end of an outgoing side
  pub record IsOutMark (y : Quadratic) (f : Corner) : Type 0 where
    pub outgoing : IsOutgoing f
    pub at : y ≡ outgoing_left f

  -- y is the left end of an incoming side
  pub record IsInMark (y : Quadratic) (e : Corner) : Type 0 where
    pub incoming : IsIncoming e
    pub at : y ≡ incoming_left e

  -- an outgoing side is real where the side to its left is outgoing too, and an incoming one where the side to its left is incoming too: then its left end is no end of the polygon's block
  abbrev pub IsRealOutgoing : Corner → Type 0
  IsRealOutgoing f = IsOutgoing (corner_after s.polygons f)

  abbrev pub IsRealIncoming : Corner → Type 0
  IsRealIncoming e = IsIncoming (side_before s.polygons e)

  -- the crossing map is a function on positions, one-to-one and onto
  pub record IsMapOfPositions : Type 0 where
    pub within : (y z : Quadratic) (h : PlaneVector) (f : Corner) → Crosses y z h f → IsPosition y × IsPosition z
    pub some : (y : Quadratic) → IsPosition y → (z : Quadratic) × (h : PlaneVector) × (f : Corner) × Crosses y z h f
    pub one : (y z w : Quadratic) (h g : PlaneVector) (f e : Corner) → Crosses y z h f → Crosses y w g e → (z ≡ w) × (h ≡ g)
    pub one_to_one : (y x z : Quadratic) (h g : PlaneVector) (f e : Corner) → Crosses y z h f → Crosses x z g e → y ≡ x
    pub onto : (z : Quadratic) → IsPosition z → (y : Quadratic) × (h : PlaneVector) × (f : Corner) × Crosses y z h f
