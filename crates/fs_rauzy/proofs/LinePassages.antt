-- A line along the flow that passes through a polygon of a surface: what isn't right of the next polygon's side isn't right of this one's. A library for crates to come.
use Rattle.std.proofs.Common.{◌≡◌, [], ◌∷◌, refl, sym, ◌∙◌, subst}
use Rattle.fs_ring.specs.OrderedRing.{IsOrderedRing, IsAtMost, IsNonNegative}
use Rattle.fs_ring.specs.Vector.{sub_vector, scale, cross}
use Rattle.fs_ring.proofs.Order as order
use Rattle.fs_ring.proofs.Signs as signs
use Rattle.fs_ring.proofs.Solver.{identity, ◌⊕◌, ◌⊖◌, ◌⊗◌, ◌≐◌}
use Rattle.fs_quadratic.specs.Ring.{Quadratic, quadratic, IsPositive, IsLess, add, sub, zero as nil}
use Rattle.fs_plane.specs.declared.corners.Corner.{Corner}
use Rattle.fs_plane.specs.Vector.{PlaneVector}
use Rattle.fs_convex.proofs.LineThroughSides.{IsLineThroughSides, beyond_entry, left_of_entry_by_ends}
use Rattle.fs_gluing.specs.CrossingMap.{block_start, leftmost, measure, outgoing_left, side_width, gluing_vector, IsIncoming, IsOutgoing}
use Rattle.fs_gluing.specs.NextCorner.{corner_after}
use Rattle.fs_gluing.specs.Surface.{GluedPolygons, IsTranslationSurface}
use Rattle.fs_gluing.specs.SurfaceSides.{partner, vector_of}
use Rattle.fs_gluing.proofs.SurfaceCalls.NextCorner.{has_after}
use Rattle.fs_gluing.proofs.Sides.PartnerSides.{vector-partner}
use Rattle.fs_iet.proofs.OrbitVectors.{block_offset}
use Rattle.fs_iet.proofs.ShiftedIntervals.{holds_left}
use Rattle.fs_iet.proofs.SideMeasures.{surface_order, outgoing_right, outgoing_wide}
use Rattle.fs_rauzy.proofs.CornerSides.{place, place_after, corner_not_right_of_side}
use Rattle.fs_rauzy.proofs.ShiftedLines as lines

-- the line through o along v, all times k, is at the position t of the polygon, into which the flow comes by the side e and out of which it goes by f; u is on the line
pub record IsPassage (s : GluedPolygons) (v : PlaneVector) (k t : Quadratic) (e f : Corner) (o u : PlaneVector) : Type 0 where
  pub factor : IsPositive s.d k
  pub incoming : IsIncoming s v e
  pub outgoing : IsOutgoing s v f
  pub same : f.polygon ≡ e.polygon
  pub from_left : IsAtMost (quadratic s.d) (IsPositive s.d) (outgoing_left s v f) t
  pub to_right : IsAtMost (quadratic s.d) (IsPositive s.d) t (measure s v f)
  pub on_line : cross (quadratic s.d) (sub_vector (quadratic s.d) u o) v ≡ nil
  pub at : cross (quadratic s.d) o v ≡ (quadratic s.d).mul k (sub t (block_offset s v f.polygon))

-- the point u, divided by k, isn't right of the side e
abbrev pub IsPast : GluedPolygons → Quadratic → Corner → PlaneVector → Type 0
IsPast s k e u = IsNonNegative (quadratic s.d) (IsPositive s.d) (cross (quadratic s.d) (vector_of s.polygons e) (sub_vector (quadratic s.d) u (scale (quadratic s.d) k (place s e))))

module _ (s : GluedPolygons) (surface : IsTranslationSurface s) (v : PlaneVector) where
  L : IsOrderedRing (quadratic s.d) (IsPositive s.d)
  L = surface_order s surface

  abbrev AtMost : Quadratic → Quadratic → Type 0
  AtMost a b = IsAtMost (quadratic s.d) (IsPositive s.d) a b

  abbrev NonNegative : Quadratic → Type 0
  NonNegative a = IsNonNegative (quadratic s.d) (IsPositive s.d) a

  abbrev times : Quadratic → Quadratic → Quadratic
  times a b = (quadratic s.d).mul a b

  abbrev side : Corner → PlaneVector
  side e = vector_of s.polygons e

  abbrev end_of : Corner → Corner
  end_of f = corner_after s.polygons f

  -- how far left of the side e the corner c is, times the length of e
  abbrev across_from : Corner → Corner → Quadratic
  across_from e c = cross (quadratic s.d) (side e) (sub_vector (quadratic s.d) (place s c) (place s e))

  left_before_right : (f : Corner) → IsOutgoing s v f → IsLess s.d (outgoing_left s v f) (measure s v f)
  left_before_right f o =
      subst (IsLess s.d (outgoing_left s v f)) (outgoing_right s surface v f o) (holds_left L (outgoing_left s v f) (side_width s v f) (outgoing_wide s surface v f o))

  -- ---- a line through a polygon

  module _ (k t : Quadratic) (e f : Corner) (o u : PlaneVector) (p : IsPassage s v k t e f o u) where
    to_right_end : cross (quadratic s.d) (sub_vector (quadratic s.d) (scale (quadratic s.d) k (place s f)) o) v ≡ times k (sub (measure s v f) t)
    to_right_end = lines.corner_from_right L k t (block_start s v f.polygon) (leftmost s v f.polygon) (place s f) o v p.at

    to_left_end : cross (quadratic s.d) v (sub_vector (quadratic s.d) (scale (quadratic s.d) k (place s (end_of f))) o) ≡ times k (sub t (outgoing_left s v f))
    to_left_end = lines.corner_from_left L k t (block_start s v f.polygon) (leftmost s v f.polygon) (place s (end_of f)) o v p.at

    right_beyond : NonNegative (across_from e f)
    right_beyond = corner_not_right_of_side s surface e f p.incoming.side p.outgoing.side p.same

    left_beyond : NonNegative (across_from e (end_of f))
    left_beyond = corner_not_right_of_side s surface e (end_of f) p.incoming.side (has_after s.polygons f p.outgoing.side) p.same

    from_right : NonNegative (cross (quadratic s.d) (sub_vector (quadratic s.d) (scale (quadratic s.d) k (place s f)) o) v)
    from_right = subst NonNegative (sym to_right_end) (signs.mul_non_negative L (signs.non_negative_of_positive L p.factor) (order.sub_of_at_most L t (measure s v f) p.to_right))

    from_left : NonNegative (cross (quadratic s.d) v (sub_vector (quadratic s.d) (scale (quadratic s.d) k (place s (end_of f))) o))
    from_left = subst NonNegative (sym to_left_end) (signs.mul_non_negative L (signs.non_negative_of_positive L p.factor) (order.sub_of_at_most L (outgoing_left s v f) t p.from_left))

    line_through : IsLineThroughSides (quadratic s.d) (IsPositive s.d) k (side e) (place s e) (place s f) (place s (end_of f)) o v u
    line_through = record {
      factor = p.factor;
      enters = p.incoming.enters;
      right_beyond = right_beyond;
      left_beyond = left_beyond;
      on_line = p.on_line;
      from_right = from_right;
      from_left = from_left;
      apart =
          signs.positive_of_eq L
          ((λ i. add (to_right_end i) (to_left_end i))
          ∙ identity L.ring (k ∷ t ∷ measure s v f ∷ outgoing_left s v f ∷ []) (λ k t r l. k ⊗ (r ⊖ t) ⊕ k ⊗ (t ⊖ l) ≐ k ⊗ (r ⊖ l)) refl)
          (L.mul_positive p.factor (left_before_right f p.outgoing));
    }

    -- in the next polygon it is put back by the vector of the crossing
    beyond_side : IsPast s k (partner s.polygons f) (sub_vector (quadratic s.d) u (scale (quadratic s.d) k (gluing_vector s v f)))
        → NonNegative ((quadratic s.d).neg (cross (quadratic s.d) (sub_vector (quadratic s.d) (place s (end_of f)) (place s f)) (sub_vector (quadratic s.d) u (scale (quadratic s.d) k (place s f)))))
    beyond_side next =
        lines.beyond_of_next L k (side f) (place s f) (place s (end_of f)) (place s (partner s.polygons f)) (side (partner s.polygons f)) (gluing_vector s v f) u
        (place_after s surface f p.outgoing.side) refl (vector-partner s.polygons surface.glued f p.outgoing.side) next

    -- where u isn't right of the side by which the flow comes into the next polygon, it isn't right of that by which it comes into this one
    pub passes : IsPast s k (partner s.polygons f) (sub_vector (quadratic s.d) u (scale (quadratic s.d) k (gluing_vector s v f))) → IsPast s k e u
    passes next = beyond_entry L line_through (beyond_side next)

    -- and it is left of it, where the left end of f is left of it, and the line is left of the right end of f
    pub passes_by_left : IsPast s k (partner s.polygons f) (sub_vector (quadratic s.d) u (scale (quadratic s.d) k (gluing_vector s v f)))
        → IsLess s.d t (measure s v f) → IsPositive s.d (across_from e (end_of f))
        → IsPositive s.d (cross (quadratic s.d) (side e) (sub_vector (quadratic s.d) u (scale (quadratic s.d) k (place s e))))
    passes_by_left next less left =
        left_of_entry_by_ends L line_through (beyond_side next)
        (signs.add_non_negative_positive L (signs.mul_non_negative L from_left right_beyond) (L.mul_positive (signs.positive_of_eq L to_right_end (L.mul_positive p.factor less)) left))

    -- or where the right end of f is, and the line is right of the left end
    pub passes_by_right : IsPast s k (partner s.polygons f) (sub_vector (quadratic s.d) u (scale (quadratic s.d) k (gluing_vector s v f)))
        → IsLess s.d (outgoing_left s v f) t → IsPositive s.d (across_from e f)
        → IsPositive s.d (cross (quadratic s.d) (side e) (sub_vector (quadratic s.d) u (scale (quadratic s.d) k (place s e))))
    passes_by_right next less right =
        left_of_entry_by_ends L line_through (beyond_side next)
        (signs.add_positive_non_negative L (L.mul_positive (signs.positive_of_eq L to_left_end (L.mul_positive p.factor less)) right) (signs.mul_non_negative L from_right left_beyond))
