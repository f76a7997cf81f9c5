-- The sides of a surface across a flow: widths of partners, and the measures of both ends of a side.
use Rattle.std.proofs.Common.{◌≡◌, [], ◌∷◌, refl, sym, ap, ◌∙◌, subst}
use Rattle.std.proofs.lemmas.Option.{unwrap_or-slice_get}
use Rattle.fs_lists.proofs.All.{All-slice_get}
use Rattle.fs_ring.specs.OrderedRing.{IsOrderedRing}
use Rattle.fs_ring.proofs.Plane as plane
use Rattle.fs_ring.proofs.RingLaws as ring_laws
use Rattle.fs_ring.proofs.Signs as signs
use Rattle.fs_ring.proofs.Solver.{expressions as E, identity, ◌⊕◌, ◌⊖◌, ◌≐◌}
use Rattle.fs_quadratic.specs.Radicand.{IsNoSquare}
use Rattle.fs_quadratic.specs.Ring.{quadratic, IsPositive, add, sub, neg}
use Rattle.fs_quadratic.proofs.SquareRoot.{radicand_no_square}
use Rattle.fs_plane.specs.declared.corners.Corner.{Corner}
use Rattle.fs_plane.specs.Vector.{PlaneVector, vector_add, cross}
use Rattle.fs_gluing.specs.CrossingMap.{across, IsIncoming, IsOutgoing, side_width, block_start, to_right, leftmost, measure, outgoing_left, incoming_left}
use Rattle.fs_gluing.specs.Convex.{corner_position}
use Rattle.fs_gluing.specs.FirstCut.{position_in}
use Rattle.fs_gluing.specs.NextCorner.{corner_after, side_before}
use Rattle.fs_gluing.specs.Polygons.{HasSide}
use Rattle.fs_gluing.specs.Surface.{GluedPolygons, IsTranslationSurface, IsPolygon, side_vectors}
use Rattle.fs_gluing.specs.SurfaceSides.{partner, vector_of}
use Rattle.fs_gluing.proofs.Sides.GluedSurface.{path_laws}
use Rattle.fs_gluing.proofs.Sides.PartnerSides.{has_partner, vector-partner}
use Rattle.fs_gluing.proofs.Sides.SidesInTurn.{position_of, position_after}
use Rattle.fs_gluing.proofs.SurfaceCalls.NextCorner.{in_polygon, after-before_corner}
use Rattle.fs_iet.proofs.ComputedMeasures.{size_of_positive, size_of_negative}

module _ (s : GluedPolygons) (surface : IsTranslationSurface s) where
  -- the numbers of a surface are an ordered ring
  pub surface_order : IsOrderedRing (quadratic s.d) (IsPositive s.d)
  surface_order = (path_laws s surface).order

  pub surface_no_square : IsNoSquare s.d
  surface_no_square = radicand_no_square surface.radicand

  position_is : (c : Corner) → position_in s c.polygon c.side ≡ position_of s.polygons c
  position_is c = ap (λ polygon. corner_position (side_vectors polygon) c.side) (sym (unwrap_or-slice_get s.polygons c.polygon []))

  polygon_in : (c : Corner) (h : HasSide s.polygons c) → IsPolygon s.straight s.d (side_vectors (in_polygon s.polygons c h).polygon)
  polygon_in c h =
      let there = in_polygon s.polygons c h in
      All-slice_get (λ polygon. IsPolygon s.straight s.d (side_vectors polygon)) s.polygons c.polygon there.polygon surface.each there.is

  module _ (v : PlaneVector) where
    -- a side leads as far to the right as it is wide
    pub to_right_after : (e : Corner) → HasSide s.polygons e → to_right s v (corner_after s.polygons e) ≡ add (to_right s v e) (across s v e)
    to_right_after e h =
        ap (λ p. cross s.d p v)
        (position_is (corner_after s.polygons e) ∙ position_after s.polygons e h (polygon_in e h) ∙ ap (λ p. vector_add p (vector_of s.polygons e)) (sym (position_is e)))
        ∙ plane.cross-add_left surface_order.ring (position_in s e.polygon e.side) (vector_of s.polygons e) v

    measure_after : (e : Corner) → HasSide s.polygons e → measure s v (corner_after s.polygons e) ≡ add (measure s v e) (across s v e)
    measure_after e h =
        ap (λ t. add (block_start s v e.polygon) (sub t (leftmost s v e.polygon))) (to_right_after e h)
        ∙ identity surface_order.ring (block_start s v e.polygon ∷ to_right s v e ∷ leftmost s v e.polygon ∷ across s v e ∷ [])
        (λ b t l w. b ⊕ ((t ⊕ w) ⊖ l) ≐ (b ⊕ (t ⊖ l)) ⊕ w) refl

    -- ---- widths

    pub outgoing_width : (f : Corner) → IsOutgoing s v f → side_width s v f ≡ neg (across s v f)
    outgoing_width f o = size_of_negative surface_no_square (across s v f) o.leaves

    pub incoming_width : (e : Corner) → IsIncoming s v e → side_width s v e ≡ across s v e
    incoming_width e i = size_of_positive surface_no_square (across s v e) i.enters

    -- a side that the flow crosses has a width above 0
    pub outgoing_wide : (f : Corner) → IsOutgoing s v f → IsPositive s.d (side_width s v f)
    outgoing_wide f o = subst (IsPositive s.d) (sym (outgoing_width f o)) o.leaves

    pub incoming_wide : (e : Corner) → IsIncoming s v e → IsPositive s.d (side_width s v e)
    incoming_wide e i = subst (IsPositive s.d) (sym (incoming_width e i)) i.enters

    -- the flow doesn't enter by a side by which it leaves
    pub not_both_ways : (e : Corner) → IsIncoming s v e → IsOutgoing s v e → ⊥
    not_both_ways e i o = signs.not_both_signs surface_order i.enters o.leaves

    -- ---- partners

    pub across_partner : (e : Corner) → HasSide s.polygons e → across s v (partner s.polygons e) ≡ neg (across s v e)
    across_partner e h = ap (λ u. cross s.d u v) (vector-partner s.polygons surface.glued e h) ∙ plane.cross-neg_left surface_order.ring (vector_of s.polygons e) v

    -- where the flow leaves by a side it enters by its partner
    pub partner_incoming : (f : Corner) → IsOutgoing s v f → IsIncoming s v (partner s.polygons f)
    partner_incoming f o = record {
      side = has_partner s.polygons surface.glued f o.side;
      enters = subst (IsPositive s.d) (sym (across_partner f o.side)) o.leaves;
    }

    pub partner_outgoing : (e : Corner) → IsIncoming s v e → IsOutgoing s v (partner s.polygons e)
    partner_outgoing e i = record {
      side = has_partner s.polygons surface.glued e i.side;
      leaves = subst (λ x. IsPositive s.d (neg x)) (sym (across_partner e i.side)) (signs.neg-neg_positive surface_order i.enters);
    }

    -- both sides of a pair have one width
    pub outgoing_partner_width : (f : Corner) → IsOutgoing s v f → side_width s v (partner s.polygons f) ≡ side_width s v f
    outgoing_partner_width f o = incoming_width (partner s.polygons f) (partner_incoming f o) ∙ across_partner f o.side ∙ sym (outgoing_width f o)

    pub incoming_partner_width : (e : Corner) → IsIncoming s v e → side_width s v (partner s.polygons e) ≡ side_width s v e
    incoming_partner_width e i =
        outgoing_width (partner s.polygons e) (partner_outgoing e i) ∙ ap neg (across_partner e i.side) ∙ ring_laws.neg_neg surface_order.ring (across s v e) ∙ sym (incoming_width e i)

    -- ---- the right ends of sides

    -- the right end of an outgoing side is the corner where it begins
    pub outgoing_right : (f : Corner) → IsOutgoing s v f → add (outgoing_left s v f) (side_width s v f) ≡ measure s v f
    outgoing_right f o =
        (λ i. add (measure_after f o.side i) (outgoing_width f o i))
        ∙ identity surface_order.ring (measure s v f ∷ across s v f ∷ []) (λ m w. (m ⊕ w) ⊕ E.neg w ≐ m) refl

    -- the right end of an incoming side is the corner where it ends
    pub incoming_right : (e : Corner) → IsIncoming s v e → add (incoming_left s v e) (side_width s v e) ≡ measure s v (corner_after s.polygons e)
    incoming_right e i = ap (add (measure s v e)) (incoming_width e i) ∙ sym (measure_after e i.side)

    -- the outgoing side before one begins where this ends, from left to right
    pub outgoing_next : (f : Corner) → IsOutgoing s v f → outgoing_left s v (side_before s.polygons f) ≡ add (outgoing_left s v f) (side_width s v f)
    outgoing_next f o = ap (measure s v) (after-before_corner s.polygons f o.side) ∙ sym (outgoing_right f o)

    -- the incoming side after one begins where this ends
    pub incoming_next : (e : Corner) → IsIncoming s v e → incoming_left s v (corner_after s.polygons e) ≡ add (incoming_left s v e) (side_width s v e)
    incoming_next e i = sym (incoming_right e i)
