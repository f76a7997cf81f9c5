-- The copy of a convex polygon under a frame is a convex polygon.
use Rattle.std.proofs.Common.{◌≡◌, ◌≢◌, ℕ, ◌≤◌, Bool, true, false, ◌&&◌, List, [], ◌∷◌, length, map, reverse, count_by, refl, sym, ap, ◌∙◌, subst}
use Rattle.std.proofs.lemmas.List.{length-map, length-reverse}
use Rattle.std.specs.List.{AllByRecursion}
use Rattle.fs_lists.proofs.All.{All-weaker}
use Rattle.fs_ring.specs.OrderedRing.{IsOrderedRing}
use Rattle.fs_ring.specs.Vector as vectors
use Rattle.fs_ring.specs.Vector.{neg_vector}
use Rattle.fs_ring.specs.Direction.{inside}
use Rattle.fs_ring.proofs.Directions as directions
use Rattle.fs_ring.proofs.Plane as plane
use Rattle.fs_ring.proofs.Solver.{expressions as E, ◌≐◌}
use Rattle.fs_quadratic.specs.Radicand.{IsNoSquare}
use Rattle.fs_quadratic.specs.Ring.{Quadratic, quadratic, IsPositive, sign}
use Rattle.fs_quadratic.proofs.Laws.{quadratic_ring, quadratic_order}
use Rattle.fs_plane.specs.Vector.{PlaneVector, vector_zero, vector_neg, cross, is_upper, upper_by_signs, IsAllowedCorner}
use Rattle.fs_convex.proofs.Rises as at_corner
use Rattle.fs_gluing.specs.Convex.{CornerSides, HasTurningNumberOne, corners_of, is_rise}
use Rattle.fs_gluing.specs.Surface.{IsPolygon}
use Rattle.fs_gluing.specs.SurfaceSides.{is_ahead}
use Rattle.fs_unfold.proofs.Images.{framed, AreImages, copied}
use Rattle.fs_unfold.proofs.ReversedSides.{opposite_corner, all_of_reversed, count_of_reversed, closed_of_reversed}
use Rattle.fs_unfold.proofs.CornersInTurn.{counts_around, images_length, all_of_images, count_of_images}
use Rattle.fs_unfold.proofs.FramedSides.{closed_images, left_of_images, right_of_turned_images, upper_of_image, upper_of_opposite_image}
use Rattle.fs_unfold.proofs.AnyDirection.{passes, passes_as_rises}
use Rattle.fs_unfold.proofs.TurnedRises.{on_opposite, turned_rise}

module _ {d : ℕ} (no_square : IsNoSquare d) (f : PlaneVector) (α β : Quadratic) (some : f ≢ vector_zero) (α_up : IsPositive d α) (β_up : IsPositive d β)
    (vs qs : List PlaneVector) (p : IsPolygon false d vs) where
  abbrev L : IsOrderedRing (quadratic d) (IsPositive d)
  L = quadratic_order no_square

  abbrev Strict : CornerSides → Type 0
  Strict corner = IsAllowedCorner false d corner.before corner.after

  -- the polygon passes each direction once
  passes_once : (v : PlaneVector) → v ≢ vector_zero → count_by (passes d v) (corners_of vs) ≡ 1
  passes_once v m = passes_as_rises no_square vs (All-weaker (corners_of vs) (λ corner bends. inside bends) p.convex) v m ∙ p.turning_number

  enough : (t : Bool) → AreImages d f t α β vs qs → 3 ≤ length qs
  enough t h = subst (λ (n : ℕ). 3 ≤ n) (sym (images_length d f t α β vs qs h)) p.three

  -- ---- where the orientation is kept

  module _ (h : AreImages d f false α β vs qs) where
    kept_rises : HasTurningNumberOne d qs
    kept_rises =
        count_of_images d f false α β (passes d f) (is_rise d)
        (λ v w q r i j. λ k.
        (upper_of_opposite_image no_square f some α β α_up β_up false v q i ∙ opposite_ahead v) k
        && upper_of_image no_square f some α β α_up β_up false w r j k)
        vs qs h
        ∙ passes_once f some
      where
        opposite_ahead : (v : PlaneVector) → is_upper d (vector_neg (framed d f false v)) ≡ is_ahead d (neg_vector (quadratic d) f) v
        opposite_ahead v =
            sym (λ i. upper_by_signs (sign d (plane.cross-neg_left (quadratic_ring d) f v i)) (sign d (plane.dot-neg_left (quadratic_ring d) f v i)))

    kept_polygon : IsPolygon false d qs
    kept_polygon = record {
      three = enough false h;
      closed = closed_images no_square f some α β α_up β_up false vs qs h p.closed;
      convex = all_of_images d f false α β Strict Strict (left_of_images no_square f some α β α_up β_up) vs qs h p.convex;
      turning_number = kept_rises;
    }

  -- ---- where it is turned

  module _ (h : AreImages d f true α β vs qs) where
    -- the copy rises where the images of the two sides meet, seen from what the frame takes the sides to
    abbrev rises_turned : CornerSides → Bool
    rises_turned corner = is_upper d (framed d f true corner.after) && is_upper d (vector_neg (framed d f true corner.before))

    turned_rises : HasTurningNumberOne d (reverse (map vector_neg qs))
    turned_rises =
        count_of_reversed (is_rise d) qs
        ∙ count_of_images d f true α β rises_turned (λ corner. is_rise d (opposite_corner corner))
        (λ v w q r i j. λ k.
        (ap (is_upper d) (plane.neg_vector-neg (quadratic_ring d) r) ∙ upper_of_image no_square f some α β α_up β_up true w r j) k
        && upper_of_opposite_image no_square f some α β α_up β_up true v q i k)
        vs qs h
        ∙ counts_around (on_opposite d f) rises_turned (passes d (neg_vector (quadratic d) f)) vs
        (All-weaker (corners_of vs) (λ corner bends. turned_rise no_square f corner.before corner.after bends some) p.convex)
        ∙ passes_once (neg_vector (quadratic d) f) (at_corner.neg_vector-ne-zero L some)

    turned_convex : AllByRecursion Strict (corners_of (reverse (map vector_neg qs)))
    turned_convex =
        all_of_reversed Strict qs
        (all_of_images d f true α β Strict (λ corner. Strict (opposite_corner corner))
        (λ v w q r i j bends. opposites q r (right_of_turned_images no_square f some α β α_up β_up v w q r i j bends)) vs qs h p.convex)
      where
        opposites : (q r : PlaneVector) → IsPositive d (cross d r q) → IsPositive d (cross d (vector_neg r) (vector_neg q))
        opposites q r up =
            directions.positive_by_plane L [] (q ∷ r ∷ []) (λ q r. vectors.cross E (vectors.neg_vector E r) (vectors.neg_vector E q) ≐ vectors.cross E r q) refl up

    turned_polygon : IsPolygon false d (reverse (map vector_neg qs))
    turned_polygon = record {
      three = subst (λ (n : ℕ). 3 ≤ n) (sym (length-reverse (map vector_neg qs) ∙ length-map qs vector_neg)) (enough true h);
      closed = closed_of_reversed qs (closed_images no_square f some α β α_up β_up true vs qs h p.closed);
      convex = turned_convex;
      turning_number = turned_rises;
    }

-- the copy of a strictly convex polygon under a frame is one too
pub image_polygon : {d : ℕ} (no_square : IsNoSquare d) (f : PlaneVector) (turned : Bool) (α β : Quadratic) → f ≢ vector_zero → IsPositive d α → IsPositive d β
    → (vs qs : List PlaneVector) → AreImages d f turned α β vs qs → IsPolygon false d vs → IsPolygon false d (copied turned qs)
image_polygon no_square f true α β some α_up β_up vs qs h p = turned_polygon no_square f α β some α_up β_up vs qs p h
image_polygon no_square f false α β some α_up β_up vs qs h p = kept_polygon no_square f α β some α_up β_up vs qs p h
