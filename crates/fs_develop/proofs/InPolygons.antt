-- Where a path is in a polygon: at a side that comes from its right, from spot to spot.
use Rattle.std.proofs.Common.{◌≡◌, ◌⊎◌, ℕ, Bool, zero, suc, ◌≤◌, [], ◌∷◌, Ok, refl, sym, ap, ◌∙◌, subst, inl, inr, arith}
use Rattle.fs_cycles.proofs.Iterates.{iterate_after}
use Rattle.fs_ring.specs.Vector.{add_vector, neg_vector}
use Rattle.fs_ring.specs.OrderedRing.{IsOrderedRing}
use Rattle.fs_ring.specs.Vector as plane
use Rattle.fs_ring.proofs.Directions as directions
use Rattle.fs_ring.proofs.PlaneSolver.{vector_identity, ◌≐ᵥ◌}
use Rattle.fs_ring.proofs.Turns as turns
use Rattle.fs_ring.proofs.Solver.{expressions as E, ◌≐◌}
use Rattle.fs_quadratic.specs.Radicand.{IsRadicand}
use Rattle.fs_quadratic.specs.Ring.{Quadratic, quadratic, IsPositive}
use Rattle.fs_quadratic.proofs.Laws.{field_order}
use Rattle.fs_plane.specs.declared.corners.Corner.{Corner}
use Rattle.fs_plane.specs.Vector.{PlaneVector, vector_add, cross}
use Rattle.fs_convex.specs.Turning.{DecidesHalfPlanes}
use Rattle.fs_convex.specs.Polygon.{position}
use Rattle.fs_paths.specs.SideGluing.{SideGluing, IsSide, nth_side, sides_from, AreGluedPolygons}
use Rattle.fs_paths.specs.Development.{IsPutAt}
use Rattle.fs_paths.specs.StraightPaths.{Crosses}
use Rattle.fs_paths.specs.Passages.{ComesInto, begins, enters}
use Rattle.fs_paths.proofs.Developments as developments
use Rattle.fs_develop.specs.declared.looking.Finding.TheVariants.{RightOfPath, Last}
use Rattle.fs_develop.specs.declared.looking.Departure.TheVariants.{Crosses as DepartsAcross}
use Rattle.fs_develop.specs.declared.spots.Spot.{Spot}
use Rattle.fs_develop.specs.Following.{next_finding, past_corner, past_side}
use Rattle.fs_develop.specs.Spots.{IsSpotIn}
use Rattle.fs_develop.proofs.Findings.{finding_says}

module _ {d : ℕ} (radicand : IsRadicand d) {is_ahead : PlaneVector → PlaneVector → Bool} (test : DecidesHalfPlanes (quadratic d) (IsPositive d) is_ahead)
    {G : SideGluing Corner Quadratic} (g : AreGluedPolygons (quadratic d) (IsPositive d) is_ahead G) (v : PlaneVector) where
  abbrev L : IsOrderedRing (quadratic d) (IsPositive d)
  L = field_order radicand

  abbrev Put : Corner → PlaneVector → Corner → PlaneVector → Type 0
  Put b B x Q = IsPutAt (quadratic d) G b B x Q

  abbrev Comes : Corner → PlaneVector → Type 0
  Comes f F = ComesInto (quadratic d) (IsPositive d) G v f F

  -- the corner to which the side of a spot leads
  abbrev pub corner_of : Spot → PlaneVector
  corner_of at = vector_add at.from (G.vector at.side)

  module _ {f : Corner} {F : PlaneVector} {at : Spot} (in_polygon : IsSpotIn d G v f F at) where
    -- the side of a spot is one of the polygon
    pub spot_put : Put f F at.side at.from
    spot_put = record { number = in_polygon.number; side = sym in_polygon.side; corner = sym in_polygon.from }

    -- the side of a spot starts right of the path, unless it is the first and its end is
    pub from_is_right : Comes f F → (IsPositive d (cross d (corner_of at) v) → ⊥) → IsPositive d (cross d at.from v)
    from_is_right comes not_right = go in_polygon.number in_polygon.side in_polygon.from in_polygon.right
      where
        first_end_right : Comes f F → IsPositive d (cross d (vector_add F (G.vector f)) v)
        first_end_right (begins start strict) =
            subst (λ w. IsPositive d (cross d (vector_add w (G.vector f)) v)) (sym start)
            (directions.positive_by_plane L [] (G.vector f ∷ v ∷ []) (λ u v. plane.cross E (plane.add_vector E (plane.zero_vector E) u) v ≐ plane.cross E u v) refl strict.left_of_start)
        first_end_right (enters left right ahead beyond) = right

        go : (k : ℕ) → at.side ≡ nth_side G f k → at.from ≡ position (quadratic d) F (sides_from G f) k
            → ((j : ℕ) → 1 ≤ j → j ≤ k → IsPositive d (cross d (position (quadratic d) F (sides_from G f) j) v)) → IsPositive d (cross d at.from v)
        go zero side from right =
            absurd (not_right (subst (λ x. IsPositive d (cross d (vector_add at.from (G.vector x)) v)) (sym side) (subst (λ w. IsPositive d (cross d (vector_add w (G.vector f)) v)) (sym from) (first_end_right comes))))
        go (suc k) side from right = subst (λ w. IsPositive d (cross d w v)) (sym from) (right (suc k) (omega arith) (omega arith))

    -- a corner right of the path is passed
    pub passed_in_polygon : (corner : PlaneVector) → next_finding d G v at ≡ Ok (RightOfPath corner) → IsSpotIn d G v f F (past_corner G at corner)
    passed_in_polygon corner e =
        let says = finding_says radicand at.corners v at.from (G.vector at.side) (RightOfPath corner) e in
        let k = in_polygon.number in
        let there : corner ≡ position (quadratic d) F (sides_from G f) (suc k) =
        says.0 ∙ ap (λ x. vector_add at.from (G.vector x)) in_polygon.side ∙ ap (λ w. vector_add w (G.vector (nth_side G f k))) in_polygon.from in
        record {
          number = suc k;
          side = ap G.next in_polygon.side ∙ sym (iterate_after G.next k f);
          from = there;
          right = λ j l m. go j l m there says.1;
          counted = (let c = in_polygon.counted in omega arith);
        }
      where
        at_most_suc : (j k : ℕ) → j ≤ suc k → (j ≤ k) ⊎ (j ≡ suc k)
        at_most_suc j k l = grind arith

        go : (j : ℕ) → 1 ≤ j → j ≤ suc in_polygon.number → corner ≡ position (quadratic d) F (sides_from G f) (suc in_polygon.number) → IsPositive d (cross d (corner_of at) v)
            → IsPositive d (cross d (position (quadratic d) F (sides_from G f) j) v)
        go j l m there right = elim (at_most_suc j in_polygon.number m) [
          | inl k ↦ in_polygon.right j l k
          | inr same ↦
              let says = finding_says radicand at.corners v at.from (G.vector at.side) (RightOfPath corner) e in
              subst (λ i. IsPositive d (cross d (position (quadratic d) F (sides_from G f) i) v)) (sym same)
              (subst (λ w. IsPositive d (cross d w v)) (sym says.0 ∙ there) right)
        ]

    -- the side of a spot at which the path crosses
    pub spot_crosses : Comes f F → next_finding d G v at ≡ Ok (Last DepartsAcross) → Crosses (quadratic d) (IsPositive d) v at.from (corner_of at)
    spot_crosses comes e =
        let says = finding_says radicand at.corners v at.from (G.vector at.side) (Last DepartsAcross) e in
        record {
          right = from_is_right comes (λ r. turns.not_both_crosses L r says.0);
          left = says.0;
          beyond = directions.positive_by_plane L [] (v ∷ at.from ∷ G.vector at.side ∷ [])
              (λ v q u. plane.cross E (plane.sub_vector E v q) (plane.sub_vector E (plane.add_vector E q u) q) ≐ plane.cross E (plane.sub_vector E v q) u) refl says.1;
        }

    -- the spot after the side is in the polygon that the path comes into
    pub crossed_in_polygon : IsSide G f → Comes f F → next_finding d G v at ≡ Ok (Last DepartsAcross) → IsSpotIn d G v (G.twin at.side) (corner_of at) (past_side G at)
    crossed_in_polygon h comes e =
        let crossed = spot_crosses comes e in
        let side = developments.put_is_side L test g h spot_put in
        let back : at.from ≡ position (quadratic d) (corner_of at) (sides_from G (G.twin at.side)) 1 =
        sym (ap (λ w. vector_add (corner_of at) w) (g.twin_opposite at.side side) ∙ back_again at.from (G.vector at.side)) in
        record {
          number = 1;
          side = refl;
          from = back;
          right = λ j l m. subst (λ w. IsPositive d (cross d w v)) (back ∙ ap (position (quadratic d) (corner_of at) (sides_from G (G.twin at.side))) (one j l m)) crossed.right;
          counted = omega arith;
        }
      where
        back_again : (a b : PlaneVector) → add_vector (quadratic d) (add_vector (quadratic d) a b) (neg_vector (quadratic d) b) ≡ a
        back_again a b = vector_identity L.ring [] (a ∷ b ∷ []) (λ a b. add_vector E (add_vector E a b) (neg_vector E b) ≐ᵥ a) refl

        one : (j : ℕ) → 1 ≤ j → j ≤ 1 → 1 ≡ j
        one j l m = omega arith
