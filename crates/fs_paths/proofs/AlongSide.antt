-- How a straight path ends that runs along a side from the corner at which it begins: by lengths alone. A library for crates to come.
use Rattle.std.proofs.Common.{◌≡◌, ◌≢◌, ◌⊎◌, ℕ, Bool, ◌<◌, List, [], ◌∷◌, refl, sym, ap, ◌∙◌, subst, inl, inr}
use Rattle.fs_ring.specs.Operations.{Operations}
use Rattle.fs_ring.specs.OrderedRing.{IsOrderedRing, IsLess, IsAtMost}
use Rattle.fs_ring.specs.Vector.{Vector, zero_vector, add_vector, sub_vector, cross, dot, norm}
use Rattle.fs_ring.specs.Direction.{IsAlong, at_start}
use Rattle.fs_ring.proofs.Order as order
use Rattle.fs_ring.proofs.Plane as plane
use Rattle.fs_ring.proofs.Directions as directions
use Rattle.fs_ring.proofs.Turns as turns
use Rattle.fs_ring.proofs.Chords as chords
use Rattle.fs_ring.proofs.Solver.{expressions as E, ◌⊖◌, ◌≐◌}
use Rattle.fs_ring.proofs.PlaneSolver.{vector_identity, ◌≐ᵥ◌}
use Rattle.fs_convex.specs.Turning.{DecidesHalfPlanes}
use Rattle.fs_convex.specs.Polygon.{position}
use Rattle.fs_convex.proofs.Exits as exits
use Rattle.fs_paths.specs.SideGluing.{SideGluing, IsSide, nth_side, sides_from, AreGluedPolygons}
use Rattle.fs_paths.specs.Development.{IsPutAt}
use Rattle.fs_paths.specs.StraightPaths.{Reaches}
use Rattle.fs_paths.specs.Segments.{IsSegment, MeetsCorner, EndsInside}
use Rattle.fs_paths.proofs.Developments as developments
use Rattle.fs_paths.proofs.Passages as passages

module _ {A : Type 0} {R : Operations A} {IsPositive : A → Type 0} (L : IsOrderedRing R IsPositive)
    {is_ahead : Vector A → Vector A → Bool} (test : DecidesHalfPlanes R IsPositive is_ahead)
    {X : Type 0} {G : SideGluing X A} (g : AreGluedPolygons R IsPositive is_ahead G) where
  abbrev Put : X → Vector A → X → Vector A → Type 0
  Put b B x Q = IsPutAt R G b B x Q

  -- a path along the side at which it begins crosses no side
  pub no_word_along_side : {c : X} {v : Vector A} (word : List X) (f : X) (F : Vector A) → IsAlong R IsPositive (G.vector c) v → Reaches R IsPositive G v c word f F
      → (word ≡ []) × (f ≡ c) × (F ≡ zero_vector R)
  no_word_along_side [] f F h k = (refl, k.1, k.2)
  no_word_along_side (x ∷ word) f F h k = absurd (turns.along_not_left L h k.0.left_of_start)

  end_of_side : (c : X) → Put c (zero_vector R) (G.next c) (G.vector c)
  end_of_side c =
      subst (Put c (zero_vector R) (G.next c))
      (vector_identity L.ring [] (G.vector c ∷ []) (λ u. add_vector E (zero_vector E) u ≐ᵥ u) refl)
      (developments.put_next (developments.put_refl c (zero_vector R)))

  -- the end of that side is the first corner that the path meets
  pub first_met_along_side : {c y : X} {v Q : Vector A} → IsSide G c → IsAlong R IsPositive (G.vector c) v → Put c (zero_vector R) y Q → cross R v Q ≡ R.zero → IsPositive (dot R v Q)
      → IsAtMost R IsPositive (dot R v (G.vector c)) (dot R v Q)
  first_met_along_side {c} {y} {v} {Q} h a k z p = go (exits.corner_ahead_on_side L test (developments.put_polygon L test g c (zero_vector R) h) refl a below.0 below.1
      (ap (cross R v) below.3 ∙ z) (subst (λ w. IsPositive (dot R v w)) (sym below.3) p))
    where
      below : (k : ℕ) × (k < g.sides c) × (nth_side G c k ≡ y) × (position R (zero_vector R) (sides_from G c) k ≡ Q)
      below = developments.put_below L test g h k

      go : (below.0 ≡ 1) ⊎ IsPositive (dot R (G.vector c) (sub_vector R (position R (zero_vector R) (sides_from G c) below.0) (position R (zero_vector R) (sides_from G c) 1)))
          → IsAtMost R IsPositive (dot R v (G.vector c)) (dot R v Q)
      go (inl e) =
          order.at_most_of_eq L _ _
          (ap (dot R v) (sym (vector_identity L.ring [] (G.vector c ∷ []) (λ u. add_vector E (zero_vector E) u ≐ᵥ u) refl)
          ∙ ap (λ (j : ℕ). position R (zero_vector R) (sides_from G c) j) (sym e) ∙ below.3))
      go (inr r) =
          order.at_most_of_less L _ _
          (directions.positive_by_plane L [] (v ∷ G.vector c ∷ Q ∷ []) (λ v u q. dot E v q ⊖ dot E v u ≐ dot E v (sub_vector E q (add_vector E (zero_vector E) u))) refl
          (directions.along_dot L (sub_vector R Q (add_vector R (zero_vector R) (G.vector c))) a
          (subst (λ w. IsPositive (dot R (G.vector c) (sub_vector R w (add_vector R (zero_vector R) (G.vector c))))) below.3 r)))

  -- where v is the vector of the side, the path ends at the side's end
  pub segment_along_side : (c : X) → IsSide G c → G.vector c ≢ zero_vector R → IsSegment R IsPositive G c [] (G.vector c) (G.next c)
  segment_along_side c h some =
      let a = directions.along_self L (G.vector c) some in
      record {
        last = c;
        put = zero_vector R;
        reached = (at_start a, refl, refl);
        end = end_of_side c;
        none_before = λ Q m. first_met_along_side h a m.there m.on_line m.ahead m.before;
      }

  -- where v is shorter than the side, the path ends on the side
  pub inside_along_side : {c : X} {v : Vector A} → IsSide G c → IsAlong R IsPositive (G.vector c) v → IsLess R IsPositive (norm R v) (norm R (G.vector c)) → EndsInside R IsPositive G c [] v
  inside_along_side {c} {v} h a l =
      let back = directions.along_comm L a in
      let before : IsLess R IsPositive (dot R v v) (dot R v (G.vector c)) = chords.norm_less_dot L back l in
      record {
        last = c;
        put = zero_vector R;
        reached = (at_start a, refl, refl);
        inside = passages.in_polygon_from_corner L test g h refl (end_of_side c) (directions.dot_positive-ne-zero_right L a.same_way) back.parallel (order.at_most_of_less L _ _ before);
        none_met = λ Q m. m.not_beyond (order.less_of_less_at_most L _ _ _ before (first_met_along_side h a m.there m.on_line m.ahead));
      }

  -- where v is longer, the path meets the side's end
  pub corner_along_side : {c : X} {v : Vector A} → IsSide G c → IsAlong R IsPositive (G.vector c) v → IsLess R IsPositive (norm R (G.vector c)) (norm R v) → MeetsCorner R IsPositive G c [] v
  corner_along_side {c} {v} h a l =
      let back = directions.along_comm L a in
      record {
        last = c;
        put = zero_vector R;
        reached = (at_start a, refl, refl);
        at = G.vector c;
        met = record {
          corner = G.next c;
          there = end_of_side c;
          on_line = back.parallel;
          ahead = back.same_way;
          before = subst (λ w. IsLess R IsPositive w (dot R v v)) (plane.dot_comm L.ring (G.vector c) v) (chords.dot_less_norm L a (chords.norm_less_dot L a l));
        };
      }
