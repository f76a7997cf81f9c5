-- How a straight path ends in the polygon to which it has come, from how its line leaves that polygon. A library for crates to come.
use Rattle.std.proofs.Common.{◌≡◌, ◌≢◌, ℕ, Bool, List, length, sym, ap, ◌∙◌, subst, inl, inr}
use Rattle.fs_ring.specs.Operations.{Operations}
use Rattle.fs_ring.specs.OrderedRing.{IsOrderedRing, IsLess, IsAtMost, IsNonNegative}
use Rattle.fs_ring.specs.Vector.{Vector, add_vector, sub_vector, cross, dot}
use Rattle.fs_ring.specs.Direction.{IsAlong}
use Rattle.fs_ring.proofs.Order as order
use Rattle.fs_ring.proofs.Plane as plane
use Rattle.fs_ring.proofs.Directions as directions
use Rattle.fs_ring.proofs.Chords as chords
use Rattle.fs_convex.specs.Turning.{DecidesHalfPlanes}
use Rattle.fs_paths.specs.SideGluing.{SideGluing, IsSide, AreGluedPolygons, StrictlyInSectorOf}
use Rattle.fs_paths.specs.Development.{IsPutAt}
use Rattle.fs_paths.specs.StraightPaths.{Crosses, Reaches}
use Rattle.fs_paths.specs.Segments.{IsSegment, MeetsCorner, EndsInside, IsLonger}
use Rattle.fs_paths.specs.Passages.{ComesInto, by_side, at_corner, LeavesBySide, LeavesAtCorner}
use Rattle.fs_paths.proofs.PutPolygons as put_polygons
use Rattle.fs_paths.proofs.Passages as passages
use Rattle.fs_paths.proofs.Words as words

module _ {A : Type 0} {R : Operations A} {IsPositive : A → Type 0} (L : IsOrderedRing R IsPositive)
    {is_ahead : Vector A → Vector A → Bool} (test : DecidesHalfPlanes R IsPositive is_ahead)
    {X : Type 0} {G : SideGluing X A} (g : AreGluedPolygons R IsPositive is_ahead G) where
  -- a corner at which the line leaves is v, where its dot product with v is that of v
  pub corner_is_end : {v : Vector A} {b x : X} {B Q : Vector A} → LeavesAtCorner R IsPositive G v b B x Q → dot R v Q ≡ dot R v v → v ≡ Q
  corner_is_end {v} {b} {x} {B} {Q} l e =
      let along : IsAlong R IsPositive v Q = record { parallel = l.on_line; same_way = l.ahead } in
      chords.equal_of_norm-dot L along (sym e)

  -- a corner at which the line leaves is beyond v, where it isn't v nor before it
  pub corner_beyond_end : {v : Vector A} {b x : X} {B Q : Vector A} → LeavesAtCorner R IsPositive G v b B x Q → v ≢ Q → IsAtMost R IsPositive (dot R v v) (dot R v Q)
      → IsLess R IsPositive (dot R v v) (dot R v Q)
  corner_beyond_end l other k = elim (order.at_most_cases L _ _ k) [ inl less ↦ less | inr e ↦ absurd (other (corner_is_end l (sym e))) ]

  -- ---- the path from c across the sides of the word comes into the polygon of f, put with f at F

  module _ {c : X} {v : Vector A} {word : List X} {f : X} {F : Vector A} (h : IsSide G f) (comes : ComesInto R IsPositive G v f F)
      (reached : Reaches R IsPositive G v c word f F) where
    -- it ends inside that polygon, where the line leaves by a side and v isn't beyond the side
    pub inside_before_side : {x : X} {Q : Vector A} → LeavesBySide R IsPositive G v f F x Q → IsNonNegative R IsPositive (cross R (G.vector x) (sub_vector R v Q))
        → EndsInside R IsPositive G c word v
    inside_before_side l k = record {
      last = f;
      put = F;
      reached = reached;
      inside = passages.in_polygon_before_side L test g h comes l k;
      none_met = λ P m. l.no_corner m.corner P m.there m.on_line m.ahead;
    }

    -- it crosses the side, where v is beyond it
    pub longer_by_side : {x : X} {Q : Vector A} {n : ℕ} → StrictlyInSectorOf R IsPositive G c v → length word ≡ n → IsPutAt R G f F x Q
        → Crosses R IsPositive v Q (add_vector R Q (G.vector x)) → IsLonger R IsPositive G c word v n
    longer_by_side {x} {Q} s e k cr = record {
      crossings = e;
      more = x;
      last = G.twin x;
      put = add_vector R Q (G.vector x);
      reached = words.reaches_one_more R IsPositive G v c word s reached k cr;
    }

    -- it ends at the corner at which the line leaves, where that is at v
    pub segment_at_corner : {x : X} {Q : Vector A} → LeavesAtCorner R IsPositive G v f F x Q → v ≡ Q → IsSegment R IsPositive G c word v x
    segment_at_corner {x} {Q} l e = record {
      last = f;
      put = F;
      reached = reached;
      end = subst (λ w. IsPutAt R G f F x w) (sym e) l.corner;
      none_before = λ P m. order.less-ne L _ _ m.before (ap (dot R v) (l.only m.corner P m.there m.on_line m.ahead ∙ sym e));
    }

    -- it ends at the corner of the polygon that is at v, where there is one
    pub segment_of_corner_at_end : {y : X} → IsPutAt R G f F y v → IsSegment R IsPositive G c word v y
    segment_of_corner_at_end {y} k = elim (passages.leaves L test g h comes) [
      | by_side x Q l ↦ absurd (l.no_corner y v k (plane.cross_self L.ring v) (directions.norm_positive L v (passages.comes_into-ne-zero L test g comes)))
      | at_corner x Q l ↦
          let same = l.only y v k (plane.cross_self L.ring v) (directions.norm_positive L v (passages.comes_into-ne-zero L test g comes)) in
          subst (IsSegment R IsPositive G c word v)
          (put_polygons.put_corner_unique L test g h l.corner (subst (λ w. IsPutAt R G f F y w) same k)) (segment_at_corner l same)
    ]

    -- it meets the corner at which the line leaves before its end, where v is beyond that corner
    pub meets_corner : {x : X} {Q : Vector A} → LeavesAtCorner R IsPositive G v f F x Q → IsLess R IsPositive (dot R v Q) (dot R v v) → MeetsCorner R IsPositive G c word v
    meets_corner {x} {Q} l k = record {
      last = f;
      put = F;
      reached = reached;
      at = Q;
      met = record { corner = x; there = l.corner; on_line = l.on_line; ahead = l.ahead; before = k };
    }

    -- it ends inside the polygon, where that corner is beyond v
    pub inside_before_corner : {x : X} {Q : Vector A} → LeavesAtCorner R IsPositive G v f F x Q → IsLess R IsPositive (dot R v v) (dot R v Q) → EndsInside R IsPositive G c word v
    inside_before_corner {x} {Q} l k = record {
      last = f;
      put = F;
      reached = reached;
      inside = passages.in_polygon_before_corner L test g h comes l (order.at_most_of_less L _ _ k);
      none_met = λ P m. m.not_beyond (subst (λ w. IsLess R IsPositive (dot R v v) (dot R v w)) (sym (l.only m.corner P m.there m.on_line m.ahead)) k);
    }
