-- How a straight path comes into a polygon that is laid out in the plane, and how its line leaves that polygon. The contract of `flat` doesn't rest on this file.
use Rattle.std.specs.Prelude.{◌≡◌, ◌≢◌}
use Rattle.fs_ring.specs.Operations.{Operations}
use Rattle.fs_ring.specs.Vector.{Vector, zero_vector, add_vector, sub_vector, cross, dot}
use Rattle.fs_paths.specs.SideGluing.{SideGluing, StrictlyInSectorOf}
use Rattle.fs_paths.specs.Development.{IsPutAt}

module _ {A : Type 0} (R : Operations A) (IsPositive : A → Type 0) {X : Type 0} (G : SideGluing X A) (v : Vector A) where
  -- the path along v comes into the polygon of b, put with b at B: it begins there at the corner b, strictly inside the sector;
  -- or it comes in by the side b, whose start is left of the line and whose end is right of it, and v is beyond the side
  pub data ComesInto (b : X) (B : Vector A) : Type 0 where
    begins : B ≡ zero_vector R → StrictlyInSectorOf R IsPositive G b v → ComesInto b B
    enters : IsPositive (cross R v B) → IsPositive (cross R (add_vector R B (G.vector b)) v) → IsPositive (cross R (add_vector R B (G.vector b)) B)
        → IsPositive (cross R (G.vector b) (sub_vector R v B)) → ComesInto b B

  -- the line leaves the polygon of b by its side x at Q: ahead of (0, 0), and by no other side; no corner is on the line ahead, and no side comes from the right of the line to a corner on it
  pub record LeavesBySide (b : X) (B : Vector A) (x : X) (Q : Vector A) : Type 0 where
    pub side : IsPutAt R G b B x Q
    pub right : IsPositive (cross R Q v)
    pub left : IsPositive (cross R v (add_vector R Q (G.vector x)))
    pub ahead : IsPositive (cross R Q (add_vector R Q (G.vector x)))
    pub only : (y : X) (P : Vector A) → IsPutAt R G b B y P → IsPositive (cross R P v) → IsPositive (cross R v (add_vector R P (G.vector y))) → (y ≡ x) × (P ≡ Q)
    pub no_corner : (y : X) (P : Vector A) → IsPutAt R G b B y P → cross R v P ≡ R.zero → ¬ IsPositive (dot R v P)
    pub no_end : (y : X) (P : Vector A) → IsPutAt R G b B y P → IsPositive (cross R P v) → cross R v (add_vector R P (G.vector y)) ≢ R.zero

  -- the line leaves the polygon of b at its corner x at Q: ahead of (0, 0), at no other corner, and by no side; a side that comes from the right of the line to a corner on it comes to this one
  pub record LeavesAtCorner (b : X) (B : Vector A) (x : X) (Q : Vector A) : Type 0 where
    pub corner : IsPutAt R G b B x Q
    pub on_line : cross R v Q ≡ R.zero
    pub ahead : IsPositive (dot R v Q)
    pub only : (y : X) (P : Vector A) → IsPutAt R G b B y P → cross R v P ≡ R.zero → IsPositive (dot R v P) → P ≡ Q
    pub only_end : (y : X) (P : Vector A) → IsPutAt R G b B y P → IsPositive (cross R P v) → cross R v (add_vector R P (G.vector y)) ≡ R.zero → (G.next y ≡ x) × (add_vector R P (G.vector y) ≡ Q)
    pub no_side : (y : X) (P : Vector A) → IsPutAt R G b B y P → IsPositive (cross R P v) → ¬ IsPositive (cross R v (add_vector R P (G.vector y)))

  -- how the line leaves the polygon
  pub data Leaves (b : X) (B : Vector A) : Type 0 where
    by_side : (x : X) (Q : Vector A) → LeavesBySide b B x Q → Leaves b B
    at_corner : (x : X) (Q : Vector A) → LeavesAtCorner b B x Q → Leaves b B
