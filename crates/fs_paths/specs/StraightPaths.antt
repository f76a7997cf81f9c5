-- Straight paths from a corner along a vector, by the word of the sides that they cross.
use Rattle.std.specs.Prelude.{◌≡◌, List, [], ◌∷◌}
use Rattle.fs_ring.specs.Operations.{Operations}
use Rattle.fs_ring.specs.OrderedRing.{IsLess, IsAtMost}
use Rattle.fs_ring.specs.Vector.{Vector, zero_vector, add_vector, sub_vector, cross, dot}
use Rattle.fs_paths.specs.SideGluing.{SideGluing, InSectorOf, StrictlyInSectorOf}
use Rattle.fs_paths.specs.Development.{IsPutAt}

-- the path from (0, 0) to v crosses the side from P to Q: P is right of it, Q left, and v is beyond the side
pub record Crosses {A : Type 0} (R : Operations A) (IsPositive : A → Type 0) (v P Q : Vector A) : Type 0 where
  pub right : IsPositive (cross R P v)
  pub left : IsPositive (cross R v Q)
  pub beyond : IsPositive (cross R (sub_vector R v P) (sub_vector R Q P))

module _ {A : Type 0} (R : Operations A) (IsPositive : A → Type 0) {X : Type 0} (G : SideGluing X A) (v : Vector A) where
  -- from the polygon of b, put with b at B, the path along v crosses the sides of the word, and comes into the polygon of f, put with f at F: each side is one of the polygon put last, and the next polygon is put by its twin
  abbrev pub Path : X → Vector A → List X → X → Vector A → Type 0
  Path b B [] f F = (f ≡ b) × (F ≡ B)
  Path b B (x ∷ word) f F =
      (Q : Vector A) × IsPutAt R G b B x Q × Crosses R IsPositive v Q (add_vector R Q (G.vector x)) × Path (G.twin x) (add_vector R Q (G.vector x)) word f F

  -- the path from the corner c along v crosses the sides of the word, and comes into the polygon of f, put with f at F
  abbrev pub Reaches : X → List X → X → Vector A → Type 0
  Reaches c [] f F = InSectorOf R IsPositive G c v × (f ≡ c) × (F ≡ zero_vector R)
  Reaches c (x ∷ word) f F = StrictlyInSectorOf R IsPositive G c v × Path c (zero_vector R) (x ∷ word) f F

  -- the corner at Q of the polygon of f, put with f at F, is on the path: ahead of its start, and not beyond v
  pub record IsMet (f : X) (F Q : Vector A) : Type 0 where
    pub corner : X
    pub there : IsPutAt R G f F corner Q
    pub on_line : cross R v Q ≡ R.zero
    pub ahead : IsPositive (dot R v Q)
    pub not_beyond : IsAtMost R IsPositive (dot R v Q) (dot R v v)

  -- it is on the path before v
  pub record IsMetBefore (f : X) (F Q : Vector A) : Type 0 where
    pub corner : X
    pub there : IsPutAt R G f F corner Q
    pub on_line : cross R v Q ≡ R.zero
    pub ahead : IsPositive (dot R v Q)
    pub before : IsLess R IsPositive (dot R v Q) (dot R v v)
