-- The halves of a polygon that is cut, where the polygon and a half are put in the plane. The contract of `flat` doesn't rest on this file.
use Rattle.std.specs.Prelude.{◌≡◌, List, [], ◌∷◌}
use Rattle.fs_ring.specs.Operations.{Operations}
use Rattle.fs_ring.specs.Vector.{Vector, add_vector}
use Rattle.fs_paths.specs.SideGluing.{SideGluing, IsSide}
use Rattle.fs_paths.specs.Development.{IsPutAt}
use Rattle.fs_paths.specs.StraightPaths.{Crosses}

module _ {A : Type 0} (R : Operations A) {X Y : Type 0} (G : SideGluing X A) (H : SideGluing Y A) (kept : X → Y) (p q : X) (d e : Y) where
  -- the half of y, put with y at P, lies in the polygon of b, put with b at B: its side y is a side of the polygon, or one of the cut
  pub data LiesIn (b : X) (B : Vector A) (y : Y) (P : Vector A) : Type 0 where
    by_kept : (x : X) → IsSide G x → y ≡ kept x → IsPutAt R G b B x P → LiesIn b B y P
    by_d : y ≡ d → IsPutAt R G b B (G.next p) P → IsPutAt R G b B (G.next q) (add_vector R P (H.vector d)) → LiesIn b B y P
    by_e : y ≡ e → IsPutAt R G b B (G.next q) P → IsPutAt R G b B (G.next p) (add_vector R P (H.vector e)) → LiesIn b B y P

  -- the side x of the polygon begins at Q in the half of y, put with y at P, or in the other half, across the cut
  pub data IsInHalves (y : Y) (P : Vector A) (x : X) (Q : Vector A) : Type 0 where
    here : IsPutAt R H y P (kept x) Q → IsInHalves y P x Q
    across_d : (D : Vector A) → IsPutAt R H y P d D → IsPutAt R H e (add_vector R D (H.vector d)) (kept x) Q → IsInHalves y P x Q
    across_e : (E : Vector A) → IsPutAt R H y P e E → IsPutAt R H d (add_vector R E (H.vector e)) (kept x) Q → IsInHalves y P x Q

  -- a word of sides after the cut is a word of the sides before it, with sides of the cut between them
  pub data IsWordAcross : List X → List Y → Type 0 where
    empty : IsWordAcross [] []
    crosses_kept : (x : X) → (word : List X) → (other : List Y) → IsSide G x → IsWordAcross word other → IsWordAcross (x ∷ word) (kept x ∷ other)
    crosses_d : (word : List X) → (other : List Y) → IsWordAcross word other → IsWordAcross word (d ∷ other)
    crosses_e : (word : List X) → (other : List Y) → IsWordAcross word other → IsWordAcross word (e ∷ other)

module _ {A : Type 0} (R : Operations A) (IsPositive : A → Type 0) {X Y : Type 0} (G : SideGluing X A) (H : SideGluing Y A) (kept : X → Y) (d e : Y) (v : Vector A) where
  -- from the half of y, put with y at P, the path along v comes to the side x at Q of the polygon: at once, or across the cut
  pub data ComesToSide (y : Y) (P : Vector A) (x : X) (Q : Vector A) : Type 0 where
    at_once : IsPutAt R H y P (kept x) Q → ComesToSide y P x Q
    after_d : (D : Vector A) → IsPutAt R H y P d D → Crosses R IsPositive v D (add_vector R D (H.vector d)) → IsPutAt R H e (add_vector R D (H.vector d)) (kept x) Q → ComesToSide y P x Q
    after_e : (E : Vector A) → IsPutAt R H y P e E → Crosses R IsPositive v E (add_vector R E (H.vector e)) → IsPutAt R H d (add_vector R E (H.vector e)) (kept x) Q → ComesToSide y P x Q
